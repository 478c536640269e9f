use Rattle.std.proofs.Common.{◌≡◌, ℕ, ◌-◌, true, cond, eqb, List, ℤ, sym, ap, ◌∙◌, subst, ap₂}
use Rattle.grid.specs.Below.{table}
use Rattle.cells.specs.Cells.{is_cell}
use Rattle.cells.specs.Faces.{FacetLaws}
use Rattle.cells.specs.Facets.{facet_label, facet_of}
use Rattle.cells.specs.Vertices.{padded_coordinate}
use Rattle.cells.specs.declared.records.CellRecord.{CellRecord}
use Rattle.cells.proofs.Checked.{cell_is, is_cell_lem}
use Rattle.cells.proofs.Merging.{facet_is_cell}
use Rattle.cells.proofs.Relating.{facet_laws}
use Rattle.cells.proofs.cells.Cell.without_vertex.Goals as goal

-- the record that is made is the facet's
facet_made : (r : CellRecord) (i first : ℕ) (base : List ℤ) (labels : List ℕ) → first ≡ cond (eqb i 0) 1 0 → base ≡ table 6 (padded_coordinate r first) → labels ≡ table 7 (facet_label r i) → ◌≡◌ {A = CellRecord} (record { d = r.d; l = r.l - 1; base = base; labels = labels }) (facet_of r i)
facet_made r i first base labels e f g =
    let made : List ℤ → List ℕ → CellRecord = λ b x. record { d = r.d; l = r.l - 1; base = b; labels = x } in
    ap₂ made (f ∙ ap (λ n. table 6 (padded_coordinate r n)) e) g

pub made-requires : goal.made-requires
made-requires c =
    let r : CellRecord = c.args.self.now.plain in
    let i = is_cell_lem r c.args.self.now.ok in
    subst (λ (x : CellRecord). is_cell x ≡ true) (sym (facet_made r c.args.i c.first_kept.result c.coordinates.result c.facet_labels.result c.first_kept.ensures c.coordinates.ensures c.facet_labels.ensures)) (cell_is (facet_of r c.args.i) (facet_is_cell r i c.requires.some c.args.i c.requires.vertex))

pub returns : goal.returns
returns c =
    let r : CellRecord = c.args.self.now.plain in
    let i = is_cell_lem r c.args.self.now.ok in
    let same = c.made.ensures.same ∙ facet_made r c.args.i c.first_kept.result c.coordinates.result c.facet_labels.result c.first_kept.ensures c.coordinates.ensures c.facet_labels.ensures in
    record { same = same; laws = subst (FacetLaws r c.args.i) (sym same) (facet_laws r i c.requires.some c.args.i c.requires.vertex) }
