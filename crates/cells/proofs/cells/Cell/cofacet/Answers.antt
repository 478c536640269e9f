use Rattle.std.proofs.Common.{◌≡◌, ℕ, ◌<◌, ◌≤◌, true, false, cond, length, MatchOption, Option, Some, Ok, Err, sym, ap, ◌∙◌, subst, arith}
use Rattle.std.proofs.lemmas.Bool.{lt-ltb}
use Rattle.grid.specs.Refusals.{refusal}
use Rattle.cells.specs.Cells.{all_in_world, is_partition, is_placed}
use Rattle.cells.specs.Cofacets.{cofacet_by, cofacet_of}
use Rattle.cells.specs.Faces.{CofacetLaws}
use Rattle.cells.specs.Splits.{split_at, splits}
use Rattle.cells.specs.declared.records.CellRecord.{CellRecord}
use Rattle.cells.specs.declared.splits.Split.{Split}
use Rattle.cells.proofs.Answering.{cofacet_granted}
use Rattle.cells.proofs.Checked.{cell_placed, is_cell_lem}
use Rattle.cells.proofs.Relating.{cofacet_laws, cofacet_parts, cofacet_placed}
use Rattle.cells.proofs.cells.Cell.cofacet.Goals as goal

-- the record that is tested is the cofacet's, which there is
cofacet_made : (r plain : CellRecord) (o : Option Split) (s : Split) (n : ℕ) → o ≡ Some s → MatchOption o (length (splits r) ≤ n) (λ s. (n < length (splits r)) × (s ≡ split_at r n)) → plain ≡ cofacet_by r s.part s.code → (n < length (splits r)) × (plain ≡ cofacet_of r n)
cofacet_made r plain o s n e m f =
    let w = subst (λ (x : Option Split). MatchOption x (length (splits r) ≤ n) (λ s. (n < length (splits r)) × (s ≡ split_at r n))) e m in
    (w.0, f ∙ ap (λ (t : Split). cofacet_by r t.part t.code) w.1)

pub is_placed-requires-clause-partition : goal.is_placed-requires-clause-partition
is_placed-requires-clause-partition c =
    let r = c.args.self.now.plain in
    let m = cofacet_made r _ _ _ c.args.c (grind arith) c.nth_split.ensures c.cofacet_record-plain.ensures in
    subst (λ (x : CellRecord). is_partition x ≡ true) (sym m.1) (cofacet_parts r (is_cell_lem r c.args.self.now.ok) c.args.c m.0)

pub returns-then-not-is_placed-clause-answer : goal.returns-then-not-is_placed-clause-answer
returns-then-not-is_placed-clause-answer c =
    let r = c.args.self.now.plain in
    let n = c.args.c in
    let m = cofacet_made r _ _ _ n (grind arith) c.nth_split.ensures c.cofacet_record-plain.ensures in
    let out : all_in_world (cofacet_of r n) ≡ false =
    sym (cofacet_placed r (is_cell_lem r c.args.self.now.ok) n m.0)
    ∙ sym (ap is_placed m.1)
    ∙ sym c.if-not-is_placed.ensures in
    sym (
    ap (λ b. cond b (cond (all_in_world (cofacet_of r n)) (Ok (cofacet_of r n)) (Err (refusal 4))) (Err (refusal 3))) (lt-ltb n _ m.0)
    ∙ ap (λ b. cond b (Ok (cofacet_of r n)) (Err (refusal 4))) out
    )

pub made-requires : goal.made-requires
made-requires c =
    let r = c.args.self.now.plain in
    let m = cofacet_made r _ _ _ c.args.c (grind arith) c.nth_split.ensures c.cofacet_record-plain.ensures in
    cell_placed c.cofacet_record-plain.result (subst (λ (x : CellRecord). is_partition x ≡ true) (sym m.1) (cofacet_parts r (is_cell_lem r c.args.self.now.ok) c.args.c m.0)) (sym c.if-not-is_placed.ensures)

pub returns : goal.returns
returns c =
    let r = c.args.self.now.plain in
    let n = c.args.c in
    let cell = is_cell_lem r c.args.self.now.ok in
    let m = cofacet_made r _ _ _ n (grind arith) c.nth_split.ensures c.cofacet_record-plain.ensures in
    let inside : all_in_world (cofacet_of r n) ≡ true = sym (cofacet_placed r cell n m.0) ∙ sym (ap is_placed m.1) ∙ sym c.if-not-is_placed.ensures in
    let same = c.made.ensures.same ∙ m.1 in
    record { answer = ap Ok same ∙ sym (cofacet_granted r n m.0 inside); laws = subst (CofacetLaws r n) (sym same) (cofacet_laws r cell n m.0) }
