-- What it says that a cell fits a frame: at its vertices a field answers its outcomes.
use Rattle.std.proofs.Common.{◌≡◌, ℕ, ◌+◌, ◌<◌, ◌≤◌, Bool, true, false, cond, ◌&&◌, eqb, leb, List, ℤ, Some, None, refl, ap, ◌∙◌, zero-add, arith}
use Rattle.std.proofs.lemmas.Bool.{and_parts, cond-true, eqb-true, le-leb, leb-true}
use Rattle.std.proofs.lemmas.List.FromFn.{length-range_with_len, get_or-range_with_len}
use Rattle.std.specs.List.{list_all, range_with_len}
use Rattle.grid.specs.Below.{all_below}
use Rattle.grid.proofs.Told.{list_all-below}
use Rattle.grid.specs.Boxes.{in_box}
use Rattle.grid.specs.Frames.{FrameNumbers}
use Rattle.grid.proofs.Below.{all_at}
use Rattle.grid.proofs.Framed.{framed}
use Rattle.cells.specs.Cells.{is_cell}
use Rattle.cells.specs.Vertices.{vertex_answer, vertex_of}
use Rattle.cells.specs.declared.records.CellRecord.{CellRecord}
use Rattle.fields.specs.Fields.{answer, Good, Meaning}
use Rattle.crossing.specs.Boxes.{fits_frame, lies_in, vertex_in}
use Rattle.crossing.specs.Crossing.{outcome_at}

pub record Fits (f : FrameNumbers) (r : CellRecord) : Type 0 where
  pub is : is_cell r ≡ true
  pub axes : r.d ≡ f.d
  pub rows : r.l ≡ f.k
  pub inside : (i : ℕ) → i ≤ r.l → in_box f.sides (vertex_of r i) ≡ true

pub fits_parts : (f : FrameNumbers) (r : CellRecord) → fits_frame f r ≡ true → Fits f r
fits_parts f r e =
    let p = and_parts (is_cell r) (eqb r.d f.d && (eqb r.l f.k && lies_in f.sides r)) e in
    let q = and_parts (eqb r.d f.d) (eqb r.l f.k && lies_in f.sides r) p.1 in
    let s = and_parts (eqb r.l f.k) (lies_in f.sides r) q.1 in
    record {
      is = p.0;
      axes = eqb-true r.d f.d q.0;
      rows = eqb-true r.l f.k s.0;
      inside = λ i h. all_at (vertex_in f.sides r) (r.l + 1) s.1 i (omega arith);
    }

-- the dimension of a cell that fits a field is 1 to 3
pub rows_range : (m : Meaning) (r : CellRecord) → Good m → fits_frame m.frame r ≡ true → (1 ≤ r.l) × (r.l ≤ 3)
rows_range m r g e =
    let f = framed m.frame.d m.frame.k m.frame.sides g.framed in
    let k : r.l ≡ m.frame.k = (fits_parts m.frame r e).rows in
    (omega (arith, f.k_low), omega (arith, f.k_high))

-- a cell has vertex i only up to its dimension
vertex_here : (r : CellRecord) (i : ℕ) (v : List ℤ) → Some v ≡ vertex_answer r i → i ≤ r.l
vertex_here r i v s = go (leb i r.l) refl s
  where
    go : (b : Bool) → leb i r.l ≡ b → Some v ≡ cond b (Some (vertex_of r i)) None → i ≤ r.l
    go true e s = leb-true i r.l e
    go false e s = absurd (cc)

-- a vertex of a cell that fits is in the box
pub answer_at : (m : Meaning) (r : CellRecord) (i : ℕ) (v : List ℤ) → fits_frame m.frame r ≡ true → Some v ≡ vertex_answer r i → answer m v ≡ outcome_at m r i
answer_at m r i v e s =
    let h = vertex_here r i v s in
    let t : Some v ≡ Some (vertex_of r i) = s ∙ cond-true _ _ _ (le-leb i r.l h) in
    let q : v ≡ vertex_of r i = cc in
    ap (answer m) q ∙ cond-true _ _ _ ((fits_parts m.frame r e).inside i h)

-- a test of the first n vertices, all of which there are
pub vertices_pass : (q : ℕ → Bool) (l n : ℕ) → n ≤ l + 1 → list_all (λ i. leb i l && q i) (range_with_len 0 n) ≡ all_below q n
vertices_pass q l n e =
    list_all-below (λ i. leb i l && q i) q 0 (range_with_len 0 n) (λ k lt.
    let h : k < n = omega (arith, length-range_with_len 0 n) in
    ap (λ i. leb i l && q i) (get_or-range_with_len 0 n k 0 h ∙ zero-add k) ∙ ap (λ b. b && q k) (le-leb k l (omega arith)))
    ∙ ap (all_below q) (length-range_with_len 0 n)
