-- The cells are the simplices of the triangulation: no hyperplane parts two vertices of a cell, and the same points, in whatever
-- order, are the vertices of one cell only.
use Rattle.std.proofs.Common.{◌≡◌, ℕ, ◌+◌, ◌<◌, ◌≤◌, true, [], ℤ, pos, ◌+ℤ◌, ◌≤ℤ◌, ◌<ℤ◌, sym, ap, ◌∙◌, inl, inr, arith}
use Rattle.std.proofs.lemmas.Int.{ints}
use Rattle.std.proofs.lemmas.Bool.{cases_lt}
use Rattle.grid.specs.Below.{table}
use Rattle.grid.proofs.Below.{same_table}
use Rattle.cells.specs.Cells.{is_cell}
use Rattle.cells.specs.Chains.{Ascends}
use Rattle.cells.specs.Triangulation.{Spans, Triangulation, Whole}
use Rattle.cells.specs.Vertices.{coordinate, vertex_of, vertices_of}
use Rattle.cells.specs.declared.records.CellRecord.{CellRecord}
use Rattle.cells.proofs.Ascending.{ascends}
use Rattle.cells.proofs.Chaining.{chains, mono_le}
use Rattle.cells.proofs.Checked.{is_cell_lem}
use Rattle.cells.proofs.Gathering.{chain_differs, chain_rises, simplices}
use Rattle.cells.proofs.Parting.{far, Near}
use Rattle.cells.proofs.Picking.{ascends_same, pick, pick_is}
use Rattle.cells.proofs.Telling.{same_cell}

le_two : (a b c e : ℤ) → a ≤ℤ b → b ≤ℤ (c +ℤ pos 1) → c ≤ℤ e → a ≤ℤ (e +ℤ pos 1)
le_two a b c e h g f = omega (arith, ints)

near_above : (d l : ℕ) (v : ℕ → ℕ → ℤ) → Ascends d l v → (i k : ℕ) → i ≤ k → k ≤ l → Near d (v i) (v k)
near_above d l v ch i k h g a f = (
  mono_le d l v ch a f i k h g,
  le_two (v k a) (v l a) (v 0 a) (v i a) (mono_le d l v ch a f k l g (omega arith)) (ch.within a f) (mono_le d l v ch a f 0 i (omega arith) (omega arith)),
)

pub chain_whole : (d l : ℕ) (v : ℕ → ℕ → ℤ) → Ascends d l v → Whole d l v
chain_whole d l v ch i k h g = elim (cases_lt i k) [
  | inl u ↦ (far d (v i) (v k) (near_above d l v ch i k (omega arith) g)).0
  | inr u ↦ (far d (v k) (v i) (near_above d l v ch k i u h)).1
]

clash : (a b : ℤ) → a <ℤ b → b ≤ℤ a → ⊥
clash a b h g = omega (arith, ints)

module _ (r s : CellRecord) (hr : is_cell r ≡ true) (hs : is_cell s ≡ true) (same_d : s.d ≡ r.d) (same_l : s.l ≡ r.l)
    (has : (i : ℕ) → i ≤ r.l → (k : ℕ) × (k ≤ r.l) × ((a : ℕ) → a < r.d → coordinate s k a ≡ coordinate r i a)) where
  up_r : Ascends r.d r.l (coordinate r)
  up_r = ascends r (is_cell_lem r hr)

  up_s : Ascends s.d s.l (coordinate s)
  up_s = ascends s (is_cell_lem s hs)

  P : ℕ → ℕ → Type 0
  P i k = (k ≤ r.l) × ((a : ℕ) → a < r.d → coordinate s k a ≡ coordinate r i a)

  chosen : (i : ℕ) → i ≤ r.l → (k : ℕ) × P i k
  unfolding P
  chosen i h = let o = has i h in (o.0, (o.1, o.2))

  is : (i : ℕ) → i ≤ r.l → P i (pick r.l P chosen i)
  is = pick_is r.l P chosen

  -- vertices in order in r are in order in s
  up : (i k : ℕ) → i < k → k ≤ r.l → pick r.l P chosen i < pick r.l P chosen k
  unfolding P
  up i k h g = elim (cases_lt (pick r.l P chosen i) (pick r.l P chosen k)) [ inl f ↦ f | inr f ↦ absurd (back f) ]
    where
      back : pick r.l P chosen k ≤ pick r.l P chosen i → ⊥
      back f =
          let w = chain_rises r.d r.l (coordinate r) up_r i k h g in
          let a : ℕ = w.0 in
          let m = mono_le s.d s.l (coordinate s) up_s a (omega (arith, w.1, same_d)) (pick r.l P chosen k) (pick r.l P chosen i) f (omega (arith, (is i (omega arith)).0, same_l)) in
          clash (coordinate r i a) (coordinate r k a) w.2 (rw ((is k g).1 a w.1, (is i (omega arith)).1 a w.1) at m)

  at_same : (i : ℕ) → i ≤ r.l → pick r.l P chosen i ≡ i
  unfolding P
  at_same i h = ascends_same r.l (pick r.l P chosen) (λ k g. (is k g).0) up i h

  same_coordinates : (i a : ℕ) → i ≤ r.l → a < r.d → coordinate s i a ≡ coordinate r i a
  unfolding P
  same_coordinates i a h g = ap (λ k. coordinate s k a) (sym (at_same i h)) ∙ (is i h).1 a g

  pub same_points : s ≡ r
  same_points = same_cell r s (is_cell_lem r hr) (is_cell_lem s hs) vertices
    where
      vertex : (i : ℕ) → i ≤ r.l → vertex_of s i ≡ vertex_of r i
      vertex i h = ap (λ n. table n (coordinate s i)) same_d ∙ same_table r.d (coordinate s i) (coordinate r i) (pos 0) (λ a g. same_coordinates i a h g)

      vertices : vertices_of s ≡ vertices_of r
      vertices = ap (λ n. table (n + 1) (vertex_of s)) same_l ∙ same_table (r.l + 1) (vertex_of s) (vertex_of r) [] (λ i h. vertex i (omega arith))

one_cell : (r s : CellRecord) (d l : ℕ) (v : ℕ → ℕ → ℤ) → Spans r d l v → Spans s d l v → r ≡ s
one_cell r s d l v p q = sym (same_points r s p.cell q.cell (q.axes ∙ sym p.axes) (q.dimension ∙ sym p.dimension) has)
  where
    has : (i : ℕ) → i ≤ r.l → (k : ℕ) × (k ≤ r.l) × ((a : ℕ) → a < r.d → coordinate s k a ≡ coordinate r i a)
    has i h =
        let o = p.only i (omega (arith, p.dimension)) in
        let m = q.has o.0 o.1 in
        (m.0, omega (arith, m.1, p.dimension), λ a g. (let b : a < d = omega (arith, p.axes) in m.2 a b ∙ sym (o.2 a b)))

pub triangulation : Triangulation
triangulation = record {
  chains = chains;
  simplices = simplices;
  whole = λ r h. (let ch = ascends r (is_cell_lem r h) in (chain_whole r.d r.l (coordinate r) ch, chain_differs r.d r.l (coordinate r) ch));
  one = one_cell;
}
