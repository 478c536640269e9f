-- A facet of a cell is a cell, and its vertices are those of the cell without one.
use Rattle.std.proofs.Common.{◌≡◌, ℕ, zero, suc, ◌+◌, ◌-◌, ◌<◌, ◌≤◌, true, cond, eqb, ltb, leb, List, [], length, get_or, take, drop, ℤ, pos, ◌+ℤ◌, sym, ap, ◌∙◌, subst, ap₂, inl, inr, arith}
use lib.Dec.{eqb-suc-zero}
use Rattle.std.proofs.lemmas.List.{ext_get_or, get_or_append_left, get_or-append_right, get_or-drop, get_or-take, length-append, length-drop, length-take-le}
use Rattle.std.proofs.lemmas.Int.{ints}
use Rattle.std.proofs.lemmas.Bool.{cases_lt, le-ltb, lt-ltb}
use Rattle.std.proofs.lemmas.Bool.Decides.{nat_tests}
use Rattle.grid.proofs.Below.{get_or-table, length-table, past_table, same_table}
use Rattle.cells.specs.Cells.{IsCell}
use Rattle.cells.specs.Faces.{without}
use Rattle.cells.specs.Facets.{facet_base, facet_label, facet_of, facet_part}
use Rattle.cells.specs.Records.{base_at, label}
use Rattle.cells.specs.Vertices.{coordinate, vertex_of, vertices_of}
use Rattle.cells.specs.World.{in_world}
use Rattle.cells.specs.declared.records.CellRecord.{CellRecord}
use Rattle.cells.proofs.Ascending.{cell_labelled}
use Rattle.cells.proofs.Walked.{closed_form, Labelled, passed}

-- vertex k of facet i is this vertex of the cell
abbrev pub skip : ℕ → ℕ → ℕ
skip i k = cond (ltb k i) k (k + 1)

-- numbers of parts alone

pub part_zero : (l i : ℕ) → facet_part l i 0 ≡ 0
part_zero l i = grind (arith, nat_tests)

part_low : (l i x : ℕ) → 1 ≤ l → i ≤ l → 1 ≤ x → x ≤ l + 1 → 1 ≤ facet_part l i x
part_low l i x h g f e = grind (arith, nat_tests)

part_high : (l i x : ℕ) → 1 ≤ l → i ≤ l → 1 ≤ x → x ≤ l + 1 → facet_part l i x ≤ l
part_high l i x h g f e = grind (arith, nat_tests)

part_last : (l i : ℕ) → 1 ≤ l → i ≤ l → facet_part l i (l + 1) ≡ l
part_last l i h g = grind (arith, nat_tests)

part_full : (l i p : ℕ) → 1 ≤ l → i ≤ l → 1 ≤ p → p ≤ l → facet_part l i (cond (leb p i) p (p + 1)) ≡ p
part_full l i p h g f e = grind (arith, nat_tests)

passed_later : (l i k x : ℕ) → 1 ≤ l → suc i ≤ l → k < l → 1 ≤ x → x ≤ l + 1 → passed x 0 + passed (facet_part l (suc i) x) k ≡ passed x (skip (suc i) k)
passed_later l i k x h g f e u = grind (arith, nat_tests)

passed_first : (l k x : ℕ) → 1 ≤ l → k < l → 1 ≤ x → x ≤ l + 1 → passed x 1 + passed (facet_part l 0 x) k ≡ passed x (skip 0 k)
passed_first l k x h f e u = grind (arith, nat_tests)

-- a facet has passed what the cell has at the vertex it comes from
passed_facet : (l i k x : ℕ) → 1 ≤ l → i ≤ l → k < l → 1 ≤ x → x ≤ l + 1 → passed x (cond (eqb i 0) 1 0) + passed (facet_part l i x) k ≡ passed x (skip i k)
passed_facet l zero k x h g f e u = passed_first l k x h f e u
passed_facet l (suc i) k x h g f e u = ap (λ b. passed x (cond b 1 0) + passed (facet_part l (suc i) x) k) (eqb-suc-zero i) ∙ passed_later l i k x h g f e u

pub skip_le : (l i k : ℕ) → k < l → skip i k ≤ l
skip_le l i k h = grind (arith, nat_tests)

first_le : (l i : ℕ) → 1 ≤ l → cond (eqb i 0) 1 0 ≤ l
first_le l i h = grind (arith, nat_tests)

add_steps : (z : ℤ) (m n k : ℕ) → m + n ≡ k → (z +ℤ pos m) +ℤ pos n ≡ z +ℤ pos k
add_steps z m n k e = omega (arith, ints)

-- places of the facet's record

pub label_facet : (r : CellRecord) → IsCell r → (i j : ℕ) → label (facet_of r i) j ≡ facet_label r i j
label_facet r c i j = elim (cases_lt j 7) [
  | inl g ↦ get_or-table 7 (facet_label r i) j 0 g
  | inr g ↦ past_table 7 (facet_label r i) j 0 g ∙ sym (ap (facet_part r.l i) (c.labels_rest j (omega (arith, c.d_high))) ∙ part_zero r.l i)
]

pub base_used : (r : CellRecord) (i a : ℕ) → a < r.d → facet_base r i a ≡ coordinate r (cond (eqb i 0) 1 0) a
base_used r i a h = ap (λ b. cond b (coordinate r (cond (eqb i 0) 1 0) a) (pos 0)) (lt-ltb a r.d h)

pub base_unused : (r : CellRecord) (i a : ℕ) → r.d ≤ a → facet_base r i a ≡ pos 0
base_unused r i a h = ap (λ b. cond b (coordinate r (cond (eqb i 0) 1 0) a) (pos 0)) (le-ltb a r.d h)

pub base_facet : (r : CellRecord) → IsCell r → (i a : ℕ) → base_at (facet_of r i) a ≡ facet_base r i a
base_facet r c i a = elim (cases_lt a 6) [
  | inl g ↦ get_or-table 6 (facet_base r i) a (pos 0) g
  | inr g ↦ past_table 6 (facet_base r i) a (pos 0) g ∙ sym (base_unused r i a (omega (arith, c.d_high)))
]

module _ (r : CellRecord) (c : IsCell r) (one : 1 ≤ r.l) (i : ℕ) (h : i ≤ r.l) where
  facet_parted : (j : ℕ) → j ≤ r.d → (1 ≤ label (facet_of r i) j) × (label (facet_of r i) j ≤ (r.l - 1) + 1)
  facet_parted j g =
      let e = label_facet r c i j in
      let u = c.parted j g in
      let low = part_low r.l i (label r j) one h u.0 u.1 in
      let high = part_high r.l i (label r j) one h u.0 u.1 in
      (omega arith, omega arith)

  facet_last : label (facet_of r i) r.d ≡ (r.l - 1) + 1
  facet_last =
      let e : label (facet_of r i) r.d ≡ r.l = label_facet r c i r.d ∙ ap (facet_part r.l i) c.last ∙ part_last r.l i one h in
      omega arith

  facet_labelled : Labelled (facet_of r i)
  facet_labelled = record { used = λ a g. facet_parted a (omega arith); last = facet_last }

  -- vertex k of the facet
  pub coordinate_facet : (k a : ℕ) → k < r.l → a < r.d → coordinate (facet_of r i) k a ≡ coordinate r (skip i k) a
  coordinate_facet k a g f =
      let e : ℕ = cond (eqb i 0) 1 0 in
      let u = c.parted a (omega arith) in
      let start : base_at (facet_of r i) a ≡ base_at r a +ℤ pos (passed (label r a) e) = base_facet r c i a ∙ base_used r i a f ∙ closed_form r (cell_labelled r c) e a (first_le r.l i one) f in
      closed_form (facet_of r i) facet_labelled k a (omega arith) f
      ∙ ap₂ (λ z x. z +ℤ pos (passed x k)) start (label_facet r c i a)
      ∙ add_steps (base_at r a) (passed (label r a) e) (passed (facet_part r.l i (label r a)) k) (passed (label r a) (skip i k)) (passed_facet r.l i k (label r a) one h g u.0 u.1)
      ∙ sym (closed_form r (cell_labelled r c) (skip i k) a (skip_le r.l i k g) f)

  facet_full : (p : ℕ) → 1 ≤ p → p ≤ (r.l - 1) + 1 → (j : ℕ) × (j ≤ r.d) × (label (facet_of r i) j ≡ p)
  facet_full p g f =
      let q : ℕ = cond (leb p i) p (p + 1) in
      let low : 1 ≤ q = grind (arith, nat_tests) in
      let high : q ≤ r.l + 1 = grind (arith, nat_tests) in
      let w = c.full q low high in
      (w.0, w.1, label_facet r c i w.0 ∙ ap (facet_part r.l i) w.2 ∙ part_full r.l i p one h g (omega arith))

  pub facet_is_cell : IsCell (facet_of r i)
  facet_is_cell = record {
    d_low = c.d_low;
    d_high = c.d_high;
    l_high = omega (arith, c.l_high);
    parted = facet_parted;
    full = facet_full;
    last = facet_last;
    world = λ k a g f. subst (λ z. in_world z ≡ true) (sym (coordinate_facet k a (omega arith) f)) (c.world (skip i k) a (skip_le r.l i k (omega arith)) f);
    labels_long = length-table 7 (facet_label r i);
    labels_rest = λ j g. label_facet r c i j ∙ ap (facet_part r.l i) (c.labels_rest j g) ∙ part_zero r.l i;
    base_long = length-table 6 (facet_base r i);
    base_rest = λ a g. base_facet r c i a ∙ base_unused r i a g;
  }

  pub vertex_facet : (k : ℕ) → k < r.l → vertex_of (facet_of r i) k ≡ vertex_of r (skip i k)
  vertex_facet k g = same_table r.d (coordinate (facet_of r i) k) (coordinate r (skip i k)) (pos 0) (λ a f. coordinate_facet k a g f)

-- a list without its item i, place by place

pub length_without : {X : Type 0} (i : ℕ) (xs : List X) → i < length xs → length (without i xs) + 1 ≡ length xs
length_without i xs h =
    let n = length-take-le i xs (omega arith) in
    let m = length-drop (i + 1) xs in
    let e = length-append (take i xs) (drop (i + 1) xs) in
    omega arith

pub get_or-without : {X : Type 0} (i : ℕ) (xs : List X) (k : ℕ) (o : X) → i < length xs → get_or (without i xs) k o ≡ get_or xs (skip i k) o
get_or-without i xs k o h = elim (cases_lt k i) [ inl g ↦ front g | inr g ↦ back g ]
  where
    n : length (take i xs) ≡ i
    n = length-take-le i xs (omega arith)

    front : k < i → get_or (without i xs) k o ≡ get_or xs (skip i k) o
    front g = get_or_append_left (take i xs) (drop (i + 1) xs) o k (omega (arith, n)) ∙ get_or-take i xs k o g ∙ ap (λ b. get_or xs (cond b k (k + 1)) o) (sym (lt-ltb k i g))

    back : i ≤ k → get_or (without i xs) k o ≡ get_or xs (skip i k) o
    back g =
        let e : (i + 1) + (k - i) ≡ k + 1 = omega arith in
        get_or-append_right (take i xs) (drop (i + 1) xs) i k o n g
        ∙ get_or-drop (i + 1) xs (k - i) o
        ∙ ap (λ m. get_or xs m o) e
        ∙ ap (λ b. get_or xs (cond b k (k + 1)) o) (sym (le-ltb k i g))

pub vertices_facet : (r : CellRecord) → IsCell r → 1 ≤ r.l → (i : ℕ) → i ≤ r.l → vertices_of (facet_of r i) ≡ without i (vertices_of r)
vertices_facet r c one i h = ext_get_or [] (vertices_of (facet_of r i)) (without i (vertices_of r)) long at
  where
    n : length (vertices_of r) ≡ r.l + 1
    n = length-table (r.l + 1) (vertex_of r)

    m : length (vertices_of (facet_of r i)) ≡ (r.l - 1) + 1
    m = length-table ((r.l - 1) + 1) (vertex_of (facet_of r i))

    inside : i < length (vertices_of r)
    inside = omega (arith, n)

    long : length (vertices_of (facet_of r i)) ≡ length (without i (vertices_of r))
    long = let w = length_without i (vertices_of r) inside in omega (arith, n, m)

    at : (k : ℕ) → k < length (vertices_of (facet_of r i)) → get_or (vertices_of (facet_of r i)) k [] ≡ get_or (without i (vertices_of r)) k []
    at k g =
        let lt : k < r.l = omega (arith, m) in
        let le = skip_le r.l i k lt in
        get_or-table ((r.l - 1) + 1) (vertex_of (facet_of r i)) k [] (omega arith)
        ∙ vertex_facet r c one i h k lt
        ∙ sym (get_or-without i (vertices_of r) k [] inside ∙ get_or-table (r.l + 1) (vertex_of r) (skip i k) [] (omega arith))
