-- Each chain of points that ascend within one unit cube is the vertices of a cell: an axis is in the part after whose steps it
-- has moved.
use Rattle.std.proofs.Common.{◌≡◌, ℕ, zero, suc, ◌+◌, ◌-◌, ◌<◌, ◌≤◌, Bool, true, false, cond, eqb, ltb, ℤ, pos, ◌+ℤ◌, ◌≤ℤ◌, ◌<ℤ◌, sym, refl, ap, ◌∙◌, subst, ap₂, inl, inr, suc-add, zero-add, add-one, arith}
use lib.Signed.{lt_z}
use Rattle.std.proofs.lemmas.Int.{ints}
use Rattle.std.proofs.lemmas.Bool.{cases_Bool, cases_lt, eq-eqb, le-ltb, lt-ltb, ne_eqb}
use Rattle.std.proofs.lemmas.Bool.Decides.{nat_tests}
use Rattle.grid.specs.Below.{table}
use Rattle.grid.proofs.Below.{get_or-table, length-table, past_table}
use Rattle.cells.specs.Cells.{IsCell}
use Rattle.cells.specs.Chains.{Ascends}
use Rattle.cells.specs.Records.{base_at, label}
use Rattle.cells.specs.Triangulation.{InWorld, VerticesAre}
use Rattle.cells.specs.Vertices.{coordinate}
use Rattle.cells.specs.declared.records.CellRecord.{CellRecord}
use Rattle.cells.proofs.Checked.{cell_is}
use Rattle.cells.proofs.First.{first, first_at, first_le, first_min}
use Rattle.cells.proofs.Pigeon.{pigeon}
use Rattle.cells.proofs.Walked.{closed_form, Labelled, passed}

no_steps : (a b c e f : ℤ) → a <ℤ b → b ≤ℤ c → c <ℤ e → e ≤ℤ f → f ≤ℤ (a +ℤ pos 1) → ⊥
no_steps a b c e f h g k m n = omega (arith, ints)

le-add : (a b c : ℤ) → a ≤ℤ (b +ℤ pos 1) → b ≤ℤ c → a ≤ℤ (c +ℤ pos 1)
le-add a b c h g = omega (arith, ints)

le_trans : (a b c : ℤ) → a ≤ℤ b → b ≤ℤ c → a ≤ℤ c
le_trans a b c h g = omega (arith, ints)

le_refl : (a : ℤ) → a ≤ℤ a
le_refl a = omega (arith, ints)

above : (a b : ℤ) → lt_z a b ≡ true → a <ℤ b
above a b h = grind (arith, ints)

not_above : (a b : ℤ) → lt_z a b ≡ false → b ≤ℤ a
not_above a b h = grind (arith, ints)

is_above_lem : (a b : ℤ) → a <ℤ b → lt_z a b ≡ true
is_above_lem a b h = grind (arith, ints)

same : (a b : ℤ) → a ≤ℤ b → b ≤ℤ a → a ≡ b
same a b h g = omega (arith, ints)

same_one : (a b : ℤ) → a <ℤ b → b ≤ℤ (a +ℤ pos 1) → a +ℤ pos 1 ≡ b
same_one a b h g = omega (arith, ints)

no_room : (a b c : ℤ) → a <ℤ b → b <ℤ c → c ≤ℤ (a +ℤ pos 1) → ⊥
no_room a b c h g f = omega (arith, ints)

pub clash : (a b c : ℤ) → a <ℤ b → b ≤ℤ c → c ≤ℤ a → ⊥
clash a b c h g f = omega (arith, ints)

pub less_from : (a b c : ℤ) → a ≤ℤ b → b <ℤ c → a <ℤ c
less_from a b c h g = omega (arith, ints)

-- coordinate j has moved at point i; the first point where it has
moved : (ℕ → ℕ → ℤ) → ℕ → ℕ → Bool
moved v j i = lt_z (v 0 j) (v i j)

pub mark_of : ℕ → (ℕ → ℕ → ℤ) → ℕ → ℕ
mark_of l v j = first (moved v j) (l + 1)

add-le : (z : ℤ) → z ≤ℤ (z +ℤ pos 1)
add-le z = omega (arith, ints)

passed_on : (x i : ℕ) → x ≤ i → passed x i ≡ 1
passed_on x i g = grind (arith, nat_tests)

passed_off : (x i : ℕ) → i < x → passed x i ≡ 0
passed_off x i g = grind (arith, nat_tests)

add_zero : (z : ℤ) → z +ℤ pos 0 ≡ z
add_zero z = omega (arith, ints)

module _ (d l : ℕ) (v : ℕ → ℕ → ℤ) (ch : Ascends d l v) (j : ℕ) (inside : j < d) where
  mono : (n i : ℕ) → n + i ≤ l → v i j ≤ℤ v (n + i) j
  mono zero i h = rw zero-add (le_refl (v i j))
  mono (suc n) i h = rw (suc-add, ← add-one (n + i)) (le_trans (v i j) (v (n + i) j) (v ((n + i) + 1) j) (mono n i (omega arith)) (ch.up (n + i) j (omega arith) inside))

  pub mono_le : (i k : ℕ) → i ≤ k → k ≤ l → v i j ≤ℤ v k j
  mono_le i k h g = let e : (k - i) + i ≡ k = omega arith in subst (λ x. v i j ≤ℤ v x j) e (mono (k - i) i (omega arith))

  pub mark_low : 1 ≤ mark_of l v j
  unfolding mark_of moved
  mark_low = elim (cases_lt 0 (mark_of l v j)) [ inl h ↦ h | inr h ↦ absurd (at (omega arith)) ]
    where
      at : mark_of l v j ≡ 0 → ⊥
      at e =
          let t = first_at (moved v j) (l + 1) (omega arith) in
          let u : lt_z (v 0 j) (v 0 j) ≡ true = subst (λ k. lt_z (v 0 j) (v k j) ≡ true) e t in
          no_room (v 0 j) (v 0 j) (v 0 j) (above _ _ u) (above _ _ u) (add-le (v 0 j))

  pub mark_high : mark_of l v j ≤ l + 1
  unfolding mark_of
  mark_high = first_le (moved v j) (l + 1)

  -- up to the mark nothing moves, and from it on it has moved
  mark_before : (i : ℕ) → i ≤ l → lt_z (v 0 j) (v i j) ≡ false → i < mark_of l v j
  unfolding mark_of moved
  mark_before i h t = elim (cases_lt i (mark_of l v j)) [ inl f ↦ f | inr f ↦ absurd (at f) ]
    where
      at : mark_of l v j ≤ i → ⊥
      at f =
          let u = above _ _ (first_at (moved v j) (l + 1) (omega arith)) in
          let w = mono_le (mark_of l v j) i f h in
          let n = not_above _ _ t in
          clash (v 0 j) (v (mark_of l v j) j) (v i j) u w n

  pub place_is : (i : ℕ) → i ≤ l → v 0 j +ℤ pos (passed (mark_of l v j) i) ≡ v i j
  unfolding mark_of moved
  place_is i h = elim (cases_Bool (lt_z (v 0 j) (v i j))) [ inl t ↦ at t | inr t ↦ below t ]
    where
      at : lt_z (v 0 j) (v i j) ≡ true → v 0 j +ℤ pos (passed (mark_of l v j) i) ≡ v i j
      at t =
          ap (λ n. v 0 j +ℤ pos n) (passed_on (mark_of l v j) i (first_min (moved v j) (l + 1) i t))
          ∙ same_one (v 0 j) (v i j) (above _ _ t) (le_trans (v i j) (v l j) _ (mono_le i l h (omega arith)) (ch.within j inside))

      below : lt_z (v 0 j) (v i j) ≡ false → v 0 j +ℤ pos (passed (mark_of l v j) i) ≡ v i j
      below t =
          ap (λ n. v 0 j +ℤ pos n) (passed_off (mark_of l v j) i (mark_before i h t)) ∙ add_zero (v 0 j)
          ∙ same (v 0 j) (v i j) (mono_le 0 i (omega arith) h) (not_above _ _ t)

  -- the coordinate that moves from point i to the next has its mark there
  pub mark_is : (i : ℕ) → i < l → v i j <ℤ v (i + 1) j → mark_of l v j ≡ i + 1
  unfolding mark_of moved
  mark_is i h g =
      let a : mark_of l v j ≤ i + 1 = first_min (moved v j) (l + 1) (i + 1) (is_above_lem _ _ (less_from (v 0 j) (v i j) (v (i + 1) j) (mono_le 0 i (omega arith) (omega arith)) g)) in
      let b : i < mark_of l v j = mark_before i (omega arith) (none (lt_z (v 0 j) (v i j)) refl) in
      omega arith
    where
      none : (t : Bool) → lt_z (v 0 j) (v i j) ≡ t → t ≡ false
      none false e = refl
      none true e = absurd (no_room (v 0 j) (v i j) (v (i + 1) j) (above _ _ e) g (le_trans (v (i + 1) j) (v l j) _ (mono_le (i + 1) l (omega arith) (omega arith)) (ch.within j inside)))

base_by : ℕ → (ℕ → ℕ → ℤ) → ℕ → ℤ
base_by d v j = cond (ltb j d) (v 0 j) (pos 0)

label_by : ℕ → ℕ → (ℕ → ℕ → ℤ) → ℕ → ℕ
label_by d l v j = cond (ltb j d) (mark_of l v j) (cond (eqb j d) (l + 1) 0)

abbrev cell_by : ℕ → ℕ → (ℕ → ℕ → ℤ) → CellRecord
cell_by n k v = record { d = n; l = k; base = table 6 (base_by n v); labels = table 7 (label_by n k v) }

module _ (d l : ℕ) (v : ℕ → ℕ → ℤ) (low : 2 ≤ d) (high : d ≤ 6) (dim : l ≤ d) (world : InWorld d l v) (ch : Ascends d l v) where
  label_in : (j : ℕ) → j < d → label (cell_by d l v) j ≡ mark_of l v j
  unfolding label_by
  label_in j h = get_or-table 7 (label_by d l v) j 0 (omega arith) ∙ ap (λ b. cond b (mark_of l v j) (cond (eqb j d) (l + 1) 0)) (lt-ltb j d h)

  label_last : label (cell_by d l v) d ≡ l + 1
  unfolding label_by
  label_last = get_or-table 7 (label_by d l v) d 0 (omega arith) ∙ ap₂ (λ b e. cond b (mark_of l v d) (cond e (l + 1) 0)) (le-ltb d d (omega arith)) (eq-eqb d d refl)

  label_past : (j : ℕ) → d < j → label (cell_by d l v) j ≡ 0
  unfolding label_by
  label_past j h = elim (cases_lt j 7) [ inl g ↦ get_or-table 7 (label_by d l v) j 0 g ∙ ap₂ (λ b e. cond b (mark_of l v j) (cond e (l + 1) 0)) (le-ltb j d (omega arith)) (ne_eqb j d (λ e. omega arith)) | inr g ↦ past_table 7 (label_by d l v) j 0 g ]

  base_is : (j : ℕ) → j < d → base_at (cell_by d l v) j ≡ v 0 j
  unfolding base_by
  base_is j h = get_or-table 6 (base_by d v) j (pos 0) (omega arith) ∙ ap (λ b. cond b (v 0 j) (pos 0)) (lt-ltb j d h)

  base_past : (j : ℕ) → d ≤ j → base_at (cell_by d l v) j ≡ pos 0
  unfolding base_by
  base_past j h = elim (cases_lt j 6) [ inl g ↦ get_or-table 6 (base_by d v) j (pos 0) g ∙ ap (λ b. cond b (v 0 j) (pos 0)) (le-ltb j d h) | inr g ↦ past_table 6 (base_by d v) j (pos 0) g ]

  labelled : Labelled (cell_by d l v)
  labelled = record { used = λ j g. rw (label_in j g) (mark_low d l v ch j g, mark_high d l v ch j g); last = label_last }

  vertices : (i j : ℕ) → i ≤ l → j < d → coordinate (cell_by d l v) i j ≡ v i j
  vertices i j h g = closed_form (cell_by d l v) labelled i j h g ∙ ap₂ (λ z x. z +ℤ pos (passed x i)) (base_is j g) (label_in j g) ∙ place_is d l v ch j g i h

  is : IsCell (cell_by d l v)
  is = record {
    d_low = low;
    d_high = high;
    l_high = dim;
    parted = parted;
    full = full;
    last = label_last;
    world = λ i j h g. rw (vertices i j h g) (world i j h g);
    labels_long = length-table 7 (label_by d l v);
    labels_rest = label_past;
    base_long = length-table 6 (base_by d v);
    base_rest = base_past;
  }
    where
      parted : (j : ℕ) → j ≤ d → (1 ≤ label (cell_by d l v) j) × (label (cell_by d l v) j ≤ l + 1)
      parted j h = elim (cases_lt j d) [
        | inl g ↦ rw (label_in j g) (mark_low d l v ch j g, mark_high d l v ch j g)
        | inr g ↦ (let e : label (cell_by d l v) j ≡ l + 1 = ap (label (cell_by d l v)) (omega arith) ∙ label_last in (omega arith, omega arith))
      ]

      full : (p : ℕ) → 1 ≤ p → p ≤ l + 1 → (j : ℕ) × (j ≤ d) × (label (cell_by d l v) j ≡ p)
      full p h g = elim (cases_lt l p) [ inl u ↦ (d, omega arith, label_last ∙ omega arith) | inr u ↦ at u ]
        where
          at : p ≤ l → (j : ℕ) × (j ≤ d) × (label (cell_by d l v) j ≡ p)
          at u =
              let w = ch.rises (p - 1) (omega arith) in
              (w.0, omega (arith, w.1), label_in w.0 w.1 ∙ mark_is d l v ch w.0 w.1 (p - 1) (omega arith) w.2 ∙ omega arith)

  pub chain_cell : (r : CellRecord) × VerticesAre r d l v
  chain_cell = (cell_by d l v, record { cell = cell_is (cell_by d l v) is; axes = refl; dimension = refl; same = vertices })

-- a chain has at most d steps: each moves an axis that no other moves
pub chain_dim : (d l : ℕ) (v : ℕ → ℕ → ℤ) → Ascends d l v → l ≤ d
chain_dim d l v ch = pigeon l d f below apart
  where
    f : ℕ → ℕ
    f i = first (λ j. lt_z (v i j) (v (i + 1) j)) d

    below : (i : ℕ) → i < l → f i < d
    below i h = let w = ch.rises i h in let m = first_min (λ j. lt_z (v i j) (v (i + 1) j)) d w.0 (is_above_lem _ _ w.2) in omega (arith, w.1)

    moves : (i : ℕ) → i < l → v i (f i) <ℤ v (i + 1) (f i)
    moves i h = above _ _ (first_at (λ j. lt_z (v i j) (v (i + 1) j)) d (below i h))

    apart : (i k : ℕ) → i < k → k < l → f i ≡ f k → ⊥
    apart i k h g e =
        let j = f i in
        let b : f i < d = below i (omega arith) in
        let a : v i (f i) <ℤ v (i + 1) (f i) = moves i (omega arith) in
        let c : v k (f i) <ℤ v (k + 1) (f i) = subst (λ x. v k x <ℤ v (k + 1) x) (sym e) (moves k g) in
        let m : v (i + 1) (f i) ≤ℤ v k (f i) = mono_le d l v ch (f i) b (i + 1) k (omega arith) (omega arith) in
        let t : v (k + 1) (f i) ≤ℤ v l (f i) = mono_le d l v ch (f i) b (k + 1) l (omega arith) (omega arith) in
        let z : v 0 (f i) ≤ℤ v i (f i) = mono_le d l v ch (f i) b 0 i (omega arith) (omega arith) in
        no_steps (v i (f i)) (v (i + 1) (f i)) (v k (f i)) (v (k + 1) (f i)) (v l (f i)) a m c t (le-add (v l (f i)) (v 0 (f i)) (v i (f i)) (ch.within (f i) b) z)

pub chains : (d l : ℕ) (v : ℕ → ℕ → ℤ) → 2 ≤ d → d ≤ 6 → InWorld d l v → Ascends d l v → (r : CellRecord) × VerticesAre r d l v
chains d l v low high world ch = chain_cell d l v low high (chain_dim d l v ch) world ch
