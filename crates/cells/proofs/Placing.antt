-- The cofacet of a split is a cell unless it leaves the world: its labels are a partition with one part more.
use Rattle.std.proofs.Common.{◌≡◌, ℕ, ◌+◌, ◌-◌, ◌<◌, ◌≤◌, Bool, true, false, cond, eqb, ltb, pos, sym, refl, ap, ◌∙◌, inl, inr, arith}
use Rattle.std.proofs.lemmas.Bool.{both_ways, cases_Bool, cases_eq, cases_lt, eq-eqb, eqb-true, le-ltb, lt-ltb, ne_eqb}
use Rattle.std.proofs.lemmas.Bool.Decides.{nat_tests}
use Rattle.grid.proofs.Below.{length-table}
use Rattle.cells.specs.Cells.{IsCell}
use Rattle.cells.specs.Cofacets.{cofacet_by, cofacet_label, split_part, turned_part, turns}
use Rattle.cells.specs.Records.{base_at, label}
use Rattle.cells.specs.Splits.{holds}
use Rattle.cells.specs.declared.records.CellRecord.{CellRecord}
use Rattle.cells.proofs.Checked.{Partition}
use Rattle.cells.proofs.First.{first, first_at, first_min}
use Rattle.cells.proofs.Pigeon.{pigeon}
use Rattle.cells.proofs.Splitting.{base_cofacet, cofacet_last, cofacet_parted, Divides, down_base_unused, label_cofacet, split_zero}

-- the first place of part p
place : CellRecord → ℕ → ℕ
place r p = first (λ j. eqb (label r j) p) 7

module _ (r : CellRecord) (c : IsCell r) where
  place_lt : (p : ℕ) → 1 ≤ p → p ≤ r.l + 1 → place r p ≤ r.d
  unfolding place
  place_lt p h g =
      let f = c.full p h g in
      let m = first_min (λ j. eqb (label r j) p) 7 f.0 (eq-eqb _ _ f.2) in
      omega (arith, f.1)

  place_at : (p : ℕ) → 1 ≤ p → p ≤ r.l + 1 → label r (place r p) ≡ p
  unfolding place
  place_at p h g = eqb-true _ _ (first_at (λ j. eqb (label r j) p) 7 (omega (arith, place_lt p h g, c.d_high)))

  -- a part of two numbers leaves room for one part more
  room : (p x y : ℕ) → x ≤ r.d → y ≤ r.d → label r x ≡ p → label r y ≡ p → (x ≡ y → ⊥) → 1 ≤ p → p ≤ r.l + 1 → r.l + 1 ≤ r.d
  room p x y hx hy ex ey ne one top = let h = pigeon ((r.l + 1) + 1) (r.d + 1) f below apart in omega arith
    where
      -- a place of part i + 1, and last the other number of part p
      f : ℕ → ℕ
      f i = cond (ltb i (r.l + 1)) (cond (eqb (i + 1) p) x (place r (i + 1))) y

      at : (i : ℕ) → i < r.l + 1 → (f i ≤ r.d) × (label r (f i) ≡ i + 1)
      at i h = rw (lt-ltb i (r.l + 1) h) (elim (cases_eq (i + 1) p) [
        | inl e ↦ (rw (eq-eqb (i + 1) p e) (hx, ex ∙ sym e))
        | inr e ↦ (rw (ne_eqb (i + 1) p e) (place_lt (i + 1) (omega arith) (omega arith), place_at (i + 1) (omega arith) (omega arith)))
      ])

      last : (i : ℕ) → r.l + 1 ≤ i → f i ≡ y
      last i h = ap (λ b. cond b (cond (eqb (i + 1) p) x (place r (i + 1))) y) (le-ltb i (r.l + 1) h)

      below : (i : ℕ) → i < (r.l + 1) + 1 → f i < r.d + 1
      below i h = elim (cases_lt i (r.l + 1)) [ inl g ↦ (let a = (at i g).0 in omega arith) | inr g ↦ rw (last i g) (omega arith) ]

      apart : (i k : ℕ) → i < k → k < (r.l + 1) + 1 → f i ≡ f k → ⊥
      apart i k h g e = elim (cases_lt k (r.l + 1)) [
        | inl u ↦ (let a = (at i (omega arith)).1 in let b = (at k u).1 in let d = ap (label r) e in omega arith)
        | inr u ↦ end u
      ]
        where
          end : r.l + 1 ≤ k → ⊥
          end u =
              let a = (at i (omega arith)).1 in
              let d : label r (f i) ≡ p = ap (label r) (e ∙ last k u) ∙ ey in
              let q : i + 1 ≡ p = sym a ∙ d in
              let fx : f i ≡ x = ap (λ b. cond b (cond (eqb (i + 1) p) x (place r (i + 1))) y) (lt-ltb i (r.l + 1) (omega arith)) ∙ ap (λ b. cond b x (place r (i + 1))) (eq-eqb (i + 1) p q) in
              ne (sym fx ∙ e ∙ last k u)

-- where a number of part x comes to

turn_to : (p x q : ℕ) (m : Bool) → 1 ≤ x → x + 1 ≡ q → (x ≡ p → m ≡ true) → turned_part p m x ≡ q
turn_to p x q true h e f = grind (arith, nat_tests)
turn_to p x q false h e f = grind (arith, nat_tests)

turn_first : (p x : ℕ) (m : Bool) → 1 ≤ p → x ≡ p → m ≡ false → turned_part p m x ≡ 1
turn_first p x true h e f = absurd (both_ways true f refl)
turn_first p x false h e f = grind (arith, nat_tests)

split_stays : (p x : ℕ) (m : Bool) → x < p → split_part p m x ≡ x
split_stays p x true h = grind (arith, nat_tests)
split_stays p x false h = grind (arith, nat_tests)

split_kept : (p x : ℕ) (m : Bool) → x ≡ p → m ≡ true → split_part p m x ≡ p
split_kept p x true h e = grind (arith, nat_tests)
split_kept p x false h e = absurd (both_ways false refl e)

split_up : (p x q : ℕ) (m : Bool) → p ≤ x → (x ≡ p → m ≡ false) → x + 1 ≡ q → split_part p m x ≡ q
split_up p x q true h f e = grind (arith, nat_tests)
split_up p x q false h f e = grind (arith, nat_tests)

module _ (r : CellRecord) (c : IsCell r) (p a : ℕ) (sp : Divides r p a) where
  in_axes : (j : ℕ) → label r j ≡ p → j ≤ r.d
  in_axes j e = elim (cases_lt r.d j) [ inl h ↦ absurd (let z = c.labels_rest j h in let f = sp.first in omega arith) | inr h ↦ h ]

  some_in : sp.some.0 ≤ r.d
  some_in = in_axes sp.some.0 sp.some.2

  other_in : sp.other.0 ≤ r.d
  other_in = in_axes sp.other.0 sp.other.2

  cofacet_dimension : r.l + 1 ≤ r.d
  cofacet_dimension =
      let s = sp.some in
      let o = sp.other in
      room r c p s.0 o.0 some_in other_in s.2 o.2 (λ e. both_ways (holds a o.0) o.3 (ap (holds a) (sym e) ∙ s.3)) sp.first sp.final

  -- a place that comes to part q
  Comes : ℕ → Type 0
  Comes q = (j : ℕ) × (j ≤ r.d) × (cofacet_label r p a j ≡ q)

  turned : (q : ℕ) → turns r a ≡ true → 1 ≤ q → q ≤ (r.l + 1) + 1 → Comes q
  unfolding Comes
  turned q w h g = elim (cases_eq q 1) [
    | inl e ↦ (sp.other.0, other_in, on sp.other.0 ∙ turn_first p _ _ sp.first sp.other.2 sp.other.3 ∙ sym e)
    | inr e ↦ (elim (cases_eq q (p + 1)) [
      | inl u ↦ (sp.some.0, some_in, on sp.some.0 ∙ turn_to p _ q _ (omega (arith, sp.some.2, sp.first)) (omega (arith, sp.some.2)) (λ _. sp.some.3))
      | inr u ↦ rest (omega arith) u
    ])
  ]
    where
      on : (j : ℕ) → cofacet_label r p a j ≡ turned_part p (holds a j) (label r j)
      on j = ap (λ b. cond b (turned_part p (holds a j) (label r j)) (split_part p (holds a j) (label r j))) w

      rest : 2 ≤ q → (q ≡ p + 1 → ⊥) → Comes q
      rest k u =
          let f = c.full (q - 1) (omega arith) (omega arith) in
          (f.0, f.1, on f.0 ∙ turn_to p _ q _ (omega (arith, f.2)) (omega (arith, f.2)) (λ e. absurd (u (omega (arith, f.2)))))

  divided : (q : ℕ) → turns r a ≡ false → 1 ≤ q → q ≤ (r.l + 1) + 1 → Comes q
  unfolding Comes
  divided q w h g = elim (cases_lt q p) [
    | inl e ↦ low e
    | inr e ↦ (elim (cases_eq q p) [
      | inl u ↦ (sp.some.0, some_in, on sp.some.0 ∙ split_kept p _ _ sp.some.2 sp.some.3 ∙ sym u)
      | inr u ↦ (elim (cases_eq q (p + 1)) [
        | inl v ↦ (sp.other.0, other_in, on sp.other.0 ∙ split_up p _ q _ (omega (arith, sp.other.2)) (λ _. sp.other.3) (omega (arith, sp.other.2)))
        | inr v ↦ top (omega arith)
      ])
    ])
  ]
    where
      on : (j : ℕ) → cofacet_label r p a j ≡ split_part p (holds a j) (label r j)
      on j = ap (λ b. cond b (turned_part p (holds a j) (label r j)) (split_part p (holds a j) (label r j))) w

      low : q < p → Comes q
      low e =
          let f = c.full q h (omega (arith, sp.final)) in
          (f.0, f.1, on f.0 ∙ split_stays p _ _ (omega (arith, f.2)) ∙ f.2)

      top : p + 1 < q → Comes q
      top e =
          let f = c.full (q - 1) (omega arith) (omega arith) in
          (f.0, f.1, on f.0 ∙ split_up p _ q _ (omega (arith, f.2)) (λ u. absurd (omega (arith, f.2))) (omega (arith, f.2)))

  cofacet_full : (q : ℕ) → 1 ≤ q → q ≤ (r.l + 1) + 1 → (j : ℕ) × (j ≤ r.d) × (label (cofacet_by r p a) j ≡ q)
  unfolding Comes
  cofacet_full q h g = elim (cases_Bool (turns r a)) [ inl w ↦ found (turned q w h g) | inr w ↦ found (divided q w h g) ]
    where
      found : Comes q → (j : ℕ) × (j ≤ r.d) × (label (cofacet_by r p a) j ≡ q)
      found f = (f.0, f.1, label_cofacet r c p a sp f.0 ∙ f.2)

  pub cofacet_partition : Partition (cofacet_by r p a)
  cofacet_partition = record {
    d_low = c.d_low;
    d_high = c.d_high;
    l_high = cofacet_dimension;
    parted = cofacet_parted r c p a sp;
    full = cofacet_full;
    last = cofacet_last r c p a sp;
    labels_long = length-table 7 (cofacet_label r p a);
    labels_rest = λ j h. label_cofacet r c p a sp j ∙ ap (λ x. cond (turns r a) (turned_part p (holds a j) x) (split_part p (holds a j) x)) (c.labels_rest j h) ∙ split_zero (turns r a) (holds a j) p sp.first;
  }

  pub cofacet_base_rest : (j : ℕ) → r.d ≤ j → base_at (cofacet_by r p a) j ≡ pos 0
  cofacet_base_rest j h = base_cofacet r c p a sp j ∙ down_base_unused r c p a sp j h
