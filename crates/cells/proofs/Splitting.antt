-- A split of a part, and the labels and the base of its cofacet. Left out again, the new vertex gives the cell back.
use Rattle.std.proofs.Common.{◌≡◌, ℕ, ◌+◌, ◌<◌, ◌≤◌, Bool, true, false, cond, not, ◌&&◌, ◌||◌, eqb, ℤ, pos, ◌+ℤ◌, ◌-ℤ◌, sym, refl, ap, ◌∙◌, ap₂, inl, inr, arith}
use Rattle.std.proofs.lemmas.Int.{ints}
use Rattle.std.proofs.lemmas.Bool.{and_from, and_parts, both_ways, cases_Bool, cases_lt, eq-eqb, eqb-true, le-ltb, lt-ltb, ne_eqb, not_from_false, not-true, or_left, or_right}
use Rattle.std.proofs.lemmas.Bool.Decides.{nat_tests}
use Rattle.grid.proofs.Below.{all_at, all_from, get_or-table, past_table, some_at, some_from, table_from}
use Rattle.cells.specs.Cells.{IsCell}
use Rattle.cells.specs.Cofacets.{cofacet_base, cofacet_by, cofacet_label, split_part, turned_part, turns}
use Rattle.cells.specs.Facets.{facet_base, facet_label, facet_of, facet_part}
use Rattle.cells.specs.Records.{base_at, label}
use Rattle.cells.specs.Splits.{holds, in_a, in_b, is_split, keeps_to}
use Rattle.cells.specs.Vertices.{coordinate}
use Rattle.cells.specs.declared.records.CellRecord.{CellRecord}
use Rattle.cells.proofs.Recorded.{same_record_lem}
use Rattle.cells.proofs.Walked.{closed_form, Labelled, passed}

-- the set with the code a splits part p
pub record Divides (r : CellRecord) (p a : ℕ) : Type 0 where
  pub first : 1 ≤ p
  pub final : p ≤ r.l + 1
  pub within : (j : ℕ) → j < 7 → holds a j ≡ true → label r j ≡ p
  pub some : (j : ℕ) × (j < 7) × (label r j ≡ p) × (holds a j ≡ true)
  pub other : (j : ℕ) × (j < 7) × (label r j ≡ p) × (holds a j ≡ false)

pub divides_from : (r : CellRecord) (p a : ℕ) → 1 ≤ p → p ≤ r.l + 1 → is_split r p a ≡ true → Divides r p a
unfolding is_split
divides_from r p a h g e =
    let both = and_parts _ _ e in
    let front = and_parts _ _ both.0 in
    let s = some_at (in_a r p a) 7 front.1 in
    let o = some_at (in_b r p a) 7 both.1 in
    let sp = and_parts _ _ s.2 in
    let op = and_parts _ _ o.2 in
    record {
      first = h;
      final = g;
      within = λ j k m. within j (all_at (keeps_to r p a) 7 front.0 j k) m;
      some = (s.0, s.1, eqb-true _ _ sp.0, sp.1);
      other = (o.0, o.1, eqb-true _ _ op.0, not-true _ op.1);
    }
  where
    within : (j : ℕ) → (not (holds a j) || eqb (label r j) p) ≡ true → holds a j ≡ true → label r j ≡ p
    within j t m = eqb-true _ _ (rw m at t)

pub divides_to : (r : CellRecord) (p a : ℕ) → Divides r p a → is_split r p a ≡ true
unfolding is_split
divides_to r p a s =
    and_from _ _ (and_from _ _ (all_from (keeps_to r p a) 7 within) (some_from (in_a r p a) 7 s.some.0 s.some.1 (and_from _ _ (eq-eqb _ _ s.some.2) s.some.3)))
    (some_from (in_b r p a) 7 s.other.0 s.other.1 (and_from _ _ (eq-eqb _ _ s.other.2) (not_from_false _ s.other.3)))
  where
    within : (j : ℕ) → j < 7 → (not (holds a j) || eqb (label r j) p) ≡ true
    within j h = elim (cases_Bool (holds a j)) [ inl m ↦ or_right _ _ (eq-eqb _ _ (s.within j h m)) | inr m ↦ or_left _ _ (not_from_false _ m) ]

-- numbers of parts alone

unite_split : (l p x : ℕ) (m : Bool) → 1 ≤ p → facet_part l p (split_part p m x) ≡ x
unite_split l p x true h = grind (arith, nat_tests)
unite_split l p x false h = grind (arith, nat_tests)

unite_turned : (l p x : ℕ) (m : Bool) → p ≡ l + 1 → facet_part (l + 1) 0 (turned_part p m x) ≡ x
unite_turned l p x true e = grind (arith, nat_tests)
unite_turned l p x false e = grind (arith, nat_tests)

turned_first : (p x : ℕ) (m : Bool) → 1 ≤ p → 1 ≤ x → passed (turned_part p m x) 1 ≡ cond (eqb x p && not m) 1 0
turned_first p x true h g = grind (arith, nat_tests)
turned_first p x false h g = grind (arith, nat_tests)

pub split_zero : (w m : Bool) (p : ℕ) → 1 ≤ p → cond w (turned_part p m 0) (split_part p m 0) ≡ 0
split_zero true true p h = grind (arith, nat_tests)
split_zero true false p h = grind (arith, nat_tests)
split_zero false true p h = grind (arith, nat_tests)
split_zero false false p h = grind (arith, nat_tests)

part_range : (l p x : ℕ) (w m : Bool) → 1 ≤ p → p ≤ l + 1 → 1 ≤ x → x ≤ l + 1 → (1 ≤ cond w (turned_part p m x) (split_part p m x)) × (cond w (turned_part p m x) (split_part p m x) ≤ (l + 1) + 1)
part_range l p x true true h g f e = (grind (arith, nat_tests), grind (arith, nat_tests))
part_range l p x true false h g f e = (grind (arith, nat_tests), grind (arith, nat_tests))
part_range l p x false true h g f e = (grind (arith, nat_tests), grind (arith, nat_tests))
part_range l p x false false h g f e = (grind (arith, nat_tests), grind (arith, nat_tests))

top_part : (l p : ℕ) (w m : Bool) → (w ≡ true → p ≡ l + 1) → m ≡ w → 1 ≤ p → p ≤ l + 1 → cond w (turned_part p m (l + 1)) (split_part p m (l + 1)) ≡ (l + 1) + 1
top_part l p true true h e g f = let u = h refl in grind (arith, nat_tests)
top_part l p true false h e g f = absurd (both_ways true (sym e) refl)
top_part l p false true h e g f = absurd (both_ways true e refl)
top_part l p false false h e g f = grind (arith, nat_tests)

sub_none : (z : ℤ) → z -ℤ pos 0 ≡ z
sub_none z = omega (arith, ints)

sub-add : (z : ℤ) (n : ℕ) → (z -ℤ pos n) +ℤ pos n ≡ z
sub-add z n = omega (arith, ints)

none_zero : (w m : Bool) (x p : ℕ) → x ≡ 0 → 1 ≤ p → (w && (eqb x p && not m)) ≡ false
none_zero w m x p e h = let n = ne_eqb x p (λ f. omega arith) in rw n (go w)
  where
    go : (w : Bool) → (w && false) ≡ false
    go true = refl
    go false = refl

none_both : (m b : Bool) → (m && (b && not m)) ≡ false
none_both true true = refl
none_both true false = refl
none_both false b = refl

module _ (r : CellRecord) (c : IsCell r) (p a : ℕ) (sp : Divides r p a) where
  pub label_cofacet : (j : ℕ) → label (cofacet_by r p a) j ≡ cofacet_label r p a j
  label_cofacet j = elim (cases_lt j 7) [
    | inl g ↦ get_or-table 7 (cofacet_label r p a) j 0 g
    | inr g ↦ past_table 7 (cofacet_label r p a) j 0 g ∙ sym (rest j (omega (arith, c.d_high)))
  ]
    where
      rest : (j : ℕ) → r.d < j → cofacet_label r p a j ≡ 0
      rest j h = ap (λ x. cond (turns r a) (turned_part p (holds a j) x) (split_part p (holds a j) x)) (c.labels_rest j h) ∙ split_zero (turns r a) (holds a j) p sp.first

  -- past the axes the base does not move
  down_unused : (j : ℕ) → r.d ≤ j → (turns r a && in_b r p a j) ≡ false
  down_unused j h = elim (cases_lt r.d j) [
    | inl g ↦ none_zero (turns r a) (holds a j) (label r j) p (c.labels_rest j g) sp.first
    | inr g ↦ (let e : j ≡ r.d = omega arith in rw e (none_both (holds a r.d) (eqb (label r r.d) p)))
  ]

  pub down_base_unused : (j : ℕ) → r.d ≤ j → cofacet_base r p a j ≡ pos 0
  down_base_unused j h = ap₂ (λ z b. z -ℤ pos (cond b 1 0)) (c.base_rest j h) (down_unused j h)

  pub base_cofacet : (j : ℕ) → base_at (cofacet_by r p a) j ≡ cofacet_base r p a j
  base_cofacet j = elim (cases_lt j 6) [
    | inl g ↦ get_or-table 6 (cofacet_base r p a) j (pos 0) g
    | inr g ↦ past_table 6 (cofacet_base r p a) j (pos 0) g ∙ sym (down_base_unused j (omega (arith, c.d_high)))
  ]

  -- A has d + 1 only where the last part is split
  pub turns_last : turns r a ≡ true → p ≡ r.l + 1
  turns_last e = sym (sp.within r.d (omega (arith, c.d_high)) e) ∙ c.last

  pub cofacet_parted : (j : ℕ) → j ≤ r.d → (1 ≤ label (cofacet_by r p a) j) × (label (cofacet_by r p a) j ≤ (r.l + 1) + 1)
  cofacet_parted j h =
      let u = c.parted j h in
      let e = label_cofacet j in
      let w = part_range r.l p (label r j) (turns r a) (holds a j) sp.first sp.final u.0 u.1 in
      (omega (arith, w.0), omega (arith, w.1))

  pub cofacet_last : label (cofacet_by r p a) r.d ≡ (r.l + 1) + 1
  cofacet_last =
      label_cofacet r.d
      ∙ ap (λ x. cond (turns r a) (turned_part p (holds a r.d) x) (split_part p (holds a r.d) x)) c.last
      ∙ top_part r.l p (turns r a) (holds a r.d) turns_last refl sp.first sp.final

  pub cofacet_labelled : Labelled (cofacet_by r p a)
  cofacet_labelled = record { used = λ j h. cofacet_parted j (omega arith); last = cofacet_last }

  -- the vertex that the cofacet has more
  abbrev pub added : ℕ
  added = cond (turns r a) 0 p

  united_label : (j : ℕ) (w : Bool) → turns r a ≡ w → facet_part (r.l + 1) (cond w 0 p) (cond w (turned_part p (holds a j) (label r j)) (split_part p (holds a j) (label r j))) ≡ label r j
  united_label j true e = unite_turned r.l p (label r j) (holds a j) (turns_last e)
  united_label j false e = unite_split (r.l + 1) p (label r j) (holds a j) sp.first

  -- the vertex after the one that is left out stands at the cell's base
  start : (j : ℕ) (w : Bool) → turns r a ≡ w → j < r.d → coordinate (cofacet_by r p a) (cond (eqb (cond w 0 p) 0) 1 0) j ≡ base_at r j
  start j true e h =
      let x = (c.parted j (omega arith)).0 in
      let moved : passed (cofacet_label r p a j) 1 ≡ cond (eqb (label r j) p && not (holds a j)) 1 0 = ap (λ b. passed (cond b (turned_part p (holds a j) (label r j)) (split_part p (holds a j) (label r j))) 1) e ∙ turned_first p (label r j) (holds a j) sp.first x in
      let down : cofacet_base r p a j ≡ base_at r j -ℤ pos (cond (eqb (label r j) p && not (holds a j)) 1 0) = ap (λ b. base_at r j -ℤ pos (cond (b && in_b r p a j) 1 0)) e in
      closed_form (cofacet_by r p a) cofacet_labelled 1 j (omega arith) h
      ∙ ap₂ (λ z x. z +ℤ pos (passed x 1)) (base_cofacet j ∙ down) (label_cofacet j)
      ∙ ap (λ n. (base_at r j -ℤ pos (cond (eqb (label r j) p && not (holds a j)) 1 0)) +ℤ pos n) moved
      ∙ sub-add (base_at r j) (cond (eqb (label r j) p && not (holds a j)) 1 0)
  start j false e h =
      let z : eqb p 0 ≡ false = ne_eqb p 0 (λ q. let f = sp.first in omega arith) in
      ap (λ b. coordinate (cofacet_by r p a) (cond b 1 0) j) z
      ∙ base_cofacet j
      ∙ ap (λ b. base_at r j -ℤ pos (cond (b && in_b r p a j) 1 0)) e
      ∙ sub_none (base_at r j)

  pub facet_cofacet : r ≡ facet_of (cofacet_by r p a) added
  facet_cofacet = same_record_lem r (facet_of (cofacet_by r p a) added) refl (omega arith)
      (table_from 6 (facet_base (cofacet_by r p a) added) r.base (pos 0) c.base_long (λ k h. sym (bases k)))
      (table_from 7 (facet_label (cofacet_by r p a) added) r.labels 0 c.labels_long (λ k h. sym (labels k)))
    where
      labels : (k : ℕ) → facet_label (cofacet_by r p a) added k ≡ label r k
      labels k = ap (facet_part (r.l + 1) added) (label_cofacet k) ∙ united_label k (turns r a) refl

      bases : (k : ℕ) → facet_base (cofacet_by r p a) added k ≡ base_at r k
      bases k = elim (cases_lt k r.d) [
        | inl g ↦ ap (λ b. cond b (coordinate (cofacet_by r p a) (cond (eqb added 0) 1 0) k) (pos 0)) (lt-ltb k r.d g) ∙ start k (turns r a) refl g
        | inr g ↦ ap (λ b. cond b (coordinate (cofacet_by r p a) (cond (eqb added 0) 1 0) k) (pos 0)) (le-ltb k r.d g) ∙ sym (c.base_rest k g)
      ]
