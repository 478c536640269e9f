-- The first fault at the vertices of a cell.
use Rattle.std.proofs.Common.{◌≡◌, ℕ, zero, suc, ◌+◌, ◌-◌, ◌<◌, ◌≤◌, List, [], length, get_or, ℤ, pos, Some, None, Option, sym, refl, ap, ◌∙◌, subst, ap₂, inl, inr, add-one, arith}
use Rattle.std.proofs.lemmas.Bool.{cases_lt}
use Rattle.grid.specs.Faults.{FaultNumbers}
use Rattle.cells.specs.declared.records.CellRecord.{CellRecord}
use Rattle.fields.specs.Fields.{fault, Meaning, Outcome, values}
use Rattle.crossing.specs.Crossing.{first_fault, first_of, HasValues, matrix_over, outcome_at, RowIn, rows_in}
use Rattle.crossing.specs.Weights.{Agree, Matrix}
use Rattle.crossing.proofs.Arranging.{matrix_value}

pub row_present : (k : ℕ) (o : Outcome) (row : List ℤ) → RowIn k o row → HasValues o
row_present k (values xs) row h = tt
row_present k (fault f) row h = absurd h

pub row_values : (k : ℕ) (o : Outcome) (row : List ℤ) → RowIn k o row → (r : ℕ) → r < k → get_or row r (pos 0) ≡ get_or (rows_in o) r (pos 0)
row_values k (values xs) row h = h
row_values k (fault f) row h = absurd h

module _ (m : Meaning) (c : CellRecord) where
  first_more : (n : ℕ) → first_fault m c (n + 1) ≡ first_of (first_fault m c n) (outcome_at m c n)
  first_more n = ap (first_fault m c) (add-one n)

  values_of : (o : Outcome) → first_of None o ≡ None → HasValues o
  values_of (values xs) e = tt
  values_of (fault f) e = let z : ◌≡◌ {A = ℕ} 0 1 = cc in absurd (omega arith)

  none_of : (x : Option FaultNumbers) (o : Outcome) → first_of x o ≡ None → (x ≡ None) × HasValues o
  none_of None o e = (refl, values_of o e)
  none_of (Some f) o e = let z : ◌≡◌ {A = ℕ} 0 1 = cc in absurd (omega arith)

  -- without a fault each vertex has values, and the other way round

  pub all_present : (n : ℕ) → first_fault m c n ≡ None → (i : ℕ) → i < n → HasValues (outcome_at m c i)
  all_present zero e i h = absurd (omega arith)
  all_present (suc n) e i h =
      let p = none_of (first_fault m c n) (outcome_at m c n) e in
      elim (cases_lt i n) [
        | inl l ↦ all_present n p.0 i l
        | inr l ↦ (let q : n ≡ i = omega arith in subst (λ (j : ℕ). HasValues (outcome_at m c j)) q p.1)
      ]

  values_first : (o : Outcome) → HasValues o → first_of None o ≡ None
  values_first (values xs) h = refl
  values_first (fault f) h = absurd h

  pub no_fault : (n : ℕ) → ((i : ℕ) → i < n → HasValues (outcome_at m c i)) → first_fault m c n ≡ None
  no_fault zero h = refl
  no_fault (suc n) h = ap (λ (x : Option FaultNumbers). first_of x (outcome_at m c n)) (no_fault n (λ i l. h i (omega arith))) ∙ values_first (outcome_at m c n) (h n (omega arith))

  -- the first fault stays the first
  fault_stays : (f : FaultNumbers) (n e : ℕ) → first_fault m c n ≡ Some f → first_fault m c (e + n) ≡ Some f
  fault_stays f n zero h = rw (zero_plus n) h
    where
      zero_plus : (n : ℕ) → 0 + n ≡ n
      zero_plus n = omega arith
  fault_stays f n (suc e) h = ap (first_fault m c) (suc_plus e n) ∙ ap (λ (x : Option FaultNumbers). first_of x (outcome_at m c (e + n))) (fault_stays f n e h)
    where
      suc_plus : (e n : ℕ) → suc e + n ≡ suc (e + n)
      suc_plus e n = omega arith

  pub first_is : (f : FaultNumbers) (n l : ℕ) → n ≤ l → first_fault m c n ≡ None → outcome_at m c n ≡ fault f → first_fault m c (l + 1) ≡ Some f
  first_is f n l h e o =
      let d : (l - n) + (n + 1) ≡ l + 1 = omega arith in
      ap (first_fault m c) (sym d) ∙ fault_stays f (n + 1) (l - n) (first_more n ∙ ap₂ first_of e o)

-- Rows at the vertices of a cell, asked in order up to the first fault: the first n of four are the field's.
pub record RowsIn (m : Meaning) (c : CellRecord) (rows : Matrix) (n : ℕ) : Type 0 where
  pub long : length rows ≡ 4
  pub here : (i : ℕ) → i < n → i ≤ c.l → RowIn c.l (outcome_at m c i) (get_or rows i [])

module _ {m : Meaning} {c : CellRecord} {rows : Matrix} {n : ℕ} (a : RowsIn m c rows n) where
  present_below : (e : ℕ) → e ≤ n → e ≤ c.l + 1 → first_fault m c e ≡ None
  present_below e h l = no_fault m c e (λ i g. row_present c.l (outcome_at m c i) (get_or rows i []) (a.here i (omega arith) (omega arith)))

  pub rows_first : (f : FaultNumbers) → n ≤ c.l → outcome_at m c n ≡ fault f → first_fault m c (c.l + 1) ≡ Some f
  rows_first f h o = first_is m c f n c.l h (present_below n (omega arith) (omega arith)) o

  pub rows_clear : c.l < n → first_fault m c (c.l + 1) ≡ None
  rows_clear h = present_below (c.l + 1) (omega arith) (omega arith)

  pub rows_agree : c.l < n → Agree c.l rows (matrix_over m c)
  rows_agree h i r l g = row_values c.l (outcome_at m c i) (get_or rows i []) (a.here i (omega arith) l) r g ∙ sym (matrix_value m c i r l)
