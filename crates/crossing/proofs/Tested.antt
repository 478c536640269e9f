-- The test answers a class exactly for the cells that have it over the field, and over alike fields a cell has the same class.
use Rattle.std.proofs.Common.{◌≡◌, ℕ, ◌+◌, ◌≤◌, Bool, true, false, cond, ◌↔◌, [], Some, None, Ok, Err, Option, Result, sym, refl, ap, ◌∙◌, subst, arith}
use Rattle.std.proofs.lemmas.Bool.{cond-true}
use Rattle.grid.specs.Faults.{FaultNumbers}
use Rattle.grid.specs.Frames.{FrameNumbers}
use Rattle.grid.specs.Refusals.{refusal}
use Rattle.grid.proofs.Below.{same_table}
use Rattle.cells.specs.declared.records.CellRecord.{CellRecord}
use Rattle.fields.specs.Alike.{Alike, AlikeOutcomes}
use Rattle.fields.specs.Fields.{fault, Good, Meaning, Outcome, values}
use Rattle.crossing.specs.Boxes.{fits_frame}
use Rattle.crossing.specs.Crossing.{ClassOver, faulty, first_fault, HasValues, matrix_over, outcome_at, rows_in, test_answer, unless_fault}
use Rattle.crossing.specs.Determinants.{class_of}
use Rattle.crossing.specs.Weights.{Given, IsClass}
use Rattle.crossing.specs.declared.classes.Class.{Class}
use Rattle.crossing.proofs.FirstFault.{all_present, no_fault}
use Rattle.crossing.proofs.Fitting.{fits_parts, rows_range}
use Rattle.crossing.proofs.Giving.{given}

not_both : {X Y : Type 0} (y : Y) (x : X) → ◌≡◌ {A = Result X Y} (Err y) (Ok x) → ⊥
not_both y x h = let z : ◌≡◌ {A = ℕ} 0 1 = cc in omega arith

module _ (m : Meaning) (r : CellRecord) (c : Class) where
  -- what an answer says: the cell fits, there is no fault, and the class is the one that is computed
  answer_parts : test_answer m r ≡ Ok c → (fits_frame m.frame r ≡ true) × (first_fault m r (r.l + 1) ≡ None) × (class_of r.l (matrix_over m r) ≡ c)
  answer_parts e = fit (fits_frame m.frame r) (first_fault m r (r.l + 1)) e
    where
      fit : (b : Bool) (f : Option FaultNumbers) → cond b (unless_fault f (class_of r.l (matrix_over m r))) (Err (refusal 8)) ≡ Ok c → (b ≡ true) × (f ≡ None) × (class_of r.l (matrix_over m r) ≡ c)
      fit true None e = (refl, refl, (cc))
      fit true (Some f) e = absurd (not_both (faulty f) c e)
      fit false f e = absurd (not_both (refusal 8) c e)

  pub tested : Good m → (test_answer m r ≡ Ok c) ↔ ClassOver c m r
  tested g = (has, told)
    where
      computed : fits_frame m.frame r ≡ true → Given r.l (matrix_over m r) (class_of r.l (matrix_over m r))
      computed f = let range = rows_range m r g f in given r.l (matrix_over m r) range.0 range.1

      has : test_answer m r ≡ Ok c → ClassOver c m r
      has e =
          let p = answer_parts e in
          record {
            fits = p.0;
            present = λ i h. all_present m r (r.l + 1) p.1 i (omega arith);
            makes = subst (λ (x : Class). IsClass x r.l (matrix_over m r)) p.2 (computed p.0).is;
          }

      told : ClassOver c m r → test_answer m r ≡ Ok c
      told o =
          let n = no_fault m r (r.l + 1) (λ i h. o.present i (omega arith)) in
          cond-true _ _ _ o.fits ∙ ap (λ (f : Option FaultNumbers). unless_fault f (class_of r.l (matrix_over m r))) n ∙ ap Ok (sym ((computed o.fits).only c o.makes))

alike_present : (o u : Outcome) → AlikeOutcomes o u → HasValues o → HasValues u
alike_present (values xs) (values ys) e h = tt
alike_present (values xs) (fault g) e h = absurd e
alike_present (fault f) u e h = absurd h

alike_rows : (o u : Outcome) → AlikeOutcomes o u → rows_in o ≡ rows_in u
alike_rows (values xs) (values ys) e = e
alike_rows (values xs) (fault g) e = absurd e
alike_rows (fault f) (values ys) e = absurd e
alike_rows (fault f) (fault g) e = refl

pub class_alike : (m n : Meaning) (r : CellRecord) (c : Class) → Alike m n → ClassOver c m r → ClassOver c n r
class_alike m n r c a o =
    record {
      fits = subst (λ (f : FrameNumbers). fits_frame f r ≡ true) a.frame o.fits;
      present = λ i h. alike_present (outcome_at m r i) (outcome_at n r i) (at i h) (o.present i h);
      makes = subst (IsClass c r.l) same o.makes;
    }
  where
    at : (i : ℕ) → i ≤ r.l → AlikeOutcomes (outcome_at m r i) (outcome_at n r i)
    at i h = a.outcomes _ ((fits_parts m.frame r o.fits).inside i h)

    same : matrix_over m r ≡ matrix_over n r
    same = same_table (r.l + 1) _ _ [] (λ i h. alike_rows (outcome_at m r i) (outcome_at n r i) (at i (omega arith)))
