-- A record is its four parts.
use Rattle.std.proofs.Common.{◌≡◌, Bool, false, ◌&&◌, ◌∙◌, Decides, eqb, ap, refl, sym}
use Rattle.std.specs.Ordering.{int_eq}
use Rattle.std.specs.Prelude.{nat_eq, IsTrue, ◌↔◌}
use Rattle.std.specs.Cmp.Lexicographic.{pointwise}
use Rattle.std.proofs.lemmas.Slice.Eq.{slice_eq-Decides}
use Rattle.std.proofs.lemmas.Bool.{and_from, and_parts, false≢true}
use Rattle.std.proofs.lemmas.Bool.Decides.{Decides-eqb, Decides-int_eq}
use Rattle.cells.specs.Records.{RecordEqExact}
use Rattle.cells.specs.declared.records.CellRecord.{CellRecord}

pub same_record_lem : (r s : CellRecord) → r.d ≡ s.d → r.l ≡ s.l → r.base ≡ s.base → r.labels ≡ s.labels → r ≡ s
same_record_lem r s d l b x = λ i. record { d = d i; l = l i; base = b i; labels = x i }

-- the test for equality says yes exactly for equal records
pub record_eq_exact : RecordEqExact
record_eq_exact r s =
    let d : Decides (eqb r.d s.d) (r.d ≡ s.d) = Decides-eqb r.d s.d in
    let l : Decides (eqb r.l s.l) (r.l ≡ s.l) = Decides-eqb r.l s.l in
    let base : Decides (pointwise int_eq r.base s.base) (r.base ≡ s.base) = slice_eq-Decides Decides-int_eq r.base s.base (pointwise int_eq r.base s.base) refl in
    let labels : Decides (pointwise nat_eq r.labels s.labels) (r.labels ≡ s.labels) = slice_eq-Decides Decides-eqb r.labels s.labels (pointwise nat_eq r.labels s.labels) refl in (
      λ h.
          let one = and_parts (eqb r.d s.d) (eqb r.l s.l && (pointwise int_eq r.base s.base && pointwise nat_eq r.labels s.labels)) h in
          let two = and_parts (eqb r.l s.l) (pointwise int_eq r.base s.base && pointwise nat_eq r.labels s.labels) one.1 in
          let three = and_parts (pointwise int_eq r.base s.base) (pointwise nat_eq r.labels s.labels) two.1 in
          same_record_lem r s (d.0 one.0) (l.0 two.0) (base.0 three.0) (labels.0 three.1),
      λ e. and_from (eqb r.d s.d) (eqb r.l s.l && (pointwise int_eq r.base s.base && pointwise nat_eq r.labels s.labels)) (d.1 (ap (λ (r : CellRecord). r.d) e)) (and_from (eqb r.l s.l) (pointwise int_eq r.base s.base && pointwise nat_eq r.labels s.labels) (l.1 (ap (λ (r : CellRecord). r.l) e)) (and_from (pointwise int_eq r.base s.base) (pointwise nat_eq r.labels s.labels) (base.1 (ap (λ (r : CellRecord). r.base) e)) (labels.1 (ap (λ (r : CellRecord). r.labels) e)))),
    )

-- where all but the labels agree, the test of the labels is exact
pub told_by_labels : (r s : CellRecord) (b : Bool) → r.d ≡ s.d → r.l ≡ s.l → IsTrue (pointwise int_eq r.base s.base) → b ≡ pointwise nat_eq r.labels s.labels → IsTrue b ↔ (r ≡ s)
told_by_labels r s b d l h e =
    let base : Decides (pointwise int_eq r.base s.base) (r.base ≡ s.base) = slice_eq-Decides Decides-int_eq r.base s.base (pointwise int_eq r.base s.base) refl in
    let labels : Decides (pointwise nat_eq r.labels s.labels) (r.labels ≡ s.labels) = slice_eq-Decides Decides-eqb r.labels s.labels (pointwise nat_eq r.labels s.labels) refl in
    rw e ((λ g. same_record_lem r s d l (base.0 h) (labels.0 g)), (λ g. labels.1 (ap (λ (x : CellRecord). x.labels) g)))

-- where the bases differ, no is exact
pub told_by_base : (r s : CellRecord) (b : Bool) → b ≡ false → pointwise int_eq r.base s.base ≡ false → IsTrue b ↔ (r ≡ s)
told_by_base r s b e h =
    let base : Decides (pointwise int_eq r.base s.base) (r.base ≡ s.base) = slice_eq-Decides Decides-int_eq r.base s.base (pointwise int_eq r.base s.base) refl in
    ((λ g. absurd (false≢true (sym e ∙ g))), (λ g. absurd (false≢true (sym h ∙ base.1 (ap (λ (x : CellRecord). x.base) g)))))
