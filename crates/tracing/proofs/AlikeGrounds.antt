-- Alike fields have the same ground, and so have fields that mean the same.
use Rattle.std.proofs.Common.{◌≡◌, true, sym, subst}
use Rattle.std.specs.Cmp.{both_ways}
use Rattle.grid.specs.Boxes.{in_box}
use Rattle.grid.specs.Frames.{FrameNumbers, is_frame}
use Rattle.cells.specs.Pairs.{pair_count}
use Rattle.cells.specs.declared.records.CellRecord.{CellRecord}
use Rattle.fields.specs.Alike.{Alike, AlikeOutcomes, SameMeaning}
use Rattle.fields.specs.Fields.{fault, Good, Meaning, Outcome, Sound, values}
use Rattle.fields.proofs.AlikeLayers.{alike_laws}
use Rattle.crossing.specs.declared.classes.Class.TheVariants.{Crossed}
use Rattle.crossing.proofs.Tested.{class_alike}
use Rattle.tracing.specs.Steps.{leads_to}
use Rattle.tracing.proofs.Grounded.{crossed_is, ground_of}

outcomes_back : (o u : Outcome) → AlikeOutcomes o u → AlikeOutcomes u o
outcomes_back (values xs) (values ys) e = sym e
outcomes_back (values xs) (fault g) e = e
outcomes_back (fault f) (values ys) e = e
outcomes_back (fault f) (fault g) e = e

alike_back : (m n : Meaning) → Alike m n → Alike n m
alike_back m n a = record { frame = sym a.frame; outcomes = λ v h. outcomes_back (m.outcome v) (n.outcome v) (a.outcomes v (subst (λ (f : FrameNumbers). in_box f.sides v ≡ true) (sym a.frame) h)) }

pub alike_ground : (m n : Meaning) → Good m → Good n → Alike m n → ground_of m ≡ ground_of n
alike_ground m n p q a = λ i. record { pairs = pair_count; leads = leads_to (a.frame i).sides; crossed = λ c. same c i }
  where
    same : (c : CellRecord) → (ground_of m).crossed c ≡ (ground_of n).crossed c
    same c = both_ways _ _ (λ e. (crossed_is n q c).1 (class_alike m n c Crossed a ((crossed_is m p c).0 e))) (λ e. (crossed_is m p c).1 (class_alike n m c Crossed (alike_back m n a) ((crossed_is n q c).0 e)))

same_good : (m n : Meaning) → SameMeaning m n → Good m → Good n
same_good m n s g = record {
  framed = subst (λ (f : FrameNumbers). is_frame f.d f.k f.sides ≡ true) s.frame g.framed;
  high = rw s.height at g.high;
  sound = λ v h. let i = subst (λ (f : FrameNumbers). in_box f.sides v ≡ true) (sym s.frame) h in subst (λ (f : FrameNumbers). Sound f.k (n.outcome v)) s.frame (subst (Sound m.frame.k) (s.outcomes v i) (g.sound v i));
}

pub same_ground : (m n : Meaning) → Good m → SameMeaning m n → ground_of m ≡ ground_of n
same_ground m n g s = alike_ground m n g (same_good m n s g) (alike_laws.same m n s)
