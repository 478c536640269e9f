-- Layers keep alikeness.
use Rattle.std.proofs.Common.{◌≡◌, ℕ, Bool, true, false, cond, List, ℤ, Some, None, refl, ap, subst}
use Rattle.std.proofs.lemmas.Bool.{both_ways}
use Rattle.grid.specs.Boxes.{in_box}
use Rattle.grid.specs.Faults.{FaultNumbers}
use Rattle.grid.specs.Frames.{fitted_sides}
use Rattle.fields.specs.Alike.{Alike, AlikeLaws, AlikeOutcomes, SameMeaning}
use Rattle.fields.specs.Fields.{answer, fault, fault_of, Meaning, or_fault, Outcome, sides_in, values}
use Rattle.fields.specs.Levels.{less_levels, levelled, level_meaning}
use Rattle.fields.specs.Scale.{all_on_scale, graded}
use Rattle.fields.specs.Windows.{plus_corner, window_meaning}

alike_itself : (o : Outcome) → AlikeOutcomes o o
alike_itself (values xs) = refl
alike_itself (fault f) = tt

same_alike : (m n : Meaning) → SameMeaning m n → Alike m n
same_alike m n s = record { frame = s.frame; outcomes = λ v i. subst (AlikeOutcomes (m.outcome v)) (s.outcomes v i) (alike_itself (m.outcome v)) }

graded_alike : (xs : List ℤ) (f g : FaultNumbers) → AlikeOutcomes (or_fault (graded xs) f) (or_fault (graded xs) g)
graded_alike xs f g = go (all_on_scale xs)
  where
    go : (b : Bool) → AlikeOutcomes (or_fault (cond b (Some xs) None) f) (or_fault (cond b (Some xs) None) g)
    go true = refl
    go false = tt

levelled_alike : (ls : List ℤ) (p h q g : ℕ) (o u : Outcome) → AlikeOutcomes o u → AlikeOutcomes (levelled ls p h o) (levelled ls q g u)
levelled_alike ls p h q g (values xs) (values ys) e = subst (λ zs. AlikeOutcomes (or_fault (graded (less_levels xs ls)) (fault_of 3 p h)) (or_fault (graded (less_levels zs ls)) (fault_of 3 q g))) e (graded_alike (less_levels xs ls) (fault_of 3 p h) (fault_of 3 q g))
levelled_alike ls p h q g (values xs) (fault f) e = absurd e
levelled_alike ls p h q g (fault f) (values ys) e = absurd e
levelled_alike ls p h q g (fault e) (fault f) _ = tt

levels_alike : (m n : Meaning) (ls : List ℤ) → Alike m n → Alike (level_meaning m ls) (level_meaning n ls)
levels_alike m n ls a = record { frame = a.frame; outcomes = λ v i. levelled_alike ls _ _ _ _ (m.outcome v) (n.outcome v) (a.outcomes v i) }

answers_alike : (m n : Meaning) → Alike m n → (v : List ℤ) → AlikeOutcomes (answer m v) (answer n v)
answers_alike m n a v = go (in_box (sides_in m) v) (in_box (sides_in n) v) refl (ap (λ f. in_box f.sides v) a.frame)
  where
    go : (b c : Bool) → in_box (sides_in m) v ≡ b → b ≡ c → AlikeOutcomes (cond b (m.outcome v) (fault (fault_of 1 0 m.height))) (cond c (n.outcome v) (fault (fault_of 1 0 n.height)))
    go true true e q = a.outcomes v e
    go true false e q = absurd (both_ways _ q refl)
    go false true e q = absurd (both_ways _ refl q)
    go false false e q = tt

windows_alike : (m n : Meaning) (ss cs : List ℕ) → Alike m n → Alike (window_meaning m ss cs) (window_meaning n ss cs)
windows_alike m n ss cs a = record {
  frame = ap (λ f. record { d = f.d; k = f.k; sides = fitted_sides f.d ss }) a.frame;
  outcomes = λ v i. answers_alike m n a (plus_corner v cs);
}

pub alike_laws : AlikeLaws
alike_laws = record { same = same_alike; levels = levels_alike; windows = windows_alike }
