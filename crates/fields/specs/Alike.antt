-- When two fields mean the same, and when they are alike.
use Rattle.std.specs.Prelude.{◌≡◌, ℕ, true, List, ℤ}
use Rattle.grid.specs.Boxes.{in_box}
use Rattle.fields.specs.Fields.{fault, Meaning, Outcome, sides_in, values}
use Rattle.fields.specs.Levels.{level_meaning}
use Rattle.fields.specs.Windows.{window_meaning}

-- all numbers agree, and so does each outcome in the box; what is said outside does not count
pub record SameMeaning (m n : Meaning) : Type 0 where
  pub frame : m.frame ≡ n.frame
  pub height : m.height ≡ n.height
  pub outcomes : (v : List ℤ) → in_box (sides_in m) v ≡ true → m.outcome v ≡ n.outcome v

-- the same values in both, or a fault in both
abbrev pub AlikeOutcomes : Outcome → Outcome → Type 0
AlikeOutcomes (values xs) (values ys) = xs ≡ ys
AlikeOutcomes (values xs) (fault g) = ⊥
AlikeOutcomes (fault f) (values ys) = ⊥
AlikeOutcomes (fault f) (fault g) = Unit {0}

-- d, k and sides agree, and outcomes in the box are alike; heights and faults may differ
pub record Alike (m n : Meaning) : Type 0 where
  pub frame : m.frame ≡ n.frame
  pub outcomes : (v : List ℤ) → in_box (sides_in m) v ≡ true → AlikeOutcomes (m.outcome v) (n.outcome v)

-- fields that mean the same are alike, and so are layers of one kind over alike fields
pub record AlikeLaws : Type 0 where
  pub same : (m n : Meaning) → SameMeaning m n → Alike m n
  pub levels : (m n : Meaning) (ls : List ℤ) → Alike m n → Alike (level_meaning m ls) (level_meaning n ls)
  pub windows : (m n : Meaning) (ss cs : List ℕ) → Alike m n → Alike (window_meaning m ss cs) (window_meaning n ss cs)
