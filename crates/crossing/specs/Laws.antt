-- What holds of classes, of matrices and of cells over fields.
use Rattle.std.specs.Prelude.{◌≡◌, ℕ, ◌≤◌, ◌↔◌, Ok}
use Rattle.cells.specs.declared.records.CellRecord.{CellRecord}
use Rattle.fields.specs.Alike.{Alike}
use Rattle.fields.specs.Fields.{Good, Meaning}
use Rattle.crossing.specs.Cases.{WorkedCases}
use Rattle.crossing.specs.Crossing.{ClassOver, test_answer}
use Rattle.crossing.specs.Determinants.{class_of}
use Rattle.crossing.specs.Weights.{Given, Matrix}
use Rattle.crossing.specs.declared.classes.Class.{Class}

pub record ClassLaws : Type 0 where
  -- the weights of every matrix give exactly one class, and it is the one that is computed
  pub given : (k : ℕ) (v : Matrix) → 1 ≤ k → k ≤ 3 → Given k v (class_of k v)
  -- the test answers a class exactly for the cells that have it over the field
  pub tested : (m : Meaning) (r : CellRecord) (c : Class) → Good m → (test_answer m r ≡ Ok c) ↔ ClassOver c m r
  -- over alike fields a cell has the same class
  pub alike : (m n : Meaning) (r : CellRecord) (c : Class) → Alike m n → ClassOver c m r → ClassOver c n r
  pub cases : WorkedCases
