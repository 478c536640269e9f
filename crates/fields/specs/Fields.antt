-- What a field means: its numbers, and an outcome for each vertex of its box.
use Rattle.std.specs.Prelude.{◌≡◌, ℕ, ◌≤◌, true, if◌then◌else◌, List, length, ℤ, Some, None, Ok, Err, Option, Result}
use Rattle.grid.specs.Boxes.{in_box}
use Rattle.grid.specs.Faults.{FaultNumbers, fault_numbers}
use Rattle.grid.specs.Frames.{FrameNumbers, is_frame}
use Rattle.grid.specs.declared.faults.Fault.{Fault}
use Rattle.fields.specs.Scale.{all_on_scale}
use Rattle.fields.specs.Values.{rows_of}
use Rattle.fields.specs.declared.values.Values.{Values}

pub data Outcome : Type 0 where
  values : List ℤ → Outcome
  fault : FaultNumbers → Outcome

pub record Meaning : Type 0 where
  pub frame : FrameNumbers
  pub height : ℕ
  pub outcome : List ℤ → Outcome

abbrev pub sides_in : Meaning → List ℕ
sides_in m = m.frame.sides

-- a fault in numbers: outside is cause 1, blank 2, off scale 3
abbrev pub fault_of : ℕ → ℕ → ℕ → FaultNumbers
fault_of c p h = record { cause = c; place = p; height = h }

-- what a field answers at any vertex: outside its box the fault outside, place 0, with its own height
abbrev pub answer : Meaning → List ℤ → Outcome
answer m v = if in_box (sides_in m) v then m.outcome v else fault (fault_of 1 0 m.height)

-- an answer of the code as an outcome
abbrev pub told : Result Values Fault → Outcome
told (Ok v) = values (rows_of v)
told (Err f) = fault (fault_numbers f)

-- values, or a fault in their place
abbrev pub or_fault : Option (List ℤ) → FaultNumbers → Outcome
or_fault (Some xs) f = values xs
or_fault None f = fault f

-- k values on the scale, or a fault with one of the three causes
abbrev pub Sound : ℕ → Outcome → Type 0
Sound k (values xs) = (length xs ≡ k) × (all_on_scale xs ≡ true)
Sound k (fault f) = (1 ≤ f.cause) × (f.cause ≤ 3)

-- what every implementation owes: the numbers of its meaning are in their ranges
pub record Good (m : Meaning) : Type 0 where
  pub framed : is_frame m.frame.d m.frame.k m.frame.sides ≡ true
  pub high : m.height ≤ 255
  pub sound : (v : List ℤ) → in_box (sides_in m) v ≡ true → Sound m.frame.k (m.outcome v)
