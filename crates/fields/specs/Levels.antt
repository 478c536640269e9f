-- A level layer: it subtracts a level from each row of the field below.
use Rattle.std.specs.Prelude.{ℕ, ◌+◌, min, List, length, ℤ, pos, ◌-ℤ◌, slice_index_or}
use Rattle.grid.specs.Below.{table}
use Rattle.grid.specs.Boxes.{place_number}
use Rattle.fields.specs.Fields.{fault, fault_of, Meaning, or_fault, Outcome, sides_in, values}
use Rattle.fields.specs.Scale.{graded}

-- one more than the height below, but never above 255
abbrev pub height_over : ℕ → ℕ
height_over h = min 255 (h + 1)

abbrev pub less_levels : List ℤ → List ℤ → List ℤ
less_levels xs ls = table (length xs) (λ r. slice_index_or xs r (pos 0) -ℤ slice_index_or ls r (pos 0))

-- off scale at vertex number p if a row leaves the scale; a fault from below as it is
abbrev pub levelled : List ℤ → ℕ → ℕ → Outcome → Outcome
levelled ls p h (values xs) = or_fault (graded (less_levels xs ls)) (fault_of 3 p h)
levelled ls p h (fault f) = fault f

abbrev pub level_meaning : Meaning → List ℤ → Meaning
level_meaning m ls = record {
  frame = m.frame;
  height = height_over m.height;
  outcome = λ v. levelled ls (place_number (sides_in m) v) (height_over m.height) (m.outcome v);
}
