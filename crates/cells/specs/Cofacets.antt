-- The cofacets of a cell, one for each split.
use Rattle.std.specs.Prelude.{ℕ, ◌+◌, Bool, if◌then◌else◌, not, ◌&&◌, ◌||◌, length, ℤ, pos, ◌-ℤ◌, Ok, Err, Result, ◌==◌, nat_lt}
use Rattle.grid.specs.Below.{table}
use Rattle.grid.specs.Refusals.{RefusalNumbers, refusal}
use Rattle.cells.specs.Cells.{all_in_world}
use Rattle.cells.specs.Records.{base_at, label}
use Rattle.cells.specs.Splits.{holds, in_b, split_at, splits}
use Rattle.cells.specs.declared.records.CellRecord.{CellRecord}

-- the new part of a number of part x, which is in A or not: A stays part p, and B and all that follows go up by one
abbrev pub split_part : ℕ → Bool → ℕ → ℕ
split_part p is_a x = if nat_lt x p || (x == p && is_a) then x else x + 1

-- the same where A has the number d + 1: B becomes part 1, and the others follow with A last
abbrev pub turned_part : ℕ → Bool → ℕ → ℕ
turned_part p is_a x = if x == 0 then 0 else if x == p && not is_a then 1 else x + 1

-- A has the number d + 1
abbrev pub turns : CellRecord → ℕ → Bool
turns r a = holds a r.d

abbrev pub cofacet_label : CellRecord → ℕ → ℕ → ℕ → ℕ
cofacet_label r p a j = if turns r a then turned_part p (holds a j) (label r j) else split_part p (holds a j) (label r j)

-- then the base goes down by one along each axis of B
abbrev pub cofacet_base : CellRecord → ℕ → ℕ → ℕ → ℤ
cofacet_base r p a j = base_at r j -ℤ pos (if turns r a && in_b r p a j then 1 else 0)

abbrev pub cofacet_by : CellRecord → ℕ → ℕ → CellRecord
cofacet_by r p a = record { d = r.d; l = r.l + 1; base = table 6 (cofacet_base r p a); labels = table 7 (cofacet_label r p a) }

abbrev pub cofacet_of : CellRecord → ℕ → CellRecord
cofacet_of r c = cofacet_by r (split_at r c).part (split_at r c).code

-- refusal 3 where there is no cofacet of that number, then 4 where a vertex of it leaves the world
abbrev pub cofacet_answer : CellRecord → ℕ → Result CellRecord RefusalNumbers
cofacet_answer r c = if nat_lt c (length (splits r)) then (if all_in_world (cofacet_of r c) then Ok (cofacet_of r c) else Err (refusal 4)) else Err (refusal 3)
