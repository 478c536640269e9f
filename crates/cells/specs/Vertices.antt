-- The vertices of a cell: from the base, the steps of one part after another.
use Rattle.std.specs.Prelude.{ℕ, zero, suc, ◌+◌, if◌then◌else◌, List, ℤ, pos, negsuc, ◌+ℤ◌, Some, None, Option, ◌==◌, nat_le, nat_lt}
use Rattle.grid.specs.Below.{table}
use Rattle.cells.specs.Records.{base_at, label}
use Rattle.grid.specs.Sums.{sum_below}
use Rattle.cells.specs.declared.records.CellRecord.{CellRecord}

-- how far the number at place j steps along axis a: 1 along its own axis, and the last number, d + 1, -1 along all axes
abbrev pub number_step : ℕ → ℕ → ℕ → ℤ
number_step d j a = if j == d then negsuc 0 else pos (if j == a then 1 else 0)

-- the step of the number at place j if it is in part p
abbrev pub step_in : CellRecord → ℕ → ℕ → ℕ → ℤ
step_in r p a j = if label r j == p then number_step r.d j a else pos 0

-- the steps of all numbers in part p together
abbrev pub part_step : CellRecord → ℕ → ℕ → ℤ
part_step r p a = sum_below (step_in r p a) (r.d + 1)

-- coordinate a of vertex i: vertex 0 is the base, and vertex i is vertex i - 1 plus the steps of part i
abbrev pub coordinate : CellRecord → ℕ → ℕ → ℤ
coordinate r zero a = base_at r a
coordinate r (suc i) a = coordinate r i a +ℤ part_step r (suc i) a

abbrev pub vertex_of : CellRecord → ℕ → List ℤ
vertex_of r i = table r.d (coordinate r i)

-- the same with 0 past the axes, as a record holds it
abbrev pub padded_coordinate : CellRecord → ℕ → ℕ → ℤ
padded_coordinate r i a = if nat_lt a r.d then coordinate r i a else pos 0

abbrev pub vertices_of : CellRecord → List (List ℤ)
vertices_of r = table (r.l + 1) (vertex_of r)

-- there is no vertex above l
abbrev pub vertex_answer : CellRecord → ℕ → Option (List ℤ)
vertex_answer r i = if nat_le i r.l then Some (vertex_of r i) else None
