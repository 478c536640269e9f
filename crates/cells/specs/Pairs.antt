-- The pairs of a cell: a cofacet with one of its vertices left out.
use Rattle.std.specs.Prelude.{ℕ, ◌+◌, ◌*◌, ◌/◌, ◌%◌, if◌then◌else◌, length, Ok, Err, Result, nat_lt}
use Rattle.grid.specs.Refusals.{RefusalNumbers, refusal}
use Rattle.cells.specs.Splits.{splits}
use Rattle.cells.specs.declared.records.CellRecord.{CellRecord}

-- each cofacet has l + 2 vertices
abbrev pub pair_count : CellRecord → ℕ
pair_count r = length (splits r) * (r.l + 2)

-- cofacet c and vertex i make the pair c × (l + 2) + i
abbrev pub pair_answer : CellRecord → ℕ → Result (ℕ × ℕ) RefusalNumbers
pair_answer r n = if nat_lt n (pair_count r) then Ok (n / (r.l + 2), n % (r.l + 2)) else Err (refusal 3)
