-- The values of a field at a vertex, row by row.
use Rattle.std.specs.Prelude.{if◌then◌else◌, ◌&&◌, List, length, take, ℤ, None, Option, nat_le}
use Rattle.fields.specs.Scale.{graded}
use Rattle.fields.specs.declared.values.Values.{Values}

abbrev pub rows_of : Values → List ℤ
rows_of v = take v.k v.rows

-- 1 to 3 numbers, each on the scale
abbrev pub values_answer : List ℤ → Option (List ℤ)
values_answer xs = if nat_le 1 (length xs) && nat_le (length xs) 3 then graded xs else None
