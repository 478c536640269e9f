-- The facets of a cell: facet i is the cell without vertex i.
use Rattle.std.specs.Prelude.{ℕ, ◌-◌, if◌then◌else◌, ◌&&◌, ℤ, Ok, Err, Result, ◌==◌, nat_le}
use Rattle.grid.specs.Below.{table}
use Rattle.grid.specs.Refusals.{RefusalNumbers, refusal}
use Rattle.cells.specs.Records.{label}
use Rattle.cells.specs.Vertices.{padded_coordinate}
use Rattle.cells.specs.declared.records.CellRecord.{CellRecord}

-- parts i and i + 1 are united
abbrev pub united : ℕ → ℕ → ℕ
united i x = if nat_le x i then x else x - 1

-- part 1 joins the last part, whose number is then l
abbrev pub joined_last : ℕ → ℕ → ℕ
joined_last l x = if x == 1 then l else x - 1

-- where the numbers of part x are in facet i of a cell of dimension l
abbrev pub facet_part : ℕ → ℕ → ℕ → ℕ
facet_part l i x = if i == 0 then joined_last l x else united i x

abbrev pub facet_label : CellRecord → ℕ → ℕ → ℕ
facet_label r i j = facet_part r.l i (label r j)

-- the base is vertex 1 if vertex 0 is left out, and else vertex 0
abbrev pub facet_base : CellRecord → ℕ → ℕ → ℤ
facet_base r i = padded_coordinate r (if i == 0 then 1 else 0)

abbrev pub facet_of : CellRecord → ℕ → CellRecord
facet_of r i = record { d = r.d; l = r.l - 1; base = table 6 (facet_base r i); labels = table 7 (facet_label r i) }

-- refusal 3 where there is no facet of that number
abbrev pub facet_answer : CellRecord → ℕ → Result CellRecord RefusalNumbers
facet_answer r i = if nat_le 1 r.l && nat_le i r.l then Ok (facet_of r i) else Err (refusal 3)
