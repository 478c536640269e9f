-- The ways to split a part in two, A and then B, neither empty.
use Rattle.std.specs.Prelude.{ℕ, zero, suc, ◌+◌, ◌/◌, ◌%◌, ◌^◌, Bool, not, ◌&&◌, ◌||◌, List, [], ◌++◌, map, length, ◌==◌, slice_index_or}
use Rattle.grid.specs.Below.{all_below, some_below}
use Rattle.cells.specs.Cells.{in_part}
use Rattle.cells.specs.Chosen.{chosen}
use Rattle.cells.specs.declared.records.CellRecord.{CellRecord}
use Rattle.cells.specs.declared.splits.Split.{Split}

-- the set with this code, the sum of 2 ^ j over its places j, has place j
unfoldable pub holds : ℕ → ℕ → Bool
holds code j = code / 2 ^ j % 2 == 1

-- at place j: A keeps to part p; a number of A; a number of B, the rest of part p
abbrev pub keeps_to : CellRecord → ℕ → ℕ → ℕ → Bool
keeps_to r p a j = not (holds a j) || in_part r p j

abbrev pub in_a : CellRecord → ℕ → ℕ → ℕ → Bool
in_a r p a j = in_part r p j && holds a j

abbrev pub in_b : CellRecord → ℕ → ℕ → ℕ → Bool
in_b r p a j = in_part r p j && not (holds a j)

unfoldable pub is_split : CellRecord → ℕ → ℕ → Bool
is_split r p a = all_below (keeps_to r p a) 7 && some_below (in_a r p a) 7 && some_below (in_b r p a) 7

abbrev pub split_by : ℕ → ℕ → Split
split_by p a = record { part = p; code = a }

-- the splits of part p, by the code of A
abbrev pub splits_of : CellRecord → ℕ → List Split
splits_of r p = map (split_by p) (chosen (is_split r p) 128)

-- the splits of the parts 1 to n, part by part
unfoldable pub splits_to : CellRecord → ℕ → List Split
splits_to r zero = []
splits_to r (suc n) = splits_to r n ++ splits_of r (suc n)

abbrev pub splits : CellRecord → List Split
splits r = splits_to r (r.l + 1)

abbrev pub no_split : Split
no_split = record { part = 0; code = 0 }

abbrev pub split_at : CellRecord → ℕ → Split
split_at r c = slice_index_or (splits r) c no_split

-- how many numbers part p has
abbrev pub part_size : CellRecord → ℕ → ℕ
part_size r p = length (chosen (in_part r p) 7)

-- f 1 + .. + f n
abbrev pub over_parts : (ℕ → ℕ) → ℕ → ℕ
over_parts f zero = 0
over_parts f (suc n) = over_parts f n + f (suc n)
