-- The scale: the values of a field are -32,767 to 32,767.
use Rattle.std.specs.Prelude.{ℕ, Bool, if◌then◌else◌, ◌&&◌, List, length, ℤ, pos, negsuc, Some, None, Option, int_le, slice_index_or}
use Rattle.grid.specs.Below.{all_below}

abbrev pub on_scale : ℤ → Bool
on_scale x = int_le (negsuc 32766) x && int_le x (pos 32767)

abbrev pub row_ok : List ℤ → ℕ → Bool
row_ok xs r = on_scale (slice_index_or xs r (pos 0))

abbrev pub all_on_scale : List ℤ → Bool
all_on_scale xs = all_below (row_ok xs) (length xs)

-- numbers are values if each is on the scale
abbrev pub graded : List ℤ → Option (List ℤ)
graded xs = if all_on_scale xs then Some xs else None
