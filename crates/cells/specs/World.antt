-- The world: every coordinate of every vertex of a cell lies in it.
use Rattle.std.specs.Prelude.{Bool, ◌&&◌, ℤ, pos, negsuc, int_le}

-- -10,000
abbrev pub world_low : ℤ
world_low = negsuc 9999

abbrev pub world_high : ℤ
world_high = pos 10000

abbrev pub in_world : ℤ → Bool
in_world x = int_le world_low x && int_le x world_high
