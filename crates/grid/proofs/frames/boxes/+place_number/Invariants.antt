use Rattle.std.proofs.Common.{length}
use Rattle.grid.proofs.frames.boxes.+place_number.Given as goal

abbrev pub decreases-place_number : goal.decreases-place_number
decreases-place_number l = length l.sides.now
