use Rattle.std.proofs.Common.{◌≡◌, length}
use Rattle.cells.specs.Cells.{in_part}
use Rattle.cells.specs.Chosen.{chosen}
use Rattle.cells.proofs.cells.Cell.count_of_part.Given as goal

abbrev pub invariant-loop-label : goal.invariant-loop-label
invariant-loop-label l = l.size ≡ length (chosen (in_part l.self.plain l.p) l.label-index)
