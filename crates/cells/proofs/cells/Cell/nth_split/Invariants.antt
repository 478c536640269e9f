use Rattle.std.proofs.Common.{◌≡◌, ◌+◌, ◌-◌, length}
use Rattle.cells.specs.Splits.{splits_to}
use Rattle.cells.proofs.cells.Cell.nth_split.Given as goal

abbrev pub invariant-loop-p : goal.invariant-loop-p
invariant-loop-p l = length (splits_to l.self.plain (l.p - 1)) + l.left ≡ l.c
