use Rattle.cells.specs.Cells.{in_part}
use Rattle.cells.proofs.Spreading.{Spreads}
use Rattle.cells.proofs.cells.Cell.spread_over.Given as goal

abbrev pub invariant-loop-label : goal.invariant-loop-label
invariant-loop-label l = Spreads (in_part l.self.plain l.p) l.n l.label-index l.rest l.bit l.code
