use Rattle.crossing.proofs.FirstFault.{RowsIn}
use Rattle.crossing.proofs.testing.Fitted.values.Given as goal

abbrev pub invariant-loop-i : goal.invariant-loop-i
invariant-loop-i g l = RowsIn (g.F.Field.meaning l.self.field.now) l.self.cell.now.plain l.row-items l.i
