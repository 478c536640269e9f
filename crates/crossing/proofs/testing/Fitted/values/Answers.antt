use Rattle.std.proofs.Common.{◌<◌, arith}
use Rattle.std.proofs.lemmas.Result.{err_from_is_err_and}
use Rattle.grid.specs.Faults.{fault_numbers}
use Rattle.crossing.proofs.FirstFault.{rows_agree, rows_clear, rows_first}
use Rattle.crossing.proofs.Fitting.{rows_range}
use Rattle.crossing.proofs.testing.Fitted.values.Goals as goal

pub returns-in_err-row-clause-first : goal.returns-in_err-row-clause-first
returns-in_err-row-clause-first g c =
    let p = err_from_is_err_and c.from_residual.result c.from_residual.ensures.1 in
    rw (p.1, p.2) (rows_first c.loop-i.invariant (fault_numbers c.in_err-row.field-0.0) c.in_err-row.ensures.within c.in_err-row.ensures.fault)

pub returns : goal.returns
returns g c =
    let range = rows_range (g.F.Field.meaning c.args.self.now.field.now) c.args.self.now.cell.now.plain (g.F.Field.good c.args.self.now.field.now) c.args.self.now.fits in
    let all : c.args.self.now.cell.now.plain.l < c.loop-i.i = omega (arith, range.1) in
    record { rows = c.dimension.ensures.value; values = rows_agree c.loop-i.invariant all; none = rows_clear c.loop-i.invariant all; first = tt }
