use Rattle.std.proofs.Common.{Some, arith}
use Rattle.std.proofs.lemmas.Result.{err_from_is_err_and}
use Rattle.grid.specs.Frames.{frame_numbers}
use Rattle.grid.specs.Refusals.{refusal_numbers}
use Rattle.tracing.specs.Steps.{stopped}
use Rattle.tracing.specs.Traces.{trace_numbers}
use Rattle.tracing.proofs.Treated.{pairs_few, treated}
use Rattle.tracing.proofs.traces.Trace.treat.Goals as goal

pub returns-in_err-take_up : goal.returns-in_err-take_up
returns-in_err-take_up g c =
    let m = g.F.Field.meaning c.args.field.now in
    let told = c.in_err-take_up.ensures in
    let turn = treated m (trace_numbers c.args.self.now) c.args.list.now c.in_ok-cell.cell.plain (frame_numbers c.frame-frame.result) c.frame-frame.ensures c.in_ok-cell.ensures (Some c.in-Some.facet.plain) c.in-Some.ensures (stopped (refusal_numbers c.in_err-take_up.field-0.0)) told.turn in
    let p = err_from_is_err_and c.from_residual-in_err-take_up.result c.from_residual-in_err-take_up.ensures.1 in
    rw (p.1, p.2) (record { turn = turn; unchanged = told.unchanged; room = told.kept.room })

pub advance-requires-clause-pairs_few : goal.advance-requires-clause-pairs_few
advance-requires-clause-pairs_few g c =
    let cell = c.in_ok-cell.cell in
    let few = pairs_few cell.plain cell.ok in
    let n = c.pairs.ensures in
    omega arith
