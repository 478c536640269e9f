use Rattle.std.proofs.Common.{sym, ◌∙◌}
use Rattle.grid.specs.Refusals.{refusal_numbers}
use Rattle.tracing.specs.Steps.{run}
use Rattle.tracing.specs.Traces.{trace_numbers}
use Rattle.tracing.proofs.Looping.{ends_finished, ends_refused, goes_on}
use Rattle.tracing.proofs.traces.Trace.go_on.Goals as goal

pub returns-then-is_finished : goal.returns-then-is_finished
returns-then-is_finished g c =
    let m = g.F.Field.meaning c.args.field.now in
    let whole = run m c.args.budget (trace_numbers c.args.self.now) c.args.list.now in
    ends_finished m c.args.budget c.loop-taken.taken (trace_numbers c.loop-taken.self) c.loop-taken.list whole c.loop-taken.invariant.0 (sym c.is_finished.ensures.is ∙ c.if-is_finished.true)

pub returns-in-Err : goal.returns-in-Err
returns-in-Err g c =
    let m = g.F.Field.meaning c.args.field.now in
    let whole = run m c.args.budget (trace_numbers c.args.self.now) c.args.list.now in
    let told = c.in-Err.ensures in
    ends_refused m c.args.budget c.loop-taken.taken (trace_numbers c.loop-taken.self) c.loop-taken.list whole c.loop-taken.invariant.0 c.loop-taken-test.true (sym c.is_finished.ensures.is ∙ c.if-is_finished.false) (refusal_numbers c.in-Err.refusal) (trace_numbers c.treat.new.self) c.treat.new.list told.turn told.unchanged.0 told.unchanged.1

pub loop-taken-preserved : goal.loop-taken-preserved
loop-taken-preserved g c =
    let m = g.F.Field.meaning c.args.field.now in
    let whole = run m c.args.budget (trace_numbers c.args.self.now) c.args.list.now in
    let told = c.in_default.ensures in
    (goes_on m c.args.budget c.loop-taken.taken (trace_numbers c.loop-taken.self) c.loop-taken.list whole c.loop-taken.invariant.0 c.loop-taken-test.true (sym c.is_finished.ensures.is ∙ c.if-is_finished.false) (trace_numbers c.treat.new.self) c.treat.new.list told.turn, told.room)
