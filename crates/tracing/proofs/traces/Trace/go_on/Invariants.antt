use Rattle.std.proofs.Common.{◌≡◌, ◌-◌, ◌≤◌, length}
use Rattle.tracing.specs.Steps.{run}
use Rattle.tracing.specs.Traces.{trace_numbers}
use Rattle.tracing.proofs.Looping.{plus}
use Rattle.tracing.proofs.traces.Trace.go_on.Given as goal

-- the pairs treated so far, and what a run from here would add, are the whole run
abbrev pub invariant-loop-taken : goal.invariant-loop-taken
invariant-loop-taken g l =
    (plus l.taken (run (g.F.Field.meaning l.field) (l.budget - l.taken) (trace_numbers l.self) l.list) ≡ run (g.F.Field.meaning l.field) l.budget (trace_numbers l.initial.self) l.initial.list) × (l.self.count ≤ length l.list)
