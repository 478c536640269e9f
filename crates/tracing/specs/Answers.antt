-- What the code answers, in plain values.
use Rattle.std.specs.Prelude.{List, Ok, Err, Result}
use Rattle.grid.specs.Refusals.{refusal_numbers}
use Rattle.grid.specs.declared.refusals.Refusal.{Refusal}
use Rattle.cells.specs.declared.records.CellRecord.{CellRecord}
use Rattle.tracing.specs.Seals.{accepted, handed_back, Sealing}
use Rattle.tracing.specs.Steps as steps
use Rattle.tracing.specs.Steps.{finished, refused, spent, Stepped}
use Rattle.tracing.specs.Traces.{TraceNumbers, trace_numbers}
use Rattle.tracing.specs.declared.traces.Ending.{Ending}
use Rattle.tracing.specs.declared.traces.Ending.TheVariants.{Finished, Spent}
use Rattle.tracing.specs.declared.traces.Report.{Report}
use Rattle.tracing.specs.declared.traces.Sealed.{Sealed}
use Rattle.tracing.specs.declared.traces.Stepping.{Stepping}
use Rattle.tracing.specs.declared.traces.Trace.{Trace}
use Rattle.tracing.specs.declared.traces.Unsealed.{Unsealed}

abbrev pub ending_numbers : Result Ending Refusal → steps.Ending
ending_numbers (Ok Finished) = finished
ending_numbers (Ok Spent) = spent
ending_numbers (Err e) = refused (refusal_numbers e)

-- the trace and the list after a call of step, and its answer
abbrev pub stepped_of : Trace → List CellRecord → Stepping → Stepped
stepped_of t xs r = record { trace = trace_numbers t; list = xs; taken = r.taken; ending = ending_numbers r.ending }

abbrev pub reported : Report → TraceNumbers
reported r = record { count = r.count; next = r.next; pair = r.pair; steps = r.steps }

abbrev pub sealing_of : Result Sealed Unsealed → Sealing
sealing_of (Ok s) = accepted (record { count = s.count; steps = s.steps })
sealing_of (Err u) = handed_back (refusal_numbers u.refusal).number (trace_numbers u.trace)
