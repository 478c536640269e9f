use Rattle.std.proofs.Common.{refl}
use Rattle.tracing.proofs.Lawful.{trace_law}
use Rattle.tracing.proofs.traces.Trace.is_finished.Goals as goal

pub returns : goal.returns
returns c = record { is = refl; law = λ m seed z good met e. trace_law m seed z good met }
