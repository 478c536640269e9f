-- What report and seal answer.
use Rattle.std.specs.Prelude.{ℕ, if◌then◌else◌, ◌==◌}
use Rattle.tracing.specs.Traces.{TraceNumbers}

-- what a sealed trace keeps and shows
pub record SealNumbers : Type 0 where
  pub count : ℕ
  pub steps : ℕ

pub data Sealing : Type 0 where
  accepted : SealNumbers → Sealing
  -- the number of the refusal, and the trace as it was
  handed_back : ℕ → TraceNumbers → Sealing

abbrev pub report_answer : TraceNumbers → TraceNumbers
report_answer t = t

-- accepted exactly if next = count, and else 12
abbrev pub seal_answer : TraceNumbers → Sealing
seal_answer t = if t.next == t.count then accepted (record { count = t.count; steps = t.steps }) else handed_back 12 t
