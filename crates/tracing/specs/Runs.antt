-- What a trace has met since it was planted: steps, reports and refused seals, in any order.
use Rattle.std.specs.Prelude.{◌≡◌, ℕ, ◌+◌, ◌<◌, ◌≤◌, ◌⊎◌, List, [], ◌∷◌, length, take, Ok}
use Rattle.cells.specs.declared.records.CellRecord.{CellRecord}
use Rattle.fields.specs.Alike.{SameMeaning}
use Rattle.fields.specs.Fields.{Meaning}
use Rattle.tracing.specs.Plants.{plant_answer, plant_list}
use Rattle.tracing.specs.Seals.{handed_back, report_answer, seal_answer}
use Rattle.tracing.specs.Steps.{step_answer, Stepped}
use Rattle.tracing.specs.Traces.{TraceNumbers}

-- a trace at a point of its run: its numbers, the listed cells, and the sum of the steps that its step calls answered
pub record Point : Type 0 where
  pub trace : TraceNumbers
  pub listed : List CellRecord
  pub taken : ℕ

-- a step brings a field by its meaning, a budget, and a list; a report and a seal bring nothing
pub data Call : Type 0 where
  stepping : Meaning → ℕ → List CellRecord → Call
  reporting : Call
  sealing : Call

-- planted in some list: the seed is listed, and no step was taken
pub record Starts (m : Meaning) (seed : CellRecord) (s : Point) : Type 0 where
  pub list : List CellRecord
  pub grants : plant_answer m seed list ≡ Ok s.trace
  pub lists : s.listed ≡ take s.trace.count (plant_list m seed list)
  pub none_taken : s.taken ≡ 0

-- what is listed after a step: a list that is too short leaves the listed cells as they were; any other begins with them, and then its
-- first count places are listed, whatever stands beyond
abbrev pub Relists : List CellRecord → Stepped → Point → Point → Type 0
Relists xs a s z =
    ((length xs < s.trace.count) × (z.listed ≡ s.listed))
    ⊎ ((s.trace.count ≤ length xs) × (take s.trace.count xs ≡ s.listed) × (z.listed ≡ take a.trace.count a.list))

pub record StepCall (m n : Meaning) (budget : ℕ) (xs : List CellRecord) (s z : Point) : Type 0 where
  -- the field has the meaning of the one of plant
  pub same : SameMeaning m n
  pub trace : z.trace ≡ (step_answer n budget s.trace xs).trace
  pub taken : z.taken ≡ s.taken + (step_answer n budget s.trace xs).taken
  pub listed : Relists xs (step_answer n budget s.trace xs) s z

-- the call takes the point s to the point z; of the seals only a refused one goes on
abbrev pub Does : Meaning → Call → Point → Point → Type 0
Does m (stepping n budget xs) s z = StepCall m n budget xs s z
Does m reporting s z = (z.trace ≡ report_answer s.trace) × (z.listed ≡ s.listed) × (z.taken ≡ s.taken)
Does m sealing s z = (seal_answer s.trace ≡ handed_back 12 z.trace) × (z.listed ≡ s.listed) × (z.taken ≡ s.taken)

abbrev pub Runs : Meaning → List Call → Point → Point → Type 0
Runs m [] s z = z ≡ s
Runs m (c ∷ cs) s z = (y : Point) × Does m c s y × Runs m cs y z

-- a trace planted from the seed over m has met some calls and is at z
pub record Met (m : Meaning) (seed : CellRecord) (z : Point) : Type 0 where
  pub start : Point
  pub starts : Starts m seed start
  pub calls : List Call
  pub runs : Runs m calls start z
