-- What holds at every point of every run.
use Rattle.std.specs.Prelude.{◌≡◌, ℕ, ◌+◌, ◌⊎◌, ◌↔◌, List, length, sum_by, ◌≢◌}
use Rattle.grid.specs.Lists.{Apart, In}
use Rattle.grid.specs.Refusals.{RefusalNumbers}
use Rattle.cells.specs.Pairs.{pair_count}
use Rattle.cells.specs.declared.records.CellRecord.{CellRecord}
use Rattle.fields.specs.Alike.{Alike}
use Rattle.fields.specs.Fields.{Good, Meaning}
use Rattle.tracing.specs.Roads.{OnRoad}
use Rattle.tracing.specs.Runs.{Call, Met, Point, Runs}
use Rattle.tracing.specs.Seals.{accepted, report_answer, seal_answer, SealNumbers}
use Rattle.tracing.specs.Steps.{refused, step_answer, Stepped}
use Rattle.tracing.specs.Traces.{TraceNumbers}

-- a seal called now accepts, and shows these numbers
abbrev pub Accepts : Point → SealNumbers → Type 0
Accepts z n = seal_answer z.trace ≡ accepted n

abbrev pub Acceptable : Point → Type 0
Acceptable z = (n : SealNumbers) × Accepts z n

-- over the listed cells, (k + 2) times the number of cofacets of each, in the box or not
abbrev pub summed_pairs : List CellRecord → ℕ
summed_pairs cs = sum_by pair_count cs

-- the same cells, in as many steps
pub record Agrees (y z : Point) : Type 0 where
  pub cells : (c : CellRecord) → In c y.listed ↔ In c z.listed
  pub steps : y.taken ≡ z.taken

pub record RunLaw (m : Meaning) (seed : CellRecord) (z : Point) : Type 0 where
  -- every listed cell is a cell of the road
  pub on_road : (c : CellRecord) → In c z.listed → OnRoad m seed c
  -- none is listed twice
  pub once : Apart z.listed
  -- none that is listed is lost by what comes after
  pub kept : (calls : List Call) (y : Point) → Runs m calls z y → (c : CellRecord) → In c z.listed → In c y.listed
  -- the steps that report and seal show are the steps taken, and the count that seal shows is that of the listed cells
  pub report_shows : (report_answer z.trace).steps ≡ z.taken
  pub seal_shows : (n : SealNumbers) → Accepts z n → (n.steps ≡ z.taken) × (n.count ≡ length z.listed)
  -- a seal accepts exactly when the steps taken are the summed pairs of the listed cells
  pub seals : Acceptable z ↔ (z.taken ≡ summed_pairs z.listed)
  -- if it accepts, every cell of the road is listed
  pub whole : Acceptable z → (c : CellRecord) → OnRoad m seed c → In c z.listed
  -- two traces that seals accept, over alike fields, the seed of one listed by the other, agree
  pub agrees : (n : Meaning) (other : CellRecord) (y : Point) → Good n → Alike m n → Met n other y → Acceptable z → Acceptable y → In other z.listed ⊎ In seed y.listed → Agrees y z

-- of every trace planted over a field, at every point of its run at which its numbers are t
abbrev pub LawOf : TraceNumbers → Type 0
LawOf t = (m : Meaning) (seed : CellRecord) (z : Point) → Good m → Met m seed z → z.trace ≡ t → RunLaw m seed z

-- the step b, from what the step a left, ends as the step ab does, and together they took its steps
pub record Joined (a b ab : Stepped) : Type 0 where
  pub trace : b.trace ≡ ab.trace
  pub list : b.list ≡ ab.list
  pub ending : b.ending ≡ ab.ending
  pub taken : a.taken + b.taken ≡ ab.taken

-- of every trace and list: a step of budget a that is not refused, and then one of budget b, are a step of budget a + b
abbrev pub StepsJoin : Type 0
StepsJoin =
    (m : Meaning) (t : TraceNumbers) (xs : List CellRecord) (a b : ℕ)
    → ((e : RefusalNumbers) → (step_answer m a t xs).ending ≢ refused e)
    → Joined (step_answer m a t xs) (step_answer m b (step_answer m a t xs).trace (step_answer m a t xs).list) (step_answer m (a + b) t xs)
