-- What step does: pair by pair of the cell at place next, until it is finished, its budget is spent, or a pair is refused.
use Rattle.std.specs.Prelude.{ℕ, zero, suc, ◌+◌, ◌/◌, ◌%◌, Bool, true, false, if◌then◌else◌, ◌||◌, List, [], length, take, Some, None, Ok, Err, Option, Result, ◌==◌, nat_lt, slice_index_or, slice_set}
use Rattle.grid.specs.Lists.{holds}
use Rattle.grid.specs.Refusals.{refusal, RefusalNumbers}
use Rattle.cells.specs.Cofacets.{cofacet_answer}
use Rattle.cells.specs.Facets.{facet_of}
use Rattle.cells.specs.Pairs.{pair_count}
use Rattle.cells.specs.declared.records.CellRecord.{CellRecord}
use Rattle.fields.specs.Fields.{Meaning, sides_in}
use Rattle.crossing.specs.Boxes.{fits_frame, lies_in}
use Rattle.crossing.specs.Crossing.{test_answer}
use Rattle.crossing.specs.declared.classes.Class.{Class}
use Rattle.crossing.specs.declared.classes.Class.TheVariants.{Crossed, Clear, Degenerate}
use Rattle.cells.specs.Records.{record_eq}
use Rattle.tracing.specs.Search.{usable}
use Rattle.tracing.specs.Traces.{longer, onward, TraceNumbers}

-- what one pair leaves: a refusal, or the trace and the list after it
pub data Turn : Type 0 where
  stopped : RefusalNumbers → Turn
  moved : TraceNumbers → List CellRecord → Turn

-- how a call of step ends
pub data Ending : Type 0 where
  finished : Ending
  spent : Ending
  refused : RefusalNumbers → Ending

-- what a call of step leaves: the trace, the list, how many steps it took, and how it ended
pub record Stepped : Type 0 where
  pub trace : TraceNumbers
  pub list : List CellRecord
  pub taken : ℕ
  pub ending : Ending

-- the facet that a pair of the cell leads to, if its cofacet is wholly in the box; one that leaves the world is not
abbrev pub through_cofacet : List ℕ → ℕ → Result CellRecord RefusalNumbers → Option CellRecord
through_cofacet sides i (Ok t) = if lies_in sides t then Some (facet_of t i) else None
through_cofacet sides i (Err e) = None

abbrev pub leads_to : List ℕ → CellRecord → ℕ → Option CellRecord
leads_to sides c n = through_cofacet sides (n % (c.l + 2)) (cofacet_answer c (n / (c.l + 2)))

-- the trace goes on, and the list stays
abbrev pub passed : CellRecord → TraceNumbers → List CellRecord → Turn
passed c t xs = moved (onward (pair_count c) t) xs

-- a new crossed facet is put at the place count, or 7 if no place is unused
abbrev pub appended : Bool → CellRecord → CellRecord → TraceNumbers → List CellRecord → Turn
appended true c b t xs = moved (onward (pair_count c) (longer t)) (slice_set xs t.count b)
appended false c b t xs = stopped (refusal 7)

-- by what the test says of the facet: 9 with its first fault, 10 if degenerate, passed over if clear
abbrev pub judged : Result Class RefusalNumbers → CellRecord → CellRecord → TraceNumbers → List CellRecord → Turn
judged (Ok Crossed) c b t xs = appended (nat_lt t.count (usable xs)) c b t xs
judged (Ok Clear) c b t xs = passed c t xs
judged (Ok Degenerate) c b t xs = stopped (refusal 10)
judged (Err e) c b t xs = stopped e

-- the record at a place; past the end of a list stands one that is no cell
abbrev pub no_cell : CellRecord
no_cell = record { d = 0; l = 0; base = []; labels = [] }

abbrev pub record_at : List CellRecord → ℕ → CellRecord
record_at xs i = slice_index_or xs i no_cell

abbrev pub halted : Ending → TraceNumbers → List CellRecord → Stepped
halted e t xs = record { trace = t; list = xs; taken = 0; ending = e }

abbrev pub one_more : Stepped → Stepped
one_more s = record { trace = s.trace; list = s.list; taken = s.taken + 1; ending = s.ending }

-- a refusal ends the call, and its pair is not counted
abbrev pub turned : (TraceNumbers → List CellRecord → Stepped) → Turn → TraceNumbers → List CellRecord → Stepped
turned rest (stopped e) t xs = halted (refused e) t xs
turned rest (moved u ys) t xs = one_more (rest u ys)

module _ (m : Meaning) where
  -- a facet that is the cell itself or is listed is passed over
  abbrev pub tried : Bool → CellRecord → CellRecord → TraceNumbers → List CellRecord → Turn
  tried true c b t xs = passed c t xs
  tried false c b t xs = judged (test_answer m b) c b t xs

  abbrev pub followed : Option CellRecord → CellRecord → TraceNumbers → List CellRecord → Turn
  followed None c t xs = passed c t xs
  followed (Some b) c t xs = tried (record_eq b c || holds record_eq (take t.count xs) b) c b t xs

  -- 8 if the cell does not fit, then 6 if it has no pair of that number
  abbrev pub numbered : Bool → CellRecord → TraceNumbers → List CellRecord → Turn
  numbered true c t xs = followed (leads_to (sides_in m) c t.pair) c t xs
  numbered false c t xs = stopped (refusal 6)

  abbrev pub fitted : Bool → CellRecord → TraceNumbers → List CellRecord → Turn
  fitted true c t xs = numbered (nat_lt t.pair (pair_count c)) c t xs
  fitted false c t xs = stopped (refusal 8)

  abbrev pub treat_at : CellRecord → TraceNumbers → List CellRecord → Turn
  treat_at c t xs = fitted (fits_frame m.frame c) c t xs

  -- one pair of the cell at place next
  abbrev pub treat : TraceNumbers → List CellRecord → Turn
  treat t xs = treat_at (record_at xs t.next) t xs

  abbrev pub going : Bool → (TraceNumbers → List CellRecord → Stepped) → TraceNumbers → List CellRecord → Stepped
  going true rest t xs = halted finished t xs
  going false rest t xs = turned rest (treat t xs) t xs

  -- finished wins over spent
  abbrev pub run : ℕ → TraceNumbers → List CellRecord → Stepped
  run zero t xs = halted (if t.next == t.count then finished else spent) t xs
  run (suc b) t xs = going (t.next == t.count) (run b) t xs

  -- 6 first, if the list is shorter than count
  abbrev pub step_answer : ℕ → TraceNumbers → List CellRecord → Stepped
  step_answer budget t xs = if nat_lt (length xs) t.count then halted (refused (refusal 6)) t xs else run budget t xs
