-- What the parts of a step leave: the cell that is worked on, a turn, and the end of a budget.
use Rattle.std.specs.Prelude.{◌≡◌, ℕ, ◌≤◌, if◌then◌else◌, List, length, Ok, Err, Result, ◌==◌, nat_lt}
use Rattle.grid.specs.Frames.{FrameNumbers}
use Rattle.grid.specs.Refusals.{refusal, RefusalNumbers, refusal_numbers}
use Rattle.grid.specs.declared.refusals.Refusal.{Refusal}
use Rattle.cells.specs.Pairs.{pair_count}
use Rattle.cells.specs.declared.records.CellRecord.{CellRecord}
use Rattle.crossing.specs.Boxes.{fits_frame}
use Rattle.tracing.specs.Steps.{Ending, finished, moved, spent, stopped, Turn}
use Rattle.tracing.specs.Traces.{onward, TraceNumbers, trace_numbers}
use Rattle.tracing.specs.declared.traces.Trace.{Trace}

-- a record as the cell whose pair n is treated: 8 if it does not fit, then 6 if it has no such pair
abbrev pub cell_with_pair : FrameNumbers → ℕ → CellRecord → Result CellRecord RefusalNumbers
cell_with_pair f n c = if fits_frame f c then (if nat_lt n (pair_count c) then Ok c else Err (refusal 6)) else Err (refusal 8)

abbrev pub turn_of : Trace → List CellRecord → Result (Unit {0}) Refusal → Turn
turn_of t xs (Ok u) = moved (trace_numbers t) xs
turn_of t xs (Err e) = stopped (refusal_numbers e)

-- the turn with its trace one pair on, of a cell with n pairs
abbrev pub onward_turn : ℕ → Turn → Turn
onward_turn n (stopped e) = stopped e
onward_turn n (moved t xs) = moved (onward n t) xs

-- a refusal leaves the trace s and the list xs as they were
abbrev pub Unchanged : Result (Unit {0}) Refusal → Trace → Trace → List CellRecord → List CellRecord → Type 0
Unchanged (Ok u) s t xs ys = Unit {0}
Unchanged (Err e) s t xs ys = (trace_numbers t ≡ trace_numbers s) × (ys ≡ xs)

-- the trace s became t, at the same pair, and the list xs has room for all that t lists
pub record SamePair (s t : Trace) (xs : List CellRecord) : Type 0 where
  pub next : t.next ≡ s.next
  pub pair : t.pair ≡ s.pair
  pub grows : s.count ≤ t.count
  pub room : t.count ≤ length xs

-- the whole budget is used: finished wins over spent
abbrev pub at_last : TraceNumbers → Ending
at_last t = if t.next == t.count then finished else spent
