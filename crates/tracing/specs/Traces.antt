-- The four numbers of a trace, and how they go on.
use Rattle.std.specs.Prelude.{ℕ, ◌+◌, Bool, true, false, nat_lt}
use Rattle.tracing.specs.declared.traces.Trace.{Trace}

-- how many cells are listed, the place of the cell that is worked on, the number of its next pair, and the pairs treated so far
pub record TraceNumbers : Type 0 where
  pub count : ℕ
  pub next : ℕ
  pub pair : ℕ
  pub steps : ℕ

abbrev pub trace_numbers : Trace → TraceNumbers
trace_numbers t = record { count = t.count; next = t.next; pair = t.pair; steps = t.steps }

abbrev pub planted : TraceNumbers
planted = record { count = 1; next = 0; pair = 0; steps = 0 }

-- one cell more is listed
abbrev pub longer : TraceNumbers → TraceNumbers
longer t = record { count = t.count + 1; next = t.next; pair = t.pair; steps = t.steps }

-- one pair on: the cell has more pairs, or it was its last
abbrev pub further : Bool → TraceNumbers → TraceNumbers
further true t = record { count = t.count; next = t.next; pair = t.pair + 1; steps = t.steps + 1 }
further false t = record { count = t.count; next = t.next + 1; pair = 0; steps = t.steps + 1 }

-- one pair on, of a cell with n pairs
abbrev pub onward : ℕ → TraceNumbers → TraceNumbers
onward n t = further (nat_lt (t.pair + 1) n) t
