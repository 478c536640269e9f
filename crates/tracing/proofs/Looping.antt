-- The loop of a step: the pairs treated so far, and what a run from here would add, are the whole run.
use Rattle.std.proofs.Common.{◌≡◌, ℕ, zero, suc, ◌+◌, ◌-◌, ◌<◌, Bool, true, false, cond, eqb, List, sym, ap, ◌∙◌, arith}
use Rattle.grid.specs.Refusals.{RefusalNumbers}
use Rattle.cells.specs.declared.records.CellRecord.{CellRecord}
use Rattle.fields.specs.Fields.{Meaning}
use Rattle.tracing.specs.Steps.{Ending, finished, going, halted, moved, one_more, refused, run, spent, Stepped, stopped, treat, Turn, turned}
use Rattle.tracing.specs.Traces.{TraceNumbers}

abbrev stepped_by : ℕ → Ending → TraceNumbers → List CellRecord → Stepped
stepped_by n e t xs = record { trace = t; list = xs; taken = n; ending = e }

-- so many steps more
abbrev pub plus : ℕ → Stepped → Stepped
plus n s = stepped_by (n + s.taken) s.ending s.trace s.list

module _ (m : Meaning) where
  plus_more : (n : ℕ) (s : Stepped) → plus n (one_more s) ≡ plus (n + 1) s
  plus_more n s = ap (λ (k : ℕ). stepped_by k s.ending s.trace s.list) (omega arith)

  plus_halted : (n : ℕ) (e : Ending) (t : TraceNumbers) (xs : List CellRecord) → plus n (halted e t xs) ≡ stepped_by n e t xs
  plus_halted n e t xs = ap (λ (k : ℕ). stepped_by k e t xs) (omega arith)

  run_finished : (t : TraceNumbers) (xs : List CellRecord) (b : ℕ) → eqb t.next t.count ≡ true → run m b t xs ≡ halted finished t xs
  run_finished t xs zero e = ap (λ (k : Bool). halted (cond k finished spent) t xs) e
  run_finished t xs (suc b) e = ap (λ (k : Bool). going m k (run m b) t xs) e

  -- i of b pairs are treated, the trace is t over the list xs, and the whole run leaves w
  module _ (b i : ℕ) (t : TraceNumbers) (xs : List CellRecord) (w : Stepped) (whole : plus i (run m (b - i) t xs) ≡ w) where
    pub ends_finished : eqb t.next t.count ≡ true → stepped_by i finished t xs ≡ w
    ends_finished e = sym (plus_halted i finished t xs) ∙ ap (plus i) (sym (run_finished t xs (b - i) e)) ∙ whole

    module _ (left : i < b) (goes : eqb t.next t.count ≡ false) where
      by_turn : (u : Turn) → u ≡ treat m t xs → plus i (turned (run m (b - (i + 1))) u t xs) ≡ w
      by_turn u e =
          let one : suc (b - (i + 1)) ≡ b - i = omega arith in
          ap (λ (v : Turn). plus i (turned (run m (b - (i + 1))) v t xs)) e
          ∙ ap (λ (k : Bool). plus i (going m k (run m (b - (i + 1))) t xs)) (sym goes)
          ∙ ap (λ (k : ℕ). plus i (run m k t xs)) one
          ∙ whole

      -- the refused pair leaves the trace and the list as they were
      pub ends_refused : (r : RefusalNumbers) (u : TraceNumbers) (ys : List CellRecord) → stopped r ≡ treat m t xs → u ≡ t → ys ≡ xs → stepped_by i (refused r) u ys ≡ w
      ends_refused r u ys e p q = (λ j. stepped_by i (refused r) (p j) (q j)) ∙ sym (plus_halted i (refused r) t xs) ∙ by_turn (stopped r) e

      pub goes_on : (u : TraceNumbers) (ys : List CellRecord) → moved u ys ≡ treat m t xs → plus (i + 1) (run m (b - (i + 1)) u ys) ≡ w
      goes_on u ys e = sym (plus_more i (run m (b - (i + 1)) u ys)) ∙ by_turn (moved u ys) e
