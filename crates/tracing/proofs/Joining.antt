-- A step goes on from where another left off, and no step lists more cells than its list has places.
use Rattle.std.proofs.Common.{◌≡◌, ℕ, zero, suc, ◌+◌, ◌≤◌, Bool, true, false, cond, ◌||◌, eqb, ltb, List, length, get_or, take, Some, None, Ok, Err, Option, Result, sym, refl, ap, subst, arith, length-set}
use Rattle.std.proofs.lemmas.Bool.{le-ltb, ltb-false, ltb-true}
use Rattle.grid.specs.Lists.{holds}
use Rattle.grid.specs.Refusals.{refusal, RefusalNumbers}
use Rattle.cells.specs.Pairs.{pair_count}
use Rattle.cells.specs.declared.records.CellRecord.{CellRecord}
use Rattle.fields.specs.Fields.{Meaning, sides_in}
use Rattle.crossing.specs.Boxes.{fits_frame}
use Rattle.crossing.specs.Crossing.{test_answer}
use Rattle.crossing.specs.declared.classes.Class.{Class}
use Rattle.crossing.specs.declared.classes.Class.TheVariants.{Crossed, Clear, Degenerate}
use Rattle.tracing.specs.Law.{Joined, StepsJoin}
use Rattle.cells.specs.Records.{record_eq}
use Rattle.tracing.specs.Search.{usable}
use Rattle.tracing.specs.Steps.{appended, finished, fitted, followed, going, halted, judged, leads_to, moved, no_cell, numbered, passed, refused, run, spent, step_answer, Stepped, stopped, treat, tried, Turn, turned}
use Rattle.tracing.specs.Traces.{longer, TraceNumbers}
use Rattle.tracing.proofs.Walked.{further_count}

-- no more cells are listed than there are places
abbrev Roomy : Turn → Type 0
Roomy (stopped e) = Unit {0}
Roomy (moved u ys) = u.count ≤ length ys

abbrev Fits : Stepped → Type 0
Fits s = s.trace.count ≤ length s.list

abbrev Unrefused : Stepped → Type 0
Unrefused s = (e : RefusalNumbers) → s.ending ≡ refused e → ⊥

module _ (m : Meaning) where
  module _ (t : TraceNumbers) (xs : List CellRecord) (room : t.count ≤ length xs) where
    roomy_passed : (c : CellRecord) → Roomy (passed c t xs)
    roomy_passed c = let e = further_count (ltb (t.pair + 1) (pair_count c)) t in omega arith

    roomy_appended : (c b : CellRecord) (k : Bool) → ltb t.count (usable xs) ≡ k → Roomy (appended k c b t xs)
    roomy_appended c b true e =
        let n = further_count (ltb (t.pair + 1) (pair_count c)) (longer t) in
        let l = ltb-true t.count (usable xs) e in
        let s = length-set xs t.count b in
        omega arith
    roomy_appended c b false e = tt

    roomy_judged : (c b : CellRecord) (r : Result Class RefusalNumbers) → Roomy (judged r c b t xs)
    roomy_judged c b (Ok Crossed) = roomy_appended c b (ltb t.count (usable xs)) refl
    roomy_judged c b (Ok Clear) = roomy_passed c
    roomy_judged c b (Ok Degenerate) = tt
    roomy_judged c b (Err e) = tt

    roomy_tried : (c b : CellRecord) (k : Bool) → Roomy (tried m k c b t xs)
    roomy_tried c b true = roomy_passed c
    roomy_tried c b false = roomy_judged c b (test_answer m b)

    roomy_followed : (c : CellRecord) (o : Option CellRecord) → Roomy (followed m o c t xs)
    roomy_followed c None = roomy_passed c
    roomy_followed c (Some b) = roomy_tried c b (record_eq b c || holds record_eq (take t.count xs) b)

    roomy_numbered : (c : CellRecord) (k : Bool) → Roomy (numbered m k c t xs)
    roomy_numbered c true = roomy_followed c (leads_to (sides_in m) c t.pair)
    roomy_numbered c false = tt

    roomy_fitted : (c : CellRecord) (k : Bool) → Roomy (fitted m k c t xs)
    roomy_fitted c true = roomy_numbered c (ltb t.pair (pair_count c))
    roomy_fitted c false = tt

    roomy_treat : Roomy (treat m t xs)
    roomy_treat = let c = get_or xs t.next no_cell in roomy_fitted c (fits_frame m.frame c)

  module _ (rest : TraceNumbers → List CellRecord → Stepped) (fits : (u : TraceNumbers) (ys : List CellRecord) → u.count ≤ length ys → Fits (rest u ys)) (t : TraceNumbers) (xs : List CellRecord) (room : t.count ≤ length xs) where
    turned_fits : (u : Turn) → Roomy u → Fits (turned rest u t xs)
    turned_fits (stopped e) r = room
    turned_fits (moved u ys) r = fits u ys r

    going_fits : (k : Bool) → Fits (going m k rest t xs)
    going_fits true = room
    going_fits false = turned_fits (treat m t xs) (roomy_treat t xs room)

  run_fits : (b : ℕ) (t : TraceNumbers) (xs : List CellRecord) → t.count ≤ length xs → Fits (run m b t xs)
  run_fits zero t xs room = room
  run_fits (suc b) t xs room = going_fits (run m b) (run_fits b) t xs room (eqb t.next t.count)

  -- what is finished stays so under any budget
  finished_stays : (b : ℕ) (t : TraceNumbers) (xs : List CellRecord) → eqb t.next t.count ≡ true → run m b t xs ≡ halted finished t xs
  finished_stays zero t xs e = ap (λ k. halted (cond k finished spent) t xs) e
  finished_stays (suc b) t xs e = ap (λ k. going m k (run m b) t xs) e

  module _ (b : ℕ) where
    -- after s, a run of budget b makes the whole
    abbrev Makes : Stepped → Stepped → Type 0
    Makes s whole = Unrefused s → Joined s (run m b s.trace s.list) whole

    module _ (rest whole : TraceNumbers → List CellRecord → Stepped) (makes : (u : TraceNumbers) (ys : List CellRecord) → Makes (rest u ys) (whole u ys)) (t : TraceNumbers) (xs : List CellRecord) where
      turned_makes : (u : Turn) → Makes (turned rest u t xs) (turned whole u t xs)
      turned_makes (stopped e) h = absurd (h e refl)
      turned_makes (moved u ys) h = let j = makes u ys h in record { trace = j.trace; list = j.list; ending = j.ending; taken = omega (arith, j.taken) }

      going_makes : (k : Bool) → eqb t.next t.count ≡ k → Makes (going m k rest t xs) (going m k whole t xs)
      going_makes true e h =
          let s = finished_stays b t xs e in
          record { trace = ap (λ (v : Stepped). v.trace) s; list = ap (λ (v : Stepped). v.list) s; ending = ap (λ (v : Stepped). v.ending) s; taken = (let n = ap (λ (v : Stepped). v.taken) s in omega arith) }
      going_makes false e h = turned_makes (treat m t xs) h

    run_makes : (a : ℕ) (t : TraceNumbers) (xs : List CellRecord) → Makes (run m a t xs) (run m (a + b) t xs)
    run_makes zero t xs h = subst (λ n. Joined (run m zero t xs) (run m b t xs) (run m n t xs)) (none b) (record { trace = refl; list = refl; ending = refl; taken = omega arith })
      where
        none : (b : ℕ) → b ≡ zero + b
        none b = omega arith
    run_makes (suc a) t xs h = subst (λ n. Makes (run m (suc a) t xs) (run m n t xs)) (more a b) (going_makes (run m a) (run m (a + b)) (run_makes a) t xs (eqb t.next t.count) refl) h
      where
        more : (a b : ℕ) → suc (a + b) ≡ suc a + b
        more a b = omega arith

pub steps_join : StepsJoin
steps_join m t xs a b = go (ltb (length xs) t.count) refl
  where
    step_by : Bool → ℕ → Stepped
    step_by k n = cond k (halted (refused (refusal 6)) t xs) (run m n t xs)

    go : (k : Bool) → ltb (length xs) t.count ≡ k → Unrefused (step_by k a) → Joined (step_by k a) (step_answer m b (step_by k a).trace (step_by k a).list) (step_by k (a + b))
    go true e h = absurd (h (refusal 6) refl)
    go false e h =
        let s = run m a t xs in
        let room = run_fits m a t xs (ltb-false (length xs) t.count e) in
        subst (λ k. Joined s (cond k (halted (refused (refusal 6)) s.trace s.list) (run m b s.trace s.list)) (run m (a + b) t xs)) (sym (le-ltb (length s.list) s.trace.count room)) (run_makes m b a t xs h)
