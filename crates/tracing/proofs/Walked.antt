-- A trace with its listed cells as a state of a walk: a pair that is treated is one turn, and a call of step is many.
use Rattle.std.proofs.Common.{◌≡◌, ℕ, zero, suc, ◌+◌, ◌<◌, ◌≤◌, Bool, true, false, ◌||◌, eqb, ltb, List, [], ◌∷◌, ◌++◌, length, get_or, take, drop, set, Some, None, Ok, Err, Option, Result, sym, refl, ap, ◌∙◌, subst, inl, inr, arith, take-append-drop, take-add}
use Rattle.std.proofs.lemmas.List.{drop-append-le, drop-drop, drop_more, get_or-take, length_push, take-append-le, take_more_set}
use Rattle.std.proofs.lemmas.Bool.{both_ways, cases_lt, eqb-false, ltb-true, or_cases, or_parts}
use Rattle.grid.specs.Lists.{holds, In}
use Rattle.grid.specs.Refusals.{RefusalNumbers}
use Rattle.cells.specs.Pairs.{pair_count}
use Rattle.cells.specs.declared.records.CellRecord.{CellRecord}
use Rattle.fields.specs.Fields.{Meaning, sides_in}
use Rattle.crossing.specs.Boxes.{fits_frame}
use Rattle.crossing.specs.Crossing.{test_answer}
use Rattle.crossing.specs.declared.classes.Class.{Class}
use Rattle.crossing.specs.declared.classes.Class.TheVariants.{Crossed, Clear, Degenerate}
use Rattle.walk.specs.Grounds.{Ground}
use Rattle.walk.specs.Walks as walk
use Rattle.walk.proofs.Members.{holds_is, in_right}
use Rattle.cells.specs.Records.{record_eq}
use Rattle.tracing.specs.Search.{usable}
use Rattle.tracing.specs.Steps.{appended, fitted, followed, going, judged, leads_to, moved, no_cell, numbered, passed, run, Stepped, stopped, treat, tried, Turn, turned}
use Rattle.tracing.specs.Traces.{further, longer, TraceNumbers}
use Rattle.tracing.proofs.Grounded.{ground_of, says_crossed}
use Rattle.cells.proofs.Recorded.{record_eq_exact}

abbrev pub state_of : TraceNumbers → List CellRecord → walk.State CellRecord
state_of t cells = record { done = take t.next cells; todo = drop t.next cells; pair = t.pair; steps = t.steps }

-- a walk has come from a state to the trace with these cells
pub record Walked (g : Ground CellRecord) (from : walk.State CellRecord) (t : TraceNumbers) (cells : List CellRecord) : Type 0 where
  pub turns : walk.Turns g from (state_of t cells)
  pub ordered : t.next ≤ t.count
  pub long : length cells ≡ t.count

-- one pair on, or one cell more, in numbers and in states

further_state : (k : Bool) (t : TraceNumbers) (cells : List CellRecord) → walk.further k (state_of t cells) ≡ state_of (further k t) cells
further_state true t cells = refl
further_state false t cells = λ i. record { done = sym (take-add t.next 1 cells) i; todo = drop-drop 1 t.next cells i; pair = 0; steps = t.steps + 1 }

longer_state : (t : TraceNumbers) (b : CellRecord) (cells : List CellRecord) → t.next ≤ length cells → walk.appended b (state_of t cells) ≡ state_of (longer t) (cells ++ b ∷ [])
longer_state t b cells h = λ i. record { done = sym (take-append-le t.next cells (b ∷ []) h) i; todo = sym (drop-append-le t.next cells (b ∷ []) h) i; pair = t.pair; steps = t.steps }

pub further_count : (k : Bool) (t : TraceNumbers) → (further k t).count ≡ t.count
further_count true t = refl
further_count false t = refl

further_steps : (k : Bool) (t : TraceNumbers) → (further k t).steps ≡ t.steps + 1
further_steps true t = refl
further_steps false t = refl

further_next : (k : Bool) (t : TraceNumbers) → (further k t).next ≤ t.next + 1
further_next true t = omega arith
further_next false t = omega arith

module _ (m : Meaning) (from : walk.State CellRecord) where
  abbrev WalkedIn : TraceNumbers → List CellRecord → Type 0
  WalkedIn t xs = Walked (ground_of m) from t (take t.count xs)

  -- the walk goes on to what the pair left, in one step
  abbrev Goes : TraceNumbers → Turn → Type 0
  Goes t (stopped e) = Unit {0}
  Goes t (moved u ys) = WalkedIn u ys × (u.steps ≡ t.steps + 1)

  module _ (t : TraceNumbers) (xs : List CellRecord) (w : WalkedIn t xs) (before : t.next < t.count) (c : CellRecord) (rest : List CellRecord) (first : drop t.next (take t.count xs) ≡ c ∷ rest) where
    abbrev here : walk.State CellRecord
    here = state_of t (take t.count xs)

    listed_is : walk.listed here ≡ take t.count xs
    listed_is = take-append-drop t.next (take t.count xs)

    module _ (below : t.pair < pair_count c) where
      turn_to : (u : TraceNumbers) (cells : List CellRecord) (s : walk.State CellRecord) → s ≡ state_of u cells → walk.Treated (ground_of m) c here s → walk.Turns (ground_of m) from (state_of u cells)
      turn_to u cells s e h = walk.one_more w.turns (record { cell = c; rest = rest; first = first; below = below; treated = subst (walk.Treated (ground_of m) c here) e h })

      goes_passed : walk.Treated (ground_of m) c here (walk.onward (pair_count c) here) → Goes t (passed c t xs)
      goes_passed h =
          let k = ltb (t.pair + 1) (pair_count c) in
          let count = further_count k t in
          let state = further_state k t (take t.count xs) ∙ ap (λ n. state_of (further k t) (take n xs)) (sym count) in (
            record {
              turns = turn_to (further k t) (take (further k t).count xs) (walk.further k here) state h;
              ordered = (let o = further_next k t in omega arith);
              long = ap (λ n. length (take n xs)) count ∙ w.long ∙ sym count;
            },
            further_steps k t,
          )

      goes_longer : (b : CellRecord) → t.count < length xs → walk.Treated (ground_of m) c here (walk.onward (pair_count c) (walk.appended b here)) → Goes t (appended true c b t xs)
      goes_longer b room h =
          let k = ltb (t.pair + 1) (pair_count c) in
          let u = further k (longer t) in
          let cells = take t.count xs in
          let count = further_count k (longer t) in
          let more = ap (λ n. take n (set xs t.count b)) count ∙ take_more_set xs t.count b room in
          let inside : t.next ≤ length cells = (let e = w.long in omega arith) in
          let state = ap (walk.further k) (longer_state t b cells inside) ∙ further_state k (longer t) (cells ++ b ∷ []) ∙ ap (state_of u) (sym more) in (
            record {
              turns = turn_to u (take u.count (set xs t.count b)) (walk.further k (walk.appended b here)) state h;
              ordered = (let o = further_next k (longer t) in omega arith);
              long = ap length more ∙ length_push cells b ∙ ap (λ n. n + 1) w.long ∙ sym count;
            },
            further_steps k (longer t),
          )

      module _ (b : CellRecord) (leads : leads_to (sides_in m) c t.pair ≡ Some b) where
        module _ (new : In b (take t.count xs) → ⊥) where
          goes_appended : (k : Bool) → ltb t.count (usable xs) ≡ k → test_answer m b ≡ Ok Crossed → Goes t (appended k c b t xs)
          goes_appended true e r = goes_longer b (let l = ltb-true t.count (usable xs) e in omega arith) (walk.to_new b leads (ap says_crossed r) (λ i. new (rw listed_is at i)) refl)
          goes_appended false e r = tt

          goes_judged : (r : Result Class RefusalNumbers) → test_answer m b ≡ r → Goes t (judged r c b t xs)
          goes_judged (Ok Crossed) e = goes_appended (ltb t.count (usable xs)) refl e
          goes_judged (Ok Clear) e = goes_passed (walk.to_uncrossed b leads (ap says_crossed e) refl)
          goes_judged (Ok Degenerate) e = tt
          goes_judged (Err f) e = tt

        is_listed : (record_eq b c || holds record_eq (take t.count xs) b) ≡ true → In b (walk.listed here)
        is_listed e = elim (or_cases (record_eq b c) (holds record_eq (take t.count xs) b) e) [
          | inl p ↦ in_right here.done here.todo b (rw first (inl ((record_eq_exact b c).0 p)))
          | inr q ↦ rw listed_is ((holds_is record_eq record_eq_exact (take t.count xs) b).0 q)
        ]

        is_new : (record_eq b c || holds record_eq (take t.count xs) b) ≡ false → In b (take t.count xs) → ⊥
        is_new e i = both_ways _ (or_parts (record_eq b c) (holds record_eq (take t.count xs) b) e).1 ((holds_is record_eq record_eq_exact (take t.count xs) b).1 i)

        goes_tried : (k : Bool) → (record_eq b c || holds record_eq (take t.count xs) b) ≡ k → Goes t (tried m k c b t xs)
        goes_tried true e = goes_passed (walk.to_listed b leads (is_listed e) refl)
        goes_tried false e = goes_judged (is_new e) (test_answer m b) refl

      goes_followed : (o : Option CellRecord) → leads_to (sides_in m) c t.pair ≡ o → Goes t (followed m o c t xs)
      goes_followed None e = goes_passed (walk.to_none e refl)
      goes_followed (Some b) e = goes_tried b e (record_eq b c || holds record_eq (take t.count xs) b) refl

    goes_numbered : (k : Bool) → ltb t.pair (pair_count c) ≡ k → Goes t (numbered m k c t xs)
    goes_numbered true e = goes_followed (ltb-true t.pair (pair_count c) e) (leads_to (sides_in m) c t.pair) refl
    goes_numbered false e = tt

    goes_fitted : (k : Bool) → Goes t (fitted m k c t xs)
    goes_fitted true = goes_numbered (ltb t.pair (pair_count c)) refl
    goes_fitted false = tt

  goes_treat : (t : TraceNumbers) (xs : List CellRecord) → WalkedIn t xs → (t.next ≡ t.count → ⊥) → Goes t (treat m t xs)
  goes_treat t xs w ahead =
      let o = w.ordered in
      let before : t.next < t.count = elim (cases_lt t.next t.count) [ inl l ↦ l | inr l ↦ absurd (ahead (omega arith)) ] in
      let cells = take t.count xs in
      let inside : t.next < length cells = (let e = w.long in omega arith) in
      let first = drop_more cells t.next no_cell inside ∙ ap (λ c. c ∷ drop (t.next + 1) cells) (get_or-take t.count xs t.next no_cell before) in
      goes_fitted t xs w before (get_or xs t.next no_cell) (drop (t.next + 1) cells) first (fits_frame m.frame (get_or xs t.next no_cell))

  -- a call of step goes on to what it left, by the steps that it took
  pub record Ran (t : TraceNumbers) (a : Stepped) : Type 0 where
    pub walked : WalkedIn a.trace a.list
    pub steps : a.trace.steps ≡ t.steps + a.taken

  module _ (rest : TraceNumbers → List CellRecord → Stepped) (walks : (u : TraceNumbers) (ys : List CellRecord) → WalkedIn u ys → Ran u (rest u ys)) (t : TraceNumbers) (xs : List CellRecord) (w : WalkedIn t xs) where
    turned_walks : (u : Turn) → Goes t u → Ran t (turned rest u t xs)
    turned_walks (stopped e) g = record { walked = w; steps = omega arith }
    turned_walks (moved u ys) g = let r = walks u ys g.0 in record { walked = r.walked; steps = omega (arith, r.steps, g.1) }

    going_walks : (k : Bool) → eqb t.next t.count ≡ k → Ran t (going m k rest t xs)
    going_walks true e = record { walked = w; steps = omega arith }
    going_walks false e = turned_walks (treat m t xs) (goes_treat t xs w (eqb-false t.next t.count e))

  pub run_walks : (budget : ℕ) (t : TraceNumbers) (xs : List CellRecord) → WalkedIn t xs → Ran t (run m budget t xs)
  run_walks zero t xs w = record { walked = w; steps = omega arith }
  run_walks (suc b) t xs w = going_walks (run m b) (run_walks b) t xs w (eqb t.next t.count) refl
