-- A trace that was planted and met some calls has walked from its seed: each call keeps that.
use Rattle.std.proofs.Common.{◌≡◌, ℕ, ◌+◌, Bool, true, false, cond, eqb, List, [], ◌∷◌, length, take, Ok, Err, Result, sym, refl, ap, ◌∙◌, subst, inl, inr, arith}
use Rattle.std.proofs.lemmas.Bool.{cond-false, cond-true, le-ltb, lt-ltb}
use Rattle.grid.specs.Refusals.{RefusalNumbers}
use Rattle.cells.specs.declared.records.CellRecord.{CellRecord}
use Rattle.fields.specs.Fields.{Good, Meaning}
use Rattle.crossing.specs.Crossing.{test_answer}
use Rattle.crossing.specs.declared.classes.Class.{Class}
use Rattle.crossing.specs.declared.classes.Class.TheVariants.{Crossed, Clear, Degenerate}
use Rattle.walk.specs.Grounds.{Ground}
use Rattle.walk.specs.Walks.{begin, no_turn, State}
use Rattle.tracing.specs.Plants.{plant_answer, plant_list, seeded, seed_written}
use Rattle.tracing.specs.Runs.{Call, Does, Met, Point, Relists, reporting, Runs, sealing, stepping}
use Rattle.tracing.specs.Seals.{accepted, handed_back, SealNumbers}
use Rattle.tracing.specs.Steps.{run, step_answer, Stepped}
use Rattle.tracing.specs.Traces.{planted, TraceNumbers}
use Rattle.tracing.proofs.AlikeGrounds.{same_ground}
use Rattle.tracing.proofs.Grounded.{ground_of, says_crossed}
use Rattle.tracing.proofs.Walked.{run_walks, Walked}

-- a walk has come from a state to the point, whose steps are those taken
pub record Reached (g : Ground CellRecord) (from : State CellRecord) (z : Point) : Type 0 where
  pub walked : Walked g from z.trace z.listed
  pub even : z.trace.steps ≡ z.taken

module _ (g : Ground CellRecord) (from : State CellRecord) where
  reached_at : (z : Point) (t : TraceNumbers) (cells : List CellRecord) → z.trace ≡ t → z.listed ≡ cells → Walked g from t cells → t.steps ≡ z.taken → Reached g from z
  reached_at z t cells p q w e = record { walked = rw (p, q) w; even = ap (λ (u : TraceNumbers). u.steps) p ∙ e }

  -- a call that changes nothing
  reached_still : (s z : Point) → z.trace ≡ s.trace → z.listed ≡ s.listed → z.taken ≡ s.taken → Reached g from s → Reached g from z
  reached_still s z p q e r = reached_at z s.trace s.listed p q r.walked (r.even ∙ sym e)

-- a step over a field: a list that is too short is refused, and any other is run over
relisted : (n : Meaning) (from : State CellRecord) (budget : ℕ) (xs : List CellRecord) (s z : Point) → Reached (ground_of n) from s → Relists xs (step_answer n budget s.trace xs) s z → z.trace ≡ (step_answer n budget s.trace xs).trace → z.taken ≡ s.taken + (step_answer n budget s.trace xs).taken → Reached (ground_of n) from z
relisted n from budget xs s z r (inl short) p q =
    let e = cond-true _ _ _ (lt-ltb (length xs) s.trace.count short.0) in
    let taken : z.taken ≡ s.taken + 0 = q ∙ ap (λ (v : Stepped). s.taken + v.taken) e in
    reached_still (ground_of n) from s z (p ∙ ap (λ (v : Stepped). v.trace) e) short.1 (omega arith) r
relisted n from budget xs s z r (inr long) p q =
    let a = run n budget s.trace xs in
    let e : step_answer n budget s.trace xs ≡ a = cond-false _ _ _ (le-ltb (length xs) s.trace.count long.0) in
    let taken = q ∙ ap (λ (v : Stepped). s.taken + v.taken) e in
    let listed = long.2 ∙ ap (λ (v : Stepped). take v.trace.count v.list) e in
    let w = run_walks n from budget s.trace xs (rw long.1 r.walked) in
    reached_at (ground_of n) from z a.trace (take a.trace.count a.list) (p ∙ ap (λ (v : Stepped). v.trace) e) listed w.walked (omega (arith, w.steps, r.even))

handed_back_lem : (k : Bool) (n : SealNumbers) (t u : TraceNumbers) → cond k (accepted n) (handed_back 12 t) ≡ handed_back 12 u → u ≡ t
handed_back_lem true n t u e = cc
handed_back_lem false n t u e = cc

-- what it says that plant grants a trace
planted_crossed : (r : Result Class RefusalNumbers) (t : TraceNumbers) → seeded r ≡ Ok t → (says_crossed r ≡ true) × (t ≡ planted)
planted_crossed (Ok Crossed) t e = (refl, (cc))
planted_crossed (Ok Clear) t e = absurd (let z : ◌≡◌ {A = ℕ} 0 1 = cc in omega arith)
planted_crossed (Ok Degenerate) t e = absurd (let z : ◌≡◌ {A = ℕ} 0 1 = cc in omega arith)
planted_crossed (Err f) t e = absurd (let z : ◌≡◌ {A = ℕ} 0 1 = cc in omega arith)

start_is : (m : Meaning) (seed : CellRecord) (list : List CellRecord) (t : TraceNumbers) → plant_answer m seed list ≡ Ok t → ((ground_of m).crossed seed ≡ true) × (t ≡ planted) × (take t.count (plant_list m seed list) ≡ seed ∷ [])
start_is m seed [] t e = absurd (let z : ◌≡◌ {A = ℕ} 0 1 = cc in omega arith)
start_is m seed (x ∷ xs) t e =
    let p = planted_crossed (test_answer m seed) t e in
    let written = ap (λ (r : Result TraceNumbers RefusalNumbers). take t.count (seed_written r seed (x ∷ xs))) e in
    (p.0, p.1, written ∙ ap (λ (u : TraceNumbers). take u.count (seed ∷ xs)) p.1)

-- at a point of a walk from the seed
pub record Traced (m : Meaning) (seed : CellRecord) (z : Point) : Type 0 where
  pub seed_crossed : (ground_of m).crossed seed ≡ true
  pub reached : Reached (ground_of m) (begin seed) z

module _ (m : Meaning) (good : Good m) where
  module _ (from : State CellRecord) where
    reached_does : (c : Call) (s z : Point) → Does m c s z → Reached (ground_of m) from s → Reached (ground_of m) from z
    reached_does (stepping n budget xs) s z d r =
        let e = same_ground m n good d.same in
        let there = relisted n from budget xs s z (subst (λ (g : Ground CellRecord). Reached g from s) e r) d.listed d.trace d.taken in
        subst (λ (g : Ground CellRecord). Reached g from z) (sym e) there
    reached_does reporting s z d r = reached_still (ground_of m) from s z d.0 d.1 d.2 r
    reached_does sealing s z d r = reached_still (ground_of m) from s z (handed_back_lem (eqb s.trace.next s.trace.count) _ s.trace z.trace d.0) d.1 d.2 r

    pub reached_runs : (calls : List Call) (s z : Point) → Runs m calls s z → Reached (ground_of m) from s → Reached (ground_of m) from z
    reached_runs [] s z e r = rw e r
    reached_runs (c ∷ cs) s z d r = reached_runs cs d.0 z d.2 (reached_does c s d.0 d.1 r)

  pub met_traced : (seed : CellRecord) (z : Point) → Met m seed z → Traced m seed z
  met_traced seed z h =
      let s = h.start in
      let p = start_is m seed h.starts.list s.trace h.starts.grants in
      let w : Walked (ground_of m) (begin seed) planted (seed ∷ []) = record { turns = no_turn refl; ordered = omega arith; long = refl } in
      let r = reached_at (ground_of m) (begin seed) s planted (seed ∷ []) p.1 (h.starts.lists ∙ p.2) w (sym h.starts.none_taken) in
      record { seed_crossed = p.0; reached = reached_runs (begin seed) h.calls s z h.runs r }
