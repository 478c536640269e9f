-- What the law over walks says of a trace: a seal accepts exactly when no cell is left to do.
use Rattle.std.proofs.Common.{◌≡◌, ℕ, Bool, true, false, cond, eqb, ◌⊎◌, ◌↔◌, List, [], length, sum_by, sym, refl, ap, ◌∙◌, subst, inl, inr, arith, length-drop, take-append-drop}
use Rattle.std.proofs.lemmas.List.{drop_all}
use Rattle.std.proofs.lemmas.Bool.{cond-true, eq-eqb, eqb-true}
use Rattle.grid.specs.Lists.{In}
use Rattle.cells.specs.Pairs.{pair_count}
use Rattle.cells.specs.declared.records.CellRecord.{CellRecord}
use Rattle.fields.specs.Alike.{Alike}
use Rattle.fields.specs.Fields.{Good, Meaning}
use Rattle.walk.specs.Grounds.{Ground}
use Rattle.walk.specs.Law.{Agree, Holds}
use Rattle.walk.specs.Walks.{listed, no_turn, State, Walk}
use Rattle.walk.proofs.Turning.{turns_kept}
use Rattle.walk.proofs.Whole.{walk_holds, walk_law}
use Rattle.tracing.specs.Law.{Acceptable, Accepts, Agrees, RunLaw}
use Rattle.tracing.specs.Runs.{Call, Met, Point, Runs}
use Rattle.tracing.specs.Seals.{accepted, handed_back, SealNumbers}
use Rattle.tracing.specs.Traces.{TraceNumbers}
use Rattle.tracing.proofs.AlikeGrounds.{alike_ground}
use Rattle.tracing.proofs.Followed.{met_traced, Reached, reached_runs, Traced}
use Rattle.tracing.proofs.Grounded.{ground_of}
use Rattle.tracing.proofs.Touching.{ground_lawful, road_is}
use Rattle.tracing.proofs.Walked.{state_of}

accepted_is : (k : Bool) (a n : SealNumbers) (t : TraceNumbers) → cond k (accepted a) (handed_back 12 t) ≡ accepted n → (k ≡ true) × (n ≡ a)
accepted_is true a n t e = (refl, (cc))
accepted_is false a n t e = absurd (let z : ◌≡◌ {A = ℕ} 0 1 = cc in omega arith)

abbrev state_at : Point → State CellRecord
state_at z = state_of z.trace z.listed

listed_is : (z : Point) → listed (state_at z) ≡ z.listed
listed_is z = take-append-drop z.trace.next z.listed

accepts_is : (z : Point) (n : SealNumbers) → Accepts z n → (z.trace.next ≡ z.trace.count) × (n ≡ record { count = z.trace.count; steps = z.trace.steps })
accepts_is z n a = let p = accepted_is (eqb z.trace.next z.trace.count) _ n z.trace a in (eqb-true z.trace.next z.trace.count p.0, p.1)

module _ (m : Meaning) (seed : CellRecord) (z : Point) (t : Traced m seed z) where
  walk_at : Walk (ground_of m) seed (state_at z)
  walk_at = record { seed_crossed = t.seed_crossed; turns = t.reached.walked.turns }

  -- no cell is left to do
  ends : Acceptable z ↔ ((state_at z).todo ≡ [])
  ends = (
    λ a. (let e = (accepts_is z a.0 a.1).0 in let n = t.reached.walked.long in drop_all z.trace.next z.listed (omega arith)),
    λ e. (record { count = z.trace.count; steps = z.trace.steps }, cond-true _ _ _ (eq-eqb z.trace.next z.trace.count (at_end e))),
  )
    where
      at_end : (state_at z).todo ≡ [] → z.trace.next ≡ z.trace.count
      at_end e =
          let n = t.reached.walked.long in
          let o = t.reached.walked.ordered in
          let l = length-drop z.trace.next z.listed in
          let none = ap length e in
          omega arith

-- states that agree, at points whose steps are those taken
agree_at : (y z : Point) → y.trace.steps ≡ y.taken → z.trace.steps ≡ z.taken → Agree (state_at y) (state_at z) → Agrees y z
agree_at y z p q a = record {
  cells = λ c. (λ h. rw (listed_is z) at ((a.cells c).0 (rw (listed_is y) h)), λ h. rw (listed_is y) at ((a.cells c).1 (rw (listed_is z) h)));
  steps = sym p ∙ a.steps ∙ q;
}

agrees_back : (y z : Point) → Agrees z y → Agrees y z
agrees_back y z a = record { cells = λ c. ((a.cells c).1, (a.cells c).0); steps = sym a.steps }

module _ (m : Meaning) (good : Good m) (seed : CellRecord) (z : Point) (t : Traced m seed z) where
  holds : Holds (ground_of m) seed (state_at z)
  holds = walk_holds (ground_of m) (ground_lawful m good) seed (state_at z) (walk_at m seed z t)

  seals : Acceptable z ↔ (z.taken ≡ sum_by pair_count z.listed)
  seals = (
    λ a. sym t.reached.even ∙ holds.ends.0 ((ends m seed z t).0 a) ∙ ap (sum_by pair_count) (listed_is z),
    λ e. (ends m seed z t).1 (holds.ends.1 (t.reached.even ∙ e ∙ ap (sum_by pair_count) (sym (listed_is z)))),
  )

  kept : (calls : List Call) (y : Point) → Runs m calls z y → (c : CellRecord) → In c z.listed → In c y.listed
  kept calls y r c h =
      let w = t.reached.walked in
      let still : Reached (ground_of m) (state_at z) z = record { walked = record { turns = no_turn refl; ordered = w.ordered; long = w.long }; even = t.reached.even } in
      let on = reached_runs m good (state_at z) calls z y r still in
      rw (listed_is y) at (turns_kept (ground_of m) (state_at z) (state_at y) on.walked.turns c (rw (listed_is z) h))

  agrees : (n : Meaning) (other : CellRecord) (y : Point) → Good n → Alike m n → Met n other y → Acceptable z → Acceptable y → In other z.listed ⊎ In seed y.listed → Agrees y z
  agrees n other y fine alike met az ay h =
      let u = met_traced n fine other y met in
      let v : Walk (ground_of m) other (state_at y) = subst (λ (g : Ground CellRecord). Walk g other (state_at y)) (sym (alike_ground m n good fine alike)) (walk_at n other y u) in
      let w = walk_at m seed z t in
      let ends-z = (ends m seed z t).0 az in
      let ends-y = (ends n other y u).0 ay in
      let law = (walk_law CellRecord).agreement (ground_of m) (ground_lawful m good) in
      elim h [
        | inl i ↦ agrees_back y z (agree_at z y t.reached.even u.reached.even (law seed other (state_at z) (state_at y) w v ends-z ends-y (rw (listed_is z) i)))
        | inr i ↦ agree_at y z u.reached.even t.reached.even (law other seed (state_at y) (state_at z) v w ends-y ends-z (rw (listed_is y) i))
      ]

  law_at : RunLaw m seed z
  law_at = record {
    on_road = λ c h. (road_is m good seed c).0 (holds.on_road c (rw (listed_is z) h));
    once = rw (listed_is z) at holds.apart;
    kept = kept;
    report_shows = t.reached.even;
    seal_shows = λ n a. (let e = (accepts_is z n a).1 in (ap (λ (x : SealNumbers). x.steps) e ∙ t.reached.even, ap (λ (x : SealNumbers). x.count) e ∙ sym t.reached.walked.long));
    seals = seals;
    whole = λ a c r. rw (listed_is z) at (holds.whole ((ends m seed z t).0 a) c ((road_is m good seed c).1 r));
    agrees = agrees;
  }

pub trace_law : (m : Meaning) (seed : CellRecord) (z : Point) → Good m → Met m seed z → RunLaw m seed z
trace_law m seed z good met = law_at m good seed z (met_traced m good seed z met)
