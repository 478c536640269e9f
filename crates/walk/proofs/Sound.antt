-- What every state of a walk satisfies, beyond what the law says: the pairs already treated lead to no crossed cell that is not listed.
-- A turn keeps it.
use Rattle.std.proofs.Common.{◌≡◌, ℕ, ◌+◌, ◌<◌, ◌≤◌, Bool, true, false, ltb, List, [], ◌∷◌, ◌++◌, Some, sum_by, refl, ap, ◌∙◌, subst, inl, inr, append_assoc, arith}
use Rattle.std.proofs.lemmas.List.Sums.{sum_by_push}
use Rattle.std.proofs.lemmas.Bool.{cases_lt, ltb-false, ltb-true}
use Rattle.grid.specs.Lists.{Apart, In}
use Rattle.walk.specs.Grounds.{Ground, Lawful, Road, Touch}
use Rattle.walk.specs.Walks.{State, Treated, to_none, to_listed, to_uncrossed, to_new, Turns, no_turn, one_more, Walk, appended, begin, further, listed, onward}
use Rattle.walk.proofs.Members.{all_in_push, apart_push, in_left, in_right}

module _ {C : Type 0} (g : Ground C) where
  -- if pair n of c leads to a crossed cell, then to one of these
  abbrev pub Settled : List C → C → ℕ → Type 0
  Settled cells c n = (b : C) → g.leads c n ≡ Some b → g.crossed b ≡ true → In b cells

  -- pair p is one of the first cell to do
  abbrev pub Ahead : List C → ℕ → Type 0
  Ahead [] p = p ≡ 0
  Ahead (c ∷ rest) p = p < g.pairs c

  -- the pairs of the first cell to do are settled below p
  abbrev pub Begun : List C → List C → ℕ → Type 0
  Begun cells [] p = Unit {0}
  Begun cells (c ∷ rest) p = (n : ℕ) → n < p → Settled cells c n

  pub record Sound (seed : C) (done todo : List C) (pair steps : ℕ) : Type 0 where
    pub road : (c : C) → In c (done ++ todo) → Road g seed c
    pub apart : Apart (done ++ todo)
    pub seeded : In seed (done ++ todo)
    pub counted : steps ≡ sum_by g.pairs done + pair
    pub ahead : Ahead todo pair
    pub past : (c : C) → In c done → (n : ℕ) → n < g.pairs c → Settled (done ++ todo) c n
    pub begun : Begun (done ++ todo) todo pair

  abbrev pub SoundAt : C → State C → Type 0
  SoundAt seed s = Sound seed s.done s.todo s.pair s.steps

  module _ (law : Lawful g) (seed : C) where
    begin_sound : g.crossed seed ≡ true → SoundAt seed (begin seed)
    begin_sound x =
        record {
          road = λ c h. elim h [ inl e ↦ (ap g.crossed e ∙ x, ([], e)) | inr z ↦ absurd z ];
          apart = (λ h. h, tt);
          seeded = inl refl;
          counted = omega arith;
          ahead = law.some_pair seed x;
          past = λ c h. absurd h;
          begun = λ n h. absurd (omega arith);
        }

    next_ahead : (todo : List C) → ((c : C) → In c todo → g.crossed c ≡ true) → Ahead todo 0
    next_ahead [] h = refl
    next_ahead (c ∷ rest) h = law.some_pair c (h c (inl refl))

    next_begun : (cells todo : List C) → Begun cells todo 0
    next_begun cells [] = tt
    next_begun cells (c ∷ rest) = λ n h. absurd (omega arith)

    module _ (done : List C) (c : C) (rest : List C) (pair steps : ℕ) (s : Sound seed done (c ∷ rest) pair steps) where
      settled_upto : Settled (done ++ c ∷ rest) c pair → (n : ℕ) → n < pair + 1 → Settled (done ++ c ∷ rest) c n
      settled_upto now n h = elim (cases_lt n pair) [ inl l ↦ s.begun n l | inr l ↦ (let e : pair ≡ n = omega arith in subst (λ (k : ℕ). Settled (done ++ c ∷ rest) c k) e now) ]

      next_pair : Settled (done ++ c ∷ rest) c pair → pair + 1 < g.pairs c → Sound seed done (c ∷ rest) (pair + 1) (steps + 1)
      next_pair now l = record { road = s.road; apart = s.apart; seeded = s.seeded; counted = (let e = s.counted in omega arith); ahead = l; past = s.past; begun = settled_upto now }

      next_cell : Settled (done ++ c ∷ rest) c pair → g.pairs c ≤ pair + 1 → Sound seed (done ++ c ∷ []) rest 0 (steps + 1)
      next_cell now l =
          let over : (done ++ c ∷ []) ++ rest ≡ done ++ c ∷ rest = append_assoc done (c ∷ []) rest in
          let Done : C → Type 0 = λ x. (n : ℕ) → n < g.pairs x → Settled (done ++ c ∷ rest) x n in
          let below : pair < g.pairs c = s.ahead in
          record {
            road = rw over s.road;
            apart = rw over s.apart;
            seeded = rw over s.seeded;
            counted = (let e = s.counted in let f = sum_by_push g.pairs done c in omega arith);
            ahead = next_ahead rest (λ x h. (s.road x (in_right done (c ∷ rest) x (inr h))).0);
            past = rw over (all_in_push Done done c s.past (λ n h. settled_upto now n (omega arith)));
            begun = next_begun ((done ++ c ∷ []) ++ rest) rest;
          }

      -- one more cell, at the end
      appended_sound : (b : C) → Road g seed b → (In b (done ++ c ∷ rest) → ⊥) → Sound seed done (c ∷ rest ++ b ∷ []) pair steps
      appended_sound b r new =
          let old = done ++ c ∷ rest in
          let e : old ++ b ∷ [] ≡ done ++ (c ∷ rest ++ b ∷ []) = append_assoc done (c ∷ rest) (b ∷ []) in
          let stays : (x : C) (n : ℕ) → Settled old x n → Settled (old ++ b ∷ []) x n = λ x n h y l k. in_left old (b ∷ []) y (h y l k) in
          record {
            road = rw (← e) (all_in_push (Road g seed) old b s.road r);
            apart = rw (← e) (apart_push old b s.apart new);
            seeded = rw (← e) (in_left old (b ∷ []) seed s.seeded);
            counted = s.counted;
            ahead = s.ahead;
            past = rw (← e) (λ x h n l. stays x n (s.past x h n l));
            begun = rw (← e) (λ n l. stays c n (s.begun n l));
          }

    module _ (s : State C) (c : C) (rest : List C) (first : s.todo ≡ c ∷ rest) (sound : SoundAt seed s) where
      at_first : Sound seed s.done (c ∷ rest) s.pair s.steps
      at_first = rw first at sound

      onward_sound : Settled (listed s) c s.pair → SoundAt seed (onward (g.pairs c) s)
      onward_sound now = go (ltb (s.pair + 1) (g.pairs c)) refl
        where
          here : Settled (s.done ++ c ∷ rest) c s.pair
          here = rw first at now

          go : (k : Bool) → ltb (s.pair + 1) (g.pairs c) ≡ k → SoundAt seed (further k s)
          go true e = rw first (next_pair s.done c rest s.pair s.steps at_first here (ltb-true (s.pair + 1) (g.pairs c) e))
          go false e = rw first (next_cell s.done c rest s.pair s.steps at_first here (ltb-false (s.pair + 1) (g.pairs c) e))

      -- a new cell touches the first cell to do
      new_road : (b : C) → s.pair < g.pairs c → g.leads c s.pair ≡ Some b → g.crossed b ≡ true → Road g seed b
      new_road b l e x =
          let r = at_first.road c (in_right s.done (c ∷ rest) c (inl refl)) in
          let touch : Touch g c b = record { left = r.0; right = x; number = s.pair; below = l; leads_to = e } in
          (x, (c ∷ r.1.0, (law.turns_back c b touch, r.1.1)))

      new_sound : (b : C) → Road g seed b → (In b (listed s) → ⊥) → SoundAt seed (appended b s)
      new_sound b r new = rw first (appended_sound s.done c rest s.pair s.steps at_first b r (rw first at new))

    treated_sound : (s t : State C) (c : C) (rest : List C) → s.todo ≡ c ∷ rest → s.pair < g.pairs c → SoundAt seed s → Treated g c s t → SoundAt seed t
    treated_sound s t c rest f l h (to_none e n) = rw n (onward_sound s c rest f h (λ b d. absurd (let z : ◌≡◌ {A = ℕ} 0 1 = cc in omega arith)))
    treated_sound s t c rest f l h (to_listed b e i n) = rw n (onward_sound s c rest f h (λ x d k. let same : b ≡ x = cc in subst (λ (v : C). In v (listed s)) same i))
    treated_sound s t c rest f l h (to_uncrossed b e i n) = rw n (onward_sound s c rest f h (λ x d k. absurd (let z : ◌≡◌ {A = ℕ} 0 1 = cc in omega arith)))
    treated_sound s t c rest f l h (to_new b e x i n) =
        let more : SoundAt seed (appended b s) = new_sound s c rest f h b (new_road s c rest f h b l e x) i in
        let last : In b (listed (appended b s)) = in_right s.done (s.todo ++ b ∷ []) b (in_right s.todo (b ∷ []) b (inl refl)) in
        rw n (onward_sound (appended b s) c (rest ++ b ∷ []) (ap (λ (v : List C). v ++ b ∷ []) f) more (λ y d k. let same : b ≡ y = cc in subst (λ (v : C). In v (listed (appended b s))) same last))

    turns_sound : (s t : State C) → SoundAt seed s → Turns g s t → SoundAt seed t
    turns_sound s t h (no_turn e) = rw e h
    turns_sound s t h (one_more {r} ts turn) = treated_sound r t turn.cell turn.rest turn.first turn.below (turns_sound s r h ts) turn.treated

    pub walk_sound : (s : State C) → Walk g seed s → SoundAt seed s
    walk_sound s w = turns_sound (begin seed) s (begin_sound w.seed_crossed) w.turns
