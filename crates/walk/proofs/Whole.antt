-- The law over any walk: at the end the listed cells have all that they touch, so they are the road.
use Rattle.std.proofs.Common.{◌≡◌, ℕ, ◌<◌, ◌↔◌, List, [], ◌∷◌, ◌++◌, sum_by, sym, refl, ◌∙◌, subst, inl, inr, arith}
use Rattle.std.proofs.lemmas.List.{append-nil}
use Rattle.std.proofs.lemmas.List.Sums.{sum_by-append, sum_by-cons}
use Rattle.grid.specs.Lists.{In}
use Rattle.walk.specs.Grounds.{Ground, Lawful, Reaches, Road, Touch}
use Rattle.walk.specs.Law.{Agree, Holds, WalkLaw}
use Rattle.walk.specs.Walks.{State, Walk, listed}
use Rattle.walk.proofs.Chains.{closed_has, reaches_back, reaches_join}
use Rattle.walk.proofs.Members.{in_cases, sum_same}
use Rattle.walk.proofs.Sound.{Sound, walk_sound}
use Rattle.walk.proofs.Turning.{turns_kept}

module _ {C : Type 0} (g : Ground C) (law : Lawful g) where
  module _ (seed : C) (done : List C) (pair steps : ℕ) where
    -- all pairs are treated exactly at the end
    ends_at : (todo : List C) → Sound g seed done todo pair steps → (todo ≡ []) ↔ (steps ≡ sum_by g.pairs (done ++ todo))
    ends_at [] s = (λ e. rw append-nil (let p = s.counted in let q = s.ahead in omega arith), λ e. refl)
    ends_at (c ∷ rest) s =
        let p = s.counted in
        let q : pair < g.pairs c = s.ahead in
        let r = sum_by-append g.pairs done (c ∷ rest) in
        let o = sum_by-cons g.pairs c rest in
        (λ e. absurd (let z : ◌≡◌ {A = ℕ} 0 1 = cc in omega arith), λ e. absurd (omega arith))

    ahead_at : (todo : List C) → Sound g seed done todo pair steps → (c : C) (rest : List C) → todo ≡ c ∷ rest → pair < g.pairs c
    ahead_at [] s c rest e = absurd (let z : ◌≡◌ {A = ℕ} 0 1 = cc in omega arith)
    ahead_at (x ∷ todo) s c rest e = let same : x ≡ c = cc in subst (λ (v : C). pair < g.pairs v) same s.ahead

    touched_listed : Sound g seed done [] pair steps → (a b : C) → In a (done ++ []) → Touch g a b → In b (done ++ [])
    touched_listed s a b h t = elim (in_cases done [] a h) [ inl p ↦ s.past a p t.number t.below b t.leads_to t.right | inr z ↦ absurd z ]

  module _ (seed : C) (s : State C) (w : Walk g seed s) where
    road_listed : s.todo ≡ [] → (c : C) → Road g seed c → In c (listed s)
    road_listed e c r =
        let sound = rw e at (walk_sound g law seed s w) in
        rw e (closed_has g law (s.done ++ []) (touched_listed seed s.done s.pair s.steps sound) r.1.0 c seed r.1.1 sound.seeded)

    pub walk_holds : Holds g seed s
    walk_holds =
        let sound = walk_sound g law seed s w in
        record {
          on_road = sound.road;
          apart = sound.apart;
          seeded = sound.seeded;
          counted = sound.counted;
          ahead = ahead_at seed s.done s.pair s.steps s.todo sound;
          ends = ends_at seed s.done s.pair s.steps s.todo sound;
          whole = road_listed;
        }

  walks_agree : (a b : C) (s t : State C) → Holds g a s → Holds g b t → s.todo ≡ [] → t.todo ≡ [] → In b (listed s) → Agree s t
  walks_agree a b s t p q ps qt h =
      let over : Reaches g b a = (p.on_road b h).1 in
      let back : Reaches g a b = reaches_back g law b a over in
      let to-t : (c : C) → In c (listed s) → In c (listed t) = λ c i. (let r = p.on_road c i in q.whole qt c (r.0, reaches_join g c a b r.1 back)) in
      let to-s : (c : C) → In c (listed t) → In c (listed s) = λ c i. (let r = q.on_road c i in p.whole ps c (r.0, reaches_join g c b a r.1 over)) in
      let both : (c : C) → In c (listed s) ↔ In c (listed t) = λ c. (to-t c, to-s c) in
      record { cells = both; steps = p.ends.0 ps ∙ sum_same g.pairs (listed s) (listed t) p.apart q.apart both ∙ sym (q.ends.0 qt) }

pub walk_law : (C : Type 0) → WalkLaw C
walk_law C = record {
  holds = λ g law. walk_holds g law;
  kept = λ g. turns_kept g;
  agreement = λ g law a b s t v w. walks_agree g law a b s t (walk_holds g law a s v) (walk_holds g law b t w);
}
