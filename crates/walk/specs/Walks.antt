-- A walk: from a crossed seed, pair by pair, each crossed cell that a pair leads to is listed once.
use Rattle.std.specs.Prelude.{◌≡◌, ℕ, ◌+◌, ◌<◌, Bool, true, false, List, [], ◌∷◌, ◌++◌, take, drop, Some, None, nat_lt}
use Rattle.grid.specs.Lists.{In}
use Rattle.walk.specs.Grounds.{Ground}

-- the listed cells in their order: those with all pairs treated, then those with pairs to treat, the first of them from pair `pair` on
pub record State (C : Type 0) : Type 0 where
  pub done : List C
  pub todo : List C
  pub pair : ℕ
  pub steps : ℕ

module _ {C : Type 0} where
  abbrev pub listed : State C → List C
  listed s = s.done ++ s.todo

  abbrev pub begin : C → State C
  begin seed = record { done = []; todo = seed ∷ []; pair = 0; steps = 0 }

  -- b is listed, at the end
  abbrev pub appended : C → State C → State C
  appended b s = record { done = s.done; todo = s.todo ++ b ∷ []; pair = s.pair; steps = s.steps }

  -- one pair on: the first cell has more pairs, or it is done
  abbrev pub further : Bool → State C → State C
  further true s = record { done = s.done; todo = s.todo; pair = s.pair + 1; steps = s.steps + 1 }
  further false s = record { done = s.done ++ take 1 s.todo; todo = drop 1 s.todo; pair = 0; steps = s.steps + 1 }

  -- one pair on, where the first cell has n pairs
  abbrev pub onward : ℕ → State C → State C
  onward n s = further (nat_lt (s.pair + 1) n) s

module _ {C : Type 0} (g : Ground C) where
  -- the pair that is next of the cell c leads nowhere, to a listed cell, to one that is not crossed, or to a new one
  pub data Treated (c : C) (s t : State C) : Type 0 where
    to_none : g.leads c s.pair ≡ None → t ≡ onward (g.pairs c) s → Treated c s t
    to_listed : (b : C) → g.leads c s.pair ≡ Some b → In b (listed s) → t ≡ onward (g.pairs c) s → Treated c s t
    to_uncrossed : (b : C) → g.leads c s.pair ≡ Some b → g.crossed b ≡ false → t ≡ onward (g.pairs c) s → Treated c s t
    to_new : (b : C) → g.leads c s.pair ≡ Some b → g.crossed b ≡ true → (In b (listed s) → ⊥) → t ≡ onward (g.pairs c) (appended b s) → Treated c s t

  -- one turn treats one pair of the first cell to do
  pub record Turn (s t : State C) : Type 0 where
    pub cell : C
    pub rest : List C
    pub first : s.todo ≡ cell ∷ rest
    pub below : s.pair < g.pairs cell
    pub treated : Treated cell s t

  -- any number of turns
  pub data Turns (s : State C) : State C → Type 0 where
    no_turn : {t : State C} → t ≡ s → Turns s t
    one_more : {r t : State C} → Turns s r → Turn r t → Turns s t

  pub record Walk (seed : C) (s : State C) : Type 0 where
    pub seed_crossed : g.crossed seed ≡ true
    pub turns : Turns (begin seed) s
