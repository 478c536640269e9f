-- The law over any walk.
use Rattle.std.specs.Prelude.{◌≡◌, ◌+◌, ◌<◌, ◌↔◌, List, [], ◌∷◌, sum_by}
use Rattle.grid.specs.Lists.{Apart, In}
use Rattle.walk.specs.Grounds.{Ground, Lawful, Road}
use Rattle.walk.specs.Walks.{State, Turns, Walk, listed}

-- what holds of every walk
pub record Holds {C : Type 0} (g : Ground C) (seed : C) (s : State C) : Type 0 where
  -- each listed cell is on the road of the seed, and none is listed twice
  pub on_road : (c : C) → In c (listed s) → Road g seed c
  pub apart : Apart (listed s)
  pub seeded : In seed (listed s)
  -- a step for each pair that was treated, and a pair to treat while there is a cell to do
  pub counted : s.steps ≡ sum_by g.pairs s.done + s.pair
  pub ahead : (c : C) (rest : List C) → s.todo ≡ c ∷ rest → s.pair < g.pairs c
  -- no cell is left to do exactly if there were as many steps as the listed cells have pairs
  pub ends : (s.todo ≡ []) ↔ (s.steps ≡ sum_by g.pairs (listed s))
  -- then the whole road is listed
  pub whole : s.todo ≡ [] → (c : C) → Road g seed c → In c (listed s)

-- the same cells, in as many steps
pub record Agree {C : Type 0} (s t : State C) : Type 0 where
  pub cells : (c : C) → In c (listed s) ↔ In c (listed t)
  pub steps : s.steps ≡ t.steps

pub record WalkLaw (C : Type 0) : Type 0 where
  pub holds : (g : Ground C) → Lawful g → (seed : C) (s : State C) → Walk g seed s → Holds g seed s
  -- what is listed stays listed
  pub kept : (g : Ground C) (s t : State C) → Turns g s t → (c : C) → In c (listed s) → In c (listed t)
  -- two walks that have ended, the seed of one listed by the other
  pub agreement : (g : Ground C) → Lawful g → (a b : C) (s t : State C) → Walk g a s → Walk g b t → s.todo ≡ [] → t.todo ≡ [] → In b (listed s) → Agree s t
