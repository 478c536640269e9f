-- What a walk goes over: cells, each with numbered pairs that lead to cells, and the cells that are crossed.
use Rattle.std.specs.Prelude.{◌≡◌, ℕ, ◌<◌, Bool, true, List, [], ◌∷◌, Some, Option}

pub record Ground (C : Type 0) : Type 0 where
  -- how many pairs a cell has
  pub pairs : C → ℕ
  -- the cell that pair n of a cell leads to, if any
  pub leads : C → ℕ → Option C
  pub crossed : C → Bool

module _ {C : Type 0} (g : Ground C) where
  -- both are crossed, and a pair of a leads to b
  pub record Touch (a b : C) : Type 0 where
    pub left : g.crossed a ≡ true
    pub right : g.crossed b ≡ true
    pub number : ℕ
    pub below : number < g.pairs a
    pub leads_to : g.leads a number ≡ Some b

  -- a chain of touching cells from a to b, by the cells after a
  abbrev pub Chain : C → List C → C → Type 0
  Chain a [] b = a ≡ b
  Chain a (x ∷ xs) b = Touch a x × Chain x xs b

  abbrev pub Reaches : C → C → Type 0
  Reaches a b = (via : List C) × Chain a via b

  -- c is on the road of the seed
  abbrev pub Road : C → C → Type 0
  Road seed c = (g.crossed c ≡ true) × Reaches c seed

  -- touching goes both ways, and a crossed cell has a pair
  pub record Lawful : Type 0 where
    pub turns_back : (a b : C) → Touch a b → Touch b a
    pub some_pair : (c : C) → g.crossed c ≡ true → 0 < g.pairs c
