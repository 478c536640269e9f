-- Chains of touching cells join, and can be gone back.
use Rattle.std.proofs.Common.{List, [], ◌∷◌, sym, refl, subst}
use Rattle.grid.specs.Lists.{In}
use Rattle.walk.specs.Grounds.{Chain, Ground, Lawful, Reaches, Touch}

module _ {C : Type 0} (g : Ground C) where
  chain_join : (via : List C) (a b c : C) → Chain g a via b → Reaches g b c → Reaches g a c
  chain_join [] a b c e r = subst (λ (v : C). Reaches g v c) (sym e) r
  chain_join (x ∷ via) a b c e r = let s = chain_join via x b c e.1 r in (x ∷ s.0, (e.0, s.1))

  pub reaches_join : (a b c : C) → Reaches g a b → Reaches g b c → Reaches g a c
  reaches_join a b c r = chain_join r.0 a b c r.1

  module _ (law : Lawful g) where
    chain_back : (via : List C) (a b : C) → Chain g a via b → Reaches g b a
    chain_back [] a b e = ([], sym e)
    chain_back (x ∷ via) a b e = reaches_join b x a (chain_back via x b e.1) (a ∷ [], (law.turns_back a x e.0, refl))

    pub reaches_back : (a b : C) → Reaches g a b → Reaches g b a
    reaches_back a b r = chain_back r.0 a b r.1

    -- cells with all that they touch have all that reaches one of them
    pub closed_has : (cells : List C) → ((a b : C) → In a cells → Touch g a b → In b cells) → (via : List C) (a b : C) → Chain g a via b → In b cells → In a cells
    closed_has cells k [] a b e h = subst (λ (v : C). In v cells) (sym e) h
    closed_has cells k (x ∷ via) a b e h = k x a (closed_has cells k via x b e.1 h) (law.turns_back a x e.0)
