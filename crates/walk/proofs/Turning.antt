-- Turns one after another keep what is listed.
use Rattle.std.proofs.Common.{◌≡◌, ℕ, ◌+◌, Bool, true, false, ltb, List, [], ◌∷◌, ◌++◌, take, drop, refl, ap, ◌∙◌, append_assoc, take-append-drop}
use Rattle.grid.specs.Lists.{In}
use Rattle.walk.specs.Grounds.{Ground}
use Rattle.walk.specs.Walks.{State, Treated, to_none, to_listed, to_uncrossed, to_new, Turns, no_turn, one_more, appended, further, listed, onward}
use Rattle.walk.proofs.Members.{in_left}

module _ {C : Type 0} where
  listed_further : (k : Bool) (s : State C) → listed (further k s) ≡ listed s
  listed_further true s = refl
  listed_further false s = append_assoc s.done (take 1 s.todo) (drop 1 s.todo) ∙ ap (λ (v : List C). s.done ++ v) (take-append-drop 1 s.todo)

  listed_onward : (n : ℕ) (s : State C) → listed (onward n s) ≡ listed s
  listed_onward n s = listed_further (ltb (s.pair + 1) n) s

  module _ (g : Ground C) where
    treated_kept : (c : C) (s t : State C) → Treated g c s t → (x : C) → In x (listed s) → In x (listed t)
    treated_kept c s t (to_none e n) x h = rw (n, listed_onward (g.pairs c) s) h
    treated_kept c s t (to_listed b e i n) x h = rw (n, listed_onward (g.pairs c) s) h
    treated_kept c s t (to_uncrossed b e i n) x h = rw (n, listed_onward (g.pairs c) s) h
    treated_kept c s t (to_new b e k i n) x h = rw (n, listed_onward (g.pairs c) (appended b s), ← append_assoc s.done s.todo (b ∷ [])) (in_left (listed s) (b ∷ []) x h)

    pub turns_kept : (s t : State C) → Turns g s t → (x : C) → In x (listed s) → In x (listed t)
    turns_kept s t (no_turn e) x h = rw e h
    turns_kept s t (one_more {r} ts turn) x h = treated_kept turn.cell r t turn.treated x (turns_kept s r ts x h)
