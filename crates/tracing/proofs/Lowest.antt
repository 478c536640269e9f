-- The lowest place of a record, as a search of the places from the first on finds it.
use Rattle.std.proofs.Common.{◌≡◌, ℕ, suc, ◌+◌, Bool, true, false, cond, ◌||◌, ltb, List, [], ◌∷◌, length, is_some, Some, None, Option, refl, ap, ◌∙◌, arith}
use Rattle.std.proofs.lemmas.Bool.Decides.{nat_tests}
use Rattle.std.specs.Option.{option_map}
use Rattle.std.specs.List.{position, position_or_len}
use Rattle.grid.specs.Lists.{holds}
use Rattle.tracing.specs.Search.{lowest_place}

some_later : (o : Option ℕ) → is_some (option_map suc o) ≡ is_some o
some_later None = refl
some_later (Some n) = refl

held_here_or_later : (b h : Bool) (o : Option ℕ) → is_some o ≡ h → is_some (cond b (Some 0) (option_map suc o)) ≡ (b || h)
held_here_or_later true h o e = refl
held_here_or_later false h o e = some_later o ∙ e

-- a record has a place exactly if the list holds it
pub placed_if_held : {X : Type 0} (same : X → X → Bool) (x : X) (xs : List X) → is_some (lowest_place same x xs) ≡ holds same xs x
placed_if_held same x [] = refl
placed_if_held same x (y ∷ ys) = held_here_or_later (same x y) (holds same ys x) (lowest_place same x ys) (placed_if_held same x ys)

first_here : (n : ℕ) → cond {A = Option ℕ} (ltb 0 (suc n)) (Some 0) None ≡ Some 0
first_here n = grind (arith, nat_tests)

first_later : (n m : ℕ) → cond {A = Option ℕ} (ltb (1 + n) (suc m)) (Some (1 + n)) None ≡ option_map suc (cond (ltb n m) (Some n) None)
first_later n m = grind (arith, nat_tests)

-- the first place that passes the test for sameness is the lowest place
pub position_is_lowest : {X : Type 0} (same : X → X → Bool) (x : X) (xs : List X) → position (same x) xs ≡ lowest_place same x xs
position_is_lowest same x [] = refl
position_is_lowest same x (y ∷ ys) = here (same x y) refl (position_is_lowest same x ys)
  where
    here : (b : Bool) → same x y ≡ b → position (same x) ys ≡ lowest_place same x ys → position (same x) (y ∷ ys) ≡ cond b (Some 0) (option_map suc (lowest_place same x ys))
    here true e later = rw e (first_here (length ys))
    here false e later = rw e (first_later (position_or_len (same x) ys) (length ys) ∙ ap (option_map suc) later)
