-- Looking for a record among the used places of a list.
use Rattle.std.specs.Prelude.{ℕ, suc, min, Bool, if◌then◌else◌, List, [], ◌∷◌, length, Some, None, Option}
use Rattle.std.specs.Option.{option_map}

-- the lowest place whose record is the same as x
abbrev pub lowest_place : {X : Type 0} → (X → X → Bool) → X → List X → Option ℕ
lowest_place same x [] = None
lowest_place same x (y ∷ ys) = if same x y then Some 0 else option_map suc (lowest_place same x ys)

-- how many places of a slice a list may use
abbrev pub usable : {X : Type 0} → List X → ℕ
usable xs = min (length xs) 65535
