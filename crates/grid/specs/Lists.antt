-- Members of a list, and lists without repeats, over any records.
use Rattle.std.specs.Prelude.{◌≡◌, Bool, false, ◌||◌, ◌⊎◌, List, [], ◌∷◌}

module _ {C : Type 0} where
  -- c stands in the list
  abbrev pub In : C → List C → Type 0
  In c [] = ⊥
  In c (x ∷ xs) = (c ≡ x) ⊎ In c xs

  -- no record stands in the list twice
  abbrev pub Apart : List C → Type 0
  Apart [] = Unit {0}
  Apart (x ∷ xs) = (In x xs → ⊥) × Apart xs

  -- the test for a member, by a test for sameness
  abbrev pub holds : (C → C → Bool) → List C → C → Bool
  holds same [] c = false
  holds same (x ∷ xs) c = same c x || holds same xs c
