-- What `all` and `any` answer, as tests of the numbers below a bound.
use Rattle.std.proofs.Common.{◌≡◌, ℕ, suc, ◌<◌, Bool, true, false, List, [], ◌∷◌, length, get_or, ◌∙◌, sym, refl, ap, zero-add, arith}
use Rattle.std.proofs.lemmas.List.Folds.{list_all_at, list_any_at}
use Rattle.std.proofs.lemmas.List.FromFn.{length-range_with_len, get_or-range_with_len}
use Rattle.std.specs.Cmp.{both_ways}
use Rattle.std.specs.List.{list_all, list_any, range_with_len}
use Rattle.grid.specs.Below.{all_below, some_below}
use Rattle.grid.proofs.Below.{all_at, all_from, some_at, some_from}

module _ {X : Type 0} (p : X → Bool) (q : ℕ → Bool) (o : X) where
  -- p says of each element what q says of its place
  abbrev pub PlaceByPlace : List X → Type 0
  PlaceByPlace xs = (k : ℕ) → k < length xs → p (get_or xs k o) ≡ q k

  all_here : (xs : List X) → list_all p xs ≡ true → (k : ℕ) → k < length xs → p (get_or xs k o) ≡ true
  all_here xs h k lt = go (p (get_or xs k o)) refl
    where
      go : (b : Bool) → p (get_or xs k o) ≡ b → p (get_or xs k o) ≡ true
      go true e = e
      go false e = let z = list_all_at p xs k o lt e in let f : true ≡ false = (cc) in (cc)

  all_there : (xs : List X) → ((k : ℕ) → k < length xs → p (get_or xs k o) ≡ true) → list_all p xs ≡ true
  all_there [] h = refl
  all_there (x ∷ xs) h = let a : p x ≡ true = h 0 (omega arith) in let b = all_there xs (λ k lt. h (suc k) (omega arith)) in grind (arith, a, b)

  some_here : (xs : List X) → list_any p xs ≡ true → (k : ℕ) × (k < length xs) × (p (get_or xs k o) ≡ true)
  some_here [] h = absurd (cc)
  some_here (x ∷ xs) h = go (p x) refl (some_here xs)
    where
      go : (b : Bool) → p x ≡ b → (list_any p xs ≡ true → (k : ℕ) × (k < length xs) × (p (get_or xs k o) ≡ true)) → (k : ℕ) × (k < length (x ∷ xs)) × (p (get_or (x ∷ xs) k o) ≡ true)
      go true e next = (0, omega arith, e)
      go false e next =
          let f : list_any p xs ≡ true = rw e at h in
          let (k, lt, y) = next f in
          (suc k, omega arith, y)

  pub list_all-below : (xs : List X) → PlaceByPlace xs → list_all p xs ≡ all_below q (length xs)
  list_all-below xs h = both_ways _ _ (λ e. all_from q (length xs) (λ k lt. sym (h k lt) ∙ all_here xs e k lt)) (λ e. all_there xs (λ k lt. h k lt ∙ all_at q (length xs) e k lt))

  pub list_any-below : (xs : List X) → PlaceByPlace xs → list_any p xs ≡ some_below q (length xs)
  list_any-below xs h = both_ways _ _
      (λ e. let (k, lt, y) = some_here xs e in some_from q (length xs) k lt (sym (h k lt) ∙ y))
      (λ e. let (k, lt, y) = some_at q (length xs) e in list_any_at p xs k o lt (h k lt ∙ y))

-- over the numbers from 0 to n

pub all_range : (q : ℕ → Bool) (n : ℕ) → list_all q (range_with_len 0 n) ≡ all_below q n
all_range q n =
    list_all-below q q 0 (range_with_len 0 n) (λ k lt. ap q (get_or-range_with_len 0 n k 0 (omega (arith, length-range_with_len 0 n)) ∙ zero-add k))
    ∙ ap (all_below q) (length-range_with_len 0 n)
