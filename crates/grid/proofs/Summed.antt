-- A sum with one term that is not 0.
use Rattle.std.proofs.Common.{◌≡◌, ℕ, zero, suc, ◌+◌, ◌<◌, ℤ, pos, ◌+ℤ◌, refl, ap, ap₂, inl, inr, add-one, arith}
use Rattle.std.proofs.lemmas.Int.{ints}
use Rattle.std.proofs.lemmas.Bool.{cases_lt}
use Rattle.grid.specs.Sums.{sum_below}

pub sum_more : (f : ℕ → ℤ) (n : ℕ) → sum_below f (n + 1) ≡ sum_below f n +ℤ f n
unfolding sum_below
sum_more f n = rw (add-one n) refl

pub sum_zero : (f : ℕ → ℤ) (n : ℕ) → ((j : ℕ) → j < n → f j ≡ pos 0) → sum_below f n ≡ pos 0
unfolding sum_below
sum_zero f zero h = refl
sum_zero f (suc n) h = ap₂ (λ x y. x +ℤ y) (sum_zero f n (λ j g. h j (omega arith))) (h n (omega arith))

pub sum_one : (f : ℕ → ℤ) (n a : ℕ) → a < n → ((j : ℕ) → j < n → (j ≡ a → ⊥) → f j ≡ pos 0) → sum_below f n ≡ f a
unfolding sum_below
sum_one f zero a g h = absurd (omega arith)
sum_one f (suc n) a g h = elim (cases_lt a n) [
  | inl l ↦ (let e = sum_one f n a l (λ j k. h j (omega arith)) in let z = h n (omega arith) (λ k. omega arith) in omega (arith, ints))
  | inr l ↦ last (omega arith)
]
  where
    last : n ≡ a → sum_below f n +ℤ f n ≡ f a
    last e =
        let z = sum_zero f n (λ j k. h j (omega arith) (λ q. omega arith)) in
        let s = ap f e in
        omega (arith, ints)
