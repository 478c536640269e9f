-- A choice for each number up to l as a function, and functions that ascend.
use Rattle.std.proofs.Common.{◌≡◌, ℕ, zero, suc, ◌+◌, ◌-◌, ◌<◌, ◌≤◌, ◌⊎◌, inl, inr, arith}
use Rattle.std.proofs.lemmas.Bool.{cases_lt}

module _ (l : ℕ) (P : ℕ → ℕ → Type 0) (has : (i : ℕ) → i ≤ l → (k : ℕ) × P i k) where
  pick_by : (i : ℕ) → (l < i) ⊎ (i ≤ l) → ℕ
  pick_by i (inl h) = 0
  pick_by i (inr h) = (has i h).0

  pub pick : ℕ → ℕ
  pick i = pick_by i (cases_lt l i)

  pub pick_is : (i : ℕ) → i ≤ l → P i (pick i)
  unfolding pick pick_by
  pick_is i h = go (cases_lt l i)
    where
      go : (s : (l < i) ⊎ (i ≤ l)) → P i (pick_by i s)
      go (inl g) = absurd (omega arith)
      go (inr g) = (has i g).1

-- a function of the numbers up to l to themselves that ascends leaves each as it is
pub ascends_same : (l : ℕ) (f : ℕ → ℕ) → ((i : ℕ) → i ≤ l → f i ≤ l) → ((i k : ℕ) → i < k → k ≤ l → f i < f k) → (i : ℕ) → i ≤ l → f i ≡ i
ascends_same l f top up i h = let a = low i h in let b = high (l - i) i (omega arith) in omega arith
  where
    low : (i : ℕ) → i ≤ l → i ≤ f i
    low zero g = omega arith
    low (suc i) g = let a = low i (omega arith) in let b = up i (suc i) (omega arith) g in omega arith

    high : (n i : ℕ) → i + n ≡ l → f i ≤ i
    high zero i e = let a = top i (omega arith) in omega arith
    high (suc n) i e = let a = high n (i + 1) (omega arith) in let b = up i (i + 1) (omega arith) (omega arith) in omega arith
