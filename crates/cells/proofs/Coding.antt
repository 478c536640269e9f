-- The code of a set of places, and the set of a code.
use Rattle.std.proofs.Common.{◌≡◌, ℕ, zero, suc, ◌+◌, ◌*◌, ◌/◌, ◌%◌, ◌^◌, ◌<◌, Bool, true, false, cond, eqb, sym, ap, ◌∙◌, inl, inr, div-one, arith}
use native.Mathlib.Nat.{div-div-eq-div-mul, pow-succ'}
use Rattle.std.proofs.lemmas.Bool.{cases_lt, eq-eqb, eqb-true}
use Rattle.cells.specs.Splits.{holds}

-- the code of the places below n that pass
pub code_of : (ℕ → Bool) → ℕ → ℕ
code_of p zero = 0
code_of p (suc n) = cond (p 0) 1 0 + 2 * code_of (λ j. p (suc j)) n

pub holds_zero : (a : ℕ) → holds a 0 ≡ eqb (a % 2) 1
unfolding holds
holds_zero a = ap (λ n. eqb (n % 2) 1) (div-one a)

pub holds_suc : (a j : ℕ) → holds a (suc j) ≡ holds (a / 2) j
unfolding holds
holds_suc a j = ap (λ n. eqb (n % 2) 1) (ap (λ n. a / n) (pow-succ' 2 j) ∙ sym (div-div-eq-div-mul a 2 (2 ^ j)))

low_bit : (b : Bool) (c : ℕ) → eqb ((cond b 1 0 + 2 * c) % 2) 1 ≡ b
low_bit true c = let e : (1 + 2 * c) % 2 ≡ 1 = omega arith in rw e
low_bit false c = let e : (0 + 2 * c) % 2 ≡ 0 = omega arith in rw e

high_bits : (b : Bool) (c : ℕ) → (cond b 1 0 + 2 * c) / 2 ≡ c
high_bits true c = omega arith
high_bits false c = omega arith

pub holds_code : (p : ℕ → Bool) (n j : ℕ) → j < n → holds (code_of p n) j ≡ p j
unfolding code_of
holds_code p zero j h = absurd (omega arith)
holds_code p (suc n) zero h = holds_zero (cond (p 0) 1 0 + 2 * code_of (λ j. p (suc j)) n) ∙ low_bit (p 0) (code_of (λ j. p (suc j)) n)
holds_code p (suc n) (suc j) h =
    holds_suc (cond (p 0) 1 0 + 2 * code_of (λ j. p (suc j)) n) j
    ∙ ap (λ a. holds a j) (high_bits (p 0) (code_of (λ j. p (suc j)) n))
    ∙ holds_code (λ j. p (suc j)) n j (omega arith)

pub code_lt : (p : ℕ → Bool) (n : ℕ) → code_of p n < 2 ^ n
unfolding code_of
code_lt p zero = omega arith
code_lt p (suc n) = let h = code_lt (λ j. p (suc j)) n in rw (pow-succ' 2 n) (go (p 0) h)
  where
    go : (b : Bool) → code_of (λ j. p (suc j)) n < 2 ^ n → cond b 1 0 + 2 * code_of (λ j. p (suc j)) n < 2 * 2 ^ n
    go true h = omega arith
    go false h = omega arith

-- a code below 2 ^ n is told by the places that it holds
pub same_code : (n a b : ℕ) → a < 2 ^ n → b < 2 ^ n → ((i : ℕ) → i < n → holds a i ≡ holds b i) → a ≡ b
same_code zero a b h g s = omega arith
same_code (suc n) a b h g s =
    let f : a < 2 * 2 ^ n = rw (pow-succ' 2 n) at h in
    let k : b < 2 * 2 ^ n = rw (pow-succ' 2 n) at g in
    let ih = same_code n (a / 2) (b / 2) (omega arith) (omega arith) (λ i u. sym (holds_suc a i) ∙ s (suc i) (omega arith) ∙ holds_suc b i) in
    let low : eqb (a % 2) 1 ≡ eqb (b % 2) 1 = sym (holds_zero a) ∙ s 0 (omega arith) ∙ holds_zero b in
    let e = bits a b low in
    omega arith
  where
    bits : (a b : ℕ) → eqb (a % 2) 1 ≡ eqb (b % 2) 1 → a % 2 ≡ b % 2
    bits a b e = elim (cases_lt (a % 2) 1) [
      | inl u ↦ (elim (cases_lt (b % 2) 1) [ inl v ↦ omega arith | inr v ↦ (let w : a % 2 ≡ 1 = eqb-true _ _ (e ∙ eq-eqb _ _ (omega arith)) in omega arith) ])
      | inr u ↦ (let w : b % 2 ≡ 1 = eqb-true _ _ (sym e ∙ eq-eqb _ _ (omega arith)) in omega arith)
    ]
