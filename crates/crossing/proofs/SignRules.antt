-- The signs of a product.
use Rattle.std.proofs.Common.{◌≡◌, zero, suc, ◌<◌, ◌⊎◌, ℤ, pos, negsuc, ◌*ℤ◌, neg_ℤ, ◌<ℤ◌, refl, ap, ◌∙◌, inl, inr, mul-pos, arith}
use lib.IntN.{*ℤ_comm, *ℤ-zero}
use Rattle.std.proofs.lemmas.Int.{ints}
use Rattle.crossing.proofs.Whole.{negℤ-*ℤ}

-- 0, above or below
abbrev Sign : ℤ → Type 0
Sign a = (a ≡ pos 0) ⊎ ((pos 0 <ℤ a) ⊎ (a <ℤ pos 0))

sign_of : (a : ℤ) → Sign a
sign_of (pos zero) = inl refl
sign_of (pos (suc n)) = inr (inl (omega (arith, ints)))
sign_of (negsuc n) = inr (inr (omega (arith, ints)))

pub above_above : (a b : ℤ) → pos 0 <ℤ a → pos 0 <ℤ b → pos 0 <ℤ (a *ℤ b)
above_above (pos m) (pos n) p q =
    let h : 0 < m = omega (arith, ints) in
    let g : 0 < n = omega (arith, ints) in
    let k = mul-pos h g in
    omega (arith, ints)
above_above (pos m) (negsuc n) p q = absurd (omega (arith, ints))
above_above (negsuc m) b p q = absurd (omega (arith, ints))

pub below_above : (a b : ℤ) → a <ℤ pos 0 → pos 0 <ℤ b → (a *ℤ b) <ℤ pos 0
below_above a b p q = let h = above_above (neg_ℤ a) b (omega (arith, ints)) q in let e = negℤ-*ℤ a b in omega (arith, ints)

pub above_below : (a b : ℤ) → pos 0 <ℤ a → b <ℤ pos 0 → (a *ℤ b) <ℤ pos 0
above_below a b p q = rw (*ℤ_comm a b) (below_above b a q p)

pub below_below : (a b : ℤ) → a <ℤ pos 0 → b <ℤ pos 0 → pos 0 <ℤ (a *ℤ b)
below_below a b p q = let h = above_below (neg_ℤ a) b (omega (arith, ints)) q in let e = negℤ-*ℤ a b in omega (arith, ints)

pub no_divisor : (a b : ℤ) → a *ℤ b ≡ pos 0 → (a ≡ pos 0 → ⊥) → b ≡ pos 0
no_divisor a b e ne = go (sign_of a) (sign_of b)
  where
    go : Sign a → Sign b → b ≡ pos 0
    go (inl z) s = absurd (ne z)
    go (inr s) (inl z) = z
    go (inr (inl p)) (inr (inl q)) = let h = above_above a b p q in absurd (omega (arith, ints))
    go (inr (inl p)) (inr (inr q)) = let h = above_below a b p q in absurd (omega (arith, ints))
    go (inr (inr p)) (inr (inl q)) = let h = below_above a b p q in absurd (omega (arith, ints))
    go (inr (inr p)) (inr (inr q)) = let h = below_below a b p q in absurd (omega (arith, ints))

abbrev pub Opposite : ℤ → ℤ → Type 0
Opposite c d = ((pos 0 <ℤ c) × (d <ℤ pos 0)) ⊎ ((c <ℤ pos 0) × (pos 0 <ℤ d))

-- numbers that are proportional to one above 0 and one below
pub zero_or_opposite : (a b c d : ℤ) → pos 0 <ℤ a → b <ℤ pos 0 → a *ℤ d ≡ b *ℤ c → (c ≡ pos 0) ⊎ Opposite c d
zero_or_opposite a b c d p q e = go (sign_of c) (sign_of d)
  where
    no : d ≡ pos 0 → a *ℤ d ≡ pos 0
    no z = ap (λ y. a *ℤ y) z ∙ *ℤ-zero a

    go : Sign c → Sign d → (c ≡ pos 0) ⊎ Opposite c d
    go (inl z) s = inl z
    go (inr (inl h)) (inr (inr g)) = inr (inl (h, g))
    go (inr (inr h)) (inr (inl g)) = inr (inr (h, g))
    go (inr (inl h)) (inl z) = let i = below_above b c q h in let j = no z in absurd (omega (arith, ints))
    go (inr (inl h)) (inr (inl g)) = let i = below_above b c q h in let j = above_above a d p g in absurd (omega (arith, ints))
    go (inr (inr h)) (inl z) = let i = below_below b c q h in let j = no z in absurd (omega (arith, ints))
    go (inr (inr h)) (inr (inr g)) = let i = below_below b c q h in let j = above_below a d p g in absurd (omega (arith, ints))
