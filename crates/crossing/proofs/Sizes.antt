-- Numbers on their way through 64 bits: what the program holds is the number that is meant, and how large that is.
use Rattle.std.proofs.Common.{◌≡◌, ℕ, ◌+◌, ◌*◌, ◌^◌, ◌<◌, ◌≤◌, ℤ, ◌+ℤ◌, ◌-ℤ◌, ◌*ℤ◌, nat_abs, sym, ◌∙◌, subst, ap₂, mul-le-mul, arith, w16, w64, SFits, to_z, of_z}
use Rattle.std.proofs.lemmas.Int.{ints, to_z-of_z}
use Rattle.fields.proofs.Bounded.{abs_16, abs-add, abs_fits, abs-mul}

-- the program holds x where y is meant, and y has at most the size M
pub record Held (M : ℕ) (x y : ℤ) : Type 0 where
  pub same : x ≡ y
  pub small : nat_abs y ≤ M

pub size : {M : ℕ} {x y : ℤ} → Held M x y → nat_abs x ≤ M
size {M} h = subst (λ (z : ℤ). nat_abs z ≤ M) (sym h.same) h.small

pub fits : {M : ℕ} {x y : ℤ} → Held M x y → M < 2 ^ 63 → SFits w64 x
fits {x = x} h l = let s = size h in abs_fits x (omega arith)

-- a number of 16 bits; a number that a call answered; and one that is written to 64 bits and read again

pub read16 : {x y : ℤ} → SFits w16 y → x ≡ to_z w16 (of_z w16 y) → Held (2 ^ 15) x y
read16 {y = y} f e = record { same = e ∙ to_z-of_z w16 y f; small = abs_16 y f }

pub answered : {M : ℕ} {x y : ℤ} → x ≡ y → nat_abs x ≤ M → Held M x y
answered {M} e s = record { same = e; small = subst (λ (z : ℤ). nat_abs z ≤ M) e s }

pub kept : {M : ℕ} {x y : ℤ} → Held M x y → M < 2 ^ 63 → Held M (to_z w64 (of_z w64 x)) y
kept {x = x} h l = record { same = to_z-of_z w64 x (fits h l) ∙ h.same; small = h.small }

-- products, differences and sums

pub product_held : {M N : ℕ} {x y z t : ℤ} → Held M x y → Held N z t → Held (M * N) (x *ℤ z) (y *ℤ t)
product_held {y = y} {t = t} h g = record { same = ap₂ ◌*ℤ◌ h.same g.same; small = rw (abs-mul y t) (mul-le-mul h.small g.small) }

pub difference_held : {M N : ℕ} {x y z t : ℤ} → Held M x y → Held N z t → Held (M + N) (x -ℤ z) (y -ℤ t)
difference_held {M} {N} {y = y} {t = t} h g = record { same = ap₂ ◌-ℤ◌ h.same g.same; small = abs-sub y t h.small g.small }
  where
    abs-sub : (a b : ℤ) → nat_abs a ≤ M → nat_abs b ≤ N → nat_abs (a -ℤ b) ≤ M + N
    abs-sub a b p q = omega (arith, ints)

pub sum_held : {M N : ℕ} {x y z t : ℤ} → Held M x y → Held N z t → Held (M + N) (x +ℤ z) (y +ℤ t)
sum_held {y = y} {t = t} h g = let p = h.small in let q = g.small in record { same = ap₂ ◌+ℤ◌ h.same g.same; small = omega (arith, abs-add y t) }
