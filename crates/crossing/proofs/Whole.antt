-- The laws of the whole numbers under sum, product and sign.
use Rattle.std.proofs.Common.{◌≡◌, ℕ, ◌*◌, ℤ, pos, ◌+ℤ◌, ◌*ℤ◌, neg_ℤ, ap, ◌∙◌, ap₂, mul_assoc, add-mul, mul-add, arith}
use lib.IntN.{*ℤ_comm}
use borrow.Author.Differences.{up, down, same_in, sum_is_lem, neg_is, product_is}
use Rattle.std.proofs.lemmas.Int.{ints}

pub *ℤ-assoc : (a b c : ℤ) → (a *ℤ b) *ℤ c ≡ a *ℤ (b *ℤ c)
*ℤ-assoc a b c = same_in _ _ (
    let p = product_is (a *ℤ b) c in let q = product_is a (b *ℤ c) in let r = product_is a b in let s = product_is b c in
    rw (p.0, p.1, q.0, q.1, r.0, r.1, s.0, s.1) (simp (mul-add, add-mul, mul_assoc) (omega arith)))

pub *ℤ-+ℤ : (a b c : ℤ) → a *ℤ (b +ℤ c) ≡ (a *ℤ b) +ℤ (a *ℤ c)
*ℤ-+ℤ a b c = same_in _ _ (
    let p = product_is a (b +ℤ c) in let q = product_is a b in let r = product_is a c in
    let s = sum_is_lem (a *ℤ b) (a *ℤ c) in let t = sum_is_lem b c in
    let h = simp mul-add at (ap (λ (x : ℕ). up a * x) t) in let g = simp mul-add at (ap (λ (x : ℕ). down a * x) t) in
    omega (arith, p, q, r, s, h, g))

pub +ℤ-*ℤ : (a b c : ℤ) → (a +ℤ b) *ℤ c ≡ (a *ℤ c) +ℤ (b *ℤ c)
+ℤ-*ℤ a b c = *ℤ_comm (a +ℤ b) c ∙ *ℤ-+ℤ c a b ∙ ap₂ ◌+ℤ◌ (*ℤ_comm c a) (*ℤ_comm c b)

pub negℤ-*ℤ : (a b : ℤ) → neg_ℤ a *ℤ b ≡ neg_ℤ (a *ℤ b)
negℤ-*ℤ a b = same_in _ _ (
    let p = product_is a b in let q = neg_is a in let r = product_is (neg_ℤ a) b in let s = neg_is (a *ℤ b) in
    rw (r.0, r.1, s.0, s.1, p.0, p.1, q.0, q.1) (omega arith))

pub one-*ℤ : (a : ℤ) → pos 1 *ℤ a ≡ a
one-*ℤ a = omega (arith, ints)

pub same_if_no_difference : (a b : ℤ) → a +ℤ neg_ℤ b ≡ pos 0 → a ≡ b
same_if_no_difference a b e = omega (arith, ints)
