-- How large the parts of a quadric are, for coefficients of 16 bits and coordinates from 0 to 1,000.
use Rattle.std.proofs.Common.{◌≡◌, ℕ, zero, suc, ◌+◌, ◌*◌, ◌^◌, ◌<◌, ◌≤◌, true, ℤ, pos, negsuc, ◌+ℤ◌, ◌*ℤ◌, neg_ℤ, nat_abs, refl, mul-le-mul, arith, w16, w64, SFits}
use Rattle.std.proofs.lemmas.Int.{ints}
use Rattle.grid.specs.Boxes.{on_axis}
use Rattle.grid.proofs.Places.{on_axis_is}
use Rattle.fields.specs.Quadrics.{axis_part}

abs_neg : (n : ℕ) → nat_abs (neg_ℤ (pos n)) ≡ n
abs_neg zero = refl
abs_neg (suc n) = refl

pub abs-mul : (a b : ℤ) → nat_abs (a *ℤ b) ≡ nat_abs a * nat_abs b
abs-mul (pos a) (pos b) = refl
abs-mul (pos a) (negsuc b) = abs_neg (a * suc b)
abs-mul (negsuc a) (pos b) = abs_neg (suc a * b)
abs-mul (negsuc a) (negsuc b) = refl

pub abs-add : (a b : ℤ) → nat_abs (a +ℤ b) ≤ nat_abs a + nat_abs b
abs-add (pos a) (pos b) = omega arith
abs-add (pos a) (negsuc b) = grind (arith, ints)
abs-add (negsuc a) (pos b) = grind (arith, ints)
abs-add (negsuc a) (negsuc b) = omega arith

pub abs_fits : (x : ℤ) → nat_abs x < 2 ^ 63 → SFits w64 x
abs_fits (pos n) h = record { sfits = omega arith }
abs_fits (negsuc n) h = record { sfits = omega arith }

pub abs_16 : (x : ℤ) → SFits w16 x → nat_abs x ≤ 2 ^ 15
abs_16 (pos n) f = omega (arith, f.sfits)
abs_16 (negsuc n) f = omega (arith, f.sfits)

-- each number on the way to what one axis adds, and that number itself
pub record Bounded (a b x : ℤ) : Type 0 where
  pub first : SFits w64 a
  pub second : SFits w64 b
  pub coordinate : SFits w64 x
  pub linear : SFits w64 (a *ℤ x)
  pub twice : SFits w64 (x *ℤ x)
  pub square : SFits w64 (b *ℤ (x *ℤ x))
  pub whole : SFits w64 ((a *ℤ x) +ℤ (b *ℤ (x *ℤ x)))
  pub small : nat_abs (axis_part a b x) ≤ 2 ^ 35

pub bounded : (a b x : ℤ) → SFits w16 a → SFits w16 b → on_axis 1000 x ≡ true → Bounded a b x
bounded a b x fa fb h =
    let la : nat_abs a ≤ 2 ^ 15 = abs_16 a fa in
    let lb : nat_abs b ≤ 2 ^ 15 = abs_16 b fb in
    let lx : nat_abs x ≤ 1000 = (on_axis_is 1000 x h).1 in
    let m1 : nat_abs a * nat_abs x ≤ 2 ^ 15 * 1000 = mul-le-mul la lx in
    let m2 : nat_abs x * nat_abs x ≤ 1000 * 1000 = mul-le-mul lx lx in
    let t : nat_abs (x *ℤ x) ≤ 1000000 = omega (arith, abs-mul x x) in
    let m3 : nat_abs b * nat_abs (x *ℤ x) ≤ 2 ^ 15 * 1000000 = mul-le-mul lb t in
    let l : nat_abs (a *ℤ x) ≤ 2 ^ 25 = omega (arith, abs-mul a x) in
    let w : nat_abs (b *ℤ (x *ℤ x)) ≤ 32768000000 = omega (arith, abs-mul b (x *ℤ x)) in
    let s : nat_abs (axis_part a b x) ≤ 2 ^ 35 = omega (arith, abs-add (a *ℤ x) (b *ℤ (x *ℤ x))) in
    record {
      first = abs_fits a (omega arith);
      second = abs_fits b (omega arith);
      coordinate = abs_fits x (omega arith);
      linear = abs_fits (a *ℤ x) (omega arith);
      twice = abs_fits (x *ℤ x) (omega arith);
      square = abs_fits (b *ℤ (x *ℤ x)) (omega arith);
      whole = abs_fits (axis_part a b x) (omega arith);
      small = s;
    }
