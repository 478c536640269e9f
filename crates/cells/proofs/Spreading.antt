-- A loop that spreads a number over the places that pass, bit by bit.
use Rattle.std.proofs.Common.{◌≡◌, ℕ, suc, ◌+◌, ◌-◌, ◌*◌, ◌/◌, ◌%◌, ◌^◌, ◌<◌, Bool, true, false, cond, sym, refl, ap, ◌∙◌, subst, ap₂, mul_assoc, mul-add, add-one, arith}
use native.Mathlib.Nat.{pow-succ'}
use Rattle.cells.specs.Spread.{spread}

-- a loop that spreads bit by bit: what is done, and what is left at place j of 7
pub record Spreads (q : ℕ → Bool) (n j rest bit code : ℕ) : Type 0 where
  pub bit_is : bit ≡ 2 ^ j
  pub done : code < bit
  pub whole : code + bit * spread q j (7 - j) rest ≡ spread q 0 7 n

spread_step : (q : ℕ → Bool) (j t : ℕ) → j < 7 → spread q j (7 - j) t ≡ cond (q j) (t % 2 + 2 * spread q (j + 1) (7 - (j + 1)) (t / 2)) (2 * spread q (j + 1) (7 - (j + 1)) t)
unfolding spread
spread_step q j t h = let e : 7 - j ≡ suc (7 - (j + 1)) = omega arith in rw e refl

times : (b x y : ℕ) → b * (x + 2 * y) ≡ b * x + (b * 2) * y
times b x y = mul-add b x (2 * y) ∙ ap (λ k. b * x + k) (sym (mul_assoc b 2 y))

module _ (q : ℕ → Bool) (n j rest bit code : ℕ) (h : j < 7) (s : Spreads q n j rest bit code) where
  double : bit * 2 ≡ 2 ^ (j + 1)
  double = let e = s.bit_is in let p = pow-succ' 2 j in let k : 2 ^ (j + 1) ≡ 2 ^ suc j = ap (λ m. 2 ^ m) (add-one j) in omega arith

  -- the place does not pass; it does, and the bit is 1; or 0
  pub spreads_pass : q j ≡ false → Spreads q n (j + 1) rest (bit * 2) code
  spreads_pass e =
      let w = s.whole in
      let d = s.done in
      let X : ℕ = spread q (j + 1) (7 - (j + 1)) rest in
      let f : spread q j (7 - j) rest ≡ 0 + 2 * X = spread_step q j rest h ∙ ap (λ b. cond b (rest % 2 + 2 * spread q (j + 1) (7 - (j + 1)) (rest / 2)) (2 * X)) e ∙ omega arith in
      let g : bit * spread q j (7 - j) rest ≡ bit * 0 + (bit * 2) * X = ap (λ k. bit * k) f ∙ times bit 0 X in
      record { bit_is = double; done = omega arith; whole = omega arith }

  pub spreads_one : q j ≡ true → rest % 2 ≡ 1 → Spreads q n (j + 1) (rest / 2) (bit * 2) (code + bit)
  spreads_one e o =
      let w = s.whole in
      let d = s.done in
      let X : ℕ = spread q (j + 1) (7 - (j + 1)) (rest / 2) in
      let f : spread q j (7 - j) rest ≡ 1 + 2 * X = spread_step q j rest h ∙ ap₂ (λ b x. cond b (x + 2 * X) (2 * spread q (j + 1) (7 - (j + 1)) rest)) e o in
      let g : bit * spread q j (7 - j) rest ≡ bit * 1 + (bit * 2) * X = ap (λ k. bit * k) f ∙ times bit 1 X in
      record { bit_is = double; done = omega arith; whole = omega arith }

  pub spreads_zero : q j ≡ true → rest % 2 ≡ 0 → Spreads q n (j + 1) (rest / 2) (bit * 2) code
  spreads_zero e o =
      let w = s.whole in
      let d = s.done in
      let X : ℕ = spread q (j + 1) (7 - (j + 1)) (rest / 2) in
      let f : spread q j (7 - j) rest ≡ 0 + 2 * X = spread_step q j rest h ∙ ap₂ (λ b x. cond b (x + 2 * X) (2 * spread q (j + 1) (7 - (j + 1)) rest)) e o in
      let g : bit * spread q j (7 - j) rest ≡ bit * 0 + (bit * 2) * X = ap (λ k. bit * k) f ∙ times bit 0 X in
      record { bit_is = double; done = omega arith; whole = omega arith }

pub spreads_all : (q : ℕ → Bool) (n j rest bit code : ℕ) → j ≡ 7 → Spreads q n j rest bit code → code ≡ spread q 0 7 n
unfolding spread
spreads_all q n j rest bit code e s = let w = subst (λ k. code + bit * spread q k (7 - k) rest ≡ spread q 0 7 n) e s.whole in w0 w
  where
    w0 : code + bit * 0 ≡ spread q 0 7 n → code ≡ spread q 0 7 n
    w0 w = omega arith

pub spreads_to : {q : ℕ → Bool} {n j rest bit code rest' code' : ℕ} → rest' ≡ rest → code' ≡ code → Spreads q n j rest bit code → Spreads q n j rest' bit code'
spreads_to {q} {n} {j} {rest} {bit} {code} {rest'} {code'} e f s = subst (λ c. Spreads q n j rest' bit c) (sym f) (subst (λ x. Spreads q n j x bit code) (sym e) s)
