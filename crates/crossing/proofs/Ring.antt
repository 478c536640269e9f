-- Equations of polynomials over the whole numbers, by computation: an expression is written as a sum of products of
-- variables, and is 0 everywhere if all coefficients are.
-- A variable has two numbers, so that the entry of a matrix is one; `x n` is the variable n of a list.
--     ring e ρ refl               e is 0, at ρ
--     ring-same a b ρ refl        a is b, at ρ
--     follows a b c R n ρ h refl  a is b where R 0 to R (n - 1) are 0, since a - b is the sum of c r times R r
--     zero-with a b ρ h refl      a is 0 where b is, since it is 0 everywhere or b up to sign
-- Here ρ says what each variable is: `at (p ∷ q ∷ [])` that x 0 is p and x 1 is q.
use Rattle.std.proofs.Common.{◌≡◌, ℕ, zero, suc, ◌<◌, Bool, true, false, cond, ◌&&◌, ◌||◌, eqb, ltb, leb, List, get_or, ℤ, pos, negsuc, ◌+ℤ◌, ◌*ℤ◌, neg_ℤ, sym, refl, ap, ◌∙◌, ap₂, inl, inr, arith}
use lib.IntN.{*ℤ_comm, +ℤ_assoc, +ℤ_idl, +ℤ_idr, zero-*ℤ, *ℤ-zero, neg_ℤ-+ℤ}
use Rattle.std.proofs.lemmas.Int.{ints}
use Rattle.std.proofs.lemmas.Bool.{and_parts, eqb-true, or_cases}
use Rattle.grid.specs.Sums.{sum_below}
use Rattle.crossing.proofs.Whole.{*ℤ-assoc, *ℤ-+ℤ, +ℤ-*ℤ, negℤ-*ℤ, one-*ℤ, same_if_no_difference}

pub data Expr : Type 0 where
  var : ℕ → ℕ → Expr
  con : ℤ → Expr
  add : Expr → Expr → Expr
  mul : Expr → Expr → Expr
  neg : Expr → Expr

abbrev pub sub : Expr → Expr → Expr
sub a b = add a (neg b)

-- f 0 + .. + f (n - 1)
abbrev pub sum : (ℕ → Expr) → ℕ → Expr
sum f zero = con (pos 0)
sum f (suc n) = add (sum f n) (f n)

abbrev pub x : ℕ → Expr
x n = var 0 n

abbrev pub at : List ℤ → ℕ → ℕ → ℤ
at xs i n = get_or xs n (pos 0)

-- a product of variables, ascending, and a sum of such products with coefficients
pub data Product : Type 0 where
  one : Product
  times : ℕ → ℕ → Product → Product

pub data Poly : Type 0 where
  none : Poly
  term : ℤ → Product → Poly → Poly

-- what they mean

abbrev pub eval : (ℕ → ℕ → ℤ) → Expr → ℤ
eval ρ (var i r) = ρ i r
eval ρ (con z) = z
eval ρ (add a b) = eval ρ a +ℤ eval ρ b
eval ρ (mul a b) = eval ρ a *ℤ eval ρ b
eval ρ (neg a) = neg_ℤ (eval ρ a)

abbrev product : (ℕ → ℕ → ℤ) → Product → ℤ
product ρ one = pos 1
product ρ (times i r m) = ρ i r *ℤ product ρ m

abbrev poly : (ℕ → ℕ → ℤ) → Poly → ℤ
poly ρ none = pos 0
poly ρ (term c m p) = (c *ℤ product ρ m) +ℤ poly ρ p

-- the normal form

abbrev before : (i r j s : ℕ) → Bool
before i r j s = ltb i j || (eqb i j && leb r s)

abbrev insert : ℕ → ℕ → Product → Product
insert i r one = times i r one
insert i r (times j s m) = cond (before i r j s) (times i r (times j s m)) (times j s (insert i r m))

abbrev joined : Product → Product → Product
joined one n = n
joined (times i r m) n = insert i r (joined m n)

abbrev same_product : Product → Product → Bool
same_product one one = true
same_product one (times j s n) = false
same_product (times i r m) one = false
same_product (times i r m) (times j s n) = eqb i j && (eqb r s && same_product m n)

abbrev put : ℤ → Product → Poly → Poly
put c m none = term c m none
put c m (term d n p) = cond (same_product m n) (term (c +ℤ d) n p) (term d n (put c m p))

abbrev add_poly : Poly → Poly → Poly
add_poly none q = q
add_poly (term c m p) q = put c m (add_poly p q)

abbrev neg_poly : Poly → Poly
neg_poly none = none
neg_poly (term c m p) = term (neg_ℤ c) m (neg_poly p)

-- one product times p, and q
abbrev add_scaled : ℤ → Product → Poly → Poly → Poly
add_scaled c m none q = q
add_scaled c m (term d n p) q = put (c *ℤ d) (joined m n) (add_scaled c m p q)

abbrev mul_poly : Poly → Poly → Poly
mul_poly none q = none
mul_poly (term c m p) q = add_scaled c m q (mul_poly p q)

abbrev norm : Expr → Poly
norm (var i r) = term (pos 1) (times i r one) none
norm (con z) = term z one none
norm (add a b) = add_poly (norm a) (norm b)
norm (mul a b) = mul_poly (norm a) (norm b)
norm (neg a) = neg_poly (norm a)

abbrev is_zero : ℤ → Bool
is_zero (pos n) = eqb n 0
is_zero (negsuc n) = false

abbrev all_zero : Poly → Bool
all_zero none = true
all_zero (term c m p) = is_zero c && all_zero p

abbrev pub vanishes : Expr → Bool
vanishes e = all_zero (norm e)

-- it means the same

same_means : (m n : Product) → same_product m n ≡ true → m ≡ n
same_means one one t = refl
same_means one (times j s n) t = let z : ◌≡◌ {A = ℕ} 0 1 = cc in absurd (omega arith)
same_means (times i r m) one t = let z : ◌≡◌ {A = ℕ} 0 1 = cc in absurd (omega arith)
same_means (times i r m) (times j s n) t =
    let h = and_parts (eqb i j) (eqb r s && same_product m n) t in
    let g = and_parts (eqb r s) (same_product m n) h.1 in
    let a = eqb-true i j h.0 in
    let b = eqb-true r s g.0 in
    let e = same_means m n g.1 in
    cc

zero_means : (z : ℤ) → is_zero z ≡ true → z ≡ pos 0
zero_means (pos n) t = ap pos (eqb-true n 0 t)
zero_means (negsuc n) t = let z : ◌≡◌ {A = ℕ} 0 1 = cc in absurd (omega arith)

module _ (ρ : ℕ → ℕ → ℤ) where
  insert_means : (i r : ℕ) (m : Product) → product ρ (insert i r m) ≡ ρ i r *ℤ product ρ m
  insert_means i r one = refl
  insert_means i r (times j s m) =
      elim (before i r j s) as (λ b. product ρ (cond b (times i r (times j s m)) (times j s (insert i r m))) ≡ ρ i r *ℤ (ρ j s *ℤ product ρ m)) [
        | true ↦ refl
        | false ↦ ap (λ z. ρ j s *ℤ z) (insert_means i r m) ∙ sym (*ℤ-assoc (ρ j s) (ρ i r) (product ρ m)) ∙ ap (λ z. z *ℤ product ρ m) (*ℤ_comm (ρ j s) (ρ i r)) ∙ *ℤ-assoc (ρ i r) (ρ j s) (product ρ m)
      ]

  joined_means : (m n : Product) → product ρ (joined m n) ≡ product ρ m *ℤ product ρ n
  joined_means one n = sym (one-*ℤ (product ρ n))
  joined_means (times i r m) n =
      insert_means i r (joined m n) ∙ ap (λ z. ρ i r *ℤ z) (joined_means m n) ∙ sym (*ℤ-assoc (ρ i r) (product ρ m) (product ρ n))

  put_means : (c : ℤ) (m : Product) (p : Poly) → poly ρ (put c m p) ≡ (c *ℤ product ρ m) +ℤ poly ρ p
  put_means c m none = refl
  put_means c m (term d n p) = go (same_product m n) (same_means m n) (put_means c m p)
    where
      swap : (a b c : ℤ) → a +ℤ (b +ℤ c) ≡ b +ℤ (a +ℤ c)
      swap a b c = omega (arith, ints)

      go : (b : Bool) → (b ≡ true → m ≡ n) → poly ρ (put c m p) ≡ (c *ℤ product ρ m) +ℤ poly ρ p → poly ρ (cond b (term (c +ℤ d) n p) (term d n (put c m p))) ≡ (c *ℤ product ρ m) +ℤ ((d *ℤ product ρ n) +ℤ poly ρ p)
      go true e h = rw (e refl) (ap (λ z. z +ℤ poly ρ p) (+ℤ-*ℤ c d (product ρ n)) ∙ +ℤ_assoc (c *ℤ product ρ n) (d *ℤ product ρ n) (poly ρ p))
      go false e h = ap (λ z. (d *ℤ product ρ n) +ℤ z) h ∙ swap (d *ℤ product ρ n) (c *ℤ product ρ m) (poly ρ p)

  add_means : (p q : Poly) → poly ρ (add_poly p q) ≡ poly ρ p +ℤ poly ρ q
  add_means none q = sym (+ℤ_idl (poly ρ q))
  add_means (term c m p) q =
      put_means c m (add_poly p q) ∙ ap (λ z. (c *ℤ product ρ m) +ℤ z) (add_means p q) ∙ sym (+ℤ_assoc (c *ℤ product ρ m) (poly ρ p) (poly ρ q))

  neg_means : (p : Poly) → poly ρ (neg_poly p) ≡ neg_ℤ (poly ρ p)
  neg_means none = refl
  neg_means (term c m p) = ap₂ ◌+ℤ◌ (negℤ-*ℤ c (product ρ m)) (neg_means p) ∙ sym (neg_ℤ-+ℤ (c *ℤ product ρ m) (poly ρ p))

  scaled_means : (c : ℤ) (m : Product) (p q : Poly) → poly ρ (add_scaled c m p q) ≡ ((c *ℤ product ρ m) *ℤ poly ρ p) +ℤ poly ρ q
  scaled_means c m none q = sym (ap (λ z. z +ℤ poly ρ q) (*ℤ-zero (c *ℤ product ρ m)) ∙ +ℤ_idl (poly ρ q))
  scaled_means c m (term d n p) q =
      let a = c *ℤ product ρ m in
      let b = d *ℤ product ρ n in
      put_means (c *ℤ d) (joined m n) (add_scaled c m p q)
      ∙ ap₂ ◌+ℤ◌ (ap (λ z. (c *ℤ d) *ℤ z) (joined_means m n) ∙ crosswise c d (product ρ m) (product ρ n)) (scaled_means c m p q)
      ∙ sym (+ℤ_assoc (a *ℤ b) (a *ℤ poly ρ p) (poly ρ q))
      ∙ ap (λ z. z +ℤ poly ρ q) (sym (*ℤ-+ℤ a b (poly ρ p)))
    where
      crosswise : (a b c d : ℤ) → (a *ℤ b) *ℤ (c *ℤ d) ≡ (a *ℤ c) *ℤ (b *ℤ d)
      crosswise a b c d =
          *ℤ-assoc a b (c *ℤ d) ∙ ap (λ z. a *ℤ z) (sym (*ℤ-assoc b c d) ∙ ap (λ z. z *ℤ d) (*ℤ_comm b c) ∙ *ℤ-assoc c b d) ∙ sym (*ℤ-assoc a c (b *ℤ d))

  mul_means : (p q : Poly) → poly ρ (mul_poly p q) ≡ poly ρ p *ℤ poly ρ q
  mul_means none q = sym (zero-*ℤ (poly ρ q))
  mul_means (term c m p) q =
      let a = c *ℤ product ρ m in
      scaled_means c m q (mul_poly p q) ∙ ap (λ z. (a *ℤ poly ρ q) +ℤ z) (mul_means p q) ∙ sym (+ℤ-*ℤ a (poly ρ p) (poly ρ q))

  norm_means : (e : Expr) → poly ρ (norm e) ≡ eval ρ e
  norm_means (var i r) = +ℤ_idr (pos 1 *ℤ (ρ i r *ℤ pos 1)) ∙ one-*ℤ (ρ i r *ℤ pos 1) ∙ *ℤ_comm (ρ i r) (pos 1) ∙ one-*ℤ (ρ i r)
  norm_means (con z) = +ℤ_idr (z *ℤ pos 1) ∙ *ℤ_comm z (pos 1) ∙ one-*ℤ z
  norm_means (add a b) = add_means (norm a) (norm b) ∙ ap₂ ◌+ℤ◌ (norm_means a) (norm_means b)
  norm_means (mul a b) = mul_means (norm a) (norm b) ∙ ap₂ ◌*ℤ◌ (norm_means a) (norm_means b)
  norm_means (neg a) = neg_means (norm a) ∙ ap neg_ℤ (norm_means a)

  all_zero_means : (p : Poly) → all_zero p ≡ true → poly ρ p ≡ pos 0
  all_zero_means none t = refl
  all_zero_means (term c m p) t =
      let h = and_parts (is_zero c) (all_zero p) t in
      ap₂ (λ y z. (y *ℤ product ρ m) +ℤ z) (zero_means c h.0) (all_zero_means p h.1) ∙ +ℤ_idr (pos 0 *ℤ product ρ m) ∙ zero-*ℤ (product ρ m)

  pub eval_sum : (f : ℕ → Expr) (n : ℕ) → eval ρ (sum f n) ≡ sum_below (λ i. eval ρ (f i)) n
  unfolding sum_below
  eval_sum f zero = refl
  eval_sum f (suc n) = ap (λ z. z +ℤ eval ρ (f n)) (eval_sum f n)

  no_sum : (c R : ℕ → Expr) (n : ℕ) → ((r : ℕ) → r < n → eval ρ (R r) ≡ pos 0) → eval ρ (sum (λ r. mul (c r) (R r)) n) ≡ pos 0
  no_sum c R zero h = refl
  no_sum c R (suc n) h = ap₂ ◌+ℤ◌ (no_sum c R n (λ r l. h r (omega arith))) (ap (λ z. eval ρ (c n) *ℤ z) (h n (omega arith)) ∙ *ℤ-zero (eval ρ (c n)))

pub ring : (e : Expr) (ρ : ℕ → ℕ → ℤ) → vanishes e ≡ true → eval ρ e ≡ pos 0
ring e ρ t = sym (norm_means ρ e) ∙ all_zero_means ρ (norm e) t

pub ring_same : (a b : Expr) (ρ : ℕ → ℕ → ℤ) → vanishes (sub a b) ≡ true → eval ρ a ≡ eval ρ b
ring_same a b ρ t = same_if_no_difference (eval ρ a) (eval ρ b) (ring (sub a b) ρ t)

pub follows : (a b : Expr) (c R : ℕ → Expr) (n : ℕ) (ρ : ℕ → ℕ → ℤ) → ((r : ℕ) → r < n → eval ρ (R r) ≡ pos 0) → vanishes (sub (sub a b) (sum (λ r. mul (c r) (R r)) n)) ≡ true → eval ρ a ≡ eval ρ b
follows a b c R n ρ h t = same_if_no_difference (eval ρ a) (eval ρ b) (ring_same (sub a b) (sum (λ r. mul (c r) (R r)) n) ρ t ∙ no_sum ρ c R n h)

-- a is 0, or b up to sign
abbrev pub vanishes_with : Expr → Expr → Bool
vanishes_with a b = vanishes a || (vanishes (sub a b) || vanishes (add a b))

pub zero_with : (a b : Expr) (ρ : ℕ → ℕ → ℤ) → eval ρ b ≡ pos 0 → vanishes_with a b ≡ true → eval ρ a ≡ pos 0
zero_with a b ρ e t = elim (or_cases (vanishes a) (vanishes (sub a b) || vanishes (add a b)) t) [
  | inl h ↦ ring a ρ h
  | inr h ↦ elim (or_cases (vanishes (sub a b)) (vanishes (add a b)) h) [
    | inl g ↦ ring_same a b ρ g ∙ e
    | inr g ↦ (let z = ring (add a b) ρ g in omega (arith, ints))
  ]
]
