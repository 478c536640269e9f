-- The signed determinants are weights, and all weights are proportional to them. Both are equations of polynomials, which
-- are computed for each k, row and pair of vertices.
use Rattle.std.proofs.Common.{◌≡◌, ℕ, zero, suc, ◌+◌, ◌-◌, ◌%◌, ◌<◌, ◌≤◌, min, max, Bool, true, false, cond, eqb, ltb, ℤ, pos, ◌*ℤ◌, neg_ℤ, sym, refl, ap, ◌∙◌, arith}
use Rattle.grid.proofs.Below.{all_at}
use Rattle.grid.specs.Below.{all_below}
use Rattle.grid.specs.Sums.{sum_below}
use Rattle.crossing.specs.Determinants.{alternating, determinant, passing, signed_determinant}
use Rattle.crossing.proofs.Ring.{Expr, var, con, add, mul, neg, sub, sum, eval, eval_sum, vanishes, ring, follows}
use Rattle.crossing.proofs.Sums.{sum_same}

abbrev pub Weighs : ℕ → (ℕ → ℕ → ℤ) → (ℕ → ℤ) → Type 0
Weighs k v w = (r : ℕ) → r < k → sum_below (λ i. w i *ℤ v i r) (suc k) ≡ pos 0

-- the variables: the weight of vertex i, and the value of row r at vertex i

abbrev pub env : (ℕ → ℕ → ℤ) → (ℕ → ℤ) → ℕ → ℕ → ℤ
env v w zero i = w i
env v w (suc i) r = v i r

abbrev W : ℕ → Expr
W i = var 0 i

abbrev pub V : ℕ → ℕ → Expr
V i r = var (suc i) r

abbrev pub minor_e : (i j r s : ℕ) → Expr
minor_e i j r s = sub (mul (V i r) (V j s)) (mul (V i s) (V j r))

abbrev pub minor3_e : (i j h : ℕ) → Expr
minor3_e i j h = add (sub (mul (V i 0) (minor_e j h 1 2)) (mul (V i 1) (minor_e j h 0 2))) (mul (V i 2) (minor_e j h 0 1))

abbrev determinant_e : ℕ → (ℕ → ℕ) → Expr
determinant_e zero p = con (pos 1)
determinant_e (suc zero) p = V (p 0) 0
determinant_e (suc (suc zero)) p = minor_e (p 0) (p 1) 0 1
determinant_e (suc (suc (suc k))) p = minor3_e (p 0) (p 1) (p 2)

abbrev alternating_e : ℕ → Expr → Expr
alternating_e i e = cond (eqb (i % 2) 0) e (neg e)

abbrev pub signed_e : ℕ → ℕ → Expr
signed_e k i = alternating_e i (determinant_e k (passing i))

module _ (v : ℕ → ℕ → ℤ) (w : ℕ → ℤ) where
  eval_determinant : (k : ℕ) (p : ℕ → ℕ) → eval (env v w) (determinant_e k p) ≡ determinant k (λ j. v (p j))
  eval_determinant zero p = refl
  eval_determinant (suc zero) p = refl
  eval_determinant (suc (suc zero)) p = refl
  eval_determinant (suc (suc (suc k))) p = refl

  pub eval_signed : (k i : ℕ) → eval (env v w) (signed_e k i) ≡ signed_determinant k v i
  eval_signed k i = go (eqb (i % 2) 0) (determinant_e k (passing i)) ∙ ap (alternating i) (eval_determinant k (passing i))
    where
      go : (b : Bool) (e : Expr) → eval (env v w) (cond b e (neg e)) ≡ cond b (eval (env v w) e) (neg_ℤ (eval (env v w) e))
      go true e = refl
      go false e = refl

-- what is computed

abbrev signed_row : ℕ → ℕ → Expr
signed_row k r = sum (λ i. mul (signed_e k i) (V i r)) (suc k)

abbrev row : ℕ → ℕ → Expr
row k r = sum (λ i. mul (W i) (V i r)) (suc k)

-- the u-th vertex beside i and j
abbrev pub beside : (i j u : ℕ) → ℕ
beside i j u = passing (max i j) (passing (min i j) u)

-- the factor of row r, up to sign, by the other vertices
abbrev cofactor : ℕ → (i j r : ℕ) → Expr
cofactor zero i j r = con (pos 0)
cofactor (suc zero) i j r = con (pos 1)
cofactor (suc (suc zero)) i j r = alternating_e r (V (beside i j 0) (1 - r))
cofactor (suc (suc (suc k))) i j r = minor_e (beside i j 0) (beside i j 1) ((r + 1) % 3) ((r + 2) % 3)

abbrev turn : (i j : ℕ) → ℤ
turn i j = alternating (i + j + cond (ltb j i) 1 0) (cond (eqb i j) (pos 0) (pos 1))

abbrev factor : (k i j r : ℕ) → Expr
factor k i j r = mul (con (turn i j)) (cofactor k i j r)

abbrev swapped : (k i j : ℕ) → Expr
swapped k i j = sub (sub (mul (W i) (signed_e k j)) (mul (W j) (signed_e k i))) (sum (λ r. mul (factor k i j r) (row k r)) k)

record Computed (k : ℕ) : Type 0 where
  weigh : all_below (λ r. vanishes (signed_row k r)) k ≡ true
  swap : all_below (λ i. all_below (λ j. vanishes (swapped k i j)) (suc k)) (suc k) ≡ true

computed : (k : ℕ) → 1 ≤ k → k ≤ 3 → Computed k
unfolding all_below
computed zero a b = absurd (omega arith)
computed (suc zero) a b = record { weigh = refl; swap = refl }
computed (suc (suc zero)) a b = record { weigh = refl; swap = refl }
computed (suc (suc (suc zero))) a b = record { weigh = refl; swap = refl }
computed (suc (suc (suc (suc k)))) a b = absurd (omega arith)

module _ (k : ℕ) (low : 1 ≤ k) (high : k ≤ 3) (v : ℕ → ℕ → ℤ) where
  pub signed_weigh : Weighs k v (signed_determinant k v)
  signed_weigh r l =
      let ρ = env v (λ i. pos 0) in
      sum_same _ _ (suc k) (λ i h. ap (λ z. z *ℤ v i r) (sym (eval_signed v (λ i. pos 0) k i)))
      ∙ sym (eval_sum ρ (λ i. mul (signed_e k i) (V i r)) (suc k))
      ∙ ring (signed_row k r) ρ (all_at (λ r. vanishes (signed_row k r)) k (computed k low high).weigh r l)

  pub signed_proportional : (w : ℕ → ℤ) → Weighs k v w → (i j : ℕ) → i ≤ k → j ≤ k → w i *ℤ signed_determinant k v j ≡ w j *ℤ signed_determinant k v i
  signed_proportional w h i j li lj =
      let ρ = env v w in
      let all = all_at (λ i. all_below (λ j. vanishes (swapped k i j)) (suc k)) (suc k) (computed k low high).swap i (omega arith) in
      let here = all_at (λ j. vanishes (swapped k i j)) (suc k) all j (omega arith) in
      ap (λ z. w i *ℤ z) (sym (eval_signed v w k j))
      ∙ follows (mul (W i) (signed_e k j)) (mul (W j) (signed_e k i)) (factor k i j) (row k) k ρ (λ r l. eval_sum ρ (λ i. mul (W i) (V i r)) (suc k) ∙ h r l) here
      ∙ ap (λ z. w j *ℤ z) (eval_signed v w k i)
