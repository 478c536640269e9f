-- Where all signed determinants are 0, some weights are not proportional. If a minor with one row less is not 0, it makes
-- weights for each other vertex; so those minors are 0 too, and so on down to the values.
use Rattle.std.proofs.Common.{◌≡◌, ℕ, zero, suc, ◌+◌, ◌-◌, ◌%◌, ◌<◌, ◌≤◌, Bool, true, not, ◌&&◌, eqb, leb, [], ◌∷◌, get_or, ℤ, pos, ◌+ℤ◌, ◌*ℤ◌, neg_ℤ, sym, refl, ap, ◌∙◌, ap₂, arith}
use lib.IntN.{ℤ_discrete, *ℤ-zero}
use Rattle.std.proofs.lemmas.Bool.{and_parts, eqb-false, leb-true, not-true}
use Rattle.grid.proofs.Below.{all_at}
use Rattle.grid.specs.Below.{all_below}
use Rattle.crossing.specs.Determinants.{minor, minor3, passing, signed_determinant}
use Rattle.crossing.proofs.Minors.{Weighs, env, V, minor_e, minor3_e, signed_e, eval_signed, beside}
use Rattle.crossing.proofs.Ring.{Expr, con, add, mul, neg, sub, x, eval, vanishes_with, zero_with, ring, ring_same, at}
use Rattle.crossing.proofs.SignRules.{no_divisor}
use Rattle.crossing.proofs.Sums.{unit, unit_here, unit_elsewhere, three, sum_unit, sum_three}
use Rattle.crossing.proofs.Whole.{one-*ℤ}

-- all weights are proportional
abbrev pub Aligned : ℕ → (ℕ → ℕ → ℤ) → Type 0
Aligned k v = (w u : ℕ → ℤ) → Weighs k v w → Weighs k v u → (i j : ℕ) → i ≤ k → j ≤ k → w i *ℤ u j ≡ w j *ℤ u i

-- i and j are two vertices beside p and q
abbrev is_apart : (k p q i j : ℕ) → Bool
is_apart k p q i j = leb i k && (leb j k && (not (eqb i j) && (not (eqb p i) && (not (eqb q i) && (not (eqb p j) && not (eqb q j))))))

record Apart (k p q i j : ℕ) : Type 0 where
  i_in : i ≤ k
  j_in : j ≤ k
  distinct : i ≡ j → ⊥
  p_i : p ≡ i → ⊥
  q_i : q ≡ i → ⊥
  p_j : p ≡ j → ⊥
  q_j : q ≡ j → ⊥

apart : (k p q i j : ℕ) → is_apart k p q i j ≡ true → Apart k p q i j
apart k p q i j t =
    let a = and_parts (leb i k) _ t in
    let b = and_parts (leb j k) _ a.1 in
    let c = and_parts (not (eqb i j)) _ b.1 in
    let d = and_parts (not (eqb p i)) _ c.1 in
    let e = and_parts (not (eqb q i)) _ d.1 in
    let f = and_parts (not (eqb p j)) _ e.1 in
    record {
      i_in = leb-true i k a.0;
      j_in = leb-true j k b.0;
      distinct = eqb-false i j (not-true (eqb i j) c.0);
      p_i = eqb-false p i (not-true (eqb p i) d.0);
      q_i = eqb-false q i (not-true (eqb q i) e.0);
      p_j = eqb-false p j (not-true (eqb p j) f.0);
      q_j = eqb-false q j (not-true (eqb q j) f.1);
    }

-- tests of two and of three numbers

all_two : (p : ℕ → ℕ → Bool) (m n : ℕ) → all_below (λ a. all_below (p a) n) m ≡ true → (a b : ℕ) → a < m → b < n → p a b ≡ true
all_two p m n t a b la lb = all_at (p a) n (all_at (λ a. all_below (p a) n) m t a la) b lb

all_three : (p : ℕ → ℕ → ℕ → Bool) (n : ℕ) → all_below (λ a. all_below (λ b. all_below (p a b) n) n) n ≡ true → (a b c : ℕ) → a < n → b < n → c < n → p a b c ≡ true
all_three p n t a b c la lb lc = all_two (p a) n n (all_at (λ a. all_below (λ b. all_below (p a b) n) n) n t a la) b c lb lc

-- two vertices beside one, and two beside two of the four

apart_one : (k : ℕ) → 2 ≤ k → k ≤ 3 → (p : ℕ) → p ≤ k → Apart k p p (passing p 0) (passing p 1)
unfolding all_below
apart_one k low high p lp = apart k p p (passing p 0) (passing p 1) (all_at (λ p. is_apart k p p (passing p 0) (passing p 1)) (suc k) (computed k low high) p (omega arith))
  where
    computed : (k : ℕ) → 2 ≤ k → k ≤ 3 → all_below (λ p. is_apart k p p (passing p 0) (passing p 1)) (suc k) ≡ true
    computed zero a b = absurd (omega arith)
    computed (suc zero) a b = absurd (omega arith)
    computed (suc (suc zero)) a b = refl
    computed (suc (suc (suc zero))) a b = refl
    computed (suc (suc (suc (suc k)))) a b = absurd (omega arith)

apart_two : (p q : ℕ) → p ≤ 3 → q ≤ 3 → Apart 3 p q (beside p q 0) (beside p q 1)
unfolding all_below
apart_two p q lp lq = apart 3 p q (beside p q 0) (beside p q 1) (all_two (λ p q. is_apart 3 p q (beside p q 0) (beside p q 1)) 4 4 refl p q (omega arith) (omega arith))

module _ (k : ℕ) (v : ℕ → ℕ → ℤ) (same : Aligned k v) where
  -- m at h, a h at p and b h at q: if these are weights for each vertex h, then m is 0, by those for two vertices
  abbrev MakesWeights : (m : ℤ) (a b : ℕ → ℤ) (p q : ℕ) → Type 0
  MakesWeights m a b p q = (h r : ℕ) → h ≤ k → r < k → (m *ℤ v h r) +ℤ ((a h *ℤ v p r) +ℤ (b h *ℤ v q r)) ≡ pos 0

  no_common_weight : (m : ℤ) (a b : ℕ → ℤ) (p q i j : ℕ) → p ≤ k → q ≤ k → Apart k p q i j → MakesWeights m a b p q → m ≡ pos 0
  no_common_weight m a b p q i j lp lq s zero-rows = elim (ℤ_discrete m (pos 0)) [ yes e ↦ e | no ne ↦ no_divisor m m square ne ]
    where
      w : ℕ → ℕ → ℤ
      w h = three m (a h) (b h) h p q

      weighs : (h : ℕ) → h ≤ k → Weighs k v (w h)
      weighs h lh r l = sum_three m (a h) (b h) h p q (λ e. v e r) (suc k) (omega arith) (omega arith) (omega arith) ∙ zero-rows h r lh l

      at_other : (h e : ℕ) → (p ≡ e → ⊥) → (q ≡ e → ⊥) → w h e ≡ m *ℤ unit h e
      at_other h e np nq =
          ap₂ (λ y z. (m *ℤ unit h e) +ℤ ((a h *ℤ y) +ℤ (b h *ℤ z))) (unit_elsewhere p e np) (unit_elsewhere q e nq)
          ∙ ring_same (add (x 0) (add (mul (x 1) (con (pos 0))) (mul (x 2) (con (pos 0))))) (x 0) (at ((m *ℤ unit h e) ∷ a h ∷ b h ∷ [])) refl

      one : (h : ℕ) → (p ≡ h → ⊥) → (q ≡ h → ⊥) → w h h ≡ m
      one h np nq = at_other h h np nq ∙ ap (λ z. m *ℤ z) (unit_here h) ∙ ring_same (mul (x 0) (con (pos 1))) (x 0) (at (m ∷ [])) refl

      none : w i j ≡ pos 0
      none = at_other i j s.p_j s.q_j ∙ ap (λ z. m *ℤ z) (unit_elsewhere i j s.distinct) ∙ *ℤ-zero m

      square : m *ℤ m ≡ pos 0
      square =
          sym (ap₂ ◌*ℤ◌ (one i s.p_i s.q_i) (one j s.p_j s.q_j))
          ∙ same (w i) (w j) (weighs i s.i_in) (weighs j s.j_in) i j s.i_in s.j_in
          ∙ ap (λ z. z *ℤ w j i) none ∙ ring (mul (con (pos 0)) (x 0)) (at (w j i ∷ [])) refl

  -- not all values are 0, not all minors of two rows, and then not all of three

  some_value : 1 ≤ k → ((i r : ℕ) → i ≤ k → r < k → v i r ≡ pos 0) → ⊥
  some_value low zeros =
      let e : pos 1 ≡ pos 0 = same (λ j. pos 1 *ℤ unit 0 j) (λ j. pos 1 *ℤ unit 1 j) (weighs 0 (omega arith)) (weighs 1 low) 0 1 (omega arith) low in
      let z : ◌≡◌ {A = ℕ} 1 0 = cc in
      omega arith
    where
      weighs : (h : ℕ) → h ≤ k → Weighs k v (λ j. pos 1 *ℤ unit h j)
      weighs h lh r l = sum_unit (pos 1) h (λ j. v j r) (suc k) (omega arith) ∙ one-*ℤ (v h r) ∙ zeros h r lh l

  some_minor : 2 ≤ k → k ≤ 3 → ((i j r s : ℕ) → i ≤ k → j ≤ k → r < k → s < k → minor v i j r s ≡ pos 0) → ⊥
  some_minor low high zeros = some_value (omega arith) (λ p r lp lr.
      no_common_weight (v p r) (λ h. neg_ℤ (v h r)) (λ h. pos 0) p p (passing p 0) (passing p 1) lp lp (apart_one k low high p lp) (λ h s lh ls.
      ring_same (add (mul (x 0) (x 3)) (add (mul (neg (x 2)) (x 1)) (mul (con (pos 0)) (x 1)))) (sub (mul (x 0) (x 3)) (mul (x 1) (x 2))) (at (v p r ∷ v p s ∷ v h r ∷ v h s ∷ [])) refl
      ∙ zeros p h r s lp lh lr ls))

-- the rows r and s and another, at the vertices 0, 1 and 2: the determinant of three rows, or 0

abbrev bordered : (r s t : ℕ) → Expr
bordered r s t = add (mul (minor_e 1 2 r s) (V 0 t)) (add (mul (neg (minor_e 0 2 r s)) (V 1 t)) (mul (minor_e 0 1 r s) (V 2 t)))

bordered_computed : all_below (λ r. all_below (λ s. all_below (λ t. vanishes_with (bordered r s t) (minor3_e 0 1 2)) 3) 3) 3 ≡ true
unfolding all_below
bordered_computed = refl

some_minor3 : (v : ℕ → ℕ → ℤ) → Aligned 3 v → ((i j h : ℕ) → i ≤ 3 → j ≤ 3 → h ≤ 3 → minor3 v i j h ≡ pos 0) → ⊥
some_minor3 v same zeros = some_minor 3 v same (omega arith) (omega arith) (λ p q r s lp lq lr ls.
    no_common_weight 3 v same (minor v p q r s) (λ h. neg_ℤ (minor v h q r s)) (λ h. minor v h p r s) p q (beside p q 0) (beside p q 1) lp lq (apart_two p q lp lq) (λ h t lh lt.
    zero_with (bordered r s t) (minor3_e 0 1 2) (env (λ i. v (get_or (h ∷ p ∷ q ∷ []) i 0)) (λ i. pos 0)) (zeros h p q lh lp lq)
    (all_three (λ r s t. vanishes_with (bordered r s t) (minor3_e 0 1 2)) 3 bordered_computed r s t lr ls lt)))

-- with all signed determinants 0, all minors of k rows are 0: each is 0 in itself, or up to sign the one without a vertex

abbrev value_test : (i r : ℕ) → Bool
value_test i r = vanishes_with (V i r) (signed_e 1 ((1 - i) % 2))

abbrev minor_test : (i j r s : ℕ) → Bool
minor_test i j r s = vanishes_with (minor_e i j r s) (signed_e 2 ((3 - (i + j)) % 3))

abbrev minor3_test : (i j h : ℕ) → Bool
minor3_test i j h = vanishes_with (minor3_e i j h) (signed_e 3 ((6 - (i + j + h)) % 4))

values_computed : all_below (λ i. all_below (value_test i) 1) 2 ≡ true
unfolding all_below
values_computed = refl

minors_computed : all_below (λ i. all_below (λ j. all_below (λ r. all_below (minor_test i j r) 2) 2) 3) 3 ≡ true
unfolding all_below
minors_computed = refl

minors3_computed : all_below (λ i. all_below (λ j. all_below (minor3_test i j) 4) 4) 4 ≡ true
unfolding all_below
minors3_computed = refl

zero_by : (k : ℕ) (v : ℕ → ℕ → ℤ) → ((i : ℕ) → i ≤ k → signed_determinant k v i ≡ pos 0) → (a : Expr) (z : ℕ) → z ≤ k → vanishes_with a (signed_e k z) ≡ true → eval (env v (λ i. pos 0)) a ≡ pos 0
zero_by k v zeros a z l t = zero_with a (signed_e k z) (env v (λ i. pos 0)) (eval_signed v (λ i. pos 0) k z ∙ zeros z l) t

pub some_signed : (k : ℕ) → 1 ≤ k → k ≤ 3 → (v : ℕ → ℕ → ℤ) → Aligned k v → ((i : ℕ) → i ≤ k → signed_determinant k v i ≡ pos 0) → ⊥
some_signed zero low high v same zeros = absurd (omega arith)
some_signed (suc zero) low high v same zeros = some_value 1 v same low (λ i r li lr.
    zero_by 1 v zeros (V i r) ((1 - i) % 2) (omega arith) (all_two value_test 2 1 values_computed i r (omega arith) lr))
some_signed (suc (suc zero)) low high v same zeros = some_minor 2 v same (omega arith) (omega arith) (λ i j r s li lj lr ls.
    let here = all_two (λ i j. all_below (λ r. all_below (minor_test i j r) 2) 2) 3 3 minors_computed i j (omega arith) (omega arith) in
    zero_by 2 v zeros (minor_e i j r s) ((3 - (i + j)) % 3) (omega arith) (all_two (minor_test i j) 2 2 here r s lr ls))
some_signed (suc (suc (suc zero))) low high v same zeros = some_minor3 v same (λ i j h li lj lh.
    zero_by 3 v zeros (minor3_e i j h) ((6 - (i + j + h)) % 4) (omega arith) (all_three minor3_test 4 minors3_computed i j h (omega arith) (omega arith) (omega arith)))
some_signed (suc (suc (suc (suc k)))) low high v same zeros = absurd (omega arith)
