-- Sums of weights times values, where few weights are not 0.
use Rattle.std.proofs.Common.{◌≡◌, ℕ, zero, suc, ◌<◌, cond, eqb, [], ◌∷◌, ℤ, pos, ◌+ℤ◌, ◌*ℤ◌, neg_ℤ, sym, refl, ap, ◌∙◌, ap₂, arith}
use lib.IntN.{neg_ℤ-+ℤ}
use Rattle.std.proofs.lemmas.Bool.{eq-eqb, ne_eqb}
use Rattle.grid.proofs.Summed.{sum_one}
use Rattle.grid.specs.Sums.{sum_below}
use Rattle.crossing.proofs.Ring.{x, con, add, mul, ring, ring_same, at}
use Rattle.crossing.proofs.Whole.{negℤ-*ℤ}

pub sum_same : (f g : ℕ → ℤ) (n : ℕ) → ((i : ℕ) → i < n → f i ≡ g i) → sum_below f n ≡ sum_below g n
unfolding sum_below
sum_same f g zero h = refl
sum_same f g (suc n) h = ap₂ ◌+ℤ◌ (sum_same f g n (λ i l. h i (omega arith))) (h n (omega arith))

pub sum_negated : (w f : ℕ → ℤ) (n : ℕ) → sum_below (λ i. neg_ℤ (w i) *ℤ f i) n ≡ neg_ℤ (sum_below (λ i. w i *ℤ f i) n)
unfolding sum_below
sum_negated w f zero = refl
sum_negated w f (suc n) = ap₂ ◌+ℤ◌ (sum_negated w f n) (negℤ-*ℤ (w n) (f n)) ∙ sym (neg_ℤ-+ℤ (sum_below (λ i. w i *ℤ f i) n) (w n *ℤ f n))

sum_of_sums : (w u f : ℕ → ℤ) (n : ℕ) → sum_below (λ i. (w i +ℤ u i) *ℤ f i) n ≡ sum_below (λ i. w i *ℤ f i) n +ℤ sum_below (λ i. u i *ℤ f i) n
unfolding sum_below
sum_of_sums w u f zero = refl
sum_of_sums w u f (suc n) =
    let s = sum_below (λ i. w i *ℤ f i) n in
    let t = sum_below (λ i. u i *ℤ f i) n in
    ap (λ z. z +ℤ ((w n +ℤ u n) *ℤ f n)) (sum_of_sums w u f n)
    ∙ ring_same (add (add (x 0) (x 1)) (mul (add (x 2) (x 3)) (x 4))) (add (add (x 0) (mul (x 2) (x 4))) (add (x 1) (mul (x 3) (x 4)))) (at (s ∷ t ∷ w n ∷ u n ∷ f n ∷ [])) refl

-- 1 at p, and else 0
abbrev pub unit : ℕ → ℕ → ℤ
unit p j = cond (eqb p j) (pos 1) (pos 0)

pub unit_here : (p : ℕ) → unit p p ≡ pos 1
unit_here p = ap (λ b. cond b (pos 1) (pos 0)) (eq-eqb p p refl)

pub unit_elsewhere : (p j : ℕ) → (p ≡ j → ⊥) → unit p j ≡ pos 0
unit_elsewhere p j h = ap (λ b. cond b (pos 1) (pos 0)) (ne_eqb p j h)

pub sum_unit : (c : ℤ) (p : ℕ) (f : ℕ → ℤ) (n : ℕ) → p < n → sum_below (λ j. (c *ℤ unit p j) *ℤ f j) n ≡ c *ℤ f p
sum_unit c p f n l =
    sum_one (λ j. (c *ℤ unit p j) *ℤ f j) n p l
    (λ j h ne. ap (λ z. (c *ℤ z) *ℤ f j) (unit_elsewhere p j (λ e. ne (sym e))) ∙ ring (mul (mul (x 0) (con (pos 0))) (x 1)) (at (c ∷ f j ∷ [])) refl)
    ∙ ap (λ z. (c *ℤ z) *ℤ f p) (unit_here p)
    ∙ ring_same (mul (mul (x 0) (con (pos 1))) (x 1)) (mul (x 0) (x 1)) (at (c ∷ f p ∷ [])) refl

-- a at i, b at p and c at q
abbrev pub three : (a b c : ℤ) → (i p q : ℕ) → ℕ → ℤ
three a b c i p q j = (a *ℤ unit i j) +ℤ ((b *ℤ unit p j) +ℤ (c *ℤ unit q j))

pub sum_three : (a b c : ℤ) (i p q : ℕ) (f : ℕ → ℤ) (n : ℕ) → i < n → p < n → q < n → sum_below (λ j. three a b c i p q j *ℤ f j) n ≡ (a *ℤ f i) +ℤ ((b *ℤ f p) +ℤ (c *ℤ f q))
sum_three a b c i p q f n li lp lq =
    sum_of_sums (λ j. a *ℤ unit i j) (λ j. (b *ℤ unit p j) +ℤ (c *ℤ unit q j)) f n
    ∙ ap₂ ◌+ℤ◌ (sum_unit a i f n li) (sum_of_sums (λ j. b *ℤ unit p j) (λ j. c *ℤ unit q j) f n ∙ ap₂ ◌+ℤ◌ (sum_unit b p f n lp) (sum_unit c q f n lq))
