-- Which signs numbers have.
use Rattle.std.proofs.Common.{◌≡◌, ℕ, zero, suc, ◌+◌, ◌<◌, ◌≤◌, Bool, List, length, take, ◌∙◌, ◌&&◌, ◌||◌, ℤ, pos, refl, ap, subst, ap₂, arith}
use Rattle.std.specs.Prelude.{int_le, int_lt}
use Rattle.std.proofs.lemmas.List.{get_or-take, length-take-le}
use Rattle.grid.specs.Below.{some_below, table}
use Rattle.grid.proofs.Below.{get_or-table, length-table}
use Rattle.crossing.specs.Weights.{entry}
use Rattle.crossing.specs.Determinants.{is_above, is_below, is_level, signs_below}
use Rattle.crossing.specs.declared.signs.Signs.{Signs}

pub same_signs : (s t : Signs) → s.above ≡ t.above → s.below ≡ t.below → s.level ≡ t.level → s ≡ t
same_signs s t a b l = subst (λ (x : Bool). s ≡ record { above = x; below = t.below; level = t.level }) a (subst (λ (x : Bool). s ≡ record { above = s.above; below = x; level = t.level }) b (ap (λ (x : Bool). record { above = s.above; below = s.below; level = x }) l))

some_same : (p q : ℕ → Bool) (n : ℕ) → ((i : ℕ) → i < n → p i ≡ q i) → some_below p n ≡ some_below q n
unfolding some_below
some_same p q zero h = refl
some_same p q (suc n) h = ap₂ ◌||◌ (h n (omega arith)) (some_same p q n (λ i g. h i (omega arith)))

-- numbers that are the same have the same signs
pub signs_same : (f g : ℕ → ℤ) (n : ℕ) → ((i : ℕ) → i < n → f i ≡ g i) → signs_below f n ≡ signs_below g n
signs_same f g n h = same_signs (signs_below f n) (signs_below g n)
    (some_same (is_above f) (is_above g) n (λ i l. ap (int_lt (pos 0)) (h i l)))
    (some_same (is_below f) (is_below g) n (λ i l. ap (λ (x : ℤ). int_lt x (pos 0)) (h i l)))
    (some_same (is_level f) (is_level g) n (λ i l. ap (λ (x : ℤ). int_le x (pos 0) && int_le (pos 0) x) (h i l)))

-- the signs of the first n + 1 numbers of four
pub signs_taken : (f : ℕ → ℤ) (xs : List ℤ) (m n : ℕ) → m ≡ n → xs ≡ table 4 f → n ≤ 3 → signs_below (entry (take (m + 1) xs)) (length (take (m + 1) xs)) ≡ signs_below f (n + 1)
signs_taken f xs m n e t h =
    let long : length xs ≡ 4 = ap length t ∙ length-table 4 f in
    let size : length (take (m + 1) xs) ≡ n + 1 = length-take-le (m + 1) xs (omega arith) ∙ ap (λ i. i + 1) e in
    ap (signs_below (entry (take (m + 1) xs))) size
    ∙ signs_same (entry (take (m + 1) xs)) f (n + 1) (λ i l. get_or-take (m + 1) xs i (pos 0) (omega arith) ∙ ap (λ ys. entry ys i) t ∙ get_or-table 4 f i (pos 0) (omega arith))
