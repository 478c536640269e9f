-- The codes that split a part are the spreads of 1, 2, ..: a part is a mask below 128, and for each mask this is computed.
use Rattle.std.proofs.Common.{◌≡◌, ℕ, zero, suc, ◌+◌, ◌-◌, ◌*◌, ◌/◌, ◌%◌, ◌^◌, ◌<◌, Bool, true, false, cond, not, ◌&&◌, ◌||◌, eqb, List, [], ◌∷◌, ◌++◌, length, sym, refl, ap, ◌∙◌, ap₂, arith}
use Rattle.std.proofs.lemmas.Bool.{and_parts, eqb-true, both_ways}
use Rattle.grid.specs.Below.{all_below, some_below, table}
use Rattle.cells.specs.Chosen.{chosen}
use Rattle.cells.specs.Cells.{in_part}
use Rattle.cells.specs.Splits.{holds, in_a, in_b, is_split, keeps_to, part_size}
use Rattle.cells.specs.Spread.{spread}
use Rattle.cells.specs.declared.records.CellRecord.{CellRecord}
use Rattle.grid.proofs.Below.{all_at, same_table}
use Rattle.cells.proofs.Coding.{code_of, holds_code, code_lt}

same_nat : List ℕ → List ℕ → Bool
same_nat [] [] = true
same_nat [] (y ∷ ys) = false
same_nat (x ∷ xs) [] = false
same_nat (x ∷ xs) (y ∷ ys) = eqb x y && same_nat xs ys

-- the set with the code a splits the one with the code m
splits_mask : ℕ → ℕ → Bool
splits_mask m a = all_below (λ j. not (holds a j) || holds m j) 7 && some_below (λ j. holds m j && holds a j) 7 && some_below (λ j. holds m j && not (holds a j)) 7

mask_holds : ℕ → Bool
mask_holds m = same_nat (chosen (splits_mask m) 128) (table (2 ^ length (chosen (holds m) 7) - 2) (λ t. spread (holds m) 0 7 (t + 1)))

computed : all_below mask_holds 128 ≡ true
unfolding all_below some_below table chosen holds spread same_nat splits_mask mask_holds
computed = refl

same_nat_lem : (xs ys : List ℕ) → same_nat xs ys ≡ true → xs ≡ ys
unfolding same_nat
same_nat_lem [] [] e = refl
same_nat_lem [] (y ∷ ys) e = absurd (both_ways false refl e)
same_nat_lem (x ∷ xs) [] e = absurd (both_ways false refl e)
same_nat_lem (x ∷ xs) (y ∷ ys) e = let p = and_parts _ _ e in ap₂ ◌∷◌ (eqb-true x y p.0) (same_nat_lem xs ys p.1)

-- tests that agree
all_same : (p q : ℕ → Bool) (n : ℕ) → ((k : ℕ) → k < n → p k ≡ q k) → all_below p n ≡ all_below q n
unfolding all_below
all_same p q zero h = refl
all_same p q (suc n) h = ap₂ ◌&&◌ (h n (omega arith)) (all_same p q n (λ k g. h k (omega arith)))

some_same : (p q : ℕ → Bool) (n : ℕ) → ((k : ℕ) → k < n → p k ≡ q k) → some_below p n ≡ some_below q n
unfolding some_below
some_same p q zero h = refl
some_same p q (suc n) h = ap₂ ◌||◌ (h n (omega arith)) (some_same p q n (λ k g. h k (omega arith)))

chosen_same : (p q : ℕ → Bool) (n : ℕ) → ((k : ℕ) → k < n → p k ≡ q k) → chosen p n ≡ chosen q n
unfolding chosen
chosen_same p q zero h = refl
chosen_same p q (suc n) h = ap₂ (λ b xs. cond b (xs ++ n ∷ []) xs) (h n (omega arith)) (chosen_same p q n (λ k g. h k (omega arith)))

spread_same : (p q : ℕ → Bool) (j n t : ℕ) → ((k : ℕ) → k < j + n → p k ≡ q k) → spread p j n t ≡ spread q j n t
unfolding spread
spread_same p q j zero t h = refl
spread_same p q j (suc n) t h =
    let ih : (t : ℕ) → spread p (j + 1) n t ≡ spread q (j + 1) n t = λ t. spread_same p q (j + 1) n t (λ k g. h k (omega arith)) in
    ap (λ b. cond b (t % 2 + 2 * spread p (j + 1) n (t / 2)) (2 * spread p (j + 1) n t)) (h j (omega arith))
    ∙ ap₂ (λ x y. cond (q j) (t % 2 + 2 * x) (2 * y)) (ih (t / 2)) (ih t)

pub codes_are : (r : CellRecord) (p : ℕ) → chosen (is_split r p) 128 ≡ table (2 ^ part_size r p - 2) (λ t. spread (in_part r p) 0 7 (t + 1))
unfolding is_split splits_mask mask_holds
codes_are r p =
    chosen_same (is_split r p) (splits_mask m) 128 (λ a h. ap₂ ◌&&◌ (ap₂ ◌&&◌
    (all_same (keeps_to r p a) _ 7 (λ j g. ap (λ b. not (holds a j) || b) (is j g)))
    (some_same (in_a r p a) _ 7 (λ j g. ap (λ b. b && holds a j) (is j g))))
    (some_same (in_b r p a) _ 7 (λ j g. ap (λ b. b && not (holds a j)) (is j g))))
    ∙ same_nat_lem _ _ (all_at mask_holds 128 computed m (code_lt (in_part r p) 7))
    ∙ ap (λ n. table (2 ^ n - 2) (λ t. spread (holds m) 0 7 (t + 1))) (ap length (sym (chosen_same (in_part r p) (holds m) 7 is)))
    ∙ same_table (2 ^ part_size r p - 2) _ _ 0 (λ t h. sym (spread_same (in_part r p) (holds m) 0 7 (t + 1) (λ k g. is k (omega arith))))
  where
    m : ℕ
    m = code_of (in_part r p) 7

    is : (j : ℕ) → j < 7 → in_part r p j ≡ holds m j
    is j g = sym (holds_code (in_part r p) 7 j g)
