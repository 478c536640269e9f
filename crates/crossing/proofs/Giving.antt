-- The class by the signs of the signed determinants is the one that the weights give, and no other.
use Rattle.std.proofs.Common.{◌≡◌, ℕ, zero, suc, ◌+◌, ◌<◌, ◌≤◌, Bool, true, false, List, [], ◌∷◌, ℤ, pos, ◌*ℤ◌, neg_ℤ, ◌<ℤ◌, sym, refl, ap, ◌∙◌, ap₂, inl, inr, add-one, arith}
use lib.IntN.{*ℤ-zero}
use Rattle.std.proofs.lemmas.Int.{ints}
use Rattle.std.proofs.lemmas.Bool.{both_ways, cases_Bool}
use Rattle.grid.proofs.Below.{get_or-table, length-table, same_table, some_at, some_from}
use Rattle.grid.specs.Below.{some_below, table}
use Rattle.grid.specs.Sums.{sum_below}
use Rattle.crossing.specs.Determinants.{by_signs, class_of, is_above, is_below, is_level, signed_determinant}
use Rattle.crossing.specs.Weights.{Agree, AllProportional, entry, Given, IsClass, IsClear, IsCrossed, IsDegenerate, IsWeights, Matrix, value}
use Rattle.crossing.specs.declared.classes.Class.{Class}
use Rattle.crossing.specs.declared.classes.Class.TheVariants.{Crossed, Clear, Degenerate}
use Rattle.crossing.proofs.Minors.{Weighs, signed_proportional, signed_weigh}
use Rattle.crossing.proofs.Rank.{Aligned, some_signed}
use Rattle.crossing.proofs.Ring.{mul, sub, x, ring_same, at}
use Rattle.crossing.proofs.SignRules.{above_above, above_below, no_divisor, zero_or_opposite}
use Rattle.crossing.proofs.Sums.{sum_negated, sum_same}
use Rattle.crossing.proofs.Whole.{same_if_no_difference}

cancel : (a b c : ℤ) → (c ≡ pos 0 → ⊥) → c *ℤ a ≡ c *ℤ b → a ≡ b
cancel a b c ne e =
    let s = ring_same (mul (x 2) (sub (x 0) (x 1))) (sub (mul (x 2) (x 0)) (mul (x 2) (x 1))) (at (a ∷ b ∷ c ∷ [])) refl in
    same_if_no_difference a b (no_divisor c _ (s ∙ omega (arith, ints)) ne)

-- weights as a list and as a function

entry_table : (k : ℕ) (f : ℕ → ℤ) (i : ℕ) → i ≤ k → entry (table (k + 1) f) i ≡ f i
entry_table k f i l = get_or-table (k + 1) f i (pos 0) (omega arith)

module _ (k : ℕ) (v : Matrix) where
  function_weighs : (w : List ℤ) → IsWeights k v w → Weighs k (value v) (entry w)
  function_weighs w h r l = ap (sum_below (λ i. entry w i *ℤ value v i r)) (sym (add-one k)) ∙ h.rows r l

  list_weighs : (f : ℕ → ℤ) → Weighs k (value v) f → IsWeights k v (table (k + 1) f)
  list_weighs f h =
      record {
        long = length-table (k + 1) f;
        rows = λ r l. sum_same _ _ (k + 1) (λ i g. ap (λ z. z *ℤ value v i r) (entry_table k f i (omega arith))) ∙ ap (sum_below (λ i. f i *ℤ value v i r)) (add-one k) ∙ h r l;
      }

  aligned : AllProportional k v → Aligned k (value v)
  aligned same w u hw hu i j li lj =
      ap₂ ◌*ℤ◌ (sym (entry_table k w i li)) (sym (entry_table k u j lj))
      ∙ same (table (k + 1) w) (table (k + 1) u) (list_weighs w hw) (list_weighs u hu) i j li lj
      ∙ ap₂ ◌*ℤ◌ (entry_table k w j lj) (entry_table k u i li)

none_at : (p : ℕ → Bool) (n : ℕ) → some_below p n ≡ false → (i : ℕ) → i < n → p i ≡ false
none_at p n h i l = elim (cases_Bool (p i)) [ inl t ↦ absurd (both_ways (some_below p n) h (some_from p n i l t)) | inr f ↦ f ]

module _ (k : ℕ) (low : 1 ≤ k) (high : k ≤ 3) (v : Matrix) where
  D : ℕ → ℤ
  D i = signed_determinant k (value v) i

  weigh : Weighs k (value v) D
  unfolding D
  weigh = signed_weigh k low high (value v)

  swap : (w : ℕ → ℤ) → Weighs k (value v) w → (i j : ℕ) → i ≤ k → j ≤ k → w i *ℤ D j ≡ w j *ℤ D i
  unfolding D
  swap = signed_proportional k low high (value v)

  -- one signed determinant is not 0

  all_proportional : (p : ℕ) → p ≤ k → (D p ≡ pos 0 → ⊥) → AllProportional k v
  all_proportional p lp ne w u hw hu i j li lj =
      let a = swap (entry w) (function_weighs k v w hw) i p li lp in
      let b = swap (entry u) (function_weighs k v u hu) j i lj li in
      let c = swap (entry w) (function_weighs k v w hw) p j lp lj in
      let ρ = at (entry w i ∷ entry w j ∷ entry w p ∷ entry u i ∷ entry u j ∷ D i ∷ D j ∷ D p ∷ []) in
      cancel (entry w i *ℤ entry u j) (entry w j *ℤ entry u i) (D p) ne
      (ring_same (mul (x 7) (mul (x 0) (x 4))) (mul (x 4) (mul (x 0) (x 7))) ρ refl
      ∙ ap (λ z. entry u j *ℤ z) a
      ∙ ring_same (mul (x 4) (mul (x 2) (x 5))) (mul (x 2) (mul (x 4) (x 5))) ρ refl
      ∙ ap (λ z. entry w p *ℤ z) b
      ∙ ring_same (mul (x 2) (mul (x 3) (x 6))) (mul (x 3) (mul (x 2) (x 6))) ρ refl
      ∙ ap (λ z. entry u i *ℤ z) c
      ∙ ring_same (mul (x 3) (mul (x 1) (x 7))) (mul (x 7) (mul (x 1) (x 3))) ρ refl)

  crossed_by : (f : ℕ → ℤ) → Weighs k (value v) f → ((i : ℕ) → i ≤ k → pos 0 <ℤ f i) → (D 0 ≡ pos 0 → ⊥) → IsCrossed k v
  crossed_by f h above ne =
      record { same = all_proportional 0 (omega arith) ne; weights = table (k + 1) f; weigh = list_weighs k v f h; above = λ i l. rw (entry_table k f i l) (above i l) }

  crossed_above : ((i : ℕ) → i ≤ k → pos 0 <ℤ D i) → IsCrossed k v
  crossed_above h = crossed_by D weigh h (λ z. let p = h 0 (omega arith) in omega (arith, ints))

  crossed_below : ((i : ℕ) → i ≤ k → D i <ℤ pos 0) → IsCrossed k v
  crossed_below h =
      crossed_by (λ i. neg_ℤ (D i)) (λ r l. sum_negated D (λ i. value v i r) (suc k) ∙ ap neg_ℤ (weigh r l)) (λ i l. let p = h i l in omega (arith, ints))
      (λ z. let p = h 0 (omega arith) in omega (arith, ints))

  clear_by : (i j : ℕ) → i ≤ k → j ≤ k → pos 0 <ℤ D i → D j <ℤ pos 0 → IsClear k v
  clear_by i j li lj p q =
      record {
        same = all_proportional i li (λ z. omega (arith, ints));
        weights = table (k + 1) D;
        weigh = list_weighs k v D weigh;
        up = i;
        up_in = li;
        above = rw (entry_table k D i li) p;
        down = j;
        down_in = lj;
        below = rw (entry_table k D j lj) q;
      }

  -- weights that are not 0 where a signed determinant is 0: all are 0, and some weights are not proportional
  not_there : AllProportional k v → (w : List ℤ) → IsWeights k v w → (z : ℕ) → z ≤ k → (entry w z ≡ pos 0 → ⊥) → D z ≡ pos 0 → ⊥
  unfolding D
  not_there same w h z lz ne e =
      some_signed k low high (value v) (aligned k v same)
      (λ p lp. no_divisor (entry w z) (D p) (swap (entry w) (function_weighs k v w h) z p lz lp ∙ ap (λ y. entry w p *ℤ y) e ∙ *ℤ-zero (entry w p)) ne)

  degenerate_by : (z : ℕ) → z ≤ k → D z ≡ pos 0 → ((i j : ℕ) → i ≤ k → j ≤ k → pos 0 <ℤ D i → D j <ℤ pos 0 → ⊥) → IsDegenerate k v
  degenerate_by z lz e never = record { not_crossed = crossed; not_clear = clear }
    where
      crossed : IsCrossed k v → ⊥
      crossed c = not_there c.same c.weights c.weigh z lz (λ n. let p = c.above z lz in omega (arith, ints)) e

      clear : IsClear k v → ⊥
      clear c =
          let w = c.weights in
          let s = swap (entry w) (function_weighs k v w c.weigh) c.up c.down c.up_in c.down_in in
          elim (zero_or_opposite (entry w c.up) (entry w c.down) (D c.up) (D c.down) c.above c.below s) [
            | inl n ↦ not_there c.same w c.weigh c.up c.up_in (λ m. let p = c.above in omega (arith, ints)) n
            | inr o ↦ elim o [
              | inl h ↦ never c.up c.down c.up_in c.down_in h.0 h.1
              | inr h ↦ never c.down c.up c.down_in c.up_in h.1 h.0
            ]
          ]

  class_by : (a b l : Bool) → some_below (is_above D) (k + 1) ≡ a → some_below (is_below D) (k + 1) ≡ b → some_below (is_level D) (k + 1) ≡ l → IsClass (by_signs (record { above = a; below = b; level = l })) k v
  class_by true true l p q s =
      let i = some_at (is_above D) (k + 1) p in
      let j = some_at (is_below D) (k + 1) q in
      clear_by i.0 j.0 (omega (arith, i.1)) (omega (arith, j.1)) (let h = i.2 in omega (arith, ints)) (let h = j.2 in omega (arith, ints))
  class_by true false true p q s =
      let z = some_at (is_level D) (k + 1) s in
      degenerate_by z.0 (omega (arith, z.1)) (let h = z.2 in grind (arith, ints))
      (λ i j li lj g h. let f = none_at (is_below D) (k + 1) q j (omega arith) in omega (arith, ints))
  class_by false b true p q s =
      let z = some_at (is_level D) (k + 1) s in
      degenerate_by z.0 (omega (arith, z.1)) (let h = z.2 in grind (arith, ints))
      (λ i j li lj g h. let f = none_at (is_above D) (k + 1) p i (omega arith) in omega (arith, ints))
  class_by true false false p q s = crossed_above (λ i l. let f = none_at (is_below D) (k + 1) q i (omega arith) in let g = none_at (is_level D) (k + 1) s i (omega arith) in grind (arith, ints))
  class_by false b false p q s = crossed_below (λ i l. let f = none_at (is_above D) (k + 1) p i (omega arith) in let g = none_at (is_level D) (k + 1) s i (omega arith) in grind (arith, ints))

  class_given : IsClass (class_of k v) k v
  unfolding D
  class_given = class_by _ _ _ refl refl refl

module _ (k : ℕ) (v : Matrix) where
  not_both : IsCrossed k v → IsClear k v → ⊥
  not_both a b =
      let w = a.weights in
      let u = b.weights in
      let i = b.up in
      let j = b.down in
      let e = a.same w u a.weigh b.weigh i j b.up_in b.down_in in
      let p = above_below (entry w i) (entry u j) (a.above i b.up_in) b.below in
      let q = above_above (entry w j) (entry u i) (a.above j b.down_in) b.above in
      omega (arith, ints)

  one_class : (a b : Class) → IsClass a k v → IsClass b k v → a ≡ b
  one_class Crossed Crossed p q = refl
  one_class Crossed Clear p q = absurd (not_both p q)
  one_class Crossed Degenerate p q = absurd (q.not_crossed p)
  one_class Clear Crossed p q = absurd (not_both q p)
  one_class Clear Clear p q = refl
  one_class Clear Degenerate p q = absurd (q.not_clear p)
  one_class Degenerate Crossed p q = absurd (p.not_crossed q)
  one_class Degenerate Clear p q = absurd (p.not_clear q)
  one_class Degenerate Degenerate p q = refl

pub given : (k : ℕ) (v : Matrix) → 1 ≤ k → k ≤ 3 → Given k v (class_of k v)
given k v low high = record { is = class_given k low high v; only = λ e h. one_class k v e (class_of k v) h (class_given k low high v) }

-- the class is by the values at the vertices 0 to k in the rows 0 to k - 1

class_cut : (k : ℕ) (v : Matrix) → 1 ≤ k → k ≤ 3 → class_of k v ≡ class_of k (table (k + 1) (λ i. table k (value v i)))
unfolding some_below table
class_cut zero v low high = absurd (omega arith)
class_cut (suc zero) v low high = refl
class_cut (suc (suc zero)) v low high = refl
class_cut (suc (suc (suc zero))) v low high = refl
class_cut (suc (suc (suc (suc k)))) v low high = absurd (omega arith)

pub class_same : (k : ℕ) (v u : Matrix) → 1 ≤ k → k ≤ 3 → Agree k v u → class_of k v ≡ class_of k u
class_same k v u low high h =
    class_cut k v low high
    ∙ ap (class_of k) (same_table (k + 1) _ _ [] (λ i li. same_table k _ _ (pos 0) (λ r lr. h i r (omega arith) lr)))
    ∙ sym (class_cut k u low high)
