-- The splits of a cell: how many each part has, which one a number gives, and that no two are alike.
use Rattle.std.proofs.Common.{◌≡◌, ℕ, zero, suc, ◌+◌, ◌-◌, ◌*◌, ◌^◌, ◌<◌, ◌≤◌, Bool, true, false, cond, length, get_or, sym, ap, add-zero, ◌∙◌, subst, ap₂, add-one, arith, pow_mono}
use Rattle.std.proofs.lemmas.List.{length-map, get_or-map}
use Rattle.std.proofs.lemmas.List.Sums.{sum_by-cons}
use Rattle.std.specs.List.{range_with_len, sum_by}
use Rattle.cells.specs.Chosen.{chosen}
use Rattle.cells.specs.Cells.{in_part, IsCell}
use Rattle.cells.specs.Splits.{is_split, no_split, over_parts, part_size, split_at, split_by, splits, splits_of, splits_to}
use Rattle.cells.specs.Spread.{spread}
use Rattle.cells.specs.declared.records.CellRecord.{CellRecord}
use Rattle.grid.proofs.Below.{length-table, get_or-table}
use Rattle.cells.proofs.Listing.{splits_none, length_more, at_here, at_splits}
use Rattle.cells.proofs.Choosing.{chosen_none, length-chosen_more}
use Rattle.cells.proofs.Masking.{codes_are}

pub count_of : (r : CellRecord) (p : ℕ) → length (splits_of r p) ≡ 2 ^ part_size r p - 2
count_of r p = length-map (chosen (is_split r p) 128) _ ∙ ap length (codes_are r p) ∙ length-table _ _

pub split_of : (r : CellRecord) (p t : ℕ) → t < length (splits_of r p) → get_or (splits_of r p) t no_split ≡ split_by p (spread (in_part r p) 0 7 (t + 1))
split_of r p t h =
    let k : t < 2 ^ part_size r p - 2 = rw (count_of r p) at h in
    let e : length (chosen (is_split r p) 128) ≡ 2 ^ part_size r p - 2 = ap length (codes_are r p) ∙ length-table _ _ in
    get_or-map (split_by p) (chosen (is_split r p) 128) t 0 no_split (omega arith)
    ∙ ap (split_by p) (ap (λ xs. get_or xs t 0) (codes_are r p) ∙ get_or-table (2 ^ part_size r p - 2) (λ t. spread (in_part r p) 0 7 (t + 1)) t 0 k)

-- the sum over the parts
pub count_to : (r : CellRecord) (n : ℕ) → length (splits_to r n) ≡ over_parts (λ p. 2 ^ part_size r p - 2) n
count_to r zero = splits_none r
count_to r (suc n) = ap (λ k. length (splits_to r k)) (sym (add-one n)) ∙ length_more r n ∙ ap₂ ◌+◌ (count_to r n) (ap (λ k. length (splits_of r k)) (add-one n) ∙ count_of r (suc n))

-- a part has at most seven members
pub length-chosen-le : (q : ℕ → Bool) (n : ℕ) → length (chosen q n) ≤ n
length-chosen-le q zero = rw (chosen_none q) (omega arith)
length-chosen-le q (suc n) = let e = length-chosen_more q n in let h = length-chosen-le q n in subst (λ k. length (chosen q k) ≤ k) (add-one n) (go (q n) e h)
  where
    go : (b : Bool) → length (chosen q (n + 1)) ≡ length (chosen q n) + cond b 1 0 → length (chosen q n) ≤ n → length (chosen q (n + 1)) ≤ n + 1
    go true e h = omega arith
    go false e h = omega arith

pub power_le : (q : ℕ → Bool) (n : ℕ) → n ≤ 7 → 2 ^ length (chosen q n) ≤ 128
power_le q n h = let k = length-chosen-le q n in let m : length (chosen q n) ≤ 7 = omega arith in pow_mono m

pub part_le : (r : CellRecord) (p : ℕ) → length (splits_of r p) ≤ 126
part_le r p = let e = count_of r p in let k = power_le (in_part r p) 7 (omega arith) in omega arith

pub count_le : (r : CellRecord) (n : ℕ) → length (splits_to r n) ≤ 126 * n
count_le r zero = rw (splits_none r) (omega arith)
count_le r (suc n) =
    let a = count_le r n in
    let b = part_le r (n + 1) in
    let e = length_more r n in
    let k : length (splits_to r (n + 1)) ≤ 126 * (n + 1) = omega arith in
    rw (← add-one n) k

-- the sum over the parts, from the first to the last
summed_from : (r : CellRecord) (m n : ℕ) → length (splits_to r m) + sum_by (λ p. length (splits_of r p)) (range_with_len (m + 1) n) ≡ length (splits_to r (m + n))
summed_from r m zero = add-zero _ ∙ ap (λ k. length (splits_to r k)) (sym (add-zero m))
summed_from r m (suc n) =
    let h : ℕ → ℕ = λ p. length (splits_of r p) in
    let e = summed_from r (m + 1) n in
    let f = length_more r m in
    let s : sum_by h (range_with_len (m + 1) (suc n)) ≡ h (m + 1) + sum_by h (range_with_len (m + 1 + 1) n) = sum_by-cons h (m + 1) (range_with_len (m + 1 + 1) n) in
    let k : (m + 1) + n ≡ m + suc n = omega arith in
    rw (← k) (omega arith)

pub summed : (r : CellRecord) (n : ℕ) → sum_by (λ p. length (splits_of r p)) (range_with_len 1 n) ≡ length (splits_to r n)
summed r n = let e = summed_from r 0 n in let f = splits_none r in let k : 0 + n ≡ n = omega arith in let g : length (splits_to r (0 + n)) ≡ length (splits_to r n) = ap (λ k. length (splits_to r k)) k in omega arith

-- split number c, found in part p
pub found_at : (r : CellRecord) (p t c : ℕ) → 1 ≤ p → p ≤ r.l + 1 → t < length (splits_of r p) → length (splits_to r (p - 1)) + t ≡ c → (c < length (splits r)) × (split_by p (spread (in_part r p) 0 7 (t + 1)) ≡ split_at r c)
found_at r p t c h g k e =
    let f : (p - 1) + 1 ≡ p = omega arith in
    let b = at_here r (p - 1) t c (subst (λ x. t < length (splits_of r x)) (sym f) k) e in
    let q = at_splits r ((p - 1) + 1) c _ (omega arith) b in
    (q.0, sym (q.1 ∙ ap (λ x. get_or (splits_of r x) t no_split) f ∙ split_of r p t k))

pub splits_le : (r : CellRecord) → IsCell r → length (splits r) ≤ 882
splits_le r is = let a = count_le r (r.l + 1) in omega (arith, is.d_high, is.l_high)
