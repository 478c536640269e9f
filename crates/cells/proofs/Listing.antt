-- The list of the splits, part split_by part.
use Rattle.std.proofs.Common.{◌≡◌, ℕ, zero, suc, ◌+◌, ◌-◌, ◌<◌, ◌≤◌, true, ◌++◌, length, get_or, sym, refl, ap, ◌∙◌, subst, inl, inr, zero-add, add-one, arith}
use Rattle.std.proofs.lemmas.List.{length-map, get_or-map, length-append, get_or_append_left, get_or-append-add}
use Rattle.std.proofs.lemmas.Bool.{cases_lt}
use Rattle.cells.specs.Chosen.{chosen}
use Rattle.cells.specs.Splits.{is_split, no_split, split_at, split_by, splits, splits_of, splits_to}
use Rattle.cells.specs.declared.records.CellRecord.{CellRecord}
use Rattle.cells.specs.declared.splits.Split.{Split}
use Rattle.cells.proofs.Choosing.{chosen_has, chosen_at}

pub splits_none : (r : CellRecord) → length (splits_to r 0) ≡ 0
unfolding splits_to
splits_none r = refl

pub splits_more : (r : CellRecord) (n : ℕ) → splits_to r (n + 1) ≡ splits_to r n ++ splits_of r (n + 1)
unfolding splits_to
splits_more r n = rw add-one refl

pub length_more : (r : CellRecord) (n : ℕ) → length (splits_to r (n + 1)) ≡ length (splits_to r n) + length (splits_of r (n + 1))
length_more r n = ap length (splits_more r n) ∙ length-append _ _

-- split number c among those of the parts 1 to n
pub record At (r : CellRecord) (n c : ℕ) (s : Split) : Type 0 where
  pub within : c < length (splits_to r n)
  pub is : get_or (splits_to r n) c no_split ≡ s

-- more parts leave it
pub at_later : (r : CellRecord) (n m c : ℕ) (s : Split) → At r n c s → At r (m + n) c s
at_later r n zero c s h = rw zero-add h
at_later r n (suc m) c s h =
    let w = at_later r n m c s h in
    let e = length_more r (m + n) in
    let v = w.within in
    let f : (m + n) + 1 ≡ suc m + n = omega arith in
    subst (λ k. At r k c s) f (record { within = omega arith; is = ap (λ xs. get_or xs c no_split) (splits_more r (m + n)) ∙ get_or_append_left _ _ no_split c v ∙ w.is })

pub at_here : (r : CellRecord) (n t c : ℕ) → t < length (splits_of r (n + 1)) → length (splits_to r n) + t ≡ c → At r (n + 1) c (get_or (splits_of r (n + 1)) t no_split)
at_here r n t c h e =
    let f = length_more r n in
    record { within = omega arith; is = ap (λ xs. get_or xs c no_split) (splits_more r n) ∙ ap (λ k. get_or (splits_to r n ++ splits_of r (n + 1)) k no_split) (sym e) ∙ get_or-append-add (splits_to r n) (splits_of r (n + 1)) t no_split }

pub at_splits : (r : CellRecord) (n c : ℕ) (s : Split) → n ≤ r.l + 1 → At r n c s → (c < length (splits r)) × (split_at r c ≡ s)
at_splits r n c s h a =
    let e : ((r.l + 1) - n) + n ≡ r.l + 1 = omega arith in
    let w = subst (λ k. At r k c s) e (at_later r n ((r.l + 1) - n) c s a) in
    (w.within, w.is)

-- each split of a part has a number
pub splits_have : (r : CellRecord) (p a : ℕ) → 1 ≤ p → p ≤ r.l + 1 → a < 128 → is_split r p a ≡ true → (c : ℕ) × (c < length (splits r)) × (split_at r c ≡ split_by p a)
splits_have r p a h g k t =
    let w = chosen_has (is_split r p) 128 a k t in
    let e : (p - 1) + 1 ≡ p = omega arith in
    let m = length-map (chosen (is_split r p) 128) (split_by p) in
    let v = w.1.within in
    let u : w.0 < length (splits_of r p) = omega arith in
    let i : get_or (splits_of r p) w.0 no_split ≡ split_by p a = get_or-map (split_by p) (chosen (is_split r p) 128) w.0 0 no_split v ∙ ap (split_by p) w.1.at in
    let b = at_here r (p - 1) w.0 (length (splits_to r (p - 1)) + w.0) (subst (λ x. w.0 < length (splits_of r x)) (sym e) u) refl in
    let q = at_splits r ((p - 1) + 1) _ _ (omega arith) b in
    (length (splits_to r (p - 1)) + w.0, q.0, q.1 ∙ ap (λ x. get_or (splits_of r x) w.0 no_split) e ∙ i)

-- and each number gives a split of a part
pub record Good (r : CellRecord) (n : ℕ) (s : Split) : Type 0 where
  pub first : 1 ≤ s.part
  pub final : s.part ≤ n
  pub code : s.code < 128
  pub test : is_split r s.part s.code ≡ true

good_of : (r : CellRecord) (n t : ℕ) → t < length (splits_of r (n + 1)) → Good r (n + 1) (get_or (splits_of r (n + 1)) t no_split)
good_of r n t h =
    let m = length-map (chosen (is_split r (n + 1)) 128) (split_by (n + 1)) in
    let k : t < length (chosen (is_split r (n + 1)) 128) = omega arith in
    let w = chosen_at (is_split r (n + 1)) 128 t k in
    rw (get_or-map (split_by (n + 1)) (chosen (is_split r (n + 1)) 128) t 0 no_split k) (record { first = omega arith; final = omega arith; code = w.0; test = w.1 })

good_more : (r : CellRecord) (n : ℕ) (s : Split) → Good r n s → Good r (n + 1) s
good_more r n s g = record { first = g.first; final = (let f = g.final in omega arith); code = g.code; test = g.test }

pub splits_at : (r : CellRecord) (n c : ℕ) → c < length (splits_to r n) → Good r n (get_or (splits_to r n) c no_split)
splits_at r zero c h = absurd (omega (arith, splits_none r))
splits_at r (suc n) c h = subst (λ k. c < length (splits_to r k) → Good r k (get_or (splits_to r k) c no_split)) (add-one n) (go (splits_at r n c)) h
  where
    go : (c < length (splits_to r n) → Good r n (get_or (splits_to r n) c no_split)) → c < length (splits_to r (n + 1)) → Good r (n + 1) (get_or (splits_to r (n + 1)) c no_split)
    go ih h = elim (cases_lt c (length (splits_to r n))) [ inl g ↦ subst (Good r (n + 1)) (sym (ap (λ xs. get_or xs c no_split) (splits_more r n) ∙ get_or_append_left _ _ no_split c g)) (good_more r n _ (ih g)) | inr g ↦ (let e = length_more r n in subst (Good r (n + 1)) (sym (at_here r n (c - length (splits_to r n)) c (omega arith) (omega arith)).is) (good_of r n (c - length (splits_to r n)) (omega arith))) ]

pub length_part : (r : CellRecord) (p : ℕ) → 1 ≤ p → length (splits_to r ((p + 1) - 1)) ≡ length (splits_to r (p - 1)) + length (splits_of r p)
length_part r p h =
    let e : (p - 1) + 1 ≡ p = omega arith in
    let f : (p + 1) - 1 ≡ (p - 1) + 1 = omega arith in
    ap (λ k. length (splits_to r k)) f ∙ length_more r (p - 1) ∙ ap (λ k. length (splits_to r (p - 1)) + length (splits_of r k)) e
