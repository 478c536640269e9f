-- Points that no hyperplane parts are the vertices of a cell: they are put into a chain one after another.
use Rattle.std.proofs.Common.{◌≡◌, ℕ, zero, suc, ◌+◌, ◌-◌, ◌<◌, ◌≤◌, Bool, true, false, cond, eqb, ltb, ℤ, pos, ◌+ℤ◌, ◌≤ℤ◌, ◌<ℤ◌, sym, refl, ap, ◌∙◌, subst, inl, inr, arith}
use lib.Signed.{lt_z}
use Rattle.std.proofs.lemmas.Int.{by_lt_z, ints}
use Rattle.std.proofs.lemmas.Bool.{both_ways, cases_Bool, cases_eq, cases_lt, eq-eqb, le-ltb, lt-ltb, ne_eqb}
use Rattle.grid.specs.Below.{some_below}
use Rattle.grid.proofs.Below.{some_at, some_from}
use Rattle.cells.specs.Chains.{Ascends}
use Rattle.cells.specs.Triangulation.{Different, InWorld, Spans, Unparted, VerticesAre, Whole}
use Rattle.cells.specs.World.{in_world}
use Rattle.cells.specs.declared.records.CellRecord.{CellRecord}
use Rattle.cells.proofs.Chaining.{chains, mono_le}
use Rattle.cells.proofs.First.{first, first_at, first_below, first_le}
use Rattle.cells.proofs.Parting.{near, one_more}
use Rattle.cells.proofs.Picking.{pick, pick_is}
use Rattle.cells.proofs.Pigeon.{pigeon}

above : (a b : ℤ) → lt_z a b ≡ true → a <ℤ b
above a b h = grind (arith, ints)

is_above_lem : (a b : ℤ) → a <ℤ b → lt_z a b ≡ true
is_above_lem a b h = grind (arith, ints)

same : (a b : ℤ) → a ≤ℤ b → b ≤ℤ a → a ≡ b
same a b h g = omega (arith, ints)

-- p goes past q at some axis
past : ℕ → (ℕ → ℤ) → (ℕ → ℤ) → Bool
past d p q = some_below (λ j. lt_z (q j) (p j)) d

past_at : (d : ℕ) (p q : ℕ → ℤ) → past d p q ≡ true → (j : ℕ) × (j < d) × (q j <ℤ p j)
unfolding past
past_at d p q t = let w = some_at _ d t in (w.0, w.1, above _ _ w.2)

not_past : (d : ℕ) (p q : ℕ → ℤ) → past d p q ≡ false → (j : ℕ) → j < d → p j ≤ℤ q j
unfolding past
not_past d p q t j h = by_lt_z (q j) (p j) (λ g. absurd (both_ways _ t (some_from _ d j h (is_above_lem _ _ g)))) (λ g. g)

-- a point q is put into a chain before place m
put_in : (ℕ → ℕ → ℤ) → ℕ → (ℕ → ℤ) → ℕ → ℕ → ℤ
put_in v m q i j = cond (ltb i m) (v i j) (cond (eqb i m) (q j) (v (i - 1) j))

put_low : (v : ℕ → ℕ → ℤ) (m : ℕ) (q : ℕ → ℤ) (i j : ℕ) → i < m → put_in v m q i j ≡ v i j
unfolding put_in
put_low v m q i j h = ap (λ b. cond b (v i j) (cond (eqb i m) (q j) (v (i - 1) j))) (lt-ltb i m h)

put_at : (v : ℕ → ℕ → ℤ) (m : ℕ) (q : ℕ → ℤ) (i j : ℕ) → i ≡ m → put_in v m q i j ≡ q j
unfolding put_in
put_at v m q i j e = ap (λ b. cond b (v i j) (cond (eqb i m) (q j) (v (i - 1) j))) (le-ltb i m (omega arith)) ∙ ap (λ b. cond b (q j) (v (i - 1) j)) (eq-eqb i m e)

put_high : (v : ℕ → ℕ → ℤ) (m : ℕ) (q : ℕ → ℤ) (i j k : ℕ) → m < i → k + 1 ≡ i → put_in v m q i j ≡ v k j
unfolding put_in
put_high v m q i j k h e = ap (λ b. cond b (v i j) (cond (eqb i m) (q j) (v (i - 1) j))) (le-ltb i m (omega arith)) ∙ ap (λ b. cond b (q j) (v (i - 1) j)) (ne_eqb i m (λ f. omega arith)) ∙ ap (λ x. v x j) (omega arith)

like : (d : ℕ) (p p' q q' : ℕ → ℤ) → ((j : ℕ) → j < d → p j ≡ p' j) → ((j : ℕ) → j < d → q j ≡ q' j) → Unparted d p' q' → Unparted d p q
like d p p' q q' e f u = record {
  axis = λ j h b. u.axis j h (rw (e j h, f j h) at b);
  cross = λ i j h g b. u.cross i j h g (rw (e j g, e i h, f j g, f i h) at b);
}

module _ (d l : ℕ) (v : ℕ → ℕ → ℤ) (ch : Ascends d l v) (q : ℕ → ℤ) (uv : (k : ℕ) → k ≤ l → Unparted d (v k) q) (vu : (k : ℕ) → k ≤ l → Unparted d q (v k)) where
  spot : ℕ
  spot = first (λ k. past d (v k) q) (l + 1)

  spot_le : spot ≤ l + 1
  unfolding spot
  spot_le = first_le (λ k. past d (v k) q) (l + 1)

  under : (k j : ℕ) → k < spot → j < d → v k j ≤ℤ q j
  unfolding spot
  under k j h g = not_past d (v k) q (first_below (λ k. past d (v k) q) (l + 1) k h) j g

  over_some : spot ≤ l → (j : ℕ) × (j < d) × (q j <ℤ v spot j)
  unfolding spot
  over_some h = past_at d (v spot) q (first_at (λ k. past d (v k) q) (l + 1) (omega arith))

  over : spot ≤ l → (j : ℕ) → j < d → q j ≤ℤ v spot j
  over h j g = elim (near d q (v spot) (vu spot h) (uv spot h)) [ inl n ↦ (n j g).0 | inr n ↦ absurd (let w = over_some h in clash (q w.0) (v spot w.0) w.2 (n w.0 w.1).0) ]
    where
      clash : (a b : ℤ) → a <ℤ b → b ≤ℤ a → ⊥
      clash a b h g = omega (arith, ints)

  -- q is new
  module _ (new : 1 ≤ spot → past d q (v (spot - 1)) ≡ true) where
    up : (i j : ℕ) → i < l + 1 → j < d → put_in v spot q i j ≤ℤ put_in v spot q (i + 1) j
    up i j h g = elim (cases_lt (i + 1) spot) [ inl a ↦ (rw (put_low v spot q i j (omega arith), put_low v spot q (i + 1) j a) (ch.up i j (omega (arith, spot_le)) g)) | inr a ↦ (elim (cases_eq (i + 1) spot) [ inl b ↦ (rw (put_low v spot q i j (omega arith), put_at v spot q (i + 1) j b) (under i j (omega arith) g)) | inr b ↦ (elim (cases_eq i spot) [ inl c ↦ (rw (put_at v spot q i j c, put_high v spot q (i + 1) j i (omega arith) refl) (subst (λ x. q j ≤ℤ v x j) (sym c) (over (omega arith) j g))) | inr c ↦ (rw (put_high v spot q i j (i - 1) (omega arith) (omega arith), put_high v spot q (i + 1) j i (omega arith) refl) (let e : (i - 1) + 1 ≡ i = omega arith in subst (λ x. v (i - 1) j ≤ℤ v x j) e (ch.up (i - 1) j (omega arith) g))) ]) ]) ]

    more : (i : ℕ) → i < l + 1 → (j : ℕ) × (j < d) × (put_in v spot q i j <ℤ put_in v spot q (i + 1) j)
    more i h = elim (cases_lt (i + 1) spot) [ inl a ↦ (let s = ch.rises i (omega (arith, spot_le)) in (s.0, s.1, rw (put_low v spot q i s.0 (omega arith), put_low v spot q (i + 1) s.0 a) s.2)) | inr a ↦ (elim (cases_eq (i + 1) spot) [ inl b ↦ (let e : spot - 1 ≡ i = omega arith in let s = past_at d q (v i) (subst (λ x. past d q (v x) ≡ true) e (new (omega arith))) in (s.0, s.1, rw (put_low v spot q i s.0 (omega arith), put_at v spot q (i + 1) s.0 b) s.2)) | inr b ↦ (elim (cases_eq i spot) [ inl c ↦ (let s = over_some (omega arith) in (s.0, s.1, rw (put_at v spot q i s.0 c, put_high v spot q (i + 1) s.0 i (omega arith) refl) (subst (λ x. q s.0 <ℤ v x s.0) (sym c) s.2))) | inr c ↦ (let s = ch.rises (i - 1) (omega arith) in let e : (i - 1) + 1 ≡ i = omega arith in (s.0, s.1, rw (put_high v spot q i s.0 (i - 1) (omega arith) (omega arith), put_high v spot q (i + 1) s.0 i (omega arith) refl) (subst (λ x. v (i - 1) s.0 <ℤ v x s.0) e s.2))) ]) ]) ]

    span : (j : ℕ) → j < d → put_in v spot q (l + 1) j ≤ℤ (put_in v spot q 0 j +ℤ pos 1)
    span j g = elim (cases_eq spot 0) [ inl a ↦ (rw (put_at v spot q 0 j (sym a), put_high v spot q (l + 1) j l (omega arith) refl) (one_more (q j) (v l j) ((vu l (omega arith)).axis j g))) | inr a ↦ (elim (cases_eq (l + 1) spot) [ inl b ↦ (rw (put_low v spot q 0 j (omega arith), put_at v spot q (l + 1) j b) (one_more (v 0 j) (q j) ((uv 0 (omega arith)).axis j g))) | inr b ↦ (rw (put_low v spot q 0 j (omega arith), put_high v spot q (l + 1) j l (omega (arith, spot_le)) refl) (ch.within j g)) ]) ]

    longer : Ascends d (l + 1) (put_in v spot q)
    longer = record { up = up; rises = more; within = span }

-- what a chain and a hull share: the points, in some order
Points : ℕ → ℕ → (ℕ → ℕ → ℤ) → ℕ → (ℕ → ℕ → ℤ) → Type 0
Points d n p l v = ((i : ℕ) → i ≤ l → (k : ℕ) × (k ≤ n) × ((j : ℕ) → j < d → p k j ≡ v i j)) × ((k : ℕ) → k ≤ n → (i : ℕ) × (i ≤ l) × ((j : ℕ) → j < d → p k j ≡ v i j))

-- a chain over just these points
record Sorted (d l : ℕ) (v : ℕ → ℕ → ℤ) : Type 0 where
  top : ℕ
  at : ℕ → ℕ → ℤ
  chain : Ascends d top at
  points : Points d top at l v

add_one_le : (z : ℤ) → z ≤ℤ (z +ℤ pos 1)
add_one_le z = omega (arith, ints)

module _ (d l : ℕ) (v : ℕ → ℕ → ℤ) (whole : Whole d (suc l) v) (s : Sorted d l v) where
  uv : (k : ℕ) → k ≤ s.top → Unparted d (s.at k) (v (suc l))
  unfolding Points
  uv k h = let o = s.points.1 k h in like d (s.at k) (v o.0) (v (suc l)) (v (suc l)) o.2 (λ j g. refl) (whole o.0 (suc l) (omega (arith, o.1)) (omega arith))

  vu : (k : ℕ) → k ≤ s.top → Unparted d (v (suc l)) (s.at k)
  unfolding Points
  vu k h = let o = s.points.1 k h in like d (v (suc l)) (v (suc l)) (s.at k) (v o.0) (λ j g. refl) o.2 (whole (suc l) o.0 (omega arith) (omega (arith, o.1)))

  m : ℕ
  m = spot d s.top s.at s.chain (v (suc l)) uv vu

  m_le : m ≤ s.top + 1
  unfolding m
  m_le = spot_le d s.top s.at s.chain (v (suc l)) uv vu

  -- q is there already
  there : 1 ≤ m → past d (v (suc l)) (s.at (m - 1)) ≡ false → Sorted d (suc l) v
  unfolding Points m
  there h t = record { top = s.top; at = s.at; chain = s.chain; points = (has, λ k g. (let o = s.points.1 k g in (o.0, omega (arith, o.1), o.2))) }
    where
      has : (i : ℕ) → i ≤ suc l → (k : ℕ) × (k ≤ s.top) × ((j : ℕ) → j < d → s.at k j ≡ v i j)
      has i g = elim (cases_eq i (suc l)) [ inl e ↦ (m - 1, omega (arith, m_le), λ j f. same _ _ (under d s.top s.at s.chain (v (suc l)) uv vu (m - 1) j (omega arith) f) (not_past d (v (suc l)) (s.at (m - 1)) t j f) ∙ ap (λ x. v x j) (sym e)) | inr e ↦ s.points.0 i (omega arith) ]

  put : (1 ≤ m → past d (v (suc l)) (s.at (m - 1)) ≡ true) → Sorted d (suc l) v
  unfolding Points m
  put new = record { top = s.top + 1; at = put_in s.at m (v (suc l)); chain = longer d s.top s.at s.chain (v (suc l)) uv vu new; points = (has, only) }
    where
      has : (i : ℕ) → i ≤ suc l → (k : ℕ) × (k ≤ s.top + 1) × ((j : ℕ) → j < d → put_in s.at m (v (suc l)) k j ≡ v i j)
      has i g = elim (cases_eq i (suc l)) [ inl e ↦ (m, m_le, λ j f. put_at s.at m (v (suc l)) m j refl ∙ ap (λ x. v x j) (sym e)) | inr e ↦ old (s.points.0 i (omega arith)) ]
        where
          old : (k : ℕ) × (k ≤ s.top) × ((j : ℕ) → j < d → s.at k j ≡ v i j) → (k : ℕ) × (k ≤ s.top + 1) × ((j : ℕ) → j < d → put_in s.at m (v (suc l)) k j ≡ v i j)
          old o = elim (cases_lt o.0 m) [ inl a ↦ (o.0, omega (arith, o.1), λ j f. put_low s.at m (v (suc l)) o.0 j a ∙ o.2 j f) | inr a ↦ (o.0 + 1, omega (arith, o.1), λ j f. put_high s.at m (v (suc l)) (o.0 + 1) j o.0 (omega arith) refl ∙ o.2 j f) ]

      only : (k : ℕ) → k ≤ s.top + 1 → (i : ℕ) × (i ≤ suc l) × ((j : ℕ) → j < d → put_in s.at m (v (suc l)) k j ≡ v i j)
      only k g = elim (cases_lt k m) [ inl a ↦ (let o = s.points.1 k (omega (arith, m_le)) in (o.0, omega (arith, o.1), λ j f. put_low s.at m (v (suc l)) k j a ∙ o.2 j f)) | inr a ↦ (elim (cases_eq k m) [ inl b ↦ (suc l, omega arith, λ j f. put_at s.at m (v (suc l)) k j b) | inr b ↦ (let o = s.points.1 (k - 1) (omega arith) in (o.0, omega (arith, o.1), λ j f. put_high s.at m (v (suc l)) k j (k - 1) (omega arith) (omega arith) ∙ o.2 j f)) ]) ]

  next : Sorted d (suc l) v
  next = elim (cases_eq m 0) [ inl e ↦ put (λ h. absurd (omega arith)) | inr e ↦ (elim (cases_Bool (past d (v (suc l)) (s.at (m - 1)))) [ inl t ↦ put (λ _. t) | inr t ↦ there (omega arith) t ]) ]

sorted : (d l : ℕ) (v : ℕ → ℕ → ℤ) → Whole d l v → Sorted d l v
unfolding Points
sorted d zero v whole = record {
  top = 0;
  at = v;
  chain = record { up = λ i j h g. absurd (omega arith); rises = λ i h. absurd (omega arith); within = λ j h. add_one_le (v 0 j) };
  points = (λ i h. (i, h, λ j g. refl), λ k h. (k, h, λ j g. refl));
}
sorted d (suc l) v whole = next d l v whole (sorted d l v (λ i k h g. whole i k (omega arith) (omega arith)))

-- points of a chain differ
less_le : (a b c : ℤ) → a <ℤ b → b ≤ℤ c → a <ℤ c
less_le a b c h g = omega (arith, ints)

not_less : (a b : ℤ) → a <ℤ b → a ≡ b → ⊥
not_less a b h e = omega (arith, ints)

pub chain_rises : (d l : ℕ) (v : ℕ → ℕ → ℤ) → Ascends d l v → (i k : ℕ) → i < k → k ≤ l → (a : ℕ) × (a < d) × (v i a <ℤ v k a)
chain_rises d l v ch i k h g =
    let w = ch.rises i (omega arith) in
    (w.0, w.1, less_le (v i w.0) (v (i + 1) w.0) (v k w.0) w.2 (mono_le d l v ch w.0 w.1 (i + 1) k (omega arith) g))

pub chain_differs : (d l : ℕ) (v : ℕ → ℕ → ℤ) → Ascends d l v → Different d l v
chain_differs d l v ch i k h g e = let w = chain_rises d l v ch i k h g in not_less (v i w.0) (v k w.0) w.2 (e w.0 w.1)

-- different points that are all among others are at most as many
as_many : (d l n : ℕ) (v w : ℕ → ℕ → ℤ) → Different d l v → ((i : ℕ) → i ≤ l → (k : ℕ) × (k ≤ n) × ((a : ℕ) → a < d → w k a ≡ v i a)) → l ≤ n
as_many d l n v w different has = let h = pigeon (l + 1) (n + 1) f below apart in omega arith
  where
    P : ℕ → ℕ → Type 0
    P i k = (k ≤ n) × ((a : ℕ) → a < d → w k a ≡ v i a)

    chosen : (i : ℕ) → i ≤ l → (k : ℕ) × P i k
    chosen i h = let o = has i h in (o.0, (o.1, o.2))

    f : ℕ → ℕ
    f = pick l P chosen

    is : (i : ℕ) → i ≤ l → P i (pick l P chosen i)
    is = pick_is l P chosen

    below : (i : ℕ) → i < l + 1 → f i < n + 1
    below i h = let o = (is i (omega arith)).0 in omega arith

    apart : (i k : ℕ) → i < k → k < l + 1 → f i ≡ f k → ⊥
    apart i k h g e =
        different i k h (omega arith) (λ a b. sym ((is i (omega arith)).1 a b) ∙ ap (λ x. w x a) e ∙ (is k (omega arith)).1 a b)

pub simplices : (d l : ℕ) (v : ℕ → ℕ → ℤ) → 2 ≤ d → d ≤ 6 → InWorld d l v → Different d l v → Whole d l v → (r : CellRecord) × Spans r d l v
unfolding Points
simplices d l v low high world different whole = (
  made.0,
  record {
    cell = made.1.cell;
    axes = made.1.axes;
    dimension = made.1.dimension ∙ many;
    has = λ i h. (let o = s.points.0 i h in (o.0, omega (arith, o.1, many), λ a g. made.1.same o.0 a o.1 g ∙ o.2 a g));
    only = λ k h. (let b : k ≤ s.top = omega (arith, many) in let o = s.points.1 k b in (o.0, o.1, λ a g. made.1.same k a b g ∙ o.2 a g));
  },
)
  where
    s : Sorted d l v
    s = sorted d l v whole

    inside : InWorld d s.top s.at
    inside k a h g = let o = s.points.1 k h in subst (λ z. in_world z ≡ true) (sym (o.2 a g)) (world o.0 a o.1 g)

    made : (r : CellRecord) × VerticesAre r d s.top s.at
    made = chains d s.top s.at low high inside s.chain

    many : s.top ≡ l
    many =
        let a = as_many d l s.top v s.at different s.points.0 in
        let b = as_many d s.top l s.at v (chain_differs d s.top s.at s.chain) (λ k h. let o = s.points.1 k h in (o.0, o.1, λ a g. sym (o.2 a g))) in
        omega arith
