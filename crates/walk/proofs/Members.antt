-- Members of a list, lists without repeats, and sums over the same members.
use Rattle.std.proofs.Common.{◌≡◌, ℕ, ◌≤◌, Bool, true, ◌⊎◌, ◌↔◌, List, [], ◌∷◌, ◌++◌, sum_by, sym, refl, ap, subst, inl, inr, arith}
use mathlib.Core.Bool.{false≢true}
use Rattle.std.proofs.lemmas.List.Sums.{sum_by-append, sum_by-cons}
use Rattle.std.proofs.lemmas.Bool.{or_cases, or_left, or_right}
use Rattle.grid.specs.Lists.{Apart, In, holds}

module _ {C : Type 0} where
  pub in_left : (xs ys : List C) (c : C) → In c xs → In c (xs ++ ys)
  in_left [] ys c h = absurd h
  in_left (x ∷ xs) ys c (inl e) = inl e
  in_left (x ∷ xs) ys c (inr h) = inr (in_left xs ys c h)

  pub in_right : (xs ys : List C) (c : C) → In c ys → In c (xs ++ ys)
  in_right [] ys c h = h
  in_right (x ∷ xs) ys c h = inr (in_right xs ys c h)

  pub in_cases : (xs ys : List C) (c : C) → In c (xs ++ ys) → In c xs ⊎ In c ys
  in_cases [] ys c h = inr h
  in_cases (x ∷ xs) ys c (inl e) = inl (inl e)
  in_cases (x ∷ xs) ys c (inr h) = elim (in_cases xs ys c h) [ inl p ↦ inl (inr p) | inr q ↦ inr q ]

  -- what holds of each member and of one more
  pub all_in_push : (P : C → Type 0) (xs : List C) (b : C) → ((c : C) → In c xs → P c) → P b → (c : C) → In c (xs ++ b ∷ []) → P c
  all_in_push P xs b all here c h = elim (in_cases xs (b ∷ []) c h) [ inl p ↦ all c p | inr q ↦ elim q [ inl e ↦ subst P (sym e) here | inr z ↦ absurd z ] ]

  pub apart_push : (xs : List C) (b : C) → Apart xs → (In b xs → ⊥) → Apart (xs ++ b ∷ [])
  apart_push [] b a n = (λ h. h, tt)
  apart_push (x ∷ xs) b a n = (λ h. elim (in_cases xs (b ∷ []) x h) [ inl p ↦ a.0 p | inr q ↦ elim q [ inl e ↦ n (inl (sym e)) | inr z ↦ z ] ], apart_push xs b a.1 (λ h. n (inr h)))

  in_split : (ys : List C) (c : C) → In c ys → (l r : List C) × (ys ≡ l ++ c ∷ r)
  in_split [] c h = absurd h
  in_split (y ∷ ys) c (inl e) = ([], ys, ap (λ (x : C). x ∷ ys) (sym e))
  in_split (y ∷ ys) c (inr h) = let s = in_split ys c h in (y ∷ s.0, s.1, ap (λ (t : List C). y ∷ t) s.2)

  -- c stands in l ++ b ∷ r and is not b
  in_without : (l r : List C) (b c : C) → (c ≡ b → ⊥) → In c (l ++ b ∷ r) → In c (l ++ r)
  in_without [] r b c n (inl e) = absurd (n e)
  in_without [] r b c n (inr h) = h
  in_without (x ∷ l) r b c n (inl e) = inl e
  in_without (x ∷ l) r b c n (inr h) = inr (in_without l r b c n h)

  sum_within : (f : C → ℕ) (xs ys : List C) → Apart xs → ((c : C) → In c xs → In c ys) → sum_by f xs ≤ sum_by f ys
  sum_within f [] ys a w = omega arith
  sum_within f (x ∷ xs) ys a w =
      let s = in_split ys x (w x (inl refl)) in
      let l = s.0 in
      let r = s.1 in
      let others : (c : C) → In c xs → In c (l ++ r) = λ c h. in_without l r x c (λ e. a.0 (subst (λ (v : C). In v xs) e h)) (rw s.2 at (w c (inr h))) in
      let below = sum_within f xs (l ++ r) a.1 others in
      let e₁ = sum_by-cons f x xs in
      let e₂ = ap (sum_by f) s.2 in
      let e₃ = sum_by-append f l (x ∷ r) in
      let e₄ = sum_by-cons f x r in
      let e₅ = sum_by-append f l r in
      omega arith

  pub sum_same : (f : C → ℕ) (xs ys : List C) → Apart xs → Apart ys → ((c : C) → In c xs ↔ In c ys) → sum_by f xs ≡ sum_by f ys
  sum_same f xs ys a b w =
      let p = sum_within f xs ys a (λ c. (w c).0) in
      let q = sum_within f ys xs b (λ c. (w c).1) in
      omega arith

  module _ (same : C → C → Bool) (exact : (a b : C) → (same a b ≡ true) ↔ (a ≡ b)) where
    holds_in : (xs : List C) (c : C) → holds same xs c ≡ true → In c xs
    holds_in [] c e = absurd (false≢true e)
    holds_in (x ∷ xs) c e = elim (or_cases (same c x) (holds same xs c) e) [ inl p ↦ inl ((exact c x).0 p) | inr q ↦ inr (holds_in xs c q) ]

    in_holds : (xs : List C) (c : C) → In c xs → holds same xs c ≡ true
    in_holds [] c h = absurd h
    in_holds (x ∷ xs) c (inl e) = or_left (same c x) (holds same xs c) ((exact c x).1 e)
    in_holds (x ∷ xs) c (inr h) = or_right (same c x) (holds same xs c) (in_holds xs c h)

    pub holds_is : (xs : List C) (c : C) → (holds same xs c ≡ true) ↔ In c xs
    holds_is xs c = (holds_in xs c, in_holds xs c)
