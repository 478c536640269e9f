-- The numbers below a bound that pass a test: which stand where, and how many there are.
use Rattle.std.proofs.Common.{◌≡◌, ℕ, zero, suc, ◌+◌, ◌<◌, Bool, true, false, cond, List, [], ◌∷◌, ◌++◌, length, get_or, refl, ap, ◌∙◌, inl, inr, add-one, arith}
use Rattle.std.proofs.lemmas.List.{length_push, get_or_push, get_or_append_left}
use Rattle.std.proofs.lemmas.Bool.{cases_lt, cases_eq}
use Rattle.cells.specs.Chosen.{chosen}

-- number c of the list is k
pub record Nth (xs : List ℕ) (c k : ℕ) : Type 0 where
  pub within : c < length xs
  pub at : get_or xs c 0 ≡ k

pub chosen_more : (p : ℕ → Bool) (n : ℕ) → chosen p (n + 1) ≡ cond (p n) (chosen p n ++ n ∷ []) (chosen p n)
unfolding chosen
chosen_more p n = rw add-one refl

nth-front : (xs : List ℕ) (y c k : ℕ) → Nth xs c k → Nth (xs ++ y ∷ []) c k
nth-front xs y c k h = let w = h.within in record { within = rw length_push (omega arith); at = get_or_append_left xs (y ∷ []) 0 c w ∙ h.at }

nth_last : (xs : List ℕ) (y c : ℕ) → length xs ≡ c → Nth (xs ++ y ∷ []) c y
nth_last xs y c e = record { within = rw length_push (omega arith); at = get_or_push xs y 0 c e }

nth-cond : (b : Bool) (xs : List ℕ) (y c k : ℕ) → Nth xs c k → Nth (cond b (xs ++ y ∷ []) xs) c k
nth-cond true xs y c k h = nth-front xs y c k h
nth-cond false xs y c k h = h

pub chosen_has : (p : ℕ → Bool) (n k : ℕ) → k < n → p k ≡ true → (c : ℕ) × Nth (chosen p n) c k
unfolding chosen
chosen_has p zero k h e = absurd (omega arith)
chosen_has p (suc n) k h e = elim (cases_eq k n) [ inl f ↦ last f | inr f ↦ (let w = chosen_has p n k (omega arith) e in (w.0, nth-cond (p n) (chosen p n) n w.0 k w.1)) ]
  where
    last : k ≡ n → (c : ℕ) × Nth (cond (p n) (chosen p n ++ n ∷ []) (chosen p n)) c k
    last f = (length (chosen p n), rw (← f) (rw e (nth_last (chosen p k) k _ refl)))

push_at : (p : ℕ → Bool) (n : ℕ) (xs : List ℕ) (b : Bool) → p n ≡ b → ((c : ℕ) → c < length xs → (get_or xs c 0 < n) × (p (get_or xs c 0) ≡ true)) → (c : ℕ) → c < length (cond b (xs ++ n ∷ []) xs) → (get_or (cond b (xs ++ n ∷ []) xs) c 0 < suc n) × (p (get_or (cond b (xs ++ n ∷ []) xs) c 0) ≡ true)
push_at p n xs false e ih c h = let w = ih c h in (omega arith, w.1)
push_at p n xs true e ih c h = elim (cases_lt c (length xs)) [ inl g ↦ (let w = ih c g in rw (get_or_append_left xs (n ∷ []) 0 c g) (omega arith, w.1)) | inr g ↦ (let f : length xs ≡ c = omega (arith, length_push xs n) in rw (get_or_push xs n 0 c f) (omega arith, e)) ]

pub chosen_at : (p : ℕ → Bool) (n c : ℕ) → c < length (chosen p n) → (get_or (chosen p n) c 0 < n) × (p (get_or (chosen p n) c 0) ≡ true)
unfolding chosen
chosen_at p zero c h = absurd (omega arith)
chosen_at p (suc n) c h = push_at p n (chosen p n) (p n) refl (chosen_at p n) c h

pub chosen_none : (p : ℕ → Bool) → length (chosen p 0) ≡ 0
unfolding chosen
chosen_none p = refl

pub length-chosen_more : (p : ℕ → Bool) (n : ℕ) → length (chosen p (n + 1)) ≡ length (chosen p n) + cond (p n) 1 0
length-chosen_more p n = ap length (chosen_more p n) ∙ go (p n)
  where
    go : (b : Bool) → length (cond b (chosen p n ++ n ∷ []) (chosen p n)) ≡ length (chosen p n) + cond b 1 0
    go true = length_push (chosen p n) n
    go false = omega arith
