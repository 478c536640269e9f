-- What `array::from_fn` fills.
use Rattle.std.proofs.Common.{◌≡◌, ℕ, zero, suc, ◌+◌, ◌<◌, ◌≤◌, List, get_or, ◌∙◌, sym, ap, arith, subst, inl, inr}
use Rattle.std.proofs.lemmas.Bool.{cases_lt}
use Rattle.std.specs.Array.{IsFromFnResult, IsFromFnResultFrom}
use denote.Param.Members.{Mut, Called}
use Rattle.grid.specs.Below.{table}
use Rattle.grid.proofs.Below.{table_from}

module _ {F X : Type 0} (g : Mut F (ℕ × Unit {0}) X) (h : ℕ → X) (o : X) (ys : List X) where
  -- below n, each call answers h of its index and leaves the closure as it was
  abbrev pub Computes : F → ℕ → Type 0
  Computes f n = (i : ℕ) (y : X) (q : F) → i < n → Called g f (i, tt) y q → (q ≡ f) × (y ≡ h i)

  made_from : (f : F) (n i m : ℕ) → i + n ≡ m → Computes f m → IsFromFnResultFrom g f ys i n → (k : ℕ) → i ≤ k → k < m → get_or ys k o ≡ h k
  made_from f zero i m e c r k a b = absurd (omega arith)
  made_from f (suc n) i m e c (q, y, here, called, rest) k a b = elim (cases_lt i k) [
    | inl lt ↦ made_from f n (i + 1) m (omega arith) c (subst (λ (p : F). IsFromFnResultFrom g p ys (i + 1) n) (c i y q (omega arith) called).0 rest) k (omega arith) b
    | inr le ↦ (let same : k ≡ i = omega arith in ap (λ j. get_or ys j o) same ∙ here.1 o ∙ (c i y q (omega arith) called).1 ∙ ap h (sym same))
  ]

  -- an array that `from_fn` fills holds h at each place
  pub table_made : (f : F) (n : ℕ) → IsFromFnResult g f ys n → Computes f n → ys ≡ table n h
  table_made f n r c = table_from n h ys o r.long (λ k e. made_from f n 0 n (omega arith) c r.each k (omega arith) e)
