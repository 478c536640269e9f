-- What an array's `map` gives.
use Rattle.std.proofs.Common.{◌≡◌, ℕ, zero, suc, ◌+◌, ◌<◌, ◌≤◌, List, get_or, ◌∙◌, sym, ap, arith, subst, inl, inr}
use Rattle.std.proofs.lemmas.Bool.{cases_lt}
use Rattle.std.specs.Array.{IsMapOf, MapsFrom}
use denote.Param.Members.{Mut, Called}
use Rattle.grid.specs.Below.{table}
use Rattle.grid.proofs.Below.{table_from}

module _ {F A X : Type 0} (g : Mut F (A × Unit {0}) X) (h : A → X) (d : A) (o : X) (xs : List A) (ys : List X) where
  -- each call answers h of its item and leaves the closure as it was
  abbrev pub Maps : F → Type 0
  Maps f = (x : A) (y : X) (q : F) → Called g f (x, tt) y q → (q ≡ f) × (y ≡ h x)

  mapped_from : (f : F) (n i m : ℕ) → i + n ≡ m → Maps f → MapsFrom g f xs ys i n → (k : ℕ) → i ≤ k → k < m → get_or ys k o ≡ h (get_or xs k d)
  mapped_from f zero i m e c r k a b = absurd (omega arith)
  mapped_from f (suc n) i m e c (q, x, y, there, here, called, rest) k a b = elim (cases_lt i k) [
    | inl lt ↦ mapped_from f n (i + 1) m (omega arith) c (subst (λ (p : F). MapsFrom g p xs ys (i + 1) n) (c x y q called).0 rest) k (omega arith) b
    | inr le ↦ (let same : k ≡ i = omega arith in ap (λ j. get_or ys j o) same ∙ here.1 o ∙ (c x y q called).1 ∙ ap h (sym (there.1 d)) ∙ ap (λ j. h (get_or xs j d)) (sym same))
  ]

  -- an array that `map` makes holds h of what the other holds at each place
  pub table_mapped : (f : F) (n : ℕ) → IsMapOf g f xs ys n → Maps f → ys ≡ table n (λ k. h (get_or xs k d))
  table_mapped f n r c = table_from n (λ k. h (get_or xs k d)) ys o r.long (λ k e. mapped_from f n 0 n (omega arith) c r.each k (omega arith) e)
