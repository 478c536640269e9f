-- No hyperplane parts two points exactly if one is near above the other.
use Rattle.std.proofs.Common.{◌≡◌, ℕ, ◌<◌, true, false, ◌⊎◌, ℤ, pos, ◌+ℤ◌, ◌-ℤ◌, ◌≤ℤ◌, ◌<ℤ◌, sym, ◌∙◌, inl, inr, arith}
use lib.Signed.{lt_z}
use Rattle.std.proofs.lemmas.Int.{by_lt_z, ints}
use Rattle.std.proofs.lemmas.Bool.{cases_Bool, true≢false}
use Rattle.grid.specs.Below.{some_below}
use Rattle.grid.proofs.Below.{some_at, some_from}
use Rattle.cells.specs.Triangulation.{Between, Unparted}

step : (a : ℤ) → a <ℤ (a +ℤ pos 1)
step a = omega (arith, ints)

pub one_more : (a b : ℤ) → (Between a b → ⊥) → b ≤ℤ (a +ℤ pos 1)
one_more a b h = by_lt_z (a +ℤ pos 1) b (λ g. absurd (h (a +ℤ pos 1, step a, g))) (λ g. g)

-- one coordinate goes up: none goes down
none_down : (pj qj pi qi : ℤ) → pj <ℤ qj → (Between (pj -ℤ pi) (qj -ℤ qi) → ⊥) → pi ≤ℤ qi
none_down pj qj pi qi h g = by_lt_z qi pi (λ f. absurd (g ((pj -ℤ pi) +ℤ pos 1, step (pj -ℤ pi), two pj qj pi qi h f))) (λ f. f)
  where
    two : (pj qj pi qi : ℤ) → pj <ℤ qj → qi <ℤ pi → ((pj -ℤ pi) +ℤ pos 1) <ℤ (qj -ℤ qi)
    two pj qj pi qi h f = omega (arith, ints)

above : (a b : ℤ) → lt_z a b ≡ true → a <ℤ b
above a b h = grind (arith, ints)

is_above_lem : (a b : ℤ) → a <ℤ b → lt_z a b ≡ true
is_above_lem a b h = grind (arith, ints)

-- q is p, or above it within one unit cube
abbrev pub Near : ℕ → (ℕ → ℤ) → (ℕ → ℤ) → Type 0
Near d p q = (a : ℕ) → a < d → (p a ≤ℤ q a) × (q a ≤ℤ (p a +ℤ pos 1))

pub near : (d : ℕ) (p q : ℕ → ℤ) → Unparted d p q → Unparted d q p → Near d p q ⊎ Near d q p
near d p q u w = elim (cases_Bool (some_below (λ j. lt_z (p j) (q j)) d)) [ inl t ↦ inl (up (some_at _ d t)) | inr t ↦ inr (down t) ]
  where
    up : (j : ℕ) × (j < d) × (lt_z (p j) (q j) ≡ true) → Near d p q
    up s i h = (none_down (p s.0) (q s.0) (p i) (q i) (above _ _ s.2) (u.cross i s.0 h s.1), one_more (p i) (q i) (u.axis i h))

    down : some_below (λ j. lt_z (p j) (q j)) d ≡ false → Near d q p
    down t i h = (by_lt_z (p i) (q i) (λ g. absurd (both (some_from _ d i h (is_above_lem _ _ g)))) (λ g. g), one_more (q i) (p i) (w.axis i h))
      where
        both : some_below (λ j. lt_z (p j) (q j)) d ≡ true → ⊥
        both e = true≢false (sym e ∙ t)

pub far : (d : ℕ) (p q : ℕ → ℤ) → Near d p q → Unparted d p q × Unparted d q p
far d p q n = (
  record { axis = λ j h b. up (p j) (q j) b.0 (n j h).1 b.1 b.2; cross = λ i j h g b. cross (p i) (q i) (p j) (q j) b.0 (n i h).0 (n j g).1 b.1 b.2 },
  record { axis = λ j h b. down (p j) (q j) b.0 (n j h).0 b.1 b.2; cross = λ i j h g b. back (p i) (q i) (p j) (q j) b.0 (n i h).1 (n j g).0 b.1 b.2 },
)
  where
    up : (a b m : ℤ) → b ≤ℤ (a +ℤ pos 1) → a <ℤ m → m <ℤ b → ⊥
    up a b m h g f = omega (arith, ints)

    down : (a b m : ℤ) → a ≤ℤ b → b <ℤ m → m <ℤ a → ⊥
    down a b m h g f = omega (arith, ints)

    cross : (pi qi pj qj m : ℤ) → pi ≤ℤ qi → qj ≤ℤ (pj +ℤ pos 1) → (pj -ℤ pi) <ℤ m → m <ℤ (qj -ℤ qi) → ⊥
    cross pi qi pj qj m h g f e = omega (arith, ints)

    back : (pi qi pj qj m : ℤ) → qi ≤ℤ (pi +ℤ pos 1) → pj ≤ℤ qj → (qj -ℤ qi) <ℤ m → m <ℤ (pj -ℤ pi) → ⊥
    back pi qi pj qj m h g f e = omega (arith, ints)
