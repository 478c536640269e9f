-- What the scale tells of the numbers on it.
use Rattle.std.proofs.Common.{◌≡◌, ℕ, ◌<◌, ◌≤◌, true, List, length, get_or, ℤ, pos, negsuc, arith, w16, w64, SFits, to_z, of_z}
use Rattle.std.proofs.lemmas.Int.{ints, to_z-of_z}
use Rattle.std.proofs.lemmas.Bool.Decides.{nat_tests}
use Rattle.grid.specs.Below.{table}
use Rattle.grid.proofs.Below.{all_at, length-table}
use Rattle.fields.specs.Scale.{all_on_scale, graded, on_scale, row_ok}
use Rattle.fields.specs.Values.{values_answer}

on_scale_fits : (x : ℤ) → on_scale x ≡ true → SFits w16 x
on_scale_fits (pos n) h = grind (arith, nat_tests)
on_scale_fits (negsuc n) h = grind (arith, nat_tests)

wider : (x : ℤ) → SFits w16 x → SFits w64 x
wider x f = omega (arith, ints)

-- a row on the scale fits 16 bits
pub row_fits : (xs : List ℤ) (r : ℕ) (x : ℤ) → all_on_scale xs ≡ true → r < length xs → x ≡ get_or xs r (pos 0) → SFits w16 (to_z w64 (of_z w64 x))
row_fits xs r x h g e =
    let f : SFits w16 x = rw e (on_scale_fits (get_or xs r (pos 0)) (all_at (row_ok xs) (length xs) h r g)) in
    rw (to_z-of_z w64 x (wider x f)) f

-- and it is the same number there
pub row_there : (xs : List ℤ) (r : ℕ) (x : ℤ) → all_on_scale xs ≡ true → r < length xs → x ≡ get_or xs r (pos 0) → to_z w16 (of_z w16 (to_z w64 (of_z w64 x))) ≡ get_or xs r (pos 0)
row_there xs r x h g e =
    let f : SFits w16 x = rw e (on_scale_fits (get_or xs r (pos 0)) (all_at (row_ok xs) (length xs) h r g)) in
    rw (to_z-of_z w64 x (wider x f), to_z-of_z w16 x f) e

-- one to three rows are values if each is on the scale
pub few_rows : (k : ℕ) (f : ℕ → ℤ) → 1 ≤ k → k ≤ 3 → values_answer (table k f) ≡ graded (table k f)
few_rows k f low high = let long = length-table k f in grind (arith, nat_tests)
