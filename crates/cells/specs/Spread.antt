-- A number spread over places: this is how the code finds a split by its number.
use Rattle.std.specs.Prelude.{ℕ, zero, suc, ◌+◌, ◌*◌, ◌/◌, ◌%◌, Bool, if◌then◌else◌}

-- the bits of t go to the places that pass, the lowest first: n places from place j on, as a number in which j is the lowest
unfoldable pub spread : (ℕ → Bool) → ℕ → ℕ → ℕ → ℕ
spread q j zero t = 0
spread q j (suc n) t = if q j then t % 2 + 2 * spread q (j + 1) n (t / 2) else 2 * spread q (j + 1) n t
