-- Points that ascend within one unit cube: v i a is coordinate a of point i, for points 0 to l.
use Rattle.std.specs.Prelude.{ℕ, ◌+◌, ◌<◌, ℤ, pos, ◌+ℤ◌, ◌≤ℤ◌, ◌<ℤ◌}

pub record Ascends (d l : ℕ) (v : ℕ → ℕ → ℤ) : Type 0 where
  -- from each point to the next no coordinate falls, and one rises
  pub up : (i a : ℕ) → i < l → a < d → v i a ≤ℤ v (i + 1) a
  pub rises : (i : ℕ) → i < l → (a : ℕ) × (a < d) × (v i a <ℤ v (i + 1) a)
  -- the last point is at most one above the first
  pub within : (a : ℕ) → a < d → v l a ≤ℤ (v 0 a +ℤ pos 1)
