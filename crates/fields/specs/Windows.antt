-- A window layer: the field below, asked at vertex plus corner, in a box of its own.
use Rattle.std.specs.Prelude.{ℕ, List, length, ℤ, pos, ◌+ℤ◌, slice_index, slice_index_or}
use Rattle.grid.specs.Below.{table}
use Rattle.grid.specs.Frames.{fitted_sides}
use Rattle.fields.specs.Fields.{answer, Meaning}
use Rattle.fields.specs.Levels.{height_over}

abbrev pub plus_corner : List ℤ → List ℕ → List ℤ
plus_corner v cs = table (length v) (λ a. slice_index_or v a (pos 0) +ℤ pos (slice_index cs a))

abbrev pub window_meaning : Meaning → List ℕ → List ℕ → Meaning
window_meaning m ss cs = record {
  frame = record { d = m.frame.d; k = m.frame.k; sides = fitted_sides m.frame.d ss };
  height = height_over m.height;
  outcome = λ v. answer m (plus_corner v cs);
}
