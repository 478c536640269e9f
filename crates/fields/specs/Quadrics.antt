-- A quadric: each row is a constant and, along each axis, a linear and a square part.
use Rattle.std.specs.Prelude.{ℕ, List, length, ℤ, pos, ◌+ℤ◌, ◌*ℤ◌, slice_index_or}
use Rattle.grid.specs.Below.{table}
use Rattle.grid.specs.Boxes.{place_number}
use Rattle.grid.specs.Frames.{FrameNumbers}
use Rattle.grid.specs.Sums.{sum_below}
use Rattle.fields.specs.Fields.{fault_of, Meaning, or_fault}
use Rattle.fields.specs.Scale.{graded}
use Rattle.fields.specs.declared.quadrics.Row.{Row}

-- A × x + B × x × x
abbrev pub axis_part : ℤ → ℤ → ℤ → ℤ
axis_part a b x = (a *ℤ x) +ℤ (b *ℤ (x *ℤ x))

abbrev pub part_at : Row → List ℤ → ℕ → ℤ
part_at w v j = axis_part (slice_index_or w.linear j (pos 0)) (slice_index_or w.square j (pos 0)) (slice_index_or v j (pos 0))

-- C and the parts of all axes
abbrev pub row_at : List ℤ → Row → ℤ
row_at v w = w.constant +ℤ sum_below (part_at w v) (length v)

abbrev pub no_row : Row
no_row = record { constant = pos 0; linear = table 6 (λ _. pos 0); square = table 6 (λ _. pos 0) }

abbrev pub rows_at : ℕ → List Row → List ℤ → List ℤ
rows_at k ws v = table k (λ r. row_at v (slice_index_or ws r no_row))

-- off scale if a row leaves the scale
abbrev pub quadric_meaning : FrameNumbers → List Row → Meaning
quadric_meaning f ws = record {
  frame = f;
  height = 0;
  outcome = λ v. or_fault (graded (rows_at f.k ws v)) (fault_of 3 (place_number f.sides v) 0);
}
