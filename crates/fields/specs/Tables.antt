-- A table of samples: vertex number m has the k numbers from position k × m on.
use Rattle.std.specs.Prelude.{ℕ, ◌+◌, ◌*◌, if◌then◌else◌, List, length, ℤ, pos, None, Option, nat_le, slice_index_or}
use Rattle.grid.specs.Below.{table}
use Rattle.grid.specs.Boxes.{place_number}
use Rattle.grid.specs.Frames.{FrameNumbers}
use Rattle.fields.specs.Fields.{fault_of, Meaning, or_fault}
use Rattle.fields.specs.Scale.{graded}

abbrev pub samples_from : ℕ → ℕ → List ℤ → List ℤ
samples_from i k xs = table k (λ r. slice_index_or xs (i + r) (pos 0))

-- none if one is past the end or off the scale; of 16-bit numbers only -32,768 is off the scale
abbrev pub sampled : ℕ → ℕ → List ℤ → Option (List ℤ)
sampled k m xs = if nat_le (k * m + k) (length xs) then graded (samples_from (k * m) k xs) else None

abbrev pub table_meaning : FrameNumbers → List ℤ → Meaning
table_meaning f xs = record {
  frame = f;
  height = 0;
  outcome = λ v. or_fault (sampled f.k (place_number f.sides v) xs) (fault_of 2 (place_number f.sides v) 0);
}
