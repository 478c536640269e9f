-- A frame in plain values: d axes, k rows and d sides.
use Rattle.std.specs.Prelude.{ℕ, Bool, if◌then◌else◌, ◌&&◌, List, length, take, Ok, Err, Result, ◌==◌, nat_le, nat_lt, slice_index, slice_index_or}
use Rattle.grid.specs.Below.{all_below, table}
use Rattle.grid.specs.Refusals.{RefusalNumbers, refusal}
use Rattle.grid.specs.declared.frames.Frame.{Frame}

pub record FrameNumbers : Type 0 where
  pub d : ℕ
  pub k : ℕ
  pub sides : List ℕ

abbrev pub sides_of : Frame → List ℕ
sides_of f = take f.d f.sides

abbrev pub frame_numbers : Frame → FrameNumbers
frame_numbers f = record { d = f.d; k = f.k; sides = sides_of f }

abbrev pub is_side : ℕ → Bool
is_side s = nat_le 1 s && nat_le s 1000

abbrev pub side_ok : List ℕ → ℕ → Bool
side_ok ss j = is_side (slice_index ss j)

-- d is 2 to 6, k is 1 to 3 and below d, and there are d sides
abbrev pub is_frame : ℕ → ℕ → List ℕ → Bool
is_frame d k ss = nat_le 2 d && nat_le d 6 && nat_le 1 k && nat_le k 3 && nat_lt k d && length ss == d && all_below (side_ok ss) (length ss)

-- refusal 2 for numbers that are no frame's
abbrev pub frame_answer : ℕ → ℕ → List ℕ → Result FrameNumbers RefusalNumbers
frame_answer d k ss = if is_frame d k ss then Ok (record { d = d; k = k; sides = ss }) else Err (refusal 2)

-- the first d sides, and 1 where there are fewer
abbrev pub fitted_sides : ℕ → List ℕ → List ℕ
fitted_sides d ss = table d (λ j. slice_index_or ss j 1)
