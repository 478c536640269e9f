-- The numbers of each field's meaning are in their ranges.
use Rattle.std.specs.Prelude.{◌≡◌, ℕ, ◌+◌, ◌*◌, ◌≤◌, Bool, true, false, if◌then◌else◌, List, length, get_or, ℤ, pos, ◌-ℤ◌, Some, None, nat_le, slice_index_or, refl}
use Rattle.std.proofs.Common.{◌∙◌, arith}
use Rattle.grid.specs.Boxes.{in_box, place_number}
use Rattle.grid.specs.Faults.{FaultNumbers}
use Rattle.grid.specs.Frames.{frame_numbers, sides_of}
use Rattle.grid.specs.declared.frames.Frame.{Frame}
use Rattle.grid.proofs.Below.{length-table}
use Rattle.grid.proofs.Framed.{fitted_is, frame_is, side_or_one}
use Rattle.fields.specs.Fields.{fault, fault_of, Good, Meaning, or_fault, Outcome, sides_in, Sound, values}
use Rattle.fields.specs.Levels.{height_over, less_levels, levelled, level_meaning}
use Rattle.fields.specs.Quadrics.{no_row, quadric_meaning, row_at, rows_at}
use Rattle.fields.specs.Scale.{all_on_scale, graded}
use Rattle.fields.specs.Tables.{sampled, samples_from, table_meaning}
use Rattle.fields.specs.Windows.{plus_corner, window_meaning}
use Rattle.fields.specs.declared.quadrics.Row.{Row}

sound_graded : (k : ℕ) (xs : List ℤ) (f : FaultNumbers) → length xs ≡ k → 1 ≤ f.cause → f.cause ≤ 3 → Sound k (or_fault (graded xs) f)
sound_graded k xs f long low high = go (all_on_scale xs) refl
  where
    go : (b : Bool) → all_on_scale xs ≡ b → Sound k (or_fault (if b then Some xs else None) f)
    go true e = (long, e)
    go false e = (low, high)

sound_sampled : (k m : ℕ) (xs : List ℤ) (f : FaultNumbers) → 1 ≤ f.cause → f.cause ≤ 3 → Sound k (or_fault (sampled k m xs) f)
sound_sampled k m xs f low high = go (nat_le (k * m + k) (length xs))
  where
    go : (b : Bool) → Sound k (or_fault (if b then graded (samples_from (k * m) k xs) else None) f)
    go true = sound_graded k (samples_from (k * m) k xs) f (length-table k (λ r. get_or xs (k * m + r) (pos 0))) low high
    go false = (low, high)

pub table_good : (f : Frame) (xs : List ℤ) → Good (table_meaning (frame_numbers f) xs)
table_good f xs = record {
  framed = frame_is f;
  high = omega arith;
  sound = λ v i. sound_sampled f.k (place_number (sides_of f) v) xs (fault_of 2 (place_number (sides_of f) v) 0) (omega arith) (omega arith);
}

pub quadric_good : (f : Frame) (ws : List Row) → Good (quadric_meaning (frame_numbers f) ws)
quadric_good f ws = record {
  framed = frame_is f;
  high = omega arith;
  sound = λ v i. sound_graded f.k (rows_at f.k ws v) (fault_of 3 (place_number (sides_of f) v) 0) (length-table f.k (λ r. row_at v (slice_index_or ws r no_row))) (omega arith) (omega arith);
}

sound_levelled : (k p h : ℕ) (ls : List ℤ) (o : Outcome) → Sound k o → Sound k (levelled ls p h o)
sound_levelled k p h ls (values xs) s = sound_graded k (less_levels xs ls) (fault_of 3 p h) (length-table (length xs) (λ r. slice_index_or xs r (pos 0) -ℤ slice_index_or ls r (pos 0)) ∙ s.0) (omega arith) (omega arith)
sound_levelled k p h ls (fault f) s = s

pub level_good : (m : Meaning) (ls : List ℤ) → Good m → Good (level_meaning m ls)
level_good m ls g = record {
  framed = g.framed;
  high = omega arith;
  sound = λ v i. sound_levelled m.frame.k (place_number (sides_in m) v) (height_over m.height) ls (m.outcome v) (g.sound v i);
}

pub window_good : (m : Meaning) (own : Frame) (cs : List ℕ) → Good m → Good (window_meaning m (sides_of own) cs)
window_good m own cs g = record {
  framed = fitted_is m.frame.d m.frame.k (sides_of own) (sides_in m) g.framed (side_or_one own);
  high = omega arith;
  sound = λ v i. go (plus_corner v cs) (in_box (sides_in m) (plus_corner v cs)) refl;
}
  where
    go : (w : List ℤ) (b : Bool) → in_box (sides_in m) w ≡ b → Sound m.frame.k (if b then m.outcome w else fault (fault_of 1 0 m.height))
    go w true e = g.sound w e
    go w false e = (omega arith, omega arith)
