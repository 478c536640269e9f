-- What a cell is: a base vertex and an ordered partition of the numbers 1 to d + 1 into l + 1 parts.
use Rattle.std.specs.Prelude.{◌≡◌, ℕ, ◌+◌, ◌<◌, ◌≤◌, Bool, true, if◌then◌else◌, ◌&&◌, ◌||◌, length, ℤ, pos, Ok, Err, Result, ◌==◌, int_le, nat_le, nat_lt}
use Rattle.grid.specs.Below.{all_below, some_below}
use Rattle.grid.specs.Refusals.{RefusalNumbers, refusal}
use Rattle.cells.specs.Records.{base_at, label}
use Rattle.cells.specs.Vertices.{coordinate}
use Rattle.cells.specs.World.{in_world}
use Rattle.cells.specs.declared.records.CellRecord.{CellRecord}

pub record IsCell (r : CellRecord) : Type 0 where
  pub d_low : 2 ≤ r.d
  pub d_high : r.d ≤ 6
  pub l_high : r.l ≤ r.d
  -- each number is in a part
  pub parted : (j : ℕ) → j ≤ r.d → (1 ≤ label r j) × (label r j ≤ r.l + 1)
  -- no part is empty
  pub full : (p : ℕ) → 1 ≤ p → p ≤ r.l + 1 → (j : ℕ) × (j ≤ r.d) × (label r j ≡ p)
  -- the number d + 1 is in the last part
  pub last : label r r.d ≡ r.l + 1
  -- every coordinate of every vertex lies in the world
  pub world : (i a : ℕ) → i ≤ r.l → a < r.d → in_world (coordinate r i a) ≡ true
  -- there are 7 labels and 6 numbers of the base, 0 in the places that d leaves unused
  pub labels_long : length r.labels ≡ 7
  pub labels_rest : (j : ℕ) → r.d < j → label r j ≡ 0
  pub base_long : length r.base ≡ 6
  pub base_rest : (a : ℕ) → r.d ≤ a → base_at r a ≡ pos 0

-- The same as a test.

abbrev pub label_ok : CellRecord → ℕ → Bool
label_ok r j = if nat_le j r.d then nat_le 1 (label r j) && nat_le (label r j) (r.l + 1) else label r j == 0

abbrev pub in_part : CellRecord → ℕ → ℕ → Bool
in_part r p j = label r j == p

-- the part after part p has a number in it
abbrev pub next_part_full : CellRecord → ℕ → Bool
next_part_full r p = some_below (in_part r (p + 1)) (r.d + 1)

abbrev pub is_partition : CellRecord → Bool
is_partition r =
    nat_le 2 r.d && nat_le r.d 6 && nat_le r.l r.d
    && length r.labels == 7 && all_below (label_ok r) 7
    && label r r.d == r.l + 1 && all_below (next_part_full r) (r.l + 1)

abbrev pub is_zero : ℤ → Bool
is_zero x = int_le x (pos 0) && int_le (pos 0) x

abbrev pub base_ok : CellRecord → ℕ → Bool
base_ok r a = nat_lt a r.d || is_zero (base_at r a)

abbrev pub coordinate_ok : CellRecord → ℕ → ℕ → Bool
coordinate_ok r i a = in_world (coordinate r i a)

abbrev pub vertex_ok : CellRecord → ℕ → Bool
vertex_ok r i = all_below (coordinate_ok r i) r.d

abbrev pub all_in_world : CellRecord → Bool
all_in_world r = all_below (vertex_ok r) (r.l + 1)

abbrev pub is_placed : CellRecord → Bool
is_placed r = length r.base == 6 && all_below (base_ok r) 6 && all_in_world r

unfoldable pub is_cell : CellRecord → Bool
is_cell r = is_partition r && is_placed r

-- the cell of exactly that record, or refusal 1
abbrev pub cell_answer : CellRecord → Result CellRecord RefusalNumbers
cell_answer r = if is_cell r then Ok r else Err (refusal 1)
