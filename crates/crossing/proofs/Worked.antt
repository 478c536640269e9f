-- The worked cases: the classes by the signs of the determinants, and the cells and their splits by computation.
use Rattle.std.proofs.Common.{◌≡◌, ℕ, zero, suc, ◌+◌, ◌-◌, ◌^◌, ◌<◌, length, pos, refl, ap, ◌∙◌, ap₂, arith, lit≤}
use Rattle.grid.specs.Below.{all_below, some_below, table}
use Rattle.grid.specs.Sums.{sum_below}
use Rattle.cells.proofs.Counting.{count_to}
use Rattle.cells.specs.Chosen.{chosen}
use Rattle.cells.specs.Splits.{holds, is_split, part_size, splits, splits_to}
use Rattle.cells.specs.declared.records.CellRecord.{CellRecord}
use Rattle.crossing.specs.Cases.{around, beside, edge, minus_one, triangle, WorkedCases}
use Rattle.crossing.specs.Determinants.{class_of}
use Rattle.crossing.specs.Weights.{IsClass, Matrix}
use Rattle.crossing.proofs.Giving.{given}

one_row : (v : Matrix) → IsClass (class_of 1 v) 1 v
one_row v = (given 1 v (lit≤ tt) (lit≤ tt)).is

two_rows : (v : Matrix) → IsClass (class_of 2 v) 2 v
two_rows v = (given 2 v (lit≤ tt) (lit≤ tt)).is

two_parts : (r : CellRecord) (a b : ℕ) → r.l ≡ 1 → part_size r 1 ≡ a → part_size r 2 ≡ b → length (splits r) ≡ (2 ^ a - 2) + (2 ^ b - 2)
two_parts r a b l p q = ap (λ n. length (splits_to r (n + 1))) l ∙ count_to r 2 ∙ ap₂ (λ a b. 0 + (2 ^ a - 2) + (2 ^ b - 2)) p q ∙ omega arith

below_two : (P : ℕ → Type 0) → P 0 → P 1 → (r : ℕ) → r < 2 → P r
below_two P a b zero l = a
below_two P a b (suc zero) l = b
below_two P a b (suc (suc r)) l = absurd (omega arith)

pub worked : WorkedCases
unfolding all_below some_below sum_below table chosen holds is_split splits_to
worked =
    record {
      opposite_signs = one_row (edge minus_one (pos 1));
      one_sign = one_row (edge (pos 1) (pos 3));
      zero_and_one = one_row (edge (pos 0) (pos 1));
      two_zeros = one_row (edge (pos 0) (pos 0));
      zero_inside = two_rows around;
      inside_weights = record { long = refl; rows = below_two _ refl refl };
      zero_on_side = two_rows (triangle (pos 1) (pos 0) minus_one (pos 0) (pos 0) (pos 1));
      in_one_line = two_rows (triangle (pos 1) (pos 1) (pos 2) (pos 2) (pos 3) (pos 3));
      zero_outside = two_rows beside;
      outside_weights = record { long = refl; rows = below_two _ refl refl };
      facet_0 = refl;
      cofacet_1 = refl;
      parts_1_3 = λ r. two_parts r 1 3;
      parts_2_2 = λ r. two_parts r 2 2;
    }
