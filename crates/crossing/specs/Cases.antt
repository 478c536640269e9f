-- Worked cases of the definitions.
use Rattle.std.specs.Prelude.{◌≡◌, ℕ, List, [], ◌∷◌, length, ℤ, pos, negsuc, Ok}
use Rattle.cells.specs.Cofacets.{cofacet_answer}
use Rattle.cells.specs.Facets.{facet_answer}
use Rattle.cells.specs.Splits.{part_size, splits}
use Rattle.cells.specs.declared.records.CellRecord.{CellRecord}
use Rattle.crossing.specs.Weights.{IsClass, IsWeights, Matrix}
use Rattle.crossing.specs.declared.classes.Class.TheVariants.{Crossed, Clear, Degenerate}

-- -1
abbrev pub minus_one : ℤ
minus_one = negsuc 0

-- two vertices with one value, and three with two
abbrev pub edge : ℤ → ℤ → Matrix
edge a b = (a ∷ []) ∷ (b ∷ []) ∷ []

abbrev pub triangle : (a b c d e f : ℤ) → Matrix
triangle a b c d e f = (a ∷ b ∷ []) ∷ (c ∷ d ∷ []) ∷ (e ∷ f ∷ []) ∷ []

abbrev pub three_weights : ℤ → ℤ → ℤ → List ℤ
three_weights a b c = a ∷ b ∷ c ∷ []

-- (2, 0), (0, 2), (-1, -1)
abbrev pub around : Matrix
around = triangle (pos 2) (pos 0) (pos 0) (pos 2) minus_one minus_one

-- (3, -1), (-1, 3), (2, 2)
abbrev pub beside : Matrix
beside = triangle (pos 3) minus_one minus_one (pos 3) (pos 2) (pos 2)

-- a cell of two axes, and one of three, by dimension, base and labels
abbrev pub flat_cell : ℕ → (x y : ℤ) → (a b c : ℕ) → CellRecord
flat_cell l x y a b c = record { d = 2; l = l; base = x ∷ y ∷ pos 0 ∷ pos 0 ∷ pos 0 ∷ pos 0 ∷ []; labels = a ∷ b ∷ c ∷ 0 ∷ 0 ∷ 0 ∷ 0 ∷ [] }

abbrev pub solid_cell : ℕ → (x y z : ℤ) → (a b c e : ℕ) → CellRecord
solid_cell l x y z a b c e = record { d = 3; l = l; base = x ∷ y ∷ z ∷ pos 0 ∷ pos 0 ∷ pos 0 ∷ []; labels = a ∷ b ∷ c ∷ e ∷ 0 ∷ 0 ∷ 0 ∷ [] }

pub record WorkedCases : Type 0 where
  -- one row: values -1, 1; then 1, 3; then 0, 1; then 0, 0
  pub opposite_signs : IsClass Crossed 1 (edge minus_one (pos 1))
  pub one_sign : IsClass Clear 1 (edge (pos 1) (pos 3))
  pub zero_and_one : IsClass Degenerate 1 (edge (pos 0) (pos 1))
  pub two_zeros : IsClass Degenerate 1 (edge (pos 0) (pos 0))
  -- two rows: the zero inside, with weights 1, 1, 2
  pub zero_inside : IsClass Crossed 2 around
  pub inside_weights : IsWeights 2 around (three_weights (pos 1) (pos 1) (pos 2))
  -- (1, 0), (-1, 0), (0, 1)
  pub zero_on_side : IsClass Degenerate 2 (triangle (pos 1) (pos 0) minus_one (pos 0) (pos 0) (pos 1))
  -- (1, 1), (2, 2), (3, 3)
  pub in_one_line : IsClass Degenerate 2 (triangle (pos 1) (pos 1) (pos 2) (pos 2) (pos 3) (pos 3))
  -- both rows change sign, and yet the zero is outside, with weights 1, 1, -1
  pub zero_outside : IsClass Clear 2 beside
  pub outside_weights : IsWeights 2 beside (three_weights (pos 1) (pos 1) minus_one)
  -- facet 0 of base (0, 0, 0), labels 1223 is base (1, 0, 0), labels 2112
  pub facet_0 : facet_answer (solid_cell 2 (pos 0) (pos 0) (pos 0) 1 2 2 3) 0 ≡ Ok (solid_cell 1 (pos 1) (pos 0) (pos 0) 2 1 1 2)
  -- cofacet 1 of base (0, 1), labels 122 is base (0, 0), labels 213
  pub cofacet_1 : cofacet_answer (flat_cell 1 (pos 0) (pos 1) 1 2 2) 1 ≡ Ok (flat_cell 2 (pos 0) (pos 0) 2 1 3)
  -- parts of 1 and 3 numbers give 6 cofacets, and parts of 2 and 2 give 4
  pub parts_1_3 : (r : CellRecord) → r.l ≡ 1 → part_size r 1 ≡ 1 → part_size r 2 ≡ 3 → length (splits r) ≡ 6
  pub parts_2_2 : (r : CellRecord) → r.l ≡ 1 → part_size r 1 ≡ 2 → part_size r 2 ≡ 2 → length (splits r) ≡ 4
