-- What the matrices of the code and of the definitions hold.
use Rattle.std.proofs.Common.{◌≡◌, ℕ, ◌+◌, ◌*◌, ◌<◌, ◌≤◌, List, [], get_or, drop, ℤ, pos, ap, ◌∙◌, sym, arith}
use Rattle.std.proofs.lemmas.List.{get_or-drop}
use Rattle.grid.specs.Below.{table}
use Rattle.grid.proofs.Below.{get_or-table}
use Rattle.cells.specs.declared.records.CellRecord.{CellRecord}
use Rattle.fields.specs.Fields.{Meaning}
use Rattle.crossing.specs.Crossing.{matrix_over, outcome_at, rows_in}
use Rattle.crossing.specs.Determinants.{by_vertex, class_of}
use Rattle.crossing.specs.declared.matrices.VertexValues.{VertexValues}
use Rattle.crossing.proofs.Giving.{class_same}
use Rattle.crossing.specs.Weights.{Agree, entry, Matrix, value}

-- row r at vertex i of a matrix that is made vertex by vertex
pub made_value : (n : ℕ) (f : ℕ → List ℤ) (i r : ℕ) → i < n → value (table n f) i r ≡ entry (f i) r
made_value n f i r h = ap (λ (ys : List ℤ). entry ys r) (get_or-table n f i [] h)

-- row r at vertex i of a cell, as the field has it
abbrev pub row_over : Meaning → CellRecord → ℕ → ℕ → ℤ
row_over m c i r = entry (rows_in (outcome_at m c i)) r

pub matrix_value : (m : Meaning) (c : CellRecord) (i r : ℕ) → i ≤ c.l → value (matrix_over m c) i r ≡ row_over m c i r
matrix_value m c i r h = made_value (c.l + 1) (λ i. rows_in (outcome_at m c i)) i r (omega arith)

-- numbers written vertex by vertex: those from k * i on belong to vertex i
pub arranged : (k : ℕ) (xs : List ℤ) → k ≤ 3 → Agree k (table 4 (λ i. table 3 (entry (drop (k * i) xs)))) (by_vertex k xs)
arranged k xs high i r h g =
    made_value 4 (λ i. table 3 (entry (drop (k * i) xs))) i r (omega arith)
    ∙ get_or-table 3 (entry (drop (k * i) xs)) r (pos 0) (omega arith)
    ∙ get_or-drop (k * i) xs r (pos 0)
    ∙ sym (made_value (k + 1) (λ i. table k (λ r. get_or xs (k * i + r) (pos 0))) i r (omega arith) ∙ get_or-table k (λ r. get_or xs (k * i + r) (pos 0)) r (pos 0) g)

-- the class of what the code holds is that of a matrix with the same values
pub class_made : (v : VertexValues) (k : ℕ) (u : Matrix) → v.k ≡ k → Agree k v.at u → class_of v.k v.at ≡ class_of k u
class_made v k u e h = ap (λ n. class_of n v.at) e ∙ class_same k v.at u (omega (arith, v.k_low, e)) (omega (arith, v.k_high, e)) h
