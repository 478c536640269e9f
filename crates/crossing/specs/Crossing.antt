-- The class of a cell over a field.
use Rattle.std.specs.Prelude.{◌≡◌, ℕ, zero, suc, ◌+◌, ◌<◌, ◌≤◌, true, List, [], ℤ, pos, Some, None, Ok, Err, Option, Result, slice_index_or, if◌then◌else◌}
use Rattle.grid.specs.Below.{table}
use Rattle.grid.specs.Faults.{FaultNumbers, fault_numbers}
use Rattle.grid.specs.Refusals.{refusal, RefusalNumbers}
use Rattle.grid.specs.declared.faults.Fault.{Fault}
use Rattle.cells.specs.Vertices.{vertex_of}
use Rattle.cells.specs.declared.records.CellRecord.{CellRecord}
use Rattle.fields.specs.Fields.{fault, Meaning, Outcome, values}
use Rattle.crossing.specs.Boxes.{fits_frame}
use Rattle.crossing.specs.Determinants.{class_of}
use Rattle.crossing.specs.Weights.{IsClass, Matrix}
use Rattle.crossing.specs.declared.classes.Class.{Class}

-- what the field has at vertex i of the cell
abbrev pub outcome_at : Meaning → CellRecord → ℕ → Outcome
outcome_at m r i = m.outcome (vertex_of r i)

abbrev pub HasValues : Outcome → Type 0
HasValues (values xs) = Unit {0}
HasValues (fault f) = ⊥

-- the values, and none for a fault
abbrev pub rows_in : Outcome → List ℤ
rows_in (values xs) = xs
rows_in (fault f) = []

-- the outcome is values, and the array has them in its first k places
abbrev pub RowIn : ℕ → Outcome → List ℤ → Type 0
RowIn k (values xs) row = (r : ℕ) → r < k → slice_index_or row r (pos 0) ≡ slice_index_or xs r (pos 0)
RowIn k (fault f) row = ⊥

abbrev pub matrix_over : Meaning → CellRecord → Matrix
matrix_over m r = table (r.l + 1) (λ i. rows_in (outcome_at m r i))

-- the cell has the class c over the field: it fits, the field has values at all its vertices, and their weights give c
pub record ClassOver (c : Class) (m : Meaning) (r : CellRecord) : Type 0 where
  pub fits : fits_frame m.frame r ≡ true
  pub present : (i : ℕ) → i ≤ r.l → HasValues (outcome_at m r i)
  pub makes : IsClass c r.l (matrix_over m r)

-- The test of a cell over a field.

abbrev pub first_of : Option FaultNumbers → Outcome → Option FaultNumbers
first_of (Some f) o = Some f
first_of None (values xs) = None
first_of None (fault f) = Some f

-- the first fault at the vertices 0 to n - 1
abbrev pub first_fault : Meaning → CellRecord → ℕ → Option FaultNumbers
first_fault m r zero = None
first_fault m r (suc n) = first_of (first_fault m r n) (outcome_at m r n)

-- the first fault at the vertices of the cell
abbrev pub fault_among_vertices : Meaning → CellRecord → Option FaultNumbers
fault_among_vertices m r = first_fault m r (r.l + 1)

abbrev pub faulty : FaultNumbers → RefusalNumbers
faulty f = record { number = 9; fault = Some f }

-- an answer of the code with a fault as refusal 9
abbrev pub raised : {X : Type 0} → Result X Fault → Result X RefusalNumbers
raised (Ok x) = Ok x
raised (Err f) = Err (faulty (fault_numbers f))

abbrev pub unless_fault : {X : Type 0} → Option FaultNumbers → X → Result X RefusalNumbers
unless_fault (Some f) x = Err (faulty f)
unless_fault None x = Ok x

-- of a cell that fits: 9 with the first fault at its vertices, and else the class
abbrev pub class_if_present : Meaning → CellRecord → Result Class RefusalNumbers
class_if_present m r = unless_fault (fault_among_vertices m r) (class_of r.l (matrix_over m r))

-- 8 if the cell does not fit, then 9 with the first fault, and else the class
abbrev pub test_answer : Meaning → CellRecord → Result Class RefusalNumbers
test_answer m r = if fits_frame m.frame r then class_if_present m r else Err (refusal 8)
