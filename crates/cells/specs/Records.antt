-- Reading a cell record. Axes and numbers count from 0 here: place a of the base is for axis a + 1, and place j of the labels
-- for the number j + 1, so that place d is for the number d + 1.
use Rattle.std.specs.Prelude.{◌≡◌, ℕ, Bool, ◌&&◌, ℤ, pos, IsTrue, ◌↔◌, nat_eq, slice_index, slice_index_or, ◌==◌}
use Rattle.std.specs.Ordering.{int_eq}
use Rattle.std.specs.Cmp.Lexicographic.{pointwise}
use Rattle.cells.specs.declared.records.CellRecord.{CellRecord}

abbrev pub base_at : CellRecord → ℕ → ℤ
base_at r a = slice_index_or r.base a (pos 0)

abbrev pub label : CellRecord → ℕ → ℕ
label r j = slice_index r.labels j

-- the test for equality
abbrev pub record_eq : CellRecord → CellRecord → Bool
record_eq r s = r.d == s.d && (r.l == s.l && (pointwise int_eq r.base s.base && pointwise nat_eq r.labels s.labels))

-- it says yes exactly for equal records
abbrev pub RecordEqExact : Type 0
RecordEqExact = (r s : CellRecord) → IsTrue (record_eq r s) ↔ (r ≡ s)
