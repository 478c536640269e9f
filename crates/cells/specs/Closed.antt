-- The vertices of a cell without the walk to them.
use Rattle.std.specs.Prelude.{◌≡◌, ℕ, ◌+◌, ◌<◌, ◌≤◌, Bool, if◌then◌else◌, ◌&&◌, ℤ, pos, ◌+ℤ◌, nat_le, nat_lt}
use Rattle.cells.specs.Cells.{is_zero}
use Rattle.cells.specs.Records.{base_at, label}
use Rattle.cells.specs.Vertices.{coordinate}
use Rattle.cells.specs.World.{in_world}
use Rattle.cells.specs.declared.records.CellRecord.{CellRecord}

-- a coordinate is one above the base once the part of its axis is passed
abbrev pub closed_coordinate : CellRecord → ℕ → ℕ → ℤ
closed_coordinate r i a = base_at r a +ℤ pos (if nat_le (label r a) i then 1 else 0)

-- the walk along the parts comes to the same
abbrev pub ClosedForm : CellRecord → Type 0
ClosedForm r = (i a : ℕ) → i ≤ r.l → a < r.d → coordinate r i a ≡ closed_coordinate r i a

-- the steps of all parts, the last included, lead back to the base
abbrev pub LeadsBack : CellRecord → Type 0
LeadsBack r = (a : ℕ) → a < r.d → coordinate r (r.l + 1) a ≡ base_at r a

-- along one axis, the first and the last vertex tell whether all lie in the world
abbrev pub axis_ok : CellRecord → ℕ → Bool
axis_ok r a = if nat_lt a r.d then in_world (base_at r a) && in_world (closed_coordinate r r.l a) else is_zero (base_at r a)
