-- Cells in the box of a field.
use Rattle.std.specs.Prelude.{ℕ, ◌+◌, Bool, ◌&&◌, List, ◌==◌}
use Rattle.grid.specs.Below.{all_below}
use Rattle.grid.specs.Boxes.{in_box}
use Rattle.grid.specs.Frames.{FrameNumbers}
use Rattle.cells.specs.Cells.{is_cell}
use Rattle.cells.specs.Vertices.{vertex_of}
use Rattle.cells.specs.declared.records.CellRecord.{CellRecord}

abbrev pub vertex_in : List ℕ → CellRecord → ℕ → Bool
vertex_in sides r i = in_box sides (vertex_of r i)

-- all vertices of the cell are in the box
abbrev pub lies_in : List ℕ → CellRecord → Bool
lies_in sides r = all_below (vertex_in sides r) (r.l + 1)

-- a cell fits a frame if d agrees, its dimension is k, and it lies in the box; a record that is no cell fits none
abbrev pub fits_frame : FrameNumbers → CellRecord → Bool
fits_frame f r = is_cell r && (r.d == f.d && (r.l == f.k && lies_in f.sides r))
