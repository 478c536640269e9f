-- A cell as it is printed: the coordinates of its base with spaces between, a space, and the labels as digits.
use Rattle.std.specs.Prelude.{ℕ, ◌+◌, List, ◌∷◌, ◌++◌, take, decimal}
use Rattle.std.specs.List.{flat_map}
use Rattle.grid.specs.Vertices.{spaced}
use Rattle.cells.specs.Vertices.{vertex_of}
use Rattle.cells.specs.declared.records.CellRecord.{CellRecord}

abbrev pub labels_of : CellRecord → List ℕ
labels_of r = take (r.d + 1) r.labels

abbrev pub cell_text : CellRecord → List ℕ
cell_text r = spaced (vertex_of r 0) ++ (32 ∷ flat_map decimal (labels_of r))
