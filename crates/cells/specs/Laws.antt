-- What holds of every cell.
use Rattle.std.specs.Prelude.{◌≡◌, true}
use Rattle.cells.specs.Cells.{is_cell, IsCell}
use Rattle.cells.specs.Chains.{Ascends}
use Rattle.cells.specs.Closed.{ClosedForm, LeadsBack}
use Rattle.cells.specs.Triangulation.{Triangulation}
use Rattle.cells.specs.Vertices.{coordinate, vertices_of}
use Rattle.cells.specs.declared.records.CellRecord.{CellRecord}

pub record CellLaws (r : CellRecord) : Type 0 where
  -- the test takes nothing but cells
  pub is : IsCell r
  -- a coordinate is one above the base once the part of its axis is passed
  pub closed : ClosedForm r
  -- the steps of all parts, the last included, lead back to the base
  pub back : LeadsBack r
  -- the vertices ascend, and stay within one above the base
  pub ascends : Ascends r.d r.l (coordinate r)
  -- equal vertices mean equal cells
  pub only : (s : CellRecord) → is_cell s ≡ true → vertices_of s ≡ vertices_of r → s ≡ r
  -- the cells are the simplices of the Freudenthal-Kuhn triangulation
  pub simplices : Triangulation
