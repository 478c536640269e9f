-- The line of a vertex: its number in the cell, its coordinates, and its number in the box.
use Rattle.std.specs.Prelude.{ℕ, if◌then◌else◌, List, ◌∷◌, ◌++◌, ℤ, None, decimal, Option, nat_le}
use Rattle.std.specs.Option.{option_map}
use Rattle.grid.specs.Boxes.{place_answer}
use Rattle.grid.specs.Vertices.{coordinates_of, spaced}
use Rattle.cells.specs.Vertices.{vertex_of}
use Rattle.cells.specs.declared.records.CellRecord.{CellRecord}
use Rattle.roadlist.specs.declared.lines.VertexLine.{VertexLine}

pub record LineNumbers : Type 0 where
  pub number : ℕ
  pub at : List ℤ
  pub place : ℕ

abbrev pub line_numbers : VertexLine → LineNumbers
line_numbers x = record { number = x.number; at = coordinates_of x.vertex; place = x.place }

abbrev pub line_text : LineNumbers → List ℕ
line_text x = decimal x.number ++ (32 ∷ (spaced x.at ++ (32 ∷ decimal x.place)))

-- a line for each vertex of the cell that is in the box
abbrev pub line_of : CellRecord → ℕ → ℕ → LineNumbers
line_of r i n = record { number = i; at = vertex_of r i; place = n }

abbrev pub line_answer : List ℕ → CellRecord → ℕ → Option LineNumbers
line_answer sides r i = if nat_le i r.l then option_map (line_of r i) (place_answer sides (vertex_of r i)) else None
