-- What is printed: d, k, count and steps, and then the place, the base and the labels of each listed cell.
use Rattle.std.specs.Prelude.{ℕ, if◌then◌else◌, List, ◌∷◌, ◌++◌, Some, None, decimal, Option}
use Rattle.cells.specs.Cells.{is_cell}
use Rattle.cells.specs.Texts.{cell_text}
use Rattle.cells.specs.declared.records.CellRecord.{CellRecord}
use Rattle.roadtrace.specs.declared.lines.CellLine.{CellLine}
use Rattle.roadtrace.specs.declared.lines.HeadLine.{HeadLine}

abbrev pub head_text : HeadLine → List ℕ
head_text x = decimal x.frame.d ++ (32 ∷ (decimal x.frame.k ++ (32 ∷ (decimal x.count ++ (32 ∷ decimal x.steps)))))

pub record LineNumbers : Type 0 where
  pub place : ℕ
  pub cell : CellRecord

abbrev pub line_numbers : CellLine → LineNumbers
line_numbers x = record { place = x.place; cell = x.cell.plain }

abbrev pub line_text : LineNumbers → List ℕ
line_text x = decimal x.place ++ (32 ∷ cell_text x.cell)

-- a line for each record that is a cell
abbrev pub line_answer : ℕ → CellRecord → Option LineNumbers
line_answer n r = if is_cell r then Some (record { place = n; cell = r }) else None
