use Rattle.std.proofs.Common.{ℕ, ℤ, cond, ltb, pos, rules, ◌∙◌}
use Rattle.grid.proofs.Made.{table_made}
use Rattle.cells.specs.Closed.{closed_coordinate}
use Rattle.cells.proofs.Ascending.{cell_labelled}
use Rattle.cells.proofs.Checked.{is_cell_lem}
use Rattle.cells.proofs.Walked.{padded_form}
use Rattle.cells.proofs.cells.Cell.coordinates.Goals as goal

pub returns : goal.returns
returns c =
    let r = c.args.self.now.plain in
    let h : ℕ → ℤ = λ a. cond (ltb a r.d) (closed_coordinate r c.args.i a) (pos 0) in
    table_made _ h (pos 0) _ _ 6 c.from_fn.ensures.items (λ i y q h k. search rules)
    ∙ padded_form r (cell_labelled r (is_cell_lem r c.args.self.now.ok)) c.args.i c.requires
