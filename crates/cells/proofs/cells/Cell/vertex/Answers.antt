use Rattle.std.proofs.Common.{take, pos, ap, ◌∙◌, arith}
use Rattle.grid.specs.Vertices.{vertex_answer}
use Rattle.grid.proofs.Below.{front-table, length-table}
use Rattle.grid.proofs.Vertexes.{vertex_taken}
use Rattle.cells.specs.Vertices.{coordinate, vertex_of}
use Rattle.cells.proofs.Checked.{is_cell_lem}
use Rattle.cells.proofs.Answering.{vertex_granted}
use Rattle.cells.proofs.cells.Cell.vertex.Goals as goal

pub returns : goal.returns
returns c =
    let r = c.args.self.now.plain in
    let i = is_cell_lem r c.args.self.now.ok in
    let v = vertex_of r c.args.i in
    c.new.ensures.answer
    ∙ ap (λ n. vertex_answer (take n c.coordinates.result)) c.from-2.ensures
    ∙ ap vertex_answer (ap (take r.d) c.coordinates.ensures ∙ front-table 6 r.d (coordinate r c.args.i) (pos 0) i.d_high)
    ∙ vertex_taken v r.d (length-table r.d (coordinate r c.args.i)) i.d_low i.d_high
    ∙ vertex_granted r c.args.i (omega arith)
