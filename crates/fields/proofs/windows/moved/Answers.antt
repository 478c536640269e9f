use Rattle.std.proofs.Common.{◌≡◌, ℕ, true, cond, List, length, get_or, ℤ, pos, ◌+ℤ◌, Some, None, sym, ap, ◌∙◌}
use Rattle.std.proofs.lemmas.Bool.{cond-true}
use Rattle.grid.specs.Boxes.{in_box}
use Rattle.grid.specs.Frames.{sides_of}
use Rattle.grid.specs.Vertices.{coordinates_of, vertex_answer}
use Rattle.grid.specs.declared.frames.Frame.{Frame}
use Rattle.grid.proofs.Below.{length-table}
use Rattle.grid.proofs.Framed.{length-sides}
use Rattle.grid.proofs.Places.{in_box_lem}
use Rattle.grid.proofs.Vertexes.{vertex_taken}
use Rattle.fields.specs.Windows.{plus_corner}
use Rattle.fields.proofs.windows.moved.Goals as goal

sum_taken : (f : Frame) (v : List ℤ) (cs : List ℕ) → in_box (sides_of f) v ≡ true → vertex_answer (plus_corner v cs) ≡ cond (in_box (sides_of f) v) (Some (plus_corner v cs)) None
sum_taken f v cs h =
    let long : length (plus_corner v cs) ≡ f.d = length-table (length v) (λ a. get_or v a (pos 0) +ℤ pos (get_or cs a 0)) ∙ (in_box_lem (sides_of f) v h).axes ∙ length-sides f in
    vertex_taken (plus_corner v cs) f.d long f.d_low f.d_high
    ∙ sym (cond-true (in_box (sides_of f) v) (Some (plus_corner v cs)) None h)

pub returns : goal.returns
returns c =
    c.plus.ensures
    ∙ ap (λ v. vertex_answer (plus_corner v c.args.corner.now)) c.new.ensures
    ∙ sum_taken c.args.frame.now (coordinates_of c.args.vertex.now) c.args.corner.now (sym c.if-not-contains.ensures)
