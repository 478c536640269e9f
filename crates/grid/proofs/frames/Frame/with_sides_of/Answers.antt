use Rattle.std.proofs.Common.{◌≡◌, ℕ, ◌≤◌, List, length, get_or, take, ap, ap₂, ◌∙◌, arith}
use Rattle.grid.specs.Frames.{fitted_sides, sides_of}
use Rattle.grid.specs.declared.frames.Frame.{Frame}
use Rattle.grid.proofs.Below.{cut-table}
use Rattle.grid.proofs.Framed.{fitted_is, frame_is, length-sides, side_or_one}
use Rattle.grid.proofs.Padded.{padded, padded-table}
use Rattle.grid.proofs.frames.Frame.with_sides_of.Goals as goal

cut_fitted : (f other : Frame) (n : ℕ) (fitted : List ℕ) → n ≡ f.d → fitted ≡ padded (sides_of other) 1 → take n fitted ≡ fitted_sides f.d (sides_of other)
cut_fitted f other n fitted d e =
    let ss = sides_of other in
    let few : length (sides_of other) ≤ 6 = omega (arith, length-sides other, other.d_high) in
    ap₂ take d (e ∙ padded-table ss 1 few) ∙ cut-table 6 f.d (λ j. get_or ss j 1) 1 f.d_high

pub kept-requires : goal.kept-requires
kept-requires c =
    let f = c.args.self.now in
    let other = c.args.other.now in
    rw (cut_fitted f other _ _ c.from.ensures c.fitted-sides.ensures) (fitted_is f.d f.k (sides_of other) (sides_of f) (frame_is f) (side_or_one other))

pub returns : goal.returns
returns c =
    let f = c.args.self.now in
    c.kept.ensures ∙ ap (λ sides. record { d = f.d; k = f.k; sides = sides }) (cut_fitted f c.args.other.now _ _ c.from.ensures c.fitted-sides.ensures)
