use Rattle.std.proofs.Common.{rules, arith, refl, ◌∙◌, ◌&&◌, leb, ℕ, Bool}
use borrow.Author.Tests.{tests}
use Rattle.std.proofs.lemmas.Iterator.{YieldsList-from_range}
use Rattle.std.proofs.lemmas.Iterator.Search.{all_from_yields_List}
use Rattle.grid.specs.Frames.{sides_of}
use Rattle.crossing.specs.Boxes.{vertex_in}
use Rattle.crossing.proofs.Fitting.{vertices_pass}
use Rattle.crossing.proofs.boxes.are_vertices_in.Goals as goal

pub returns : goal.returns
returns c =
    let r = c.args.cell.now.plain in
    let q : ℕ → Bool = vertex_in (sides_of c.args.frame.now) r in
    let p : ℕ → Bool = λ i. leb i r.l && q i in
    all_from_yields_List p _ _ c.all.result c.all.ensures.ran (YieldsList-from_range 0 c.args.n c.args.n refl (omega arith)) (λ x b k h. search (rules, tests)) ∙ vertices_pass q r.l c.args.n c.requires
