use Rattle.std.proofs.Common.{rules, refl, ◌∙◌}
use borrow.Author.Tests.{tests}
use Rattle.std.proofs.lemmas.Iterator.{YieldsList-from_slice}
use Rattle.std.proofs.lemmas.Iterator.Search.{all_from_yields_List}
use Rattle.grid.specs.Frames.{is_side, side_ok}
use Rattle.grid.proofs.Told.{list_all-below}
use Rattle.grid.proofs.frames.calls.are_sides.Goals as goal

pub returns : goal.returns
returns c = all_from_yields_List is_side _ _ _ c.all.ensures.ran (YieldsList-from_slice c.args.sides.now cc) (λ x b k h. search (rules, tests)) ∙ list_all-below is_side (side_ok c.args.sides.now) 0 c.args.sides.now (λ k lt. refl)
