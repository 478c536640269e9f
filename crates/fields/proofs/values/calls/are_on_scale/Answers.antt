use Rattle.std.proofs.Common.{pos, rules, refl, ◌∙◌}
use borrow.Author.Tests.{tests}
use Rattle.std.proofs.lemmas.Iterator.{YieldsList-from_slice}
use Rattle.std.proofs.lemmas.Iterator.Search.{all_from_yields_List}
use Rattle.grid.proofs.Told.{list_all-below}
use Rattle.fields.specs.Scale.{on_scale, row_ok}
use Rattle.fields.proofs.values.calls.are_on_scale.Goals as goal

pub returns : goal.returns
returns c = all_from_yields_List on_scale _ _ _ c.all.ensures.ran (YieldsList-from_slice c.args.rows.now cc) (λ x b k h. search (rules, tests)) ∙ list_all-below on_scale (row_ok c.args.rows.now) (pos 0) c.args.rows.now (λ k lt. refl)
