use Rattle.std.proofs.Common.{◌∙◌, refl, pos, ℤ, Bool, ◌&&◌, rules}
use borrow.Author.Tests.{tests}
use Rattle.std.proofs.lemmas.Iterator.{YieldsList-from_slice}
use Rattle.std.proofs.lemmas.Iterator.Search.{any_from_yields_List}
use Rattle.std.specs.Prelude.{int_le, int_lt}
use Rattle.grid.proofs.Told.{list_any-below}
use Rattle.crossing.specs.Determinants.{is_above, is_below, is_level}
use Rattle.crossing.specs.Weights.{entry}
use Rattle.crossing.proofs.Noting.{same_signs}
use Rattle.crossing.proofs.signs.Signs.of.Goals as goal

pub returns : goal.returns
returns c =
    let xs = c.args.numbers.now in
    let up : ℤ → Bool = λ x. int_lt (pos 0) x in
    let down : ℤ → Bool = λ x. int_lt x (pos 0) in
    let flat : ℤ → Bool = λ x. int_le x (pos 0) && int_le (pos 0) x in
    same_signs _ _
    (any_from_yields_List up _ _ c.any.result c.any.ensures.ran (YieldsList-from_slice xs cc) (λ x b k h. search (rules, tests)) ∙ list_any-below up (is_above (entry xs)) (pos 0) xs (λ k lt. refl))
    (any_from_yields_List down _ _ c.any-2.result c.any-2.ensures.ran (YieldsList-from_slice xs cc) (λ x b k h. search (rules, tests)) ∙ list_any-below down (is_below (entry xs)) (pos 0) xs (λ k lt. refl))
    (any_from_yields_List flat _ _ c.any-3.result c.any-3.ensures.ran (YieldsList-from_slice xs cc) (λ x b k h. search (rules, tests)) ∙ list_any-below flat (is_level (entry xs)) (pos 0) xs (λ k lt. refl))
