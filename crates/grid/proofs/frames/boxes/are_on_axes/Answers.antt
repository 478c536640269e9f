use Rattle.std.proofs.Common.{◌≡◌, ℕ, ℤ, Bool, List, length, pos, ap, ◌∙◌, arith, rules}
use borrow.Author.Tests.{tests}
use Rattle.std.specs.List.{list_all, zip}
use Rattle.std.proofs.lemmas.Iterator.{YieldsList-from_slice, YieldsList-from_zip}
use Rattle.std.proofs.lemmas.Iterator.Search.{all_from_yields_List}
use Rattle.std.proofs.lemmas.Slice.Zip.{get_or-zip, length-zip}
use Rattle.grid.specs.Below.{all_below}
use Rattle.grid.specs.Boxes.{axis_has, on_axis}
use Rattle.grid.proofs.Told.{list_all-below}
use Rattle.grid.proofs.frames.boxes.are_on_axes.Goals as goal

abbrev on_its_axis : ℕ × ℤ → Bool
on_its_axis q = on_axis q.0 q.1

on_axes_told : (sides : List ℕ) (v : List ℤ) → length v ≡ length sides → list_all on_its_axis (zip sides v) ≡ all_below (axis_has sides v) (length sides)
on_axes_told sides v e =
    let long : length (zip sides v) ≡ length sides = omega (arith, length-zip sides v) in
    list_all-below on_its_axis (axis_has sides v) (0, pos 0) (zip sides v) (λ k h. ap on_its_axis (get_or-zip sides v k (0, pos 0) (omega arith) (omega arith)))
    ∙ ap (all_below (axis_has sides v)) long

pub returns : goal.returns
returns c =
    all_from_yields_List on_its_axis c.all.new.self _ _ c.all.ensures.ran (YieldsList-from_zip (YieldsList-from_slice c.args.sides.now cc) (YieldsList-from_slice c.args.at.now cc)) (λ x b k h. search (rules, tests))
    ∙ on_axes_told c.args.sides.now c.args.at.now c.requires
