use Rattle.std.proofs.Common.{◌≡◌, ◌-◌, ◌^◌, length, sym, ap, ◌∙◌, arith}
use Rattle.std.proofs.lemmas.Bool.Decides.{nat_tests}
use Rattle.cells.specs.Cells.{in_part}
use Rattle.cells.specs.Chosen.{chosen}
use Rattle.cells.specs.Splits.{part_size}
use Rattle.cells.proofs.Choosing.{chosen_none, length-chosen_more}
use Rattle.cells.proofs.Counting.{count_of, length-chosen-le}
use Rattle.cells.proofs.cells.Cell.count_of_part.Goals as goal

pub loop-label-init : goal.loop-label-init
loop-label-init c = sym (chosen_none (in_part c.args.self.now.plain c.args.p))

pub overflow_add-size : goal.overflow_add-size
overflow_add-size c = let h = length-chosen-le (in_part c.args.self.now.plain c.args.p) c.loop-label.label-index in omega arith

pub loop-label-preserved : goal.loop-label-preserved
loop-label-preserved c = let e = length-chosen_more (in_part c.args.self.now.plain c.args.p) c.loop-label.label-index in grind (arith, nat_tests)

pub proper_sets-requires : goal.proper_sets-requires
proper_sets-requires c = let h = length-chosen-le (in_part c.args.self.now.plain c.args.p) c.loop-label.label-index in omega arith

pub returns : goal.returns
returns c =
    let r = c.args.self.now.plain in
    let e : c.loop-label.size ≡ part_size r c.args.p = c.loop-label.invariant ∙ ap (λ j. length (chosen (in_part r c.args.p) j)) (omega arith) in
    c.proper_sets.ensures ∙ ap (λ n. 2 ^ n - 2) e ∙ sym (count_of r c.args.p)
