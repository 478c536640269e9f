use Rattle.std.proofs.Common.{rules, refl, ◌∙◌}
use borrow.Author.Tests.{tests}
use Rattle.cells.specs.Closed.{axis_ok}
use Rattle.cells.proofs.Checked.{partition_from, placed_by_axes}
use Rattle.cells.proofs.Ranged.{all_from_range}
use Rattle.cells.proofs.records.CellRecord.is_placed.Goals as goal

pub returns : goal.returns
returns c =
    let r = c.args.self.now in
    all_from_range (axis_ok r) 6 _ _ _ refl c.all.ensures.ran (λ x b k h. search (rules, tests))
    ∙ placed_by_axes r (partition_from r c.requires.partition) c.requires.long
