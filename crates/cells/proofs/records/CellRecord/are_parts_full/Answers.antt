use Rattle.std.proofs.Common.{rules, refl, ◌+◌}
use borrow.Author.Tests.{tests}
use Rattle.cells.specs.Cells.{next_part_full}
use Rattle.cells.proofs.Checked.{part_told}
use Rattle.cells.proofs.Ranged.{all_from_range}
use Rattle.cells.proofs.records.CellRecord.are_parts_full.Goals as goal

pub returns : goal.returns
returns c =
    let r = c.args.self.now in
    all_from_range (next_part_full r) c.args.n _ _ _ refl c.all.ensures.ran (λ x b k h. search (rules, tests, part_told r (x + 1)))
