use Rattle.std.proofs.Common.{rules, refl}
use borrow.Author.Tests.{tests}
use Rattle.cells.specs.Cells.{label_ok}
use Rattle.cells.proofs.Ranged.{all_from_range}
use Rattle.cells.proofs.records.CellRecord.are_labels.Goals as goal

pub returns : goal.returns
returns c = all_from_range (label_ok c.args.self.now) 7 _ _ _ refl c.all.ensures.ran (λ x b k h. search (rules, tests))
