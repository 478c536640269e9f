use Rattle.std.proofs.Common.{rules}
use Rattle.grid.proofs.Made.{table_made}
use Rattle.cells.specs.Cofacets.{cofacet_label}
use Rattle.cells.proofs.cells.Cell.cofacet_labels.Goals as goal

pub returns : goal.returns
returns c = table_made _ (cofacet_label c.args.self.now.plain c.args.split.part c.args.split.code) 0 _ _ 7 c.from_fn.ensures.items (λ i y q h k. search rules)
