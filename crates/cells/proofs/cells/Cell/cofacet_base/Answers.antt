use Rattle.std.proofs.Common.{pos, rules}
use Rattle.grid.proofs.Made.{table_made}
use Rattle.cells.specs.Cofacets.{cofacet_base}
use Rattle.cells.proofs.cells.Cell.cofacet_base.Goals as goal

pub returns : goal.returns
returns c = table_made _ (cofacet_base c.args.self.now.plain c.args.split.part c.args.split.code) (pos 0) _ _ 6 c.from_fn.ensures.items (λ i y q h k. search rules)
