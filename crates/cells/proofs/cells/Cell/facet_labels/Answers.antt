use Rattle.std.proofs.Common.{rules}
use Rattle.cells.specs.Facets.{facet_part}
use Rattle.cells.proofs.Mapped.{table_mapped}
use Rattle.cells.proofs.cells.Cell.facet_labels.Goals as goal

pub returns : goal.returns
returns c = table_mapped _ (facet_part c.args.self.now.plain.l c.args.i) 0 0 _ _ _ 7 c.map.ensures.items (λ x y q k. search rules)
