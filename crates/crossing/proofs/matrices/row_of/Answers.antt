use Rattle.std.proofs.Common.{pos, rules}
use Rattle.grid.proofs.Made.{table_made}
use Rattle.crossing.specs.Weights.{entry}
use Rattle.crossing.proofs.matrices.row_of.Goals as goal

pub returns : goal.returns
returns c = table_made _ (entry c.args.values.now) (pos 0) _ _ 3 c.from_fn.ensures.items (λ i y q h k. search rules)
