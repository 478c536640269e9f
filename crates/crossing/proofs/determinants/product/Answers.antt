use Rattle.std.proofs.Common.{lit<}
use Rattle.crossing.proofs.Sizes.{kept, product_held, read16, size}
use Rattle.crossing.proofs.determinants.product.Goals as goal

pub returns-clause-small : goal.returns-clause-small
returns-clause-small c = size (kept (product_held (kept (read16 c.ranges.x c.from.ensures) (lit< tt)) (kept (read16 c.ranges.y c.from-2.ensures) (lit< tt))) (lit< tt))
