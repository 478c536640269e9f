use Rattle.std.proofs.Common.{◌*◌, ◌^◌, ◌*ℤ◌, refl, lit<, w64, to_z, of_z}
use Rattle.crossing.proofs.Sizes.{answered, Held, kept, product_held, read16, size}
use Rattle.crossing.proofs.determinants.scaled.Goals as goal

all : (c : goal.After-from) → Held (2 ^ 15 * 2 ^ 31) (to_z w64 (of_z w64 c.from.result) *ℤ to_z w64 (of_z w64 c.args.m)) (c.args.x *ℤ c.args.m)
all c = product_held (kept (read16 c.ranges.x c.from.ensures) (lit< tt)) (kept (answered {x = c.args.m} refl c.requires) (lit< tt))

pub returns : goal.returns
returns c = let whole = kept (all c) (lit< tt) in record { is = whole.same; small = size whole }
