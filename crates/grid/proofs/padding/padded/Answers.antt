use Rattle.std.proofs.Common.{length, ◌++◌, ap₂}
use Rattle.std.proofs.lemmas.List.{drop-replicate}
use Rattle.grid.proofs.padding.padded.Goals as goal

pub returns : goal.returns
returns g c = ap₂ (λ xs ys. xs ++ ys) c.copy_from_slice.ensures.after (drop-replicate (length c.args.numbers.now) 6 c.args.rest)
