use Rattle.std.proofs.Common.{ℕ, length, ◌∙◌, ◌+◌, arith, rules}
use Rattle.std.specs.List.{range_with_len}
use Rattle.std.proofs.lemmas.Iterator.{YieldsList-from_range, YieldsList-from_map}
use Rattle.std.proofs.lemmas.Iterator.Consumers.{sum_by_from_yields_List, fits_by_from_yields_list}
use Rattle.cells.specs.Splits.{splits_of}
use Rattle.cells.proofs.Counting.{count_le, summed}
use Rattle.cells.proofs.cells.Cell.count_splits.Goals as goal

pub sum-requires-clause-fits : goal.sum-requires-clause-fits
sum-requires-clause-fits c =
    let r = c.args.self.now.plain in
    let h : ℕ → ℕ = λ p. length (splits_of r p) in
    let low = count_le r (r.l + 1) in
    fits_by_from_yields_list h (range_with_len 1 (r.l + 1)) _ _ (YieldsList-from_map _ h (YieldsList-from_range 1 (r.l + 2) (r.l + 1) c.map.ensures.source (omega arith)) c.map.ensures.closure (λ x b q k. search rules)) (omega (arith, summed r (r.l + 1)))

pub returns : goal.returns
returns c =
    let r = c.args.self.now.plain in
    let h : ℕ → ℕ = λ p. length (splits_of r p) in
    sum_by_from_yields_List h (range_with_len 1 (r.l + 1)) _ _ c.sum.ensures.ran (YieldsList-from_map _ h (YieldsList-from_range 1 (r.l + 2) (r.l + 1) c.map.ensures.source (omega arith)) c.map.ensures.closure (λ x b q k. search rules)) ∙ summed r (r.l + 1)
