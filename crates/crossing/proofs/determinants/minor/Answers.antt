use Rattle.std.proofs.Common.{◌+◌, ◌^◌, get_or, pos, ◌-ℤ◌, ◌*ℤ◌, ◌∙◌, ap₂, lit<, w16, w64, SFits, to_z, of_z, rules}
use Rattle.std.proofs.lemmas.Int.{to_z-of_z}
use Rattle.crossing.proofs.Sizes.{answered, difference_held, fits, Held, kept, size}
use Rattle.crossing.proofs.determinants.minor.Goals as goal

all : (c : goal.After-product-2) → Held (2 ^ 30 + 2 ^ 30) (to_z w64 (of_z w64 c.product.result) -ℤ to_z w64 (of_z w64 c.product-2.result)) ((get_or c.args.a c.args.r (pos 0) *ℤ get_or c.args.b c.args.s (pos 0)) -ℤ (get_or c.args.a c.args.s (pos 0) *ℤ get_or c.args.b c.args.r (pos 0)))
all c =
    let ra : SFits w16 (get_or c.args.a c.args.r (pos 0)) = search rules in
    let sb : SFits w16 (get_or c.args.b c.args.s (pos 0)) = search rules in
    let sa : SFits w16 (get_or c.args.a c.args.s (pos 0)) = search rules in
    let rb : SFits w16 (get_or c.args.b c.args.r (pos 0)) = search rules in
    difference_held
    (kept (answered (c.product.ensures.is ∙ ap₂ ◌*ℤ◌ (to_z-of_z w16 _ ra) (to_z-of_z w16 _ sb)) c.product.ensures.small) (lit< tt))
    (kept (answered (c.product-2.ensures.is ∙ ap₂ ◌*ℤ◌ (to_z-of_z w16 _ sa) (to_z-of_z w16 _ rb)) c.product-2.ensures.small) (lit< tt))

pub overflow_sub-result : goal.overflow_sub-result
overflow_sub-result c = fits (all c) (lit< tt)

pub returns : goal.returns
returns c = let whole = kept (all c) (lit< tt) in record { is = whole.same; small = size whole }
