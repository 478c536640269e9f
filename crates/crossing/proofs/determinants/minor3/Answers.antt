use Rattle.std.proofs.Common.{◌≡◌, ◌+◌, ◌^◌, ◌≤◌, [], ◌∷◌, get_or, ℤ, pos, ◌+ℤ◌, ◌-ℤ◌, ◌*ℤ◌, nat_abs, refl, ◌∙◌, ap₂, le_trans, lit<, lit≤, w16, w64, SFits, to_z, of_z, rules}
use Rattle.std.proofs.lemmas.Int.{to_z-of_z}
use Rattle.crossing.specs.Determinants.{minor3 as minor3_of}
use Rattle.crossing.specs.Weights.{value}
use Rattle.crossing.proofs.Sizes.{answered, difference_held, fits, Held, kept, size, sum_held}
use Rattle.crossing.proofs.determinants.minor3.Goals as goal

-- a number of 16 bits times a minor, as `scaled` answered it
scaled_held : {r x m d : ℤ} → SFits w16 x → m ≡ d → nat_abs m ≤ 2 ^ 31 → r ≡ to_z w16 (of_z w16 x) *ℤ to_z w64 (of_z w64 m) → nat_abs r ≤ 2 ^ 46 → Held (2 ^ 46) (to_z w64 (of_z w64 r)) (x *ℤ d)
scaled_held {x = x} f e l q s = kept (answered (q ∙ ap₂ ◌*ℤ◌ (to_z-of_z w16 x f) (kept (answered e l) (lit< tt)).same) s) (lit< tt)

pub overflow_sub-result : goal.overflow_sub-result
overflow_sub-result c = fits (difference_held (kept (answered {x = c.scaled.result} refl c.scaled.ensures.small) (lit< tt)) (kept (answered {x = c.scaled-2.result} refl c.scaled-2.ensures.small) (lit< tt))) (lit< tt)

all : (c : goal.After-scaled-3) → Held (2 ^ 46 + 2 ^ 46 + 2 ^ 46) (to_z w64 (of_z w64 (to_z w64 (of_z w64 c.scaled.result) -ℤ to_z w64 (of_z w64 c.scaled-2.result))) +ℤ to_z w64 (of_z w64 c.scaled-3.result)) (minor3_of (value (c.args.a ∷ c.args.b ∷ c.args.c ∷ [])) 0 1 2)
all c =
    let f0 : SFits w16 (get_or c.args.a 0 (pos 0)) = search rules in
    let f1 : SFits w16 (get_or c.args.a 1 (pos 0)) = search rules in
    let f2 : SFits w16 (get_or c.args.a 2 (pos 0)) = search rules in
    sum_held
    (kept (difference_held
    (scaled_held f0 c.minor.ensures.is c.minor.ensures.small c.scaled.ensures.is c.scaled.ensures.small)
    (scaled_held f1 c.minor-2.ensures.is c.minor-2.ensures.small c.scaled-2.ensures.is c.scaled-2.ensures.small)) (lit< tt))
    (scaled_held f2 c.minor-3.ensures.is c.minor-3.ensures.small c.scaled-3.ensures.is c.scaled-3.ensures.small)

pub overflow_add-result : goal.overflow_add-result
overflow_add-result c = fits (all c) (lit< tt)

pub returns : goal.returns
returns c = let whole = kept (all c) (lit< tt) in record { is = whole.same; small = le_trans (size whole) (lit≤ tt) }
