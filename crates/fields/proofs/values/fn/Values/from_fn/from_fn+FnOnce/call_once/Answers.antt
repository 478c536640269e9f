use Rattle.std.proofs.Common.{rules, refl, w64, SFits}
use Rattle.std.proofs.lemmas.Int.{to_z-of_z}
use Rattle.fields.proofs.values.fn.Values.from_fn.from_fn+FnOnce.call_once.Goals as goal

pub returns : goal.returns
returns g c =
    let fits : SFits w64 c.from_fn.result = search rules in
    rw (to_z-of_z w64 c.from_fn.result fits) (c.args.arg1, ((refl, refl), (λ h. c.from_fn.ensures.there h, λ h. c.from_fn.ensures.past h)))
