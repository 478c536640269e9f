use Rattle.std.proofs.Common.{get_or, ap, ◌∙◌, arith}
use Rattle.std.proofs.lemmas.List.{get_or_past}
use Rattle.grid.proofs.Framed.{framed}
use Rattle.grid.proofs.Padded.{get_or-padded}
use Rattle.grid.proofs.frames.calls.kept.Goals as goal

pub invariant_of-result-clause-side_low : goal.invariant_of-result-clause-side_low
invariant_of-result-clause-side_low c = λ j h. rw (ap (λ ys. get_or ys j 0) c.padded.ensures ∙ get_or-padded c.args.sides.now 0 j) ((framed c.args.d c.args.k c.args.sides.now c.requires).each j h).0

pub invariant_of-result-clause-side_high : goal.invariant_of-result-clause-side_high
invariant_of-result-clause-side_high c = λ j h. rw (ap (λ ys. get_or ys j 0) c.padded.ensures ∙ get_or-padded c.args.sides.now 0 j) ((framed c.args.d c.args.k c.args.sides.now c.requires).each j h).1

pub invariant_of-result-clause-rest : goal.invariant_of-result-clause-rest
invariant_of-result-clause-rest c =
    let f = framed c.args.d c.args.k c.args.sides.now c.requires in
    λ j h. ap (λ ys. get_or ys j 0) c.padded.ensures ∙ get_or-padded c.args.sides.now 0 j ∙ get_or_past c.args.sides.now j 0 (omega (arith, f.long))
