use Rattle.std.proofs.Common.{ap, ◌∙◌}
use Rattle.crossing.specs.Determinants.{by_signs, signed_determinant}
use Rattle.crossing.specs.Weights.{value}
use Rattle.crossing.proofs.Lawful.{class_laws}
use Rattle.crossing.proofs.Noting.{signs_taken}
use Rattle.crossing.proofs.matrices.VertexValues.class.Goals as goal

pub returns : goal.returns
returns c =
    let v = c.args.self.now in
    record {
      is = c.class.ensures ∙ ap by_signs (c.of.ensures ∙ signs_taken (signed_determinant v.k (value v.at)) _ _ v.k c.from.ensures c.signed_determinants-signed.ensures v.k_high);
      laws = class_laws;
    }
