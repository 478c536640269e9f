use Rattle.std.proofs.Common.{Ok, Option, sym, ap, ◌∙◌}
use Rattle.grid.specs.Faults.{FaultNumbers}
use Rattle.crossing.specs.Crossing.{matrix_over, unless_fault}
use Rattle.crossing.specs.Determinants.{class_of}
use Rattle.crossing.proofs.Arranging.{class_made}
use Rattle.crossing.proofs.testing.Fitted.class.Goals as goal

pub returns : goal.returns
returns g c =
    let e = c.in_ok-values.ensures in
    let r = c.args.self.now.cell.now.plain in
    let u = matrix_over (g.F.Field.meaning c.args.self.now.field.now) c.args.self.now.cell.now.plain in
    record {
      answer = ap Ok (c.class.ensures.is ∙ class_made c.in_ok-values.field-0 r.l u e.rows e.values) ∙ sym (ap (λ (f : Option FaultNumbers). unless_fault f (class_of r.l u)) e.none);
      laws = c.class.ensures.laws;
    }
