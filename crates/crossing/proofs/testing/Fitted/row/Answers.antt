use Rattle.std.proofs.Common.{◌≡◌, pos, sym, ap, ◌∙◌, subst, arith}
use Rattle.std.proofs.lemmas.Result.{err_from_is_err_and}
use Rattle.grid.proofs.Below.{get_or-table}
use Rattle.grid.specs.Vertices.{coordinates_of}
use Rattle.fields.specs.Fields.{Outcome, values}
use Rattle.fields.specs.Values.{rows_of}
use Rattle.crossing.specs.Crossing.{outcome_at, RowIn}
use Rattle.crossing.specs.Weights.{entry}
use Rattle.crossing.proofs.Fitting.{answer_at, rows_range}
use Rattle.crossing.proofs.testing.Fitted.row.Goals as goal

pub returns-in_err-at-clause-fault : goal.returns-in_err-at-clause-fault
returns-in_err-at-clause-fault g c =
    let p = err_from_is_err_and c.from_residual.result c.from_residual.ensures.1 in
    let s = c.args.self.now in
    rw (p.1, p.2) (sym (c.in_err-at.ensures ∙ answer_at (g.F.Field.meaning s.field.now) s.cell.now.plain c.args.i (coordinates_of c.in-Some.vertex) s.fits c.in-Some.ensures))

pub returns-clause-row : goal.returns-clause-row
returns-clause-row g c = λ h.
    let s = c.args.self.now in
    let m = g.F.Field.meaning c.args.self.now.field.now in
    let range = rows_range m s.cell.now.plain (g.F.Field.good c.args.self.now.field.now) s.fits in
    let xs = rows_of c.in_ok-at.field-0 in
    let told : values (rows_of c.in_ok-at.field-0) ≡ outcome_at (g.F.Field.meaning c.args.self.now.field.now) c.args.self.now.cell.now.plain c.args.i = c.in_ok-at.ensures ∙ answer_at m s.cell.now.plain c.args.i (coordinates_of c.in-Some.vertex) s.fits c.in-Some.ensures in
    subst (λ (o : Outcome). RowIn s.cell.now.plain.l o c.all_rows.result) told (λ j l. ap (λ ys. entry ys j) c.all_rows.ensures ∙ get_or-table 3 (entry xs) j (pos 0) (omega (arith, range.1)))
