use Rattle.std.proofs.Common.{◌∙◌, arith}
use Rattle.cells.proofs.Spreading.{spreads_pass, spreads_one, spreads_zero, spreads_all, spreads_to}
use Rattle.std.proofs.lemmas.Bool.{eq-eqb, ne_eqb}
use Rattle.cells.proofs.cells.Cell.spread_over.Goals.{then-label-p, then-rest-eq1, else-rest-eq1, else-label-p}
use Rattle.cells.proofs.cells.Cell.spread_over.Goals as goal

pub loop-label-preserved : goal.loop-label-preserved
loop-label-preserved c = elim c.if-label-p.branch [
  | then-label-p w ↦ (let t = eq-eqb _ _ w.if-label-p.true in elim w.if-rest-eq1.branch [
    | then-rest-eq1 v ↦ spreads_to w.rest-is (w.code-is ∙ v.code-is) (spreads_one _ _ _ _ _ _ c.loop-label-test.true c.loop-label.invariant t v.if-rest-eq1.true)
    | else-rest-eq1 v ↦ spreads_to w.rest-is (w.code-is ∙ v.code-is) (spreads_zero _ _ _ _ _ _ c.loop-label-test.true c.loop-label.invariant t (omega (arith, v.if-rest-eq1.false)))
  ])
  | else-label-p w ↦ spreads_to w.rest-is w.code-is (spreads_pass _ _ _ _ _ _ c.loop-label-test.true c.loop-label.invariant (ne_eqb _ _ w.if-label-p.false))
]

pub returns : goal.returns
returns c = spreads_all _ _ _ _ _ _ (omega arith) c.loop-label.invariant
