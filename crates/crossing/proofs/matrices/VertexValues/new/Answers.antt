use Rattle.std.proofs.Common.{◌≡◌, [], ◌*◌, drop, sym, subst, rules}
use Rattle.grid.specs.Below.{table}
use Rattle.grid.proofs.Made.{table_made}
use Rattle.crossing.specs.Determinants.{by_vertex, class_of}
use Rattle.crossing.specs.Weights.{Agree, entry, Given, Matrix}
use Rattle.crossing.proofs.Arranging.{arranged}
use Rattle.crossing.proofs.Giving.{class_same, given}
use Rattle.crossing.proofs.matrices.VertexValues.new.Goals as goal

agree : (c : goal.After-result-1) → Agree c.args.k c.from_fn-at.result (by_vertex c.args.k c.args.values.now)
agree c =
    let u = by_vertex c.args.k c.args.values.now in
    let made = table_made _ (λ j. table 3 (entry (drop (c.args.k * j) c.args.values.now))) [] _ _ 4 c.from_fn-at.ensures.items (λ i y q h k. search rules) in
    subst (λ (v : Matrix). Agree c.args.k v u) (sym made) (arranged c.args.k c.args.values.now (search rules))

same : (c : goal.After-result-1) → class_of c.args.k c.from_fn-at.result ≡ class_of c.args.k (by_vertex c.args.k c.args.values.now)
same c = class_same c.args.k c.from_fn-at.result (by_vertex c.args.k c.args.values.now) (search rules) (search rules) (agree c)

pub returns-clause-values : goal.returns-clause-values
returns-clause-values c = agree c

pub returns-clause-class : goal.returns-clause-class
returns-clause-class c = same c

pub returns-clause-weights : goal.returns-clause-weights
returns-clause-weights c =
    let k = c.args.k in
    let u = by_vertex k c.args.values.now in
    subst (Given k u) (sym (same c)) (given k u (search rules) (search rules))
