use Rattle.std.proofs.lemmas.Int.{to_z-of_z}
use Rattle.fields.proofs.Bounded.{Bounded, bounded}
use Rattle.fields.proofs.quadrics.axis_part.Goals as goal

pub overflow_mul-result-2 : goal.overflow_mul-result-2
overflow_mul-result-2 c =
    let p : Bounded c.args.a c.args.b c.args.x = bounded _ _ _ c.ranges.a c.ranges.b c.requires in
    simp (to_z-of_z, c.square.ensures, c.from-3.ensures, c.ranges.b, c.ranges.x, p.second, p.twice) p.square

pub overflow_add-result : goal.overflow_add-result
overflow_add-result c =
    let p : Bounded c.args.a c.args.b c.args.x = bounded _ _ _ c.ranges.a c.ranges.b c.requires in
    simp (to_z-of_z, c.square.ensures, c.from.ensures, c.from-2.ensures, c.from-3.ensures, c.ranges.a, c.ranges.b, c.ranges.x, p.first, p.second, p.coordinate, p.linear, p.twice, p.square) p.whole

pub returns : goal.returns
returns c =
    let p : Bounded c.args.a c.args.b c.args.x = bounded _ _ _ c.ranges.a c.ranges.b c.requires in
    record {
      is = simp (to_z-of_z, c.square.ensures, c.from.ensures, c.from-2.ensures, c.from-3.ensures, c.ranges.a, c.ranges.b, c.ranges.x, p.first, p.second, p.coordinate, p.linear, p.twice, p.square, p.whole);
      small = simp (to_z-of_z, c.square.ensures, c.from.ensures, c.from-2.ensures, c.from-3.ensures, c.ranges.a, c.ranges.b, c.ranges.x, p.first, p.second, p.coordinate, p.linear, p.twice, p.square, p.whole) p.small;
    }
