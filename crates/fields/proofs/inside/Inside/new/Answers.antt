use Rattle.grid.specs.Vertices.{coordinates_of}
use Rattle.grid.proofs.Places.{box_short}
use Rattle.fields.proofs.inside.Inside.new.Goals as goal

pub invariant_of-result : goal.invariant_of-result
invariant_of-result c =
    let b = box_short c.args.frame.now (coordinates_of c.args.vertex.now) c.requires in
    record { axes = rw c.coordinates.ensures b.0; on_axes = rw c.coordinates.ensures b.1 }
