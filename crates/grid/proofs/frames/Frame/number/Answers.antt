use Rattle.std.proofs.Common.{◌≡◌, true, sym, subst, rules}
use Rattle.grid.specs.Boxes.{in_box, OnlyNumber, place_number}
use Rattle.grid.specs.Frames.{sides_of}
use Rattle.grid.specs.Vertices.{coordinates_of}
use Rattle.grid.proofs.Places.{in_box_lem, only_number, place_below}
use Rattle.grid.proofs.frames.Frame.number.Goals as goal

pub returns-clause-below : goal.returns-clause-below
returns-clause-below c =
    let ss = sides_of c.args.self.now in
    let v = coordinates_of c.args.vertex.now in
    let inside : in_box ss v ≡ true = search rules in
    let place : c.place_number.result ≡ place_number ss v = search rules in
    rw place (place_below ss v (in_box_lem ss v inside))

pub returns-clause-own : goal.returns-clause-own
returns-clause-own c =
    let ss = sides_of c.args.self.now in
    let v = c.args.vertex.now in
    let inside : in_box ss (coordinates_of v) ≡ true = search rules in
    let place : c.place_number.result ≡ place_number ss (coordinates_of v) = search rules in
    subst (OnlyNumber ss v) (sym place) (only_number ss v inside)
