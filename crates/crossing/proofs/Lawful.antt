-- The laws of classes together.
use Rattle.crossing.specs.Laws.{ClassLaws}
use Rattle.crossing.proofs.Giving.{given}
use Rattle.crossing.proofs.Tested.{class_alike, tested}
use Rattle.crossing.proofs.Worked.{worked}

pub class_laws : ClassLaws
class_laws = record { given = given; tested = tested; alike = class_alike; cases = worked }
