-- A class as it is printed.
use Rattle.std.specs.Prelude.{ℕ, List, codes}
use Rattle.crossing.specs.declared.classes.Class.{Class}
use Rattle.crossing.specs.declared.classes.Class.TheVariants.{Crossed, Clear, Degenerate}

abbrev pub class_text : Class → List ℕ
class_text Crossed = codes "crossed"
class_text Clear = codes "clear"
class_text Degenerate = codes "degenerate"
