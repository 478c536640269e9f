-- Faults in numbers.
use Rattle.std.specs.Prelude.{ℕ, List, ◌++◌, codes, decimal}
use Rattle.grid.specs.declared.faults.Cause.{Cause}
use Rattle.grid.specs.declared.faults.Cause.TheVariants.{Outside, Blank, OffScale}
use Rattle.grid.specs.declared.faults.Fault.{Fault}

abbrev pub cause_number : Cause → ℕ
cause_number Outside = 1
cause_number Blank = 2
cause_number OffScale = 3

-- cause, place and height
pub record FaultNumbers : Type 0 where
  pub cause : ℕ
  pub place : ℕ
  pub height : ℕ

abbrev pub fault_numbers : Fault → FaultNumbers
fault_numbers f = record { cause = cause_number f.cause; place = f.place; height = f.height }

-- as it is printed
abbrev pub cause_text : Cause → List ℕ
cause_text Outside = codes "outside"
cause_text Blank = codes "blank"
cause_text OffScale = codes "off scale"

abbrev pub fault_text : Fault → List ℕ
fault_text f = cause_text f.cause ++ (codes " at place " ++ (decimal f.place ++ (codes ", height " ++ decimal f.height)))
