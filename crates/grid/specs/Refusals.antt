-- Refusals in numbers.
use Rattle.std.specs.Prelude.{ℕ, List, ◌++◌, Some, None, Ok, Err, codes, Option, Result}
use Rattle.grid.specs.Faults.{FaultNumbers, fault_numbers, fault_text}
use Rattle.grid.specs.declared.refusals.Refusal.{Refusal}
use Rattle.grid.specs.declared.refusals.Refusal.TheVariants.{NotACell, NotAFrame, NoSuchNumber, LeavesTheWorld, EmptyList, NotThisList, NoPlaceUnused, DoesNotFit, Faulty, Degenerate, ClearSeed, NotFinished}

-- the number, and the numbers of the fault that 9 carries
pub record RefusalNumbers : Type 0 where
  pub number : ℕ
  pub fault : Option FaultNumbers

-- a refusal that carries nothing
abbrev pub refusal : ℕ → RefusalNumbers
refusal n = record { number = n; fault = None }

abbrev pub refusal_numbers : Refusal → RefusalNumbers
refusal_numbers NotACell = refusal 1
refusal_numbers NotAFrame = refusal 2
refusal_numbers NoSuchNumber = refusal 3
refusal_numbers LeavesTheWorld = refusal 4
refusal_numbers EmptyList = refusal 5
refusal_numbers NotThisList = refusal 6
refusal_numbers NoPlaceUnused = refusal 7
refusal_numbers DoesNotFit = refusal 8
refusal_numbers (Faulty f) = record { number = 9; fault = Some (fault_numbers f) }
refusal_numbers Degenerate = refusal 10
refusal_numbers ClearSeed = refusal 11
refusal_numbers NotFinished = refusal 12

-- what a call answers, in plain values: its value read by f, or its refusal in numbers
abbrev pub answered : {X Y : Type 0} → (X → Y) → Result X Refusal → Result Y RefusalNumbers
answered f (Ok x) = Ok (f x)
answered f (Err e) = Err (refusal_numbers e)

-- as it is printed
abbrev pub refusal_text : Refusal → List ℕ
refusal_text NotACell = codes "not a cell"
refusal_text NotAFrame = codes "not a frame"
refusal_text NoSuchNumber = codes "no such facet, cofacet or pair"
refusal_text LeavesTheWorld = codes "the answer leaves the world"
refusal_text EmptyList = codes "the list has length 0"
refusal_text NotThisList = codes "the list is not this trace's"
refusal_text NoPlaceUnused = codes "no place unused"
refusal_text DoesNotFit = codes "the cell does not fit the field"
refusal_text (Faulty f) = codes "a fault: " ++ fault_text f
refusal_text Degenerate = codes "degenerate"
refusal_text ClearSeed = codes "the seed is clear"
refusal_text NotFinished = codes "seal before the end"
