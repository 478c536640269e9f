-- The ground of a field's meaning: pairs lead through cofacets in the box, and a cell is crossed if the test answers so.
use Rattle.std.proofs.Common.{◌≡◌, Bool, true, false, ◌↔◌, Ok, Err, Result, refl, ap}
use Rattle.std.proofs.lemmas.Bool.{both_ways}
use Rattle.grid.specs.Refusals.{RefusalNumbers}
use Rattle.cells.specs.Pairs.{pair_count}
use Rattle.cells.specs.declared.records.CellRecord.{CellRecord}
use Rattle.fields.specs.Fields.{Good, Meaning, sides_in}
use Rattle.crossing.specs.Crossing.{test_answer}
use Rattle.crossing.specs.declared.classes.Class.{Class}
use Rattle.crossing.specs.declared.classes.Class.TheVariants.{Crossed, Clear, Degenerate}
use Rattle.crossing.proofs.Tested.{tested}
use Rattle.walk.specs.Grounds.{Ground}
use Rattle.tracing.specs.Roads.{CrossedOver}
use Rattle.tracing.specs.Steps.{leads_to}

abbrev pub says_crossed : Result Class RefusalNumbers → Bool
says_crossed (Ok Crossed) = true
says_crossed (Ok Clear) = false
says_crossed (Ok Degenerate) = false
says_crossed (Err e) = false

abbrev pub ground_of : Meaning → Ground CellRecord
ground_of m = record { pairs = pair_count; leads = leads_to (sides_in m); crossed = λ c. says_crossed (test_answer m c) }

said_crossed : (r : Result Class RefusalNumbers) → says_crossed r ≡ true → r ≡ Ok Crossed
said_crossed (Ok Crossed) e = refl
said_crossed (Ok Clear) e = absurd (both_ways _ refl e)
said_crossed (Ok Degenerate) e = absurd (both_ways _ refl e)
said_crossed (Err f) e = absurd (both_ways _ refl e)

pub crossed_is : (m : Meaning) → Good m → (c : CellRecord) → ((ground_of m).crossed c ≡ true) ↔ CrossedOver m c
crossed_is m good c = let t = tested m c Crossed good in (λ e. t.0 (said_crossed (test_answer m c) e), λ o. ap says_crossed (t.1 o))
