-- What plant answers, and what it leaves in the list.
use Rattle.std.specs.Prelude.{List, [], ◌∷◌, Ok, Err, Result, slice_set}
use Rattle.grid.specs.Refusals.{refusal, RefusalNumbers}
use Rattle.cells.specs.declared.records.CellRecord.{CellRecord}
use Rattle.fields.specs.Fields.{Meaning}
use Rattle.crossing.specs.Crossing.{test_answer}
use Rattle.crossing.specs.declared.classes.Class.{Class}
use Rattle.crossing.specs.declared.classes.Class.TheVariants.{Crossed, Clear, Degenerate}
use Rattle.tracing.specs.Traces.{planted, TraceNumbers}

-- by what the test says of the seed: a trace if it is crossed, 10 if degenerate, 11 if clear, and 8 and 9 as the test has them
abbrev pub seeded : Result Class RefusalNumbers → Result TraceNumbers RefusalNumbers
seeded (Ok Crossed) = Ok planted
seeded (Ok Degenerate) = Err (refusal 10)
seeded (Ok Clear) = Err (refusal 11)
seeded (Err e) = Err e

-- 5 first, if the list has no place
abbrev pub plant_answer : Meaning → CellRecord → List CellRecord → Result TraceNumbers RefusalNumbers
plant_answer m seed [] = Err (refusal 5)
plant_answer m seed (x ∷ xs) = seeded (test_answer m seed)

-- the seed at place 0 if a trace is answered, and nothing else changed
abbrev pub seed_written : Result TraceNumbers RefusalNumbers → CellRecord → List CellRecord → List CellRecord
seed_written (Ok t) seed xs = slice_set xs 0 seed
seed_written (Err e) seed xs = xs

abbrev pub plant_list : Meaning → CellRecord → List CellRecord → List CellRecord
plant_list m seed xs = seed_written (plant_answer m seed xs) seed xs
