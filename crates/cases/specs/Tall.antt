-- A field of the greatest height, blank everywhere.
use Rattle.std.proofs.Common.{arith}
use Rattle.grid.specs.Frames.{FrameNumbers, frame_numbers}
use Rattle.grid.specs.declared.frames.Frame.{Frame}
use Rattle.grid.proofs.Framed.{frame_is}
use Rattle.fields.specs.Fields.{fault, fault_of, Good, Meaning}

abbrev pub tall_meaning : FrameNumbers → Meaning
tall_meaning f = record { frame = f; height = 255; outcome = λ v. fault (fault_of 2 0 255) }

pub tall_good : (f : Frame) → Good (tall_meaning (frame_numbers f))
tall_good f = record { framed = frame_is f; high = omega arith; sound = λ v i. (omega arith, omega arith) }
