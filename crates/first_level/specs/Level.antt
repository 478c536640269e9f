-- The level in plain values.
use Rattle.std.specs.Prelude.{[], ◌∷◌, pos}
use Rattle.grid.specs.Frames.{FrameNumbers, frame_numbers}
use Rattle.cells.specs.declared.records.CellRecord.{CellRecord}
use Rattle.first_level.specs.declared.level.Level.{Level}

pub record LevelNumbers : Type 0 where
  pub frame : FrameNumbers
  pub seed : CellRecord

abbrev pub level_numbers : Level → LevelNumbers
level_numbers x = record { frame = frame_numbers x.frame; seed = x.seed.plain }

abbrev pub road_level : LevelNumbers
road_level = record {
  frame = record { d = 2; k = 1; sides = 2 ∷ 1 ∷ [] };
  seed = record {
    d = 2;
    l = 1;
    base = pos 0 ∷ pos 1 ∷ pos 0 ∷ pos 0 ∷ pos 0 ∷ pos 0 ∷ [];
    labels = 1 ∷ 2 ∷ 2 ∷ 0 ∷ 0 ∷ 0 ∷ 0 ∷ [];
  };
}
