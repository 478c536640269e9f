-- The road: which cells touch, which reach which, and which belong to the road of a seed.
use Rattle.std.specs.Prelude.{◌≡◌, ◌+◌, true, List, [], ◌∷◌}
use Rattle.cells.specs.Cells.{is_cell}
use Rattle.cells.specs.Faces.{FacetOf}
use Rattle.cells.specs.declared.records.CellRecord.{CellRecord}
use Rattle.fields.specs.Fields.{Meaning, sides_in}
use Rattle.crossing.specs.Boxes.{lies_in}
use Rattle.crossing.specs.Crossing.{ClassOver}
use Rattle.crossing.specs.declared.classes.Class.TheVariants.{Crossed}

module _ (m : Meaning) where
  -- the cell fits, the field has values at all its vertices, and these make it crossed
  abbrev pub CrossedOver : CellRecord → Type 0
  CrossedOver c = ClassOver Crossed m c

  -- two crossed cells touch if a cell of dimension k + 1 in the box has both as facets
  pub record Touches (a b : CellRecord) : Type 0 where
    pub left : CrossedOver a
    pub right : CrossedOver b
    pub over : CellRecord
    pub is : is_cell over ≡ true
    pub dimension : over.l ≡ m.frame.k + 1
    pub in_box : lies_in (sides_in m) over ≡ true
    pub has_left : FacetOf a over
    pub has_right : FacetOf b over

  -- a chain of touching cells from a to b, by the cells after a
  abbrev pub Chain : CellRecord → List CellRecord → CellRecord → Type 0
  Chain a [] b = a ≡ b
  Chain a (x ∷ xs) b = Touches a x × Chain x xs b

  abbrev pub Reaches : CellRecord → CellRecord → Type 0
  Reaches a b = (via : List CellRecord) × Chain a via b

  -- every crossed cell that reaches the seed
  pub record OnRoad (seed c : CellRecord) : Type 0 where
    pub crossed : CrossedOver c
    pub reaches : Reaches c seed
