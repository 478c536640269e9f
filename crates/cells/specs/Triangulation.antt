-- The cells are the simplices of the Freudenthal-Kuhn triangulation. v i a is coordinate a of point i, for points 0 to l.
use Rattle.std.specs.Prelude.{◌≡◌, ℕ, ◌<◌, ◌≤◌, true, ℤ, ◌-ℤ◌, ◌<ℤ◌}
use Rattle.cells.specs.Cells.{is_cell}
use Rattle.cells.specs.Chains.{Ascends}
use Rattle.cells.specs.Vertices.{coordinate}
use Rattle.cells.specs.World.{in_world}
use Rattle.cells.specs.declared.records.CellRecord.{CellRecord}

abbrev pub InWorld : ℕ → ℕ → (ℕ → ℕ → ℤ) → Type 0
InWorld d l v = (i a : ℕ) → i ≤ l → a < d → in_world (v i a) ≡ true

-- the points are the vertices of r, in their order
pub record VerticesAre (r : CellRecord) (d l : ℕ) (v : ℕ → ℕ → ℤ) : Type 0 where
  pub cell : is_cell r ≡ true
  pub axes : r.d ≡ d
  pub dimension : r.l ≡ l
  pub same : (i a : ℕ) → i ≤ l → a < d → coordinate r i a ≡ v i a

-- a whole number lies strictly between x and y
abbrev pub Between : ℤ → ℤ → Type 0
Between x y = (n : ℤ) × (x <ℤ n) × (n <ℤ y)

-- no hyperplane x(a) = n or x(b) - x(a) = n, n whole, has p strictly below it and q strictly above
pub record Unparted (d : ℕ) (p q : ℕ → ℤ) : Type 0 where
  pub axis : (a : ℕ) → a < d → Between (p a) (q a) → ⊥
  pub cross : (a b : ℕ) → a < d → b < d → Between (p b -ℤ p a) (q b -ℤ q a) → ⊥

-- no hyperplane has two of the points strictly on different sides
abbrev pub Whole : ℕ → ℕ → (ℕ → ℕ → ℤ) → Type 0
Whole d l v = (i k : ℕ) → i ≤ l → k ≤ l → Unparted d (v i) (v k)

-- any two of the points differ along some axis
abbrev pub Different : ℕ → ℕ → (ℕ → ℕ → ℤ) → Type 0
Different d l v = (i k : ℕ) → i < k → k ≤ l → ((a : ℕ) → a < d → v i a ≡ v k a) → ⊥

-- the points are the vertices of r, in some order
pub record Spans (r : CellRecord) (d l : ℕ) (v : ℕ → ℕ → ℤ) : Type 0 where
  pub cell : is_cell r ≡ true
  pub axes : r.d ≡ d
  pub dimension : r.l ≡ l
  pub has : (i : ℕ) → i ≤ l → (k : ℕ) × (k ≤ l) × ((a : ℕ) → a < d → coordinate r k a ≡ v i a)
  pub only : (k : ℕ) → k ≤ l → (i : ℕ) × (i ≤ l) × ((a : ℕ) → a < d → coordinate r k a ≡ v i a)

pub record Triangulation : Type 0 where
  -- ascending points of the world are the vertices of a cell
  pub chains : (d l : ℕ) (v : ℕ → ℕ → ℤ) → 2 ≤ d → d ≤ 6 → InWorld d l v → Ascends d l v → (r : CellRecord) × VerticesAre r d l v
  -- different points of the world that no hyperplane parts are the vertices of a cell, in some order
  pub simplices : (d l : ℕ) (v : ℕ → ℕ → ℤ) → 2 ≤ d → d ≤ 6 → InWorld d l v → Different d l v → Whole d l v → (r : CellRecord) × Spans r d l v
  -- and no hyperplane parts two vertices of a cell, which are different
  pub whole : (r : CellRecord) → is_cell r ≡ true → Whole r.d r.l (coordinate r) × Different r.d r.l (coordinate r)
  -- the order is told by the points: two cells that they are the vertices of are one
  pub one : (r s : CellRecord) (d l : ℕ) (v : ℕ → ℕ → ℤ) → Spans r d l v → Spans s d l v → r ≡ s
