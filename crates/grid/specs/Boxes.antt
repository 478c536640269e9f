-- The box of sides s1, s2, ..: axis j runs from 0 to side j, both ends in it.
use Rattle.std.specs.Prelude.{◌≡◌, ℕ, ◌+◌, ◌*◌, Bool, if◌then◌else◌, ◌&&◌, List, [], ◌∷◌, length, ℤ, pos, Some, None, Option, ◌==◌, int_le, slice_index, slice_index_or, unsigned_abs}
use Rattle.grid.specs.Below.{all_below}
use Rattle.grid.specs.Vertices.{coordinates_of}
use Rattle.grid.specs.declared.vertices.Vertex.{Vertex}

abbrev pub on_axis : ℕ → ℤ → Bool
on_axis side x = int_le (pos 0) x && int_le x (pos side)

abbrev pub axis_has : List ℕ → List ℤ → ℕ → Bool
axis_has sides v j = on_axis (slice_index sides j) (slice_index_or v j (pos 0))

-- a vertex of the box has one coordinate for each side, and each lies on its axis
abbrev pub in_box : List ℕ → List ℤ → Bool
in_box sides v = length v == length sides && all_below (axis_has sides v) (length sides)

-- how many vertices the box has
abbrev pub vertex_count : List ℕ → ℕ
vertex_count [] = 1
vertex_count (s ∷ ss) = (s + 1) * vertex_count ss

-- v1 + (s1 + 1) × (v2 + (s2 + 1) × ..)
abbrev pub place_number : List ℕ → List ℤ → ℕ
place_number [] v = 0
place_number (s ∷ ss) [] = 0
place_number (s ∷ ss) (x ∷ xs) = unsigned_abs x + (s + 1) * place_number ss xs

-- only a vertex of the box has a number
abbrev pub place_answer : List ℕ → List ℤ → Option ℕ
place_answer sides v = if in_box sides v then Some (place_number sides v) else None

-- two vertices of a box with one number are equal: v alone has the number n
abbrev pub OnlyNumber : List ℕ → Vertex → ℕ → Type 0
OnlyNumber sides v n = (w : Vertex) → place_answer sides (coordinates_of w) ≡ Some n → w ≡ v
