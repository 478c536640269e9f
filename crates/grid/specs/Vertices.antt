-- A vertex in plain values: the list of its coordinates.
use Rattle.std.specs.Prelude.{◌≡◌, ◌↔◌, ℕ, if◌then◌else◌, ◌&&◌, Bool, List, [], ◌∷◌, ◌++◌, length, take, ℤ, Some, None, Option, IsTrue, nat_le, ◌==◌}
use Rattle.std.specs.Ordering.{int_eq}
use Rattle.std.specs.Cmp.Lexicographic.{pointwise}
use Rattle.std.specs.List.{flat_map}
use Rattle.std.specs.Fmt.{signed_decimal}
use Rattle.grid.specs.declared.vertices.Vertex.{Vertex}

abbrev pub coordinates_of : Vertex → List ℤ
coordinates_of v = take v.d v.at

-- the test for equality
abbrev pub vertex_eq : Vertex → Vertex → Bool
vertex_eq v w = v.d == w.d && pointwise int_eq v.at w.at

-- it says yes exactly for equal vertices
abbrev pub VertexEqExact : Type 0
VertexEqExact = (v w : Vertex) → IsTrue (vertex_eq v w) ↔ (v ≡ w)

-- 2 to 6 numbers make a vertex
abbrev pub vertex_answer : List ℤ → Option (List ℤ)
vertex_answer xs = if nat_le 2 (length xs) && nat_le (length xs) 6 then Some xs else None

-- numbers as they are printed: with one space between
abbrev pub after_space : ℤ → List ℕ
after_space x = 32 ∷ signed_decimal x

abbrev pub spaced : List ℤ → List ℕ
spaced [] = []
spaced (x ∷ xs) = signed_decimal x ++ flat_map after_space xs
