-- The class as it is computed: by the signs of the determinants that arise when one vertex is left out.
use Rattle.std.specs.Prelude.{ℕ, zero, suc, ◌+◌, ◌*◌, ◌%◌, Bool, ◌&&◌, List, length, ℤ, pos, ◌+ℤ◌, ◌-ℤ◌, ◌*ℤ◌, neg_ℤ, Some, None, Option, ◌==◌, int_le, int_lt, nat_le, nat_lt, slice_index_or, if◌then◌else◌}
use Rattle.grid.specs.Below.{some_below, table}
use Rattle.crossing.specs.Weights.{Matrix, value}
use Rattle.crossing.specs.declared.classes.Class.{Class}
use Rattle.crossing.specs.declared.classes.Class.TheVariants.{Crossed, Clear, Degenerate}
use Rattle.crossing.specs.declared.signs.Signs.{Signs}

abbrev pub det2 : (a b c d : ℤ) → ℤ
det2 a b c d = (a *ℤ d) -ℤ (b *ℤ c)

-- of rows r and s at vertices i and j
abbrev pub minor : (ℕ → ℕ → ℤ) → (i j r s : ℕ) → ℤ
minor v i j r s = det2 (v i r) (v i s) (v j r) (v j s)

-- of three rows at vertices i, j and h
abbrev pub minor3 : (ℕ → ℕ → ℤ) → (i j h : ℕ) → ℤ
minor3 v i j h = ((v i 0 *ℤ minor v j h 1 2) -ℤ (v i 1 *ℤ minor v j h 0 2)) +ℤ (v i 2 *ℤ minor v j h 0 1)

-- of k rows at the vertices 0 to k - 1, for k from 1 to 3
abbrev pub determinant : ℕ → (ℕ → ℕ → ℤ) → ℤ
determinant zero v = pos 1
determinant (suc zero) v = v 0 0
determinant (suc (suc zero)) v = minor v 0 1 0 1
determinant (suc (suc (suc k))) v = minor3 v 0 1 2

-- the numbers without i, in order
abbrev pub passing : ℕ → ℕ → ℕ
passing i j = if nat_lt j i then j else j + 1

-- as it is at even places, and negated at odd ones
abbrev pub alternating : ℕ → ℤ → ℤ
alternating i x = if i % 2 == 0 then x else neg_ℤ x

-- the determinant without vertex i, with alternating sign
abbrev pub signed_determinant : ℕ → (ℕ → ℕ → ℤ) → ℕ → ℤ
signed_determinant k v i = alternating i (determinant k (λ j. v (passing i j)))

abbrev pub is_above : (ℕ → ℤ) → ℕ → Bool
is_above f i = int_lt (pos 0) (f i)

abbrev pub is_below : (ℕ → ℤ) → ℕ → Bool
is_below f i = int_lt (f i) (pos 0)

abbrev pub is_level : (ℕ → ℤ) → ℕ → Bool
is_level f i = int_le (f i) (pos 0) && int_le (pos 0) (f i)

-- which signs some of the numbers f 0 to f (n - 1) have
abbrev pub signs_below : (ℕ → ℤ) → ℕ → Signs
signs_below f n = record { above = some_below (is_above f) n; below = some_below (is_below f) n; level = some_below (is_level f) n }

-- both signs: clear; else a zero: degenerate; else one sign throughout: crossed
abbrev pub by_signs : Signs → Class
by_signs s = if s.above && s.below then Clear else (if s.level then Degenerate else Crossed)

abbrev pub class_of : ℕ → Matrix → Class
class_of k v = by_signs (signs_below (signed_determinant k (value v)) (k + 1))

-- numbers written vertex by vertex, k at each
abbrev pub by_vertex : ℕ → List ℤ → Matrix
by_vertex k xs = table (k + 1) (λ i. table k (λ r. slice_index_or xs (k * i + r) (pos 0)))

-- k is 1 to 3, and there are k numbers for each of k + 1 vertices
abbrev pub is_shaped : ℕ → List ℤ → Bool
is_shaped k xs = nat_le 1 k && nat_le k 3 && length xs == k * (k + 1)

abbrev pub class_answer : ℕ → List ℤ → Option Class
class_answer k xs = if is_shaped k xs then Some (class_of k (by_vertex k xs)) else None
