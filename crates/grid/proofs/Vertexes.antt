-- A vertex is its coordinates: equal coordinates make equal vertices, since the unused places hold 0.
use Rattle.std.proofs.Common.{◌≡◌, ◌↔◌, ℕ, ◌<◌, ◌≤◌, Bool, List, length, get_or, ℤ, pos, Some, sym, ap, ◌∙◌, subst, inl, inr, arith, eqb, refl, Decides, IsTrue}
use Rattle.std.specs.Ordering.{int_eq}
use Rattle.std.specs.Cmp.Lexicographic.{pointwise}
use Rattle.std.proofs.lemmas.Slice.Eq.{slice_eq-Decides}
use Rattle.std.proofs.lemmas.Bool.{and_from, and_parts}
use native.Mathlib.Bridge.{le_prop}
use native.Mathlib.Nat.{ℕ_set}
use lib.IntN.{ℤ_set}
use Rattle.std.proofs.lemmas.List.{ext_get_or, get_or-take, length-take-le}
use Rattle.std.proofs.lemmas.Bool.{cases_lt}
use Rattle.std.proofs.lemmas.Bool.Decides.{nat_tests, Decides-eqb, Decides-int_eq}
use Rattle.grid.specs.Vertices.{coordinates_of, vertex_answer, VertexEqExact}
use Rattle.grid.specs.declared.vertices.Vertex.{Vertex}

abbrev Rest : ℕ → List ℤ → Type 0
Rest d xs = (j : ℕ) → d ≤ j → get_or xs j (pos 0) ≡ pos 0

abbrev of : (d : ℕ) (xs : List ℤ) → 2 ≤ d → d ≤ 6 → length xs ≡ 6 → Rest d xs → Vertex
of d xs a b l r = record { d = d; at = xs; d_low = a; d_high = b; long = l; rest = r }

-- the ghost fields are facts, so they cannot differ
same_facts : (d : ℕ) (xs : List ℤ) (a a' : 2 ≤ d) (b b' : d ≤ 6) (l l' : length xs ≡ 6) (r r' : Rest d xs) → of d xs a b l r ≡ of d xs a' b' l' r'
same_facts d xs a a' b b' l l' r r' = λ i. of d xs (le_prop a a' i) (le_prop b b' i) (ℕ_set (length xs) 6 l l' i) (λ j h. ℤ_set (get_or xs j (pos 0)) (pos 0) (r j h) (r' j h) i)

same_lists : (d : ℕ) (xs ys : List ℤ) → xs ≡ ys → (a a' : 2 ≤ d) (b b' : d ≤ 6) (l : length xs ≡ 6) (l' : length ys ≡ 6) (r : Rest d xs) (r' : Rest d ys) → of d xs a b l r ≡ of d ys a' b' l' r'
same_lists d xs ys e = subst (λ zs. (a a' : 2 ≤ d) (b b' : d ≤ 6) (l : length xs ≡ 6) (l' : length zs ≡ 6) (r : Rest d xs) (r' : Rest d zs) → of d xs a b l r ≡ of d zs a' b' l' r') e (same_facts d xs)

same_numbers : (d e : ℕ) (xs ys : List ℤ) → d ≡ e → xs ≡ ys → (a : 2 ≤ d) (a' : 2 ≤ e) (b : d ≤ 6) (b' : e ≤ 6) (l : length xs ≡ 6) (l' : length ys ≡ 6) (r : Rest d xs) (r' : Rest e ys) → of d xs a b l r ≡ of e ys a' b' l' r'
same_numbers d e xs ys p q = subst (λ n. (a : 2 ≤ d) (a' : 2 ≤ n) (b : d ≤ 6) (b' : n ≤ 6) (l : length xs ≡ 6) (l' : length ys ≡ 6) (r : Rest d xs) (r' : Rest n ys) → of d xs a b l r ≡ of n ys a' b' l' r') p (same_lists d xs ys q)

pub vertex_from : (v w : Vertex) → v.d ≡ w.d → v.at ≡ w.at → v ≡ w
vertex_from v w p q = same_numbers v.d w.d v.at w.at p q v.d_low w.d_low v.d_high w.d_high v.long w.long v.rest w.rest

pub length-coordinates : (v : Vertex) → length (coordinates_of v) ≡ v.d
length-coordinates v = let h : v.d ≤ length v.at = omega arith in length-take-le v.d v.at h

-- the array holds the coordinates, and 0 past them
at_coordinates : (v : Vertex) (j : ℕ) → j < v.d → get_or v.at j (pos 0) ≡ get_or (coordinates_of v) j (pos 0)
at_coordinates v j h = sym (get_or-take v.d v.at j (pos 0) h)

pub same_vertex_lem : (v w : Vertex) → coordinates_of v ≡ coordinates_of w → v ≡ w
same_vertex_lem v w e = vertex_from v w axes (ext_get_or (pos 0) v.at w.at (v.long ∙ sym w.long) places)
  where
    axes : v.d ≡ w.d
    axes = sym (length-coordinates v) ∙ ap length e ∙ length-coordinates w

    places : (j : ℕ) → j < length v.at → get_or v.at j (pos 0) ≡ get_or w.at j (pos 0)
    places j h = elim (cases_lt j v.d) [
      | inl g ↦ at_coordinates v j g ∙ ap (λ xs. get_or xs j (pos 0)) e ∙ sym (at_coordinates w j (omega (arith, axes)))
      | inr g ↦ v.rest j g ∙ sym (w.rest j (omega (arith, axes)))
    ]

-- 2 to 6 numbers are a vertex's coordinates
pub vertex_taken : (xs : List ℤ) (d : ℕ) → length xs ≡ d → 2 ≤ d → d ≤ 6 → vertex_answer xs ≡ Some xs
vertex_taken xs d e h g = grind (arith, nat_tests)

-- the test for equality says yes exactly for equal vertices
pub vertex_eq_exact : VertexEqExact
vertex_eq_exact v w =
    let axes : Decides (eqb v.d w.d) (v.d ≡ w.d) = Decides-eqb v.d w.d in
    let places : Decides (pointwise int_eq v.at w.at) (v.at ≡ w.at) = slice_eq-Decides Decides-int_eq v.at w.at (pointwise int_eq v.at w.at) refl in (
      λ h. let both = and_parts (eqb v.d w.d) (pointwise int_eq v.at w.at) h in vertex_from v w (axes.0 both.0) (places.0 both.1),
      λ e. and_from (eqb v.d w.d) (pointwise int_eq v.at w.at) (axes.1 (ap (λ (x : Vertex). x.d) e)) (places.1 (ap (λ (x : Vertex). x.at) e)),
    )

-- the same of two vertices with as many axes, by a test of their numbers
pub told_exact : (v w : Vertex) (b : Bool) → v.d ≡ w.d → b ≡ pointwise int_eq v.at w.at → IsTrue b ↔ (v ≡ w)
told_exact v w b axes e =
    let places : Decides (pointwise int_eq v.at w.at) (v.at ≡ w.at) = slice_eq-Decides Decides-int_eq v.at w.at (pointwise int_eq v.at w.at) refl in
    rw e ((λ h. vertex_from v w axes (places.0 h)), (λ h. places.1 (ap (λ (x : Vertex). x.at) h)))
