-- Facets and cofacets as one relation between cells.
use Rattle.std.specs.Prelude.{◌≡◌, ℕ, ◌+◌, ◌-◌, ◌^◌, ◌<◌, ◌≤◌, true, List, ◌++◌, length, take, drop, Ok}
use Rattle.cells.specs.Cells.{is_cell}
use Rattle.cells.specs.Cofacets.{cofacet_answer}
use Rattle.cells.specs.Facets.{facet_answer}
use Rattle.cells.specs.Pairs.{pair_count}
use Rattle.cells.specs.Splits.{over_parts, part_size, splits, splits_of}
use Rattle.cells.specs.Vertices.{vertices_of}
use Rattle.cells.specs.declared.records.CellRecord.{CellRecord}

-- s is answered as a facet of t under some number; t is answered as a cofacet of s under some number
abbrev pub FacetOf : CellRecord → CellRecord → Type 0
FacetOf s t = (i : ℕ) × (facet_answer t i ≡ Ok s)

abbrev pub CofacetOf : CellRecord → CellRecord → Type 0
CofacetOf t s = (c : ℕ) × (cofacet_answer s c ≡ Ok t)

-- a list without its item i
abbrev pub without : {X : Type 0} → ℕ → List X → List X
without i xs = take i xs ++ drop (i + 1) xs

-- what is answered as facet i of t: it has the vertices of t without vertex i, and has t as a cofacet
pub record FacetLaws (t : CellRecord) (i : ℕ) (s : CellRecord) : Type 0 where
  pub vertices : vertices_of s ≡ without i (vertices_of t)
  pub back : CofacetOf t s

-- what is answered as cofacet c of s: it has s as a facet, and c is its only number
pub record CofacetLaws (s : CellRecord) (c : ℕ) (t : CellRecord) : Type 0 where
  pub back : FacetOf s t
  pub only : (c' : ℕ) → cofacet_answer s c' ≡ Ok t → c' ≡ c

-- what holds of all cofacets of s together
pub record AllCofacets (s : CellRecord) : Type 0 where
  -- a cell is answered as a cofacet of s exactly if s is answered as a facet of it
  pub dual : (t : CellRecord) → is_cell t ≡ true → (FacetOf s t → CofacetOf t s) × (CofacetOf t s → FacetOf s t)
  -- a cell that has the vertices of s and one more is a cofacet of s
  pub all : (t : CellRecord) (i : ℕ) → is_cell t ≡ true → i ≤ t.l → without i (vertices_of t) ≡ vertices_of s → CofacetOf t s
  -- a part of n numbers gives 2 ^ n - 2 of them, and s has as many as its parts give
  pub of_part : (p : ℕ) → length (splits_of s p) ≡ 2 ^ part_size s p - 2
  pub count : length (splits s) ≡ over_parts (λ p. 2 ^ part_size s p - 2) (s.l + 1)
  -- a cell that is not of full dimension has some, and so it has pairs
  pub some : s.l < s.d → 0 < length (splits s)
  pub pairs : s.l < s.d → 0 < pair_count s
