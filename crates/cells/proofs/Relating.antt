-- What holds of the answers of facet and cofacet, and of all cofacets of a cell.
use Rattle.std.proofs.Common.{◌≡◌, ℕ, ◌+◌, ◌-◌, ◌*◌, ◌<◌, ◌≤◌, true, eqb, length, Ok, sym, refl, ap, ◌∙◌, subst, inl, inr, mul-le-mul_right, arith}
use Rattle.std.proofs.lemmas.Bool.{cases_lt, eq-eqb, eqb-true, ne_eqb}
use Rattle.grid.proofs.Below.{length-table}
use Rattle.cells.specs.Cells.{all_in_world, is_cell, IsCell, is_partition, is_placed}
use Rattle.cells.specs.Cofacets.{cofacet_base, cofacet_by, cofacet_of}
use Rattle.cells.specs.Faces.{AllCofacets, CofacetLaws, CofacetOf, FacetLaws, FacetOf, without}
use Rattle.cells.specs.Facets.{facet_of}
use Rattle.cells.specs.Records.{label}
use Rattle.cells.specs.Splits.{holds, split_at, splits}
use Rattle.cells.specs.Vertices.{vertex_of, vertices_of}
use Rattle.cells.specs.declared.records.CellRecord.{CellRecord}
use Rattle.cells.proofs.Answering.{cofacet_granted, facet_granted, granted_cofacet, granted_facet}
use Rattle.cells.proofs.Checked.{is_cell_lem, partition_to, placed_is, world_to}
use Rattle.cells.proofs.Coding.{code_lt, code_of, holds_code}
use Rattle.cells.proofs.Counting.{count_of, count_to}
use Rattle.cells.proofs.Facing.{added_at, added_le, By, by_facet, facet_back, nth_divides, numbered}
use Rattle.cells.proofs.Merging.{facet_is_cell, length_without, vertices_facet}
use Rattle.cells.proofs.Numbering.{one_number}
use Rattle.cells.proofs.Pigeon.{pigeon}
use Rattle.cells.proofs.Placing.{cofacet_base_rest, cofacet_partition}
use Rattle.cells.proofs.Splitting.{Divides}
use Rattle.cells.proofs.Telling.{same_cell}

cofacet_of_facet : (t : CellRecord) → IsCell t → 1 ≤ t.l → (i : ℕ) → i ≤ t.l → CofacetOf t (facet_of t i)
cofacet_of_facet t c one i h =
    let n = numbered t (facet_of t i) (by_facet t c one i h) in
    let world = subst (λ x. all_in_world x ≡ true) n.is (world_to t c.world) in
    (n.number, cofacet_granted (facet_of t i) n.number n.within world ∙ ap Ok (sym n.is))

pub facet_laws : (t : CellRecord) → IsCell t → 1 ≤ t.l → (i : ℕ) → i ≤ t.l → FacetLaws t i (facet_of t i)
facet_laws t c one i h = record { vertices = vertices_facet t c one i h; back = cofacet_of_facet t c one i h }

facet_of_cofacet : (s : CellRecord) → IsCell s → (n : ℕ) → n < length (splits s) → FacetOf s (cofacet_of s n)
facet_of_cofacet s c n h = (added_at s n, facet_granted (cofacet_of s n) (added_at s n) (omega arith) (added_le s n h) ∙ ap Ok (sym (facet_back s c n h)))

pub cofacet_laws : (s : CellRecord) → IsCell s → (n : ℕ) → n < length (splits s) → CofacetLaws s n (cofacet_of s n)
cofacet_laws s c n h = record {
  back = facet_of_cofacet s c n h;
  only = λ m e. (let g = granted_cofacet s m (cofacet_of s n) e in one_number s c m n g.within h g.is);
}

-- a cofacet is a cell as soon as it stays in the world

pub cofacet_parts : (s : CellRecord) → IsCell s → (n : ℕ) → n < length (splits s) → is_partition (cofacet_of s n) ≡ true
cofacet_parts s c n h = partition_to (cofacet_of s n) (cofacet_partition s c (split_at s n).part (split_at s n).code (nth_divides s n h))

pub cofacet_long : (s : CellRecord) (n : ℕ) → length (cofacet_of s n).base ≡ 6
cofacet_long s n = length-table 6 (cofacet_base s (split_at s n).part (split_at s n).code)

pub cofacet_placed : (s : CellRecord) → IsCell s → (n : ℕ) → n < length (splits s) → is_placed (cofacet_of s n) ≡ all_in_world (cofacet_of s n)
cofacet_placed s c n h = placed_is (cofacet_of s n) (cofacet_long s n) (cofacet_base_rest s c (split_at s n).part (split_at s n).code (nth_divides s n h))

-- two numbers in one part make a split
splits_twins : (s : CellRecord) → IsCell s → (i k : ℕ) → i ≤ s.d → k ≤ s.d → (k ≡ i → ⊥) → label s i ≡ label s k → 0 < length (splits s)
splits_twins s c i k hi hk apart e = let n = numbered (cofacet_by s (label s i) code) s by in let w = n.within in omega arith
  where
    code : ℕ
    code = code_of (λ j. eqb j i) 7

    has : (j : ℕ) → j < 7 → holds code j ≡ eqb j i
    has j h = holds_code (λ j. eqb j i) 7 j h

    i_lt : i < 7
    i_lt = omega (arith, c.d_high)

    k_lt : k < 7
    k_lt = omega (arith, c.d_high)

    split : Divides s (label s i) code
    split = record {
      first = (c.parted i hi).0;
      final = (c.parted i hi).1;
      within = λ j h m. ap (label s) (eqb-true j i (sym (has j h) ∙ m));
      some = (i, i_lt, refl, has i i_lt ∙ eq-eqb i i refl);
      other = (k, k_lt, sym e, has k k_lt ∙ ne_eqb k i apart);
    }

    by : By (cofacet_by s (label s i) code) s
    by = record { part = label s i; code = code; small = code_lt (λ j. eqb j i) 7; split = split; is = refl }

-- fewer parts than numbers: two numbers share a part
some_splits : (s : CellRecord) → IsCell s → s.l < s.d → 0 < length (splits s)
some_splits s c h = elim (cases_lt 0 (length (splits s))) [ inl g ↦ g | inr g ↦ absurd (none g) ]
  where
    none : length (splits s) ≤ 0 → ⊥
    none g = let n = pigeon (s.d + 1) (s.l + 1) (λ j. label s j - 1) below apart in omega arith
      where
        below : (j : ℕ) → j < s.d + 1 → label s j - 1 < s.l + 1
        below j f = let u = c.parted j (omega arith) in omega (arith, u.1)

        apart : (i k : ℕ) → i < k → k < s.d + 1 → label s i - 1 ≡ label s k - 1 → ⊥
        apart i k f e q =
            let u = (c.parted i (omega arith)).0 in
            let w = (c.parted k (omega arith)).0 in
            let n = splits_twins s c i k (omega arith) (omega arith) (λ x. omega arith) (omega arith) in
            omega arith

pub all_cofacets : (s : CellRecord) → IsCell s → AllCofacets s
all_cofacets s c = record {
  dual = λ t h. (up t (is_cell_lem t h), down t);
  all = all;
  of_part = count_of s;
  count = count_to s (s.l + 1);
  some = some_splits s c;
  pairs = λ h. some_pairs (length (splits s)) (s.l + 2) (some_splits s c h) (omega arith);
}
  where
    up : (t : CellRecord) → IsCell t → FacetOf s t → CofacetOf t s
    up t ct f =
        let g = granted_facet t f.0 s f.1 in
        subst (CofacetOf t) g.is (cofacet_of_facet t ct g.some f.0 g.within)

    down : (t : CellRecord) → CofacetOf t s → FacetOf s t
    down t f =
        let g = granted_cofacet s f.0 t f.1 in
        subst (FacetOf s) g.is (facet_of_cofacet s c f.0 g.within)

    some_pairs : (a b : ℕ) → 0 < a → 0 < b → 0 < a * b
    some_pairs a b h g = let m : 1 * b ≤ a * b = mul-le-mul_right b h in omega arith

    all : (t : CellRecord) (i : ℕ) → is_cell t ≡ true → i ≤ t.l → without i (vertices_of t) ≡ vertices_of s → CofacetOf t s
    all t i ht h e = elim (cases_lt 0 t.l) [ inl one ↦ found one | inr none ↦ absurd (short none) ]
      where
        ct : IsCell t
        ct = is_cell_lem t ht

        found : 1 ≤ t.l → CofacetOf t s
        found one =
            let same = same_cell s (facet_of t i) c (facet_is_cell t ct one i h) (vertices_facet t ct one i h ∙ e) in
            subst (CofacetOf t) same (cofacet_of_facet t ct one i h)

        short : t.l ≤ 0 → ⊥
        short none =
            let n = length-table (t.l + 1) (vertex_of t) in
            let m = length-table (s.l + 1) (vertex_of s) in
            let w = length_without i (vertices_of t) (omega arith) in
            let q = ap length e in
            omega arith
