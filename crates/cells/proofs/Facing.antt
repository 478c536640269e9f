-- A cell is a facet of another exactly if the other is one of its cofacets: leaving out a vertex that a split has added gives
-- the cell back, and splitting the part that two parts were united to gives the other back.
use Rattle.std.proofs.Common.{◌≡◌, ℕ, zero, suc, ◌+◌, ◌<◌, ◌≤◌, Bool, true, false, cond, not, ◌&&◌, eqb, length, ℤ, pos, ◌+ℤ◌, ◌-ℤ◌, sym, refl, ap, ◌∙◌, ap₂, inl, inr, arith}
use Rattle.std.proofs.lemmas.Int.{ints}
use Rattle.std.proofs.lemmas.Bool.{and_from, and_parts, and_right, cases_lt, eq-eqb, eqb-true, ne_eqb, not_from_false, not_from_true}
use Rattle.std.proofs.lemmas.Bool.Decides.{nat_tests}
use Rattle.grid.proofs.Below.{table_from}
use Rattle.cells.specs.Cells.{IsCell}
use Rattle.cells.specs.Cofacets.{cofacet_base, cofacet_by, cofacet_label, cofacet_of, split_part, turned_part, turns}
use Rattle.cells.specs.Facets.{facet_base, facet_of, facet_part}
use Rattle.cells.specs.Records.{base_at, label}
use Rattle.cells.specs.Splits.{holds, in_b, split_at, splits}
use Rattle.cells.specs.Vertices.{coordinate}
use Rattle.cells.specs.declared.records.CellRecord.{CellRecord}
use Rattle.cells.specs.declared.splits.Split.{Split}
use Rattle.cells.proofs.Ascending.{cell_labelled, label_le}
use Rattle.cells.proofs.Coding.{code_lt, code_of, holds_code}
use Rattle.cells.proofs.Listing.{splits_at, splits_have}
use Rattle.cells.proofs.Merging.{base_facet, base_unused, base_used, facet_is_cell, label_facet}
use Rattle.cells.proofs.Recorded.{same_record_lem}
use Rattle.cells.proofs.Splitting.{Divides, divides_from, divides_to, down_base_unused, facet_cofacet}
use Rattle.cells.proofs.Walked.{closed_form, passed}

-- t is the cofacet of s at some split
pub record By (t s : CellRecord) : Type 0 where
  pub part : ℕ
  pub code : ℕ
  pub small : code < 128
  pub split : Divides s part code
  pub is : t ≡ cofacet_by s part code

-- numbers of parts alone: unite, and split again

split_united : (l i x : ℕ) → 1 ≤ i → x ≤ l + 1 → split_part i (eqb x i) (facet_part l i x) ≡ x
split_united l i x h g = grind (arith, nat_tests)

turn_joined : (l x : ℕ) → 1 ≤ l → x ≤ l + 1 → turned_part l (eqb (facet_part l 0 x) l && not (eqb x 1)) (facet_part l 0 x) ≡ x
turn_joined l x h g = grind (arith, nat_tests)

first_passed : (l x : ℕ) → 1 ≤ l → 1 ≤ x → x ≤ l + 1 → cond (eqb (facet_part l 0 x) l && not (eqb (facet_part l 0 x) l && not (eqb x 1))) 1 0 ≡ passed x 1
first_passed l x h f g = grind (arith, nat_tests)

to_last : (l x : ℕ) → 1 ≤ l → x ≡ 1 → facet_part l 0 x ≡ l
to_last l x h e = grind (arith, nat_tests)

top_last : (l x : ℕ) → 1 ≤ l → x ≡ l + 1 → facet_part l 0 x ≡ l
top_last l x h e = grind (arith, nat_tests)

stays : (l i x : ℕ) → 1 ≤ i → x ≡ i → facet_part l i x ≡ i
stays l i x h e = grind (arith, nat_tests)

falls : (l i x : ℕ) → 1 ≤ i → x ≡ i + 1 → facet_part l i x ≡ i
falls l i x h e = grind (arith, nat_tests)

sub_none : (z : ℤ) → z -ℤ pos 0 ≡ z
sub_none z = omega (arith, ints)

add-sub : (z : ℤ) (n : ℕ) → (z +ℤ pos n) -ℤ pos n ≡ z
add-sub z n = omega (arith, ints)

module _ (r : CellRecord) (c : IsCell r) (one : 1 ≤ r.l) where
  -- vertex i is left out, not the first: part i takes in part i + 1, and A is the old part i
  in_old : ℕ → ℕ → Bool
  in_old i j = eqb (label r j) i

  by_later : (i : ℕ) → 1 ≤ i → i ≤ r.l → By r (facet_of r i)
  unfolding in_old
  by_later i low h = record { part = i; code = code; small = code_lt (in_old i) 7; split = split; is = same }
    where
      code : ℕ
      code = code_of (in_old i) 7

      has : (j : ℕ) → j < 7 → holds code j ≡ eqb (label r j) i
      has j g = holds_code (in_old i) 7 j g

      split : Divides (facet_of r i) i code
      split =
          let s = c.full i low (omega arith) in
          let o = c.full (i + 1) (omega arith) (omega arith) in
          let sl : s.0 < 7 = omega (arith, c.d_high, s.1) in
          let ol : o.0 < 7 = omega (arith, c.d_high, o.1) in
          record {
            first = low;
            final = omega arith;
            within = λ j g m. label_facet r c i j ∙ stays r.l i (label r j) low (eqb-true _ _ (sym (has j g) ∙ m));
            some = (s.0, sl, label_facet r c i s.0 ∙ stays r.l i (label r s.0) low s.2, has s.0 sl ∙ eq-eqb _ _ s.2);
            other = (o.0, ol, label_facet r c i o.0 ∙ falls r.l i (label r o.0) low o.2, has o.0 ol ∙ ne_eqb _ _ (λ e. omega (arith, o.2)));
          }

      stops : turns (facet_of r i) code ≡ false
      stops = has r.d (omega (arith, c.d_high)) ∙ ne_eqb _ _ (λ e. omega (arith, c.last))

      labels : (k : ℕ) → k < 7 → label r k ≡ cofacet_label (facet_of r i) i code k
      labels k g = sym (
          ap (λ w. cond w (turned_part i (holds code k) (label (facet_of r i) k)) (split_part i (holds code k) (label (facet_of r i) k))) stops
          ∙ ap₂ (split_part i) (has k g) (label_facet r c i k)
          ∙ split_united r.l i (label r k) low (label_le r c k)
          )

      stands : (k : ℕ) → facet_base r i k ≡ base_at r k
      stands k = elim (cases_lt k r.d) [
        | inl g ↦ base_used r i k g ∙ ap (λ b. coordinate r (cond b 1 0) k) (ne_eqb i 0 (λ e. omega arith))
        | inr g ↦ base_unused r i k g ∙ sym (c.base_rest k g)
      ]

      bases : (k : ℕ) → k < 6 → base_at r k ≡ cofacet_base (facet_of r i) i code k
      bases k g = sym (
          ap (λ w. base_at (facet_of r i) k -ℤ pos (cond (w && in_b (facet_of r i) i code k) 1 0)) stops
          ∙ sub_none (base_at (facet_of r i) k)
          ∙ base_facet r c i k
          ∙ stands k
          )

      same : r ≡ cofacet_by (facet_of r i) i code
      same = same_record_lem r (cofacet_by (facet_of r i) i code) refl (omega arith) (table_from 6 _ r.base (pos 0) c.base_long bases) (table_from 7 _ r.labels 0 c.labels_long labels)

  -- vertex 0 is left out: part 1 has joined the last part, and A is the old last part
  in_last : ℕ → Bool
  in_last j = eqb (facet_part r.l 0 (label r j)) r.l && not (eqb (label r j) 1)

  by_first : By r (facet_of r 0)
  unfolding in_last
  by_first = record { part = r.l; code = code; small = code_lt in_last 7; split = split; is = same }
    where
      code : ℕ
      code = code_of in_last 7

      has : (j : ℕ) → j < 7 → holds code j ≡ (eqb (facet_part r.l 0 (label r j)) r.l && not (eqb (label r j) 1))
      has j g = holds_code in_last 7 j g

      turned : turns (facet_of r 0) code ≡ true
      turned = has r.d (omega (arith, c.d_high)) ∙ and_from _ _ (eq-eqb _ _ (top_last r.l (label r r.d) one c.last)) (not_from_false _ (ne_eqb _ _ (λ e. omega (arith, c.last))))

      split : Divides (facet_of r 0) r.l code
      split =
          let o = c.full 1 (omega arith) (omega arith) in
          let ol : o.0 < 7 = omega (arith, c.d_high, o.1) in
          record {
            first = one;
            final = omega arith;
            within = λ j g m. label_facet r c 0 j ∙ eqb-true _ _ (and_parts _ _ (sym (has j g) ∙ m)).0;
            some = (r.d, omega (arith, c.d_high), label_facet r c 0 r.d ∙ top_last r.l (label r r.d) one c.last, turned);
            other = (o.0, ol, label_facet r c 0 o.0 ∙ to_last r.l (label r o.0) one o.2, has o.0 ol ∙ and_right _ _ (not_from_true _ (eq-eqb _ _ o.2)));
          }

      labels : (k : ℕ) → k < 7 → label r k ≡ cofacet_label (facet_of r 0) r.l code k
      labels k g = sym (
          ap (λ w. cond w (turned_part r.l (holds code k) (label (facet_of r 0) k)) (split_part r.l (holds code k) (label (facet_of r 0) k))) turned
          ∙ ap₂ (turned_part r.l) (has k g) (label_facet r c 0 k)
          ∙ turn_joined r.l (label r k) one (label_le r c k)
          )

      down : (k : ℕ) → k < r.d → base_at r k ≡ cofacet_base (facet_of r 0) r.l code k
      down k g =
          let x = c.parted k (omega arith) in
          sym (
          ap (λ w. base_at (facet_of r 0) k -ℤ pos (cond (w && in_b (facet_of r 0) r.l code k) 1 0)) turned
          ∙ ap₂ (λ m y. base_at (facet_of r 0) k -ℤ pos (cond (eqb y r.l && not m) 1 0)) (has k (omega (arith, c.d_high))) (label_facet r c 0 k)
          ∙ ap₂ (λ z n. z -ℤ pos n) (base_facet r c 0 k ∙ base_used r 0 k g ∙ closed_form r (cell_labelled r c) 1 k one g) (first_passed r.l (label r k) one x.0 x.1)
          ∙ add-sub (base_at r k) (passed (label r k) 1)
          )

      bases : (k : ℕ) → k < 6 → base_at r k ≡ cofacet_base (facet_of r 0) r.l code k
      bases k f = elim (cases_lt k r.d) [
        | inl g ↦ down k g
        | inr g ↦ c.base_rest k g ∙ sym (down_base_unused (facet_of r 0) (facet_is_cell r c one 0 (omega arith)) r.l code split k g)
      ]

      same : r ≡ cofacet_by (facet_of r 0) r.l code
      same = same_record_lem r (cofacet_by (facet_of r 0) r.l code) refl (omega arith) (table_from 6 _ r.base (pos 0) c.base_long bases) (table_from 7 _ r.labels 0 c.labels_long labels)

  pub by_facet : (i : ℕ) → i ≤ r.l → By r (facet_of r i)
  by_facet zero h = by_first
  by_facet (suc i) h = by_later (suc i) (omega arith) h

-- a split has a number, and a number a split

pub record Numbered (t s : CellRecord) : Type 0 where
  pub number : ℕ
  pub within : number < length (splits s)
  pub is : t ≡ cofacet_of s number

pub numbered : (t s : CellRecord) → By t s → Numbered t s
numbered t s b =
    let w = splits_have s b.part b.code b.split.first b.split.final b.small (divides_to s b.part b.code b.split) in
    record { number = w.0; within = w.1; is = b.is ∙ sym (ap (λ (x : Split). cofacet_by s x.part x.code) w.2) }

pub nth_divides : (s : CellRecord) (n : ℕ) → n < length (splits s) → Divides s (split_at s n).part (split_at s n).code
nth_divides s n h =
    let w = splits_at s (s.l + 1) n h in
    divides_from s (split_at s n).part (split_at s n).code w.first w.final w.test

-- the vertex that cofacet n has more
pub added_at : CellRecord → ℕ → ℕ
added_at s n = cond (turns s (split_at s n).code) 0 (split_at s n).part

pub added_le : (s : CellRecord) (n : ℕ) → n < length (splits s) → added_at s n ≤ s.l + 1
unfolding added_at
added_le s n h = go (turns s (split_at s n).code) (split_at s n).part (nth_divides s n h).final
  where
    go : (w : Bool) (p : ℕ) → p ≤ s.l + 1 → cond w 0 p ≤ s.l + 1
    go true p g = omega arith
    go false p g = g

pub facet_back : (s : CellRecord) → IsCell s → (n : ℕ) → n < length (splits s) → s ≡ facet_of (cofacet_of s n) (added_at s n)
unfolding added_at
facet_back s c n h = facet_cofacet s c (split_at s n).part (split_at s n).code (nth_divides s n h)
