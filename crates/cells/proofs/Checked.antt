-- The test of a record says what a cell is, both ways; and along each axis the first and the last vertex tell of all.
use Rattle.std.proofs.Common.{◌≡◌, ℕ, ◌+◌, ◌-◌, ◌<◌, ◌≤◌, Bool, true, false, ◌&&◌, eqb, length, take, ap, ℤ, pos, negsuc, ◌+ℤ◌, sym, refl, ◌∙◌, subst, inl, inr, arith}
use Rattle.std.specs.List.{list_any}
use Rattle.std.specs.Prelude.{IsTrue, ◌↔◌}
use Rattle.std.proofs.lemmas.List.{get_or_past, get_or-take, length-take-le}
use Rattle.std.proofs.lemmas.Int.{ints}
use Rattle.std.proofs.lemmas.Bool.{and_from, and_parts, cases_lt, eq-eqb, eqb-true, le-leb}
use Rattle.std.proofs.lemmas.Bool.Decides.{nat_tests}
use Rattle.grid.specs.Below.{all_below, some_below}
use Rattle.grid.proofs.Told.{list_any-below}
use Rattle.grid.proofs.Below.{all_at, all_from, some_at, some_from}
use Rattle.cells.specs.Cells.{all_in_world, base_ok, coordinate_ok, in_part, is_cell, IsCell, is_partition, is_placed, is_zero, label_ok, next_part_full, vertex_ok}
use Rattle.cells.specs.Closed.{axis_ok, closed_coordinate}
use Rattle.cells.specs.Records.{base_at, label}
use Rattle.cells.specs.Vertices.{coordinate}
use Rattle.cells.specs.World.{in_world}
use Rattle.cells.specs.declared.records.CellRecord.{CellRecord}
use Rattle.cells.proofs.Walked.{closed_form, Labelled, passed}

-- the partition

pub record Partition (r : CellRecord) : Type 0 where
  pub d_low : 2 ≤ r.d
  pub d_high : r.d ≤ 6
  pub l_high : r.l ≤ r.d
  pub parted : (j : ℕ) → j ≤ r.d → (1 ≤ label r j) × (label r j ≤ r.l + 1)
  pub full : (p : ℕ) → 1 ≤ p → p ≤ r.l + 1 → (j : ℕ) × (j ≤ r.d) × (label r j ≡ p)
  pub last : label r r.d ≡ r.l + 1
  pub labels_long : length r.labels ≡ 7
  pub labels_rest : (j : ℕ) → r.d < j → label r j ≡ 0

pub partition_from : (r : CellRecord) → is_partition r ≡ true → Partition r
partition_from r h = record {
  d_low = grind (arith, nat_tests);
  d_high = high;
  l_high = grind (arith, nat_tests);
  parted = λ j g. let e = all_at (label_ok r) 7 each j (omega (arith, high)) in (grind (arith, nat_tests), grind (arith, nat_tests));
  full = full;
  last = grind (arith, nat_tests);
  labels_long = long;
  labels_rest = rest;
}
  where
    high : r.d ≤ 6
    high = grind (arith, nat_tests)

    long : length r.labels ≡ 7
    long = grind (arith, nat_tests)

    each : all_below (label_ok r) 7 ≡ true
    each = grind (arith, nat_tests)

    filled : all_below (next_part_full r) (r.l + 1) ≡ true
    filled = grind (arith, nat_tests)

    full : (p : ℕ) → 1 ≤ p → p ≤ r.l + 1 → (j : ℕ) × (j ≤ r.d) × (label r j ≡ p)
    full p g k =
        let f = some_at (in_part r (p - 1 + 1)) (r.d + 1) (all_at (next_part_full r) (r.l + 1) filled (p - 1) (omega arith)) in
        let u : label r f.0 ≡ p - 1 + 1 = eqb-true _ _ f.2 in
        (f.0, omega arith, omega arith)

    rest : (j : ℕ) → r.d < j → label r j ≡ 0
    rest j g = elim (cases_lt j 7) [ inl k ↦ (let e = all_at (label_ok r) 7 each j k in grind (arith, nat_tests)) | inr k ↦ get_or_past r.labels j 0 (omega (arith, long)) ]

pub partition_to : (r : CellRecord) → Partition r → is_partition r ≡ true
partition_to r p =
    let each = all_from (label_ok r) 7 label_ok_lem in
    let filled = all_from (next_part_full r) (r.l + 1) part_full in
    let a = le-leb _ _ p.d_low in
    let b = le-leb _ _ p.d_high in
    let c = le-leb _ _ p.l_high in
    let e = eq-eqb _ _ p.labels_long in
    let f = eq-eqb _ _ p.last in
    grind (arith, a, b, c, e, each, f, filled)
  where
    label_ok_lem : (j : ℕ) → j < 7 → label_ok r j ≡ true
    label_ok_lem j h = elim (cases_lt r.d j) [ inl g ↦ (let e = p.labels_rest j g in grind (arith, nat_tests)) | inr g ↦ (let e = p.parted j g in grind (arith, nat_tests)) ]

    part_full : (q : ℕ) → q < r.l + 1 → next_part_full r q ≡ true
    part_full q h =
        let f = p.full (q + 1) (omega arith) (omega arith) in
        some_from (in_part r (q + 1)) (r.d + 1) f.0 (omega arith) (eq-eqb _ _ f.2)

pub labelled : (r : CellRecord) → Partition r → Labelled r
labelled r p = record { used = λ a h. p.parted a (omega arith); last = p.last }

-- a search through the labels that d leaves, for a part
pub part_told : (r : CellRecord) (p : ℕ) → length r.labels ≡ 7 → r.d ≤ 6 → list_any (λ y. eqb y p) (take (r.d + 1) r.labels) ≡ some_below (in_part r p) (r.d + 1)
part_told r p e h =
    let n : length (take (r.d + 1) r.labels) ≡ r.d + 1 = length-take-le (r.d + 1) r.labels (omega arith) in
    list_any-below (λ y. eqb y p) (in_part r p) 0 (take (r.d + 1) r.labels) (λ k lt. ap (λ y. eqb y p) (get_or-take (r.d + 1) r.labels k 0 (omega arith))) ∙ ap (some_below (in_part r p)) n

-- the place in the world

pub record Placed (r : CellRecord) : Type 0 where
  pub base_long : length r.base ≡ 6
  pub base_rest : (a : ℕ) → r.d ≤ a → base_at r a ≡ pos 0
  pub world : (i a : ℕ) → i ≤ r.l → a < r.d → in_world (coordinate r i a) ≡ true

world_from : (r : CellRecord) → all_in_world r ≡ true → (i a : ℕ) → i ≤ r.l → a < r.d → in_world (coordinate r i a) ≡ true
world_from r h i a g k = all_at (coordinate_ok r i) r.d (all_at (vertex_ok r) (r.l + 1) h i (omega arith)) a k

pub world_to : (r : CellRecord) → ((i a : ℕ) → i ≤ r.l → a < r.d → in_world (coordinate r i a) ≡ true) → all_in_world r ≡ true
world_to r w = all_from (vertex_ok r) (r.l + 1) (λ i h. all_from (coordinate_ok r i) r.d (λ a g. w i a (omega arith) g))

zero_from : (x : ℤ) → is_zero x ≡ true → x ≡ pos 0
zero_from (pos n) h = grind (arith, nat_tests)
zero_from (negsuc n) h = grind (arith, nat_tests)

placed_from : (r : CellRecord) → is_placed r ≡ true → Placed r
placed_from r h = record { base_long = long; base_rest = rest; world = world_from r (grind (arith, nat_tests)) }
  where
    long : length r.base ≡ 6
    long = grind (arith, nat_tests)

    zeros : all_below (base_ok r) 6 ≡ true
    zeros = grind (arith, nat_tests)

    rest : (a : ℕ) → r.d ≤ a → base_at r a ≡ pos 0
    rest a g = elim (cases_lt a 6) [ inl k ↦ (let e = all_at (base_ok r) 6 zeros a k in zero_from (base_at r a) (grind (arith, nat_tests))) | inr k ↦ get_or_past r.base a (pos 0) (omega (arith, long)) ]

zeros_to : (r : CellRecord) → ((a : ℕ) → r.d ≤ a → base_at r a ≡ pos 0) → all_below (base_ok r) 6 ≡ true
zeros_to r rest = all_from (base_ok r) 6 zero
  where
    zero : (a : ℕ) → a < 6 → base_ok r a ≡ true
    zero a h = elim (cases_lt a r.d) [ inl g ↦ grind (arith, nat_tests) | inr g ↦ (let e = rest a g in grind (arith, nat_tests)) ]

-- with 0 in the unused places only the world is left to test
pub placed_is : (r : CellRecord) → length r.base ≡ 6 → ((a : ℕ) → r.d ≤ a → base_at r a ≡ pos 0) → is_placed r ≡ all_in_world r
placed_is r n rest =
    let zeros = zeros_to r rest in
    let long = eq-eqb _ _ n in
    grind (arith, long, zeros)

placed_to : (r : CellRecord) → Placed r → is_placed r ≡ true
placed_to r p = placed_is r p.base_long p.base_rest ∙ world_to r p.world

-- a cell

pub cell_from : (r : CellRecord) → Partition r → Placed r → IsCell r
cell_from r p q = record {
  d_low = p.d_low;
  d_high = p.d_high;
  l_high = p.l_high;
  parted = p.parted;
  full = p.full;
  last = p.last;
  world = q.world;
  labels_long = p.labels_long;
  labels_rest = p.labels_rest;
  base_long = q.base_long;
  base_rest = q.base_rest;
}

pub is_cell_lem : (r : CellRecord) → is_cell r ≡ true → IsCell r
unfolding is_cell
is_cell_lem r h = let both = and_parts (is_partition r) (is_placed r) h in cell_from r (partition_from r both.0) (placed_from r both.1)

pub cell_is : (r : CellRecord) → IsCell r → is_cell r ≡ true
unfolding is_cell
cell_is r i = and_from (is_partition r) (is_placed r) (partition_to r parts) (placed_to r place)
  where
    parts : Partition r
    parts = record { d_low = i.d_low; d_high = i.d_high; l_high = i.l_high; parted = i.parted; full = i.full; last = i.last; labels_long = i.labels_long; labels_rest = i.labels_rest }

    place : Placed r
    place = record { base_long = i.base_long; base_rest = i.base_rest; world = i.world }

-- an answer that tells by the test says what a cell is
pub cell_told : (b : Bool) (r : CellRecord) → b ≡ is_cell r → IsTrue b ↔ (IsCell r)
cell_told b r e = (λ h. is_cell_lem r (sym e ∙ h), λ i. e ∙ cell_is r i)

pub cell_parts : (r : CellRecord) → is_cell r ≡ (is_partition r && is_placed r)
unfolding is_cell
cell_parts r = refl

pub cell_placed : (r : CellRecord) → is_partition r ≡ true → is_placed r ≡ true → is_cell r ≡ true
unfolding is_cell
cell_placed r h g = and_from (is_partition r) (is_placed r) h g

-- one axis

-- between the first vertex and the last a coordinate is one or the other
between : (x i l : ℕ) (z : ℤ) → i ≤ l → in_world z ≡ true → in_world (z +ℤ pos (passed x l)) ≡ true → in_world (z +ℤ pos (passed x i)) ≡ true
between x i l z h low high = elim (cases_lt i x) [ inl g ↦ before g | inr g ↦ after g ]
  where
    before : i < x → in_world (z +ℤ pos (passed x i)) ≡ true
    before g = let n : passed x i ≡ 0 = grind (arith, nat_tests) in let e : z ≡ z +ℤ pos (passed x i) = omega (arith, ints) in subst (λ y. in_world y ≡ true) e low

    after : x ≤ i → in_world (z +ℤ pos (passed x i)) ≡ true
    after g = let n : passed x l ≡ passed x i = grind (arith, nat_tests) in subst (λ m. in_world (z +ℤ pos m) ≡ true) n high

same_truth : (a b : Bool) → (a ≡ true → b ≡ true) → (b ≡ true → a ≡ true) → a ≡ b
same_truth true b f g = sym (f refl)
same_truth false true f g = g refl
same_truth false false f g = refl

pub placed_by_axes : (r : CellRecord) → Partition r → length r.base ≡ 6 → all_below (axis_ok r) 6 ≡ is_placed r
placed_by_axes r p n = same_truth (all_below (axis_ok r) 6) (is_placed r) there back
  where
    closed : (i a : ℕ) → i ≤ r.l → a < r.d → coordinate r i a ≡ closed_coordinate r i a
    closed = closed_form r (labelled r p)

    there : all_below (axis_ok r) 6 ≡ true → is_placed r ≡ true
    there h = zeros_world zeros (world_to r world)
      where
        zeros : all_below (base_ok r) 6 ≡ true
        zeros = all_from (base_ok r) 6 (λ a g. let e = all_at (axis_ok r) 6 h a g in grind (arith, nat_tests))

        zeros_world : all_below (base_ok r) 6 ≡ true → all_in_world r ≡ true → is_placed r ≡ true
        zeros_world z w = let long = eq-eqb _ _ n in grind (arith, long, z, w)

        world : (i a : ℕ) → i ≤ r.l → a < r.d → in_world (coordinate r i a) ≡ true
        world i a g k =
            let most = p.d_high in
            let e = all_at (axis_ok r) 6 h a (omega arith) in
            let ends : (in_world (base_at r a) && in_world (closed_coordinate r r.l a)) ≡ true = grind (arith, nat_tests) in
            let both = and_parts (in_world (base_at r a)) (in_world (closed_coordinate r r.l a)) ends in
            subst (λ y. in_world y ≡ true) (sym (closed i a g k)) (between (label r a) i r.l (base_at r a) g both.0 both.1)

    back : is_placed r ≡ true → all_below (axis_ok r) 6 ≡ true
    back h = all_from (axis_ok r) 6 axis
      where
        q : Placed r
        q = placed_from r h

        axis : (a : ℕ) → a < 6 → axis_ok r a ≡ true
        axis a g = elim (cases_lt a r.d) [ inl k ↦ used k | inr k ↦ (let e = q.base_rest a k in grind (arith, nat_tests)) ]
          where
            used : a < r.d → axis_ok r a ≡ true
            used k =
                let first = q.world 0 a (omega arith) k in
                let last = subst (λ y. in_world y ≡ true) (closed r.l a (omega arith) k) (q.world r.l a (omega arith) k) in
                let both = and_from (in_world (base_at r a)) (in_world (closed_coordinate r r.l a)) first last in
                grind (arith, nat_tests)
