-- The vertices of a cell ascend: from one vertex to the next the axes of one part rise, each axis once.
use Rattle.std.proofs.Common.{◌≡◌, ℕ, ◌+◌, ◌<◌, ◌≤◌, true, pos, ◌+ℤ◌, ◌≤ℤ◌, ◌<ℤ◌, sym, refl, subst, inl, inr, arith, ap, ◌∙◌, w32, SFits, to_z, of_z}
use Rattle.std.proofs.lemmas.Int.{ints, to_z-of_z}
use Rattle.std.proofs.lemmas.Bool.{cases_lt}
use Rattle.std.proofs.lemmas.Bool.Decides.{nat_tests}
use Rattle.cells.specs.Cells.{is_cell, IsCell}
use Rattle.cells.specs.Chains.{Ascends}
use Rattle.cells.specs.Records.{base_at, label}
use Rattle.cells.specs.Vertices.{coordinate}
use Rattle.cells.specs.World.{in_world}
use Rattle.cells.specs.declared.records.CellRecord.{CellRecord}
use Rattle.cells.proofs.Checked.{is_cell_lem}
use Rattle.cells.proofs.Walked.{closed_form, Labelled, passed}

pub cell_labelled : (r : CellRecord) → IsCell r → Labelled r
cell_labelled r c = record { used = λ a h. c.parted a (omega arith); last = c.last }

-- no label is above l + 1, and each number of the base is in the world, at the unused places too

pub label_le : (r : CellRecord) → IsCell r → (j : ℕ) → label r j ≤ r.l + 1
label_le r c j = elim (cases_lt r.d j) [ inl g ↦ (let e = c.labels_rest j g in omega arith) | inr g ↦ (c.parted j g).1 ]

pub base_in_world : (r : CellRecord) → IsCell r → (j : ℕ) → in_world (base_at r j) ≡ true
base_in_world r c j = elim (cases_lt j r.d) [ inl g ↦ c.world 0 j (omega arith) g | inr g ↦ (rw (c.base_rest j g) refl) ]

-- the same from the test of a cell, and for a number as it is read

pub label_small : (r : CellRecord) → is_cell r ≡ true → (j : ℕ) → label r j ≤ 7
label_small r h j = let c = is_cell_lem r h in let d = c.d_high in let l = c.l_high in let e = label_le r c j in omega arith

pub read_in_world : (r : CellRecord) → is_cell r ≡ true → (j : ℕ) → SFits w32 (base_at r j) → in_world (to_z w32 (of_z w32 (base_at r j))) ≡ true
read_in_world r h j s = ap in_world (to_z-of_z w32 (base_at r j) s) ∙ base_in_world r (is_cell_lem r h) j

passed_up : (x i : ℕ) → passed x i ≤ passed x (i + 1)
passed_up x i = grind (arith, nat_tests)

passed_most : (x i : ℕ) → passed x i ≤ 1
passed_most x i = grind (arith, nat_tests)

passed_rises : (x i : ℕ) → x ≡ i + 1 → passed x i < passed x (i + 1)
passed_rises x i e = grind (arith, nat_tests)

pub ascends : (r : CellRecord) → IsCell r → Ascends r.d r.l (coordinate r)
ascends r c = record { up = up; rises = rises; within = within }
  where
    closed : (i a : ℕ) → i ≤ r.l → a < r.d → coordinate r i a ≡ base_at r a +ℤ pos (passed (label r a) i)
    closed = closed_form r (cell_labelled r c)

    up : (i a : ℕ) → i < r.l → a < r.d → coordinate r i a ≤ℤ coordinate r (i + 1) a
    up i a h g =
        let here = closed i a (omega arith) g in
        let next = closed (i + 1) a (omega arith) g in
        let more = passed_up (label r a) i in
        omega (arith, ints)

    rises : (i : ℕ) → i < r.l → (a : ℕ) × (a < r.d) × (coordinate r i a <ℤ coordinate r (i + 1) a)
    rises i h =
        let f = c.full (i + 1) (omega arith) (omega arith) in
        let a : ℕ = f.0 in
        let is : label r a ≡ i + 1 = f.2 in
        let lt : a < r.d = elim (cases_lt a r.d) [ inl g ↦ g | inr g ↦ absurd (last a f.1 g is) ] in
        let here = closed i a (omega arith) lt in
        let next = closed (i + 1) a (omega arith) lt in
        let more = passed_rises (label r a) i is in
        (a, lt, omega (arith, ints))
      where
        -- the last number is in the last part
        last : (a : ℕ) → a ≤ r.d → r.d ≤ a → label r a ≡ i + 1 → ⊥
        last a h' g e =
            let same : a ≡ r.d = omega arith in
            let l : label r a ≡ r.l + 1 = subst (λ n. label r n ≡ r.l + 1) (sym same) c.last in
            omega arith

    within : (a : ℕ) → a < r.d → coordinate r r.l a ≤ℤ (coordinate r 0 a +ℤ pos 1)
    within a g =
        let last = closed r.l a (omega arith) g in
        let most = passed_most (label r a) r.l in
        omega (arith, ints)
