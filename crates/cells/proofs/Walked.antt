-- The walk along the parts: part p steps once along the axes of its numbers, and once back along all axes if it has the last
-- number. So a coordinate has grown by one once its part is passed, and is back after the last part.
use Rattle.std.proofs.Common.{◌≡◌, ℕ, zero, suc, ◌+◌, ◌<◌, ◌≤◌, cond, eqb, leb, ltb, inl, inr, ℤ, pos, negsuc, ◌+ℤ◌, refl, ap, ◌∙◌, ap₂, add-one, arith}
use Rattle.std.proofs.lemmas.Int.{ints}
use Rattle.std.proofs.lemmas.Bool.{cases_lt, ne_eqb, eq-eqb}
use Rattle.std.proofs.lemmas.Bool.Decides.{nat_tests}
use Rattle.cells.specs.Closed.{closed_coordinate}
use Rattle.cells.specs.Records.{base_at, label}
use Rattle.cells.specs.Vertices.{coordinate, padded_coordinate, part_step, step_in}
use Rattle.cells.specs.declared.records.CellRecord.{CellRecord}
use Rattle.grid.specs.Below.{table}
use Rattle.grid.proofs.Below.{same_table}
use Rattle.grid.proofs.Summed.{sum_more, sum_one}

-- what part p adds to coordinate a: x is the label of the axis, y that of the last number
abbrev pub gained : ℕ → ℕ → ℕ → ℤ
gained p x y = pos (cond (eqb x p) 1 0) +ℤ cond (eqb y p) (negsuc 0) (pos 0)

own_step : (r : CellRecord) (p a : ℕ) → a < r.d → step_in r p a a ≡ pos (cond (eqb (label r a) p) 1 0)
own_step r p a h = grind (arith, nat_tests)

other_step : (r : CellRecord) (p a j : ℕ) → j < r.d → (j ≡ a → ⊥) → step_in r p a j ≡ pos 0
other_step r p a j h g = grind (arith, nat_tests)

last_step : (r : CellRecord) (p a : ℕ) → step_in r p a r.d ≡ cond (eqb (label r r.d) p) (negsuc 0) (pos 0)
last_step r p a = grind (arith, nat_tests)

pub part_step_lem : (r : CellRecord) (p a : ℕ) → a < r.d → part_step r p a ≡ gained p (label r a) (label r r.d)
part_step_lem r p a h =
    sum_more (step_in r p a) r.d
    ∙ ap₂ (λ x y. x +ℤ y) (sum_one (step_in r p a) r.d a h (λ j g. other_step r p a j g) ∙ own_step r p a h) (last_step r p a)

-- the facts of the labels that the walk needs
pub record Labelled (r : CellRecord) : Type 0 where
  pub used : (a : ℕ) → a < r.d → (1 ≤ label r a) × (label r a ≤ r.l + 1)
  pub last : label r r.d ≡ r.l + 1

-- 1 once part x is passed
abbrev pub passed : ℕ → ℕ → ℕ
passed x i = cond (leb x i) 1 0

passed_none : (x : ℕ) → 1 ≤ x → passed x 0 ≡ 0
passed_none x h = grind (arith, nat_tests)

passed_more : (x i : ℕ) → passed x (suc i) ≡ passed x i + cond (eqb x (suc i)) 1 0
passed_more x i = grind (arith, nat_tests)

-- a part that is not the last one, and the last one
gained_before : (p x y : ℕ) → p < y → gained p x y ≡ pos (cond (eqb x p) 1 0)
gained_before p x y h = let e = ne_eqb y p (λ q. omega arith) in rw e (omega (arith, ints))

gained_last : (p x : ℕ) → gained p x p ≡ pos (cond (eqb x p) 1 0) +ℤ negsuc 0
gained_last p x = let e = eq-eqb p p refl in rw e refl

pub closed_form : (r : CellRecord) → Labelled r → (i a : ℕ) → i ≤ r.l → a < r.d → coordinate r i a ≡ closed_coordinate r i a
closed_form r t zero a h g = let e = passed_none (label r a) (t.used a g).0 in omega (arith, ints)
closed_form r t (suc i) a h g =
    let before = closed_form r t i a (omega arith) g in
    let last = t.last in
    let step = part_step_lem r (suc i) a g ∙ gained_before (suc i) (label r a) (label r r.d) (omega arith) in
    let more = passed_more (label r a) i in
    omega (arith, ints)

-- the same with 0 past the axes
pub padded_form : (r : CellRecord) → Labelled r → (i : ℕ) → i ≤ r.l → table 6 (λ a. cond (ltb a r.d) (closed_coordinate r i a) (pos 0)) ≡ table 6 (padded_coordinate r i)
padded_form r t i h = same_table 6 (λ a. cond (ltb a r.d) (closed_coordinate r i a) (pos 0)) (padded_coordinate r i) (pos 0) (λ a g. elim (cases_lt a r.d) [
  | inl k ↦ (let e = closed_form r t i a h k in grind (arith, nat_tests))
  | inr k ↦ grind (arith, nat_tests)
])

-- after the last part a coordinate has gained one and lost one
pub leads_back : (r : CellRecord) → Labelled r → (a : ℕ) → a < r.d → coordinate r (r.l + 1) a ≡ base_at r a
leads_back r t a g = rw (add-one r.l) at_last
  where
    at_last : coordinate r r.l a +ℤ part_step r (suc r.l) a ≡ base_at r a
    at_last =
        let before = closed_form r t r.l a (omega arith) g in
        let last : label r r.d ≡ suc r.l = t.last ∙ add-one r.l in
        let step = part_step_lem r (suc r.l) a g ∙ ap (gained (suc r.l) (label r a)) last ∙ gained_last (suc r.l) (label r a) in
        let more = passed_more (label r a) r.l in
        let all : passed (label r a) (suc r.l) ≡ 1 = let u = t.used a g in grind (arith, nat_tests) in
        omega (arith, ints)
