-- The ways of one pair: a cell that fits and has the pair is treated by its facet, and a number past the pairs leads nowhere.
use Rattle.std.proofs.Common.{◌≡◌, ℕ, ◌+◌, ◌/◌, ◌%◌, ◌<◌, ◌≤◌, Bool, true, false, cond, ltb, List, length, None, Ok, Err, Option, Result, sym, refl, ap, ◌∙◌, subst, mul-le-mul, le-div_iff_mul-le, arith}
use Rattle.std.proofs.lemmas.Bool.{cond-false, le-ltb, ltb-false, ltb-true}
use Rattle.grid.specs.Frames.{FrameNumbers}
use Rattle.grid.specs.Refusals.{refusal, RefusalNumbers}
use Rattle.cells.specs.Cells.{is_cell}
use Rattle.cells.specs.Pairs.{pair_answer, pair_count}
use Rattle.cells.specs.Splits.{splits}
use Rattle.cells.specs.declared.records.CellRecord.{CellRecord}
use Rattle.cells.proofs.Checked.{is_cell_lem}
use Rattle.cells.proofs.Counting.{splits_le}
use Rattle.fields.specs.Fields.{Meaning, sides_in}
use Rattle.crossing.specs.Boxes.{fits_frame}
use Rattle.tracing.specs.Steps.{fitted, followed, leads_to, numbered, record_at, through_cofacet, treat, Turn}
use Rattle.tracing.specs.Traces.{TraceNumbers}
use Rattle.tracing.specs.Turns.{cell_with_pair}

-- a cell has few pairs
pub pairs_few : (r : CellRecord) → is_cell r ≡ true → pair_count r ≤ 7056
pairs_few r h =
    let is = is_cell_lem r h in
    let n = splits_le r is in
    let l : r.l + 2 ≤ 8 = omega (arith, is.d_high, is.l_high) in
    omega (arith, mul-le-mul n l)

pub no_pair : (sides : List ℕ) (c : CellRecord) (n : ℕ) (e : RefusalNumbers) → Err e ≡ pair_answer c n → None ≡ leads_to sides c n
no_pair sides c n e h = at (ltb n (pair_count c)) refl h
  where
    at : (b : Bool) → ltb n (pair_count c) ≡ b → ◌≡◌ {A = Result (ℕ × ℕ) RefusalNumbers} (Err e) (cond b (Ok (n / (c.l + 2), n % (c.l + 2))) (Err (refusal 3))) → None ≡ leads_to sides c n
    at true f h = let z : ◌≡◌ {A = ℕ} 0 1 = cc in absurd (omega arith)
    at false f h =
        let pos : 0 < c.l + 2 = omega arith in
        let past : length (splits c) ≤ n / (c.l + 2) = (le-div_iff_mul-le pos).1 (ltb-false n (pair_count c) f) in
        sym (ap (through_cofacet sides (n % (c.l + 2))) (cond-false _ _ _ (le-ltb (n / (c.l + 2)) (length (splits c)) past)))

-- the record at place next is the cell c, which fits and has the pair
module _ (m : Meaning) (t : TraceNumbers) (xs : List CellRecord) (c : CellRecord) (f : FrameNumbers) (same : f ≡ m.frame) (is : Ok c ≡ cell_with_pair f t.pair (record_at xs t.next)) where
  abbrev r : CellRecord
  r = record_at xs t.next

  tests : (a b : Bool) → fits_frame f r ≡ a → ltb t.pair (pair_count r) ≡ b → ◌≡◌ {A = Result CellRecord RefusalNumbers} (Ok c) (cond a (cond b (Ok r) (Err (refusal 6))) (Err (refusal 8))) → (fits_frame f r ≡ true) × (ltb t.pair (pair_count r) ≡ true) × (r ≡ c)
  tests true true p q e = (p, q, (cc))
  tests true false p q e = let z : ◌≡◌ {A = ℕ} 0 1 = cc in absurd (omega arith)
  tests false b p q e = let z : ◌≡◌ {A = ℕ} 0 1 = cc in absurd (omega arith)

  passes : (fits_frame f r ≡ true) × (ltb t.pair (pair_count r) ≡ true) × (r ≡ c)
  passes = tests (fits_frame f r) (ltb t.pair (pair_count r)) refl refl is

  pub pair_below : t.pair < pair_count c
  pair_below = subst (λ (x : CellRecord). t.pair < pair_count x) passes.2 (ltb-true t.pair (pair_count r) passes.1)

  pub treated : (o : Option CellRecord) → o ≡ leads_to f.sides c t.pair → (u : Turn) → u ≡ followed m o c t xs → u ≡ treat m t xs
  treated o e u h =
      h
      ∙ ap (λ (p : Option CellRecord). followed m p c t xs) e
      ∙ ap (λ (g : FrameNumbers). followed m (leads_to g.sides c t.pair) c t xs) same
      ∙ ap (λ (x : CellRecord). followed m (leads_to (sides_in m) x t.pair) x t xs) (sym passes.2)
      ∙ ap (λ (b : Bool). numbered m b r t xs) (sym passes.1)
      ∙ ap (λ (b : Bool). fitted m b r t xs) (sym passes.0 ∙ ap (λ (g : FrameNumbers). fits_frame g r) same)
