use Rattle.std.proofs.Common.{◌≡◌, ℕ, ◌+◌, ◌<◌, List, length, get_or, set, ℤ, pos, ap, ◌∙◌, arith, w64, SFits, to_z, of_z, rules}
use Rattle.std.proofs.lemmas.Int.{to_z-of_z}
use Rattle.std.proofs.lemmas.List.{length-set}
use Rattle.std.proofs.lemmas.List.Edits.{fill_by_more}
use Rattle.grid.proofs.Below.{table_from}
use Rattle.crossing.specs.Determinants.{alternating, signed_determinant}
use Rattle.crossing.specs.Weights.{value}
use Rattle.crossing.proofs.matrices.VertexValues.signed_determinants.Goals as goal

-- one place more, whose number goes to its bits and back
filled_more : (f : ℕ → ℤ) (xs : List ℤ) (i : ℕ) (z : ℤ) → i < length xs → SFits w64 z → z ≡ f i → ((j : ℕ) → j < i → get_or xs j (pos 0) ≡ f j) → (j : ℕ) → j < i + 1 → get_or (set xs i (to_z w64 (of_z w64 z))) j (pos 0) ≡ f j
filled_more f xs i z h s e here = rw (to_z-of_z w64 z s ∙ e) (fill_by_more f xs i (pos 0) h here)

pub loop-i-preserved : goal.loop-i-preserved
loop-i-preserved c =
    let v = c.args.self.now in
    let long = c.loop-i.invariant.0 in
    let fit : SFits w64 c.alternated.result = search rules in
    let is = c.alternated.ensures ∙ ap (alternating c.loop-i.i) (to_z-of_z w64 c.without.result (search rules) ∙ c.without.ensures.is) in
    (length-set c.loop-i.place-items c.loop-i.i _ ∙ long, filled_more (signed_determinant v.k (value v.at)) c.loop-i.place-items c.loop-i.i c.alternated.result (omega arith) fit is c.loop-i.invariant.1)

pub returns : goal.returns
returns c = table_from 4 (signed_determinant c.args.self.now.k (value c.args.self.now.at)) c.loop-i.place-items (pos 0) c.loop-i.invariant.0 (λ j h. c.loop-i.invariant.1 j (omega arith))
