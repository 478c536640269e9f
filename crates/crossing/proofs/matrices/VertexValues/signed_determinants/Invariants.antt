use Rattle.std.proofs.Common.{◌≡◌, ℕ, ◌<◌, length, get_or, pos}
use Rattle.crossing.specs.Determinants.{signed_determinant}
use Rattle.crossing.specs.Weights.{value}
use Rattle.crossing.proofs.matrices.VertexValues.signed_determinants.Given as goal

abbrev pub invariant-loop-i : goal.invariant-loop-i
invariant-loop-i l = (length l.place-items ≡ 4) × ((j : ℕ) → j < l.i → get_or l.place-items j (pos 0) ≡ signed_determinant l.self.k (value l.self.at) j)
