use Rattle.std.proofs.Common.{◌≡◌, ◌+◌, ◌*◌, ◌^◌, ◌≤◌, ◌+ℤ◌, nat_abs, length}
use Rattle.grid.specs.Sums.{sum_below}
use Rattle.fields.specs.Quadrics.{part_at}
use Rattle.fields.proofs.inside.Inside.row.Given as goal

abbrev pub invariant-loop-x : goal.invariant-loop-x
invariant-loop-x l = (l.sum ≡ l.row.constant +ℤ sum_below (part_at l.row l.self.at.now) (length l.yielded)) × (nat_abs l.sum ≤ (length l.yielded + 1) * 2 ^ 35)
