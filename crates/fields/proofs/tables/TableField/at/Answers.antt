use Rattle.std.proofs.Common.{◌≡◌, ℕ, ◌<◌, Some, None, Ok, arith, IfSome, IsErrAnd, MatchOption, Option, Result}
use Rattle.grid.specs.declared.faults.Fault.{Fault}
use Rattle.grid.proofs.Places.{count_small}
use Rattle.fields.proofs.tables.TableField.at.Goals as goal

-- a number that went through `ok_or_else` is below what the option said
below : (o : Option ℕ) (r : Result ℕ Fault) (E : Fault → Type 0) (m n : ℕ) → IfSome o (λ k. k < n) → MatchOption o (IsErrAnd r E) (λ x. r ≡ Ok x) → r ≡ Ok m → m < n
below (Some k) r E m n h e i = let same : k ≡ m = cc in omega arith
below None r E m n h e i = absurd (rw i at e)

pub sampled-requires : goal.sampled-requires
sampled-requires c =
    let small = count_small c.args.self.now.frame in
    let lt = below c.number.result c.ok_or_else.result _ _ _ c.number.ensures.below c.ok_or_else.ensures.cases c.in_ok-place.was in
    omega arith
