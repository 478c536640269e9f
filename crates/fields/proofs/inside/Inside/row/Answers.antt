use Rattle.std.proofs.Common.{◌≡◌, ℕ, ◌+◌, ◌*◌, ◌^◌, ◌<◌, ◌≤◌, List, length, get_or, ap, ◌∙◌, ℤ, pos, ◌+ℤ◌, nat_abs, arith, w16, w32, w64, SFits, to_z, of_z, rules}
use Rattle.std.proofs.lemmas.Int.{ints, to_z-of_z}
use Rattle.std.proofs.lemmas.List.{get_or_default, length_push}
use Rattle.std.specs.List.{zip}
use Rattle.std.proofs.lemmas.Iterator.{YieldsList-from_slice, YieldsList-from_zip}
use Rattle.std.proofs.lemmas.Iterator.Consumers.{YieldsList-end, YieldsList-turn}
use Rattle.std.proofs.lemmas.Slice.Zip.{get_or-zip, length-zip}
use Rattle.grid.specs.Sums.{sum_below}
use Rattle.grid.proofs.Summed.{sum_more, sum_zero}
use Rattle.fields.specs.Quadrics.{part_at}
use Rattle.fields.proofs.Bounded.{abs_16, abs-add, abs_fits}
use Rattle.fields.proofs.inside.Inside.row.Goals as goal

-- a constant as the loop begins with it, and one part more

started : (c s : ℤ) (f : ℕ → ℤ) → SFits w16 c → s ≡ to_z w16 (of_z w16 c) → (to_z w64 (of_z w64 s) ≡ c +ℤ sum_below f 0) × (nat_abs (to_z w64 (of_z w64 s)) ≤ 2 ^ 35)
started c s f h e =
    let wide : SFits w64 c = abs_fits c (omega (arith, abs_16 c h)) in
    let z : sum_below f 0 ≡ pos 0 = sum_zero f 0 (λ j g. absurd (omega arith)) in
    rw (e, to_z-of_z w16 c h, to_z-of_z w64 c wide) (omega (arith, ints), omega (arith, abs_16 c h))

record Added (c s x : ℤ) (f : ℕ → ℤ) (j : ℕ) : Type 0 where
  fits : SFits w64 (s +ℤ to_z w64 (of_z w64 x))
  is : to_z w64 (of_z w64 (s +ℤ to_z w64 (of_z w64 x))) ≡ c +ℤ sum_below f (j + 1)
  small : nat_abs (to_z w64 (of_z w64 (s +ℤ to_z w64 (of_z w64 x)))) ≤ (j + 1 + 1) * 2 ^ 35

added : (c s x : ℤ) (f : ℕ → ℤ) (j : ℕ) → j < 6 → s ≡ c +ℤ sum_below f j → nat_abs s ≤ (j + 1) * 2 ^ 35 → x ≡ f j → nat_abs x ≤ 2 ^ 35 → Added c s x f j
added c s x f j h e b y l =
    let wide : SFits w64 x = abs_fits x (omega arith) in
    let most : nat_abs (s +ℤ x) ≤ (j + 1 + 1) * 2 ^ 35 = omega (arith, abs-add s x) in
    let fit : SFits w64 (s +ℤ x) = abs_fits (s +ℤ x) (omega arith) in
    let more = sum_more f j in
    let is : s +ℤ x ≡ c +ℤ sum_below f (j + 1) = omega (arith, ints) in
    record {
      fits = rw (to_z-of_z w64 x wide) fit;
      is = rw (to_z-of_z w64 x wide, to_z-of_z w64 (s +ℤ x) fit) is;
      small = rw (to_z-of_z w64 x wide, to_z-of_z w64 (s +ℤ x) fit) most;
    }

pub loop-x-init : goal.loop-x-init
loop-x-init c = started c.args.row.now.constant c.from-sum.result _ (search rules) c.from-sum.ensures

-- a turn's coordinate and coefficients: those of its axis
record Turn (xs us vs : List ℤ) (n : ℕ) (x u v : ℤ) : Type 0 where
  there : n < length xs
  x_is : x ≡ get_or xs n (pos 0)
  u_is : u ≡ get_or us n (pos 0)
  v_is : v ≡ get_or vs n (pos 0)

turn_at : (xs us vs : List ℤ) (n : ℕ) (x u v : ℤ) → n < length (zip (zip xs us) vs) → ((x, u), v) ≡ get_or (zip (zip xs us) vs) n ((x, u), v) → Turn xs us vs n x u v
turn_at xs us vs n x u v h e =
    let outer = length-zip (zip xs us) vs in
    let inner = length-zip xs us in
    let both = e ∙ get_or-zip (zip xs us) vs n ((x, u), v) (omega arith) (omega arith) in
    let first = ap (λ p. p.0) both ∙ get_or-zip xs us n (x, u) (omega arith) (omega arith) in
    record {
      there = omega arith;
      x_is = ap (λ p. p.0) first ∙ get_or_default xs n x (pos 0) (omega arith);
      u_is = ap (λ p. p.1) first ∙ get_or_default us n u (pos 0) (omega arith);
      v_is = ap (λ p. p.1) both ∙ get_or_default vs n v (pos 0) (omega arith);
    }

pub axis_part-sum-requires : goal.axis_part-sum-requires
axis_part-sum-requires c =
    let row = c.args.row.now in
    let at = c.args.self.now.at.now in
    let road = YieldsList-from_zip {s = c.into_iter-x-iterator.result} (YieldsList-from_zip (YieldsList-from_slice at cc) (YieldsList-from_slice row.linear cc)) (YieldsList-from_slice row.square cc) in
    let turn = YieldsList-turn road c.loop-x.yielded _ c.loop-x.yielded_by _ c.next.new.self ((c.in-Some.x, c.in-Some.a), c.in-Some.b) c.in-Some.is c.next.ensures.steps in
    let t = turn_at at row.linear row.square (length c.loop-x.yielded) _ _ _ turn.0 turn.1 in
    let x : SFits w32 c.in-Some.x.now = search rules in
    rw (to_z-of_z w32 c.in-Some.x.now x, t.x_is) (c.args.self.now.on_axes (length c.loop-x.yielded) t.there)

step : (c : goal.After-axis_part-sum) → Added c.args.row.now.constant c.loop-x.sum c.axis_part-sum.result (part_at c.args.row.now c.args.self.now.at.now) (length c.loop-x.yielded)
step c =
    let row = c.args.row.now in
    let at = c.args.self.now.at.now in
    let n = length c.loop-x.yielded in
    let road = YieldsList-from_zip {s = c.into_iter-x-iterator.result} (YieldsList-from_zip (YieldsList-from_slice at cc) (YieldsList-from_slice row.linear cc)) (YieldsList-from_slice row.square cc) in
    let turn = YieldsList-turn road c.loop-x.yielded _ c.loop-x.yielded_by _ c.next.new.self ((c.in-Some.x, c.in-Some.a), c.in-Some.b) c.in-Some.is c.next.ensures.steps in
    let t = turn_at at row.linear row.square n _ _ _ turn.0 turn.1 in
    let a : SFits w16 c.in-Some.a.now = search rules in
    let b : SFits w16 c.in-Some.b.now = search rules in
    let x : SFits w32 c.in-Some.x.now = search rules in
    let part = simp to_z-of_z at c.axis_part-sum.ensures.is in
    added row.constant c.loop-x.sum c.axis_part-sum.result (part_at row at) n (omega (arith, t.there, c.args.self.now.axes)) (rw c.loop-x.sum-is at c.loop-x.invariant.0) (rw c.loop-x.sum-is at c.loop-x.invariant.1) (rw (t.x_is, t.u_is, t.v_is) at part) c.axis_part-sum.ensures.small

pub overflow_add-sum : goal.overflow_add-sum
overflow_add-sum c = rw c.loop-x.sum-is (step c).fits

pub loop-x-preserved : goal.loop-x-preserved
loop-x-preserved c = rw (c.loop-x.sum-is, length_push) ((step c).is, (step c).small)

pub returns : goal.returns
returns c =
    let row = c.args.row.now in
    let at = c.args.self.now.at.now in
    let linear : length row.linear ≡ 6 = search rules in
    let square : length row.square ≡ 6 = search rules in
    let road = YieldsList-from_zip {s = c.into_iter-x-iterator.result} (YieldsList-from_zip (YieldsList-from_slice at cc) (YieldsList-from_slice row.linear cc)) (YieldsList-from_slice row.square cc) in
    let end = YieldsList-end road c.loop-x.yielded _ c.loop-x.yielded_by _ c.next.new.self c.in-None.is c.next.ensures.steps in
    let turns : length c.loop-x.yielded ≡ length at = omega (arith, c.args.self.now.axes, end.1, length-zip (zip at row.linear) row.square, length-zip at row.linear) in
    c.loop-x.invariant.0 ∙ ap (λ n. row.constant +ℤ sum_below (part_at row at) n) turns
