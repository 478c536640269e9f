-- What the test of a frame's numbers says, one by one.
use Rattle.std.proofs.Common.{◌≡◌, ℕ, ◌<◌, ◌≤◌, true, List, length, get_or, ◌∙◌, inl, inr, arith}
use Rattle.std.proofs.lemmas.List.{get_or_default, get_or_past, get_or-take, length-take-le}
use Rattle.std.proofs.lemmas.Bool.{cases_lt, eq-eqb, le-leb, lt-ltb}
use Rattle.std.proofs.lemmas.Bool.Decides.{nat_tests}
use Rattle.grid.specs.Below.{all_below}
use Rattle.grid.specs.Frames.{fitted_sides, is_frame, side_ok, sides_of}
use Rattle.grid.specs.declared.frames.Frame.{Frame}
use Rattle.grid.proofs.Below.{all_at, all_from, get_or-table, length-table}

pub record Framed (d k : ℕ) (sides : List ℕ) : Type 0 where
  pub d_low : 2 ≤ d
  pub d_high : d ≤ 6
  pub k_low : 1 ≤ k
  pub k_high : k ≤ 3
  pub k_below : k < d
  pub long : length sides ≡ d
  pub each : (j : ℕ) → j < d → (1 ≤ get_or sides j 0) × (get_or sides j 0 ≤ 1000)

pub framed : (d k : ℕ) (sides : List ℕ) → is_frame d k sides ≡ true → Framed d k sides
framed d k sides h = record {
  d_low = grind (arith, nat_tests);
  d_high = grind (arith, nat_tests);
  k_low = grind (arith, nat_tests);
  k_high = grind (arith, nat_tests);
  k_below = grind (arith, nat_tests);
  long = long;
  each = each;
}
  where
    long : length sides ≡ d
    long = grind (arith, nat_tests)

    all : all_below (side_ok sides) (length sides) ≡ true
    all = grind (arith, nat_tests)

    each : (j : ℕ) → j < d → (1 ≤ get_or sides j 0) × (get_or sides j 0 ≤ 1000)
    each j g = let e = all_at (side_ok sides) (length sides) all j (omega (arith, long)) in (grind (arith, nat_tests), grind (arith, nat_tests))

pub framed_to : (d k : ℕ) (sides : List ℕ) → Framed d k sides → is_frame d k sides ≡ true
framed_to d k sides f =
    let n = f.long in
    let all = all_from (side_ok sides) (length sides) (λ j h. let e = f.each j (omega arith) in grind (arith, nat_tests)) in
    let a = le-leb _ _ f.d_low in
    let b = le-leb _ _ f.d_high in
    let c = le-leb _ _ f.k_low in
    let e = le-leb _ _ f.k_high in
    let g = lt-ltb _ _ f.k_below in
    let m = eq-eqb _ _ n in
    grind (arith, a, b, c, e, g, m, all)

-- the sides of a frame

pub length-sides : (f : Frame) → length (sides_of f) ≡ f.d
length-sides f = let h : f.d ≤ length f.sides = omega arith in length-take-le f.d f.sides h

pub side_most : (f : Frame) (j : ℕ) → j < f.d → get_or (sides_of f) j 0 ≤ 1000
side_most f j h = rw (get_or-take f.d f.sides j 0 h) (f.side_high j h)

pub side_or_one : (f : Frame) (j : ℕ) → (1 ≤ get_or (sides_of f) j 1) × (get_or (sides_of f) j 1 ≤ 1000)
side_or_one f j = elim (cases_lt j f.d) [ inl h ↦ used h | inr h ↦ (let e : get_or (sides_of f) j 1 ≡ 1 = get_or_past (sides_of f) j 1 (omega (arith, length-sides f)) in (omega arith, omega arith)) ]
  where
    used : j < f.d → (1 ≤ get_or (sides_of f) j 1) × (get_or (sides_of f) j 1 ≤ 1000)
    used h =
        let n = length-sides f in
        let e : get_or (sides_of f) j 1 ≡ get_or f.sides j 0 = get_or_default (sides_of f) j 1 0 (omega arith) ∙ get_or-take f.d f.sides j 0 h in
        let low = f.side_low j h in
        let high = f.side_high j h in
        (omega arith, omega arith)

-- a frame's own numbers, and those with the sides of another, are a frame's

pub frame_is : (f : Frame) → is_frame f.d f.k (sides_of f) ≡ true
frame_is f = framed_to f.d f.k (sides_of f) (record {
  d_low = f.d_low;
  d_high = f.d_high;
  k_low = f.k_low;
  k_high = f.k_high;
  k_below = f.k_below;
  long = length-sides f;
  each = λ j h. rw (get_or-take f.d f.sides j 0 h) (f.side_low j h, f.side_high j h);
})

pub fitted_is : (d k : ℕ) (ss sides : List ℕ) → is_frame d k sides ≡ true → ((j : ℕ) → (1 ≤ get_or ss j 1) × (get_or ss j 1 ≤ 1000)) → is_frame d k (fitted_sides d ss) ≡ true
fitted_is d k ss sides h each =
    let f = framed d k sides h in
    framed_to d k (fitted_sides d ss) (record {
      d_low = f.d_low;
      d_high = f.d_high;
      k_low = f.k_low;
      k_high = f.k_high;
      k_below = f.k_below;
      long = length-table d (λ j. get_or ss j 1);
      each = λ j g. rw (get_or-table d (λ j. get_or ss j 1) j 0 g) (each j);
    })
