-- The vertices of a box and their numbers: along each axis, a number is a digit below side + 1 and the number along the axes
-- after it, so equal numbers have equal digits.
use Rattle.std.proofs.Common.{◌≡◌, ℕ, suc, ◌+◌, ◌-◌, ◌*◌, ◌/◌, ◌%◌, ◌^◌, ◌<◌, ◌≤◌, Bool, true, false, cond, List, [], ◌∷◌, ◌++◌, length, get_or, take, ℤ, pos, negsuc, nat_abs, Some, None, sym, refl, ap, ◌∙◌, ap₂, mul-le-mul_right, mul_comm, add_comm, add-one, arith}
use native.Mathlib.Nat.{mul-add, mul-one, mul-zero, mul_assoc, one-mul, pow-le-pow_right, pow-succ'}
use lib.Arith.{digits_div, digits_lt, digits_mod}
use Rattle.std.proofs.lemmas.List.{drop_all, drop_more, get_or-take, length-take-le, take-append-drop}
use Rattle.std.proofs.lemmas.Bool.{eq-eqb}
use Rattle.std.proofs.lemmas.Bool.Decides.{nat_tests}
use Rattle.grid.specs.Below.{all_below}
use Rattle.grid.specs.Boxes.{axis_has, in_box, on_axis, OnlyNumber, place_answer, place_number, vertex_count}
use Rattle.grid.specs.Frames.{sides_of}
use Rattle.grid.specs.Vertices.{coordinates_of}
use Rattle.grid.specs.declared.frames.Frame.{Frame}
use Rattle.grid.specs.declared.vertices.Vertex.{Vertex}
use Rattle.grid.proofs.Below.{all_at, all_from}
use Rattle.grid.proofs.Framed.{length-sides, side_most}
use Rattle.grid.proofs.Vertexes.{same_vertex_lem}

-- what the test of the box says, both ways

pub record InBox (sides : List ℕ) (v : List ℤ) : Type 0 where
  pub axes : length v ≡ length sides
  pub each : (j : ℕ) → j < length sides → on_axis (get_or sides j 0) (get_or v j (pos 0)) ≡ true

pub in_box_lem : (sides : List ℕ) (v : List ℤ) → in_box sides v ≡ true → InBox sides v
in_box_lem sides v h = record { axes = grind (arith, nat_tests); each = all_at (axis_has sides v) (length sides) all }
  where
    all : all_below (axis_has sides v) (length sides) ≡ true
    all = grind (arith, nat_tests)

in_box_rest : (s : ℕ) (ss : List ℕ) (x : ℤ) (xs : List ℤ) → InBox (s ∷ ss) (x ∷ xs) → InBox ss xs
in_box_rest s ss x xs i = record { axes = let e = i.axes in omega arith; each = λ j h. i.each (suc j) (omega arith) }

-- a coordinate on its axis is a number up to the side

pub on_axis_is : (s : ℕ) (x : ℤ) → on_axis s x ≡ true → (x ≡ pos (nat_abs x)) × (nat_abs x ≤ s)
on_axis_is s (pos n) h = (refl, grind (arith, nat_tests))
on_axis_is s (negsuc n) h = absurd (grind (arith, nat_tests))

-- each vertex of the box has its own number, below the number of vertices

digit_first : (x p m : ℕ) → x + m * p ≡ p * m + x
digit_first x p m = add_comm x (m * p) ∙ ap (λ n. n + x) (mul_comm m p)

pub place_below : (sides : List ℕ) (v : List ℤ) → InBox sides v → place_number sides v < vertex_count sides
place_below [] v i = omega arith
place_below (s ∷ ss) [] i = absurd (let e = i.axes in omega arith)
place_below (s ∷ ss) (x ∷ xs) i =
    let rest = place_below ss xs (in_box_rest s ss x xs i) in
    let x-le = (on_axis_is s x (i.each 0 (omega arith))).1 in
    let lt : place_number ss xs * (s + 1) + nat_abs x < vertex_count ss * (s + 1) = digits_lt rest (omega arith) in
    rw (digit_first (nat_abs x) (place_number ss xs) (s + 1), mul_comm (s + 1) (vertex_count ss)) lt

pub place_tells : (sides : List ℕ) (v w : List ℤ) → InBox sides v → InBox sides w → place_number sides v ≡ place_number sides w → v ≡ w
place_tells [] [] [] i k e = refl
place_tells [] [] (y ∷ ys) i k e = absurd (let h = k.axes in omega arith)
place_tells [] (x ∷ xs) w i k e = absurd (let h = i.axes in omega arith)
place_tells (s ∷ ss) [] w i k e = absurd (let h = i.axes in omega arith)
place_tells (s ∷ ss) (x ∷ xs) [] i k e = absurd (let h = k.axes in omega arith)
place_tells (s ∷ ss) (x ∷ xs) (y ∷ ys) i k e = ap₂ (λ z zs. z ∷ zs) first (place_tells ss xs ys (in_box_rest s ss x xs i) (in_box_rest s ss y ys k) rest)
  where
    on_x : (x ≡ pos (nat_abs x)) × (nat_abs x ≤ s)
    on_x = on_axis_is s x (i.each 0 (omega arith))

    on_y : (y ≡ pos (nat_abs y)) × (nat_abs y ≤ s)
    on_y = on_axis_is s y (k.each 0 (omega arith))

    same : place_number ss xs * (s + 1) + nat_abs x ≡ place_number ss ys * (s + 1) + nat_abs y
    same = sym (digit_first (nat_abs x) (place_number ss xs) (s + 1)) ∙ e ∙ digit_first (nat_abs y) (place_number ss ys) (s + 1)

    x_lt : nat_abs x < s + 1
    x_lt = omega (arith, on_x.1)

    y_lt : nat_abs y < s + 1
    y_lt = omega (arith, on_y.1)

    rest : place_number ss xs ≡ place_number ss ys
    rest = sym (digits_div (place_number ss xs) x_lt) ∙ ap (λ n. n / (s + 1)) same ∙ digits_div (place_number ss ys) y_lt

    first : x ≡ y
    first = on_x.0 ∙ ap pos (sym (digits_mod (place_number ss xs) x_lt) ∙ ap (λ n. n % (s + 1)) same ∙ digits_mod (place_number ss ys) y_lt) ∙ sym on_y.0

-- the answer of a call is Some only in the box
answer_some : (sides : List ℕ) (v : List ℤ) (n : ℕ) → place_answer sides v ≡ Some n → (in_box sides v ≡ true) × (place_number sides v ≡ n)
answer_some sides v n h = go (in_box sides v) refl h
  where
    go : (b : Bool) → in_box sides v ≡ b → cond b (Some (place_number sides v)) None ≡ Some n → (in_box sides v ≡ true) × (place_number sides v ≡ n)
    go true e f = (e, (cc))
    go false e f = absurd (let z : ◌≡◌ {A = ℕ} 0 1 = cc in omega arith)

pub only_number : (sides : List ℕ) (v : Vertex) → in_box sides (coordinates_of v) ≡ true → OnlyNumber sides v (place_number sides (coordinates_of v))
only_number sides v i w h =
    let a = answer_some sides (coordinates_of w) (place_number sides (coordinates_of v)) h in
    same_vertex_lem w v (place_tells sides (coordinates_of w) (coordinates_of v) (in_box_lem _ _ a.0) (in_box_lem _ _ i) a.1)

-- a box has at most 1,001 vertices for each axis

pub bound_most : (n m : ℕ) → n ≤ m → 1001 ^ n ≤ 1001 ^ m
bound_most n m h = pow-le-pow_right (omega arith) h

count_most : (sides : List ℕ) → ((j : ℕ) → j < length sides → get_or sides j 0 ≤ 1000) → vertex_count sides ≤ 1001 ^ length sides
count_most [] h = omega arith
count_most (s ∷ ss) h =
    let n : vertex_count ss ≤ 1001 ^ length ss = count_most ss (λ j g. h (suc j) (omega arith)) in
    let low : s ≤ 1000 = h 0 (omega arith) in
    let a : (s + 1) * vertex_count ss ≤ 1001 * vertex_count ss = mul-le-mul_right (vertex_count ss) (omega arith) in
    rw (pow-succ' 1001 (length ss)) (omega arith)

-- the axes before the last: a slice without its last place

abbrev pub Before : {X : Type 0} → List X → List X
Before xs = take (length xs - 1) xs

pub length-before : {X : Type 0} (xs : List X) → length (Before xs) ≡ length xs - 1
length-before xs = length-take-le (length xs - 1) xs (omega arith)

before_last : {X : Type 0} (xs : List X) (o : X) → 1 ≤ length xs → xs ≡ Before xs ++ get_or xs (length xs - 1) o ∷ []
before_last xs o h =
    let more = drop_more xs (length xs - 1) o (omega arith) in
    let none = drop_all (length xs - 1 + 1) xs (omega arith) in
    sym (take-append-drop (length xs - 1) xs) ∙ ap (λ ys. Before xs ++ ys) (more ∙ ap (λ ys. get_or xs (length xs - 1) o ∷ ys) none)

in_box_from : (sides : List ℕ) (v : List ℤ) → InBox sides v → in_box sides v ≡ true
in_box_from sides v i =
    let n = eq-eqb _ _ i.axes in
    let all = all_from (axis_has sides v) (length sides) i.each in
    grind (arith, n, all)

pub in_box_before : (sides : List ℕ) (v : List ℤ) → in_box sides v ≡ true → in_box (Before sides) (Before v) ≡ true
in_box_before sides v h =
    let b = in_box_lem sides v h in
    let axes = b.axes in
    let long = length-before sides in
    let wide = length-before v in
    in_box_from (Before sides) (Before v) (record {
      axes = omega arith;
      each = λ j l.
          let below : j < length sides - 1 = omega arith in
          let near : j < length v - 1 = omega arith in
          ap₂ on_axis (get_or-take (length sides - 1) sides j 0 below) (get_or-take (length v - 1) v j (pos 0) near) ∙ b.each j (omega arith);
    })

pub short_before : (sides : List ℕ) → ((j : ℕ) → j < length sides → get_or sides j 0 ≤ 1000) → (j : ℕ) → j < length (Before sides) → get_or (Before sides) j 0 ≤ 1000
short_before sides h j l =
    let long = length-before sides in
    rw (get_or-take (length sides - 1) sides j 0 (omega arith)) (h j (omega arith))

pub last_on_axis : (sides : List ℕ) (v : List ℤ) → InBox sides v → 1 ≤ length sides → on_axis (get_or sides (length sides - 1) 0) (get_or v (length v - 1) (pos 0)) ≡ true
last_on_axis sides v b h =
    let axes = b.axes in
    let e : length v - 1 ≡ length sides - 1 = omega arith in
    rw e (b.each (length sides - 1) (omega arith))

-- what one axis more adds, where it comes last

further : (a c p v q w : ℕ) → p + v ≡ q + w → a + c * p + c * v ≡ a + c * q + c * w
further a c p v q w e =
    let l = mul-add c p v in
    let r = mul-add c q w in
    let m = ap (λ n. c * n) e in
    omega arith

place_ended : (ss : List ℕ) (s : ℕ) (xs : List ℤ) (x : ℤ) (n : ℕ) → length xs ≡ length ss → place_number (ss ++ s ∷ []) (xs ++ x ∷ []) + vertex_count (ss ++ s ∷ []) * n ≡ place_number ss xs + vertex_count ss * (nat_abs x + (s + 1) * n)
place_ended [] s [] x n e =
    let a = mul-one (s + 1) in
    let b = mul-zero (s + 1) in
    let c = one-mul (nat_abs x + (s + 1) * n) in
    rw (a, b, c) (omega arith)
place_ended [] s (y ∷ ys) x n e = absurd (omega arith)
place_ended (t ∷ ss) s [] x n e = absurd (omega arith)
place_ended (t ∷ ss) s (y ∷ xs) x n e =
    let m = nat_abs x + (s + 1) * n in
    rw (mul_assoc (t + 1) (vertex_count (ss ++ s ∷ [])) n, mul_assoc (t + 1) (vertex_count ss) m)
    (further (nat_abs y) (t + 1) (place_number (ss ++ s ∷ []) (xs ++ x ∷ [])) (vertex_count (ss ++ s ∷ []) * n) (place_number ss xs) (vertex_count ss * m) (place_ended ss s xs x n (omega arith)))

-- the number along all axes and those after them, from the last axis on
pub place_last : (ss : List ℕ) (v : List ℤ) (n : ℕ) → 1 ≤ length ss → length v ≡ length ss → place_number ss v + vertex_count ss * n ≡ place_number (Before ss) (Before v) + vertex_count (Before ss) * (nat_abs (get_or v (length v - 1) (pos 0)) + (get_or ss (length ss - 1) 0 + 1) * n)
place_last ss v n h e =
    let long = length-before ss in
    let wide = length-before v in
    let s = before_last ss 0 h in
    let x = before_last v (pos 0) (omega arith) in
    ap₂ (λ rs ys. place_number rs ys + vertex_count rs * n) s x
    ∙ place_ended (Before ss) (get_or ss (length ss - 1) 0) (Before v) (get_or v (length v - 1) (pos 0)) n (omega arith)

-- one axis more in a bound by powers of 1,001
pub bound_more : (s x p n : ℕ) → x ≤ s → s ≤ 1000 → p < 1001 ^ n → x + (s + 1) * p < 1001 ^ (n + 1)
bound_more s x p n xs sl pn =
    let a : (s + 1) * p ≤ 1001 * p = mul-le-mul_right p (omega arith) in
    rw (add-one n, pow-succ' 1001 n) (omega arith)

-- a frame's box has fewer than 2^60 vertices

pub count_small : (f : Frame) → vertex_count (sides_of f) < 2 ^ 60
count_small f =
    let long = length-sides f in
    let high = f.d_high in
    let most : vertex_count (sides_of f) ≤ 1001 ^ length (sides_of f) = count_most (sides_of f) (λ j h. side_most f j (omega arith)) in
    let six : 1001 ^ length (sides_of f) ≤ 1001 ^ 6 = bound_most (length (sides_of f)) 6 (omega arith) in
    omega arith

-- a vertex of a frame's box has up to six coordinates, each from 0 to 1,000

on_longer_axis : (s t : ℕ) (x : ℤ) → s ≤ t → on_axis s x ≡ true → on_axis t x ≡ true
on_longer_axis s t (pos n) h e = grind (arith, nat_tests)
on_longer_axis s t (negsuc n) h e = e

pub box_short : (f : Frame) (v : List ℤ) → in_box (sides_of f) v ≡ true → (length v ≤ 6) × ((j : ℕ) → j < length v → on_axis 1000 (get_or v j (pos 0)) ≡ true)
box_short f v h =
    let b = in_box_lem (sides_of f) v h in
    let long = length-sides f in
    let axes = b.axes in
    let high = f.d_high in
    (omega arith, λ j g. on_longer_axis (get_or (sides_of f) j 0) 1000 (get_or v j (pos 0)) (side_most f j (omega arith)) (b.each j (omega arith)))
