-- Tests of the numbers below a bound say what they say of each number; a table holds its function at each place.
use Rattle.std.proofs.Common.{◌≡◌, ℕ, ◌<◌, ◌≤◌, Bool, true, cond, ltb, List, length, get_or, take, refl, ap, ◌∙◌, zero-add, arith}
use Rattle.std.proofs.lemmas.List.FromFn.{fill_by_all, length-map-range_with_len, get_or-map-range_with_len}
use Rattle.std.proofs.lemmas.List.{get_or_past, get_or-take, length-take-le}
use Rattle.std.proofs.lemmas.Bool.{lt-ltb}
use Rattle.std.proofs.lemmas.Bool.Decides.{Decides-below_and, Decides-below_or}
use Rattle.grid.specs.Below.{all_below, some_below, table}

-- what the tests say, both ways

pub all_at : (p : ℕ → Bool) (n : ℕ) → all_below p n ≡ true → (k : ℕ) → k < n → p k ≡ true
unfolding all_below
all_at p n = (Decides-below_and p (λ k. p k ≡ true) (all_below p) (λ k. (λ h. h, λ h. h)) refl (λ _. refl) n).0

pub all_from : (p : ℕ → Bool) (n : ℕ) → ((k : ℕ) → k < n → p k ≡ true) → all_below p n ≡ true
unfolding all_below
all_from p n = (Decides-below_and p (λ k. p k ≡ true) (all_below p) (λ k. (λ h. h, λ h. h)) refl (λ _. refl) n).1

pub some_at : (p : ℕ → Bool) (n : ℕ) → some_below p n ≡ true → (k : ℕ) × (k < n) × (p k ≡ true)
unfolding some_below
some_at p n = (Decides-below_or p (λ k. p k ≡ true) (some_below p) (λ k. (λ h. h, λ h. h)) refl (λ _. refl) n).0

pub some_from : (p : ℕ → Bool) (n k : ℕ) → k < n → p k ≡ true → some_below p n ≡ true
unfolding some_below
some_from p n k h e = (Decides-below_or p (λ k. p k ≡ true) (some_below p) (λ k. (λ h. h, λ h. h)) refl (λ _. refl) n).1 (k, h, e)

-- tables

pub length-table : {X : Type 0} (n : ℕ) (f : ℕ → X) → length (table n f) ≡ n
unfolding table
length-table n f = length-map-range_with_len f 0 n

pub get_or-table : {X : Type 0} (n : ℕ) (f : ℕ → X) (k : ℕ) (o : X) → k < n → get_or (table n f) k o ≡ f k
unfolding table
get_or-table n f k o h = get_or-map-range_with_len f 0 n k k o h (zero-add k)

pub past_table : {X : Type 0} (n : ℕ) (f : ℕ → X) (k : ℕ) (o : X) → n ≤ k → get_or (table n f) k o ≡ o
past_table n f k o h = get_or_past (table n f) k o (rw length-table h)

-- a list that holds f at each place is the table of f
pub table_from : {X : Type 0} (n : ℕ) (f : ℕ → X) (xs : List X) (o : X) → length xs ≡ n → ((k : ℕ) → k < n → get_or xs k o ≡ f k) → xs ≡ table n f
unfolding table
table_from n f xs o e h = fill_by_all f xs n o e h

pub same_table : {X : Type 0} (n : ℕ) (f g : ℕ → X) (o : X) → ((k : ℕ) → k < n → f k ≡ g k) → table n f ≡ table n g
same_table n f g o h = table_from n g (table n f) o (length-table n f) (λ k e. get_or-table n f k o e ∙ h k e)

-- a table with one value past place m, cut at m
pub front-table : {X : Type 0} (n m : ℕ) (f : ℕ → X) (o : X) → m ≤ n → take m (table n (λ k. cond (ltb k m) (f k) o)) ≡ table m f
front-table n m f o h =
    let xs = table n (λ k. cond (ltb k m) (f k) o) in
    let long = length-table n (λ k. cond (ltb k m) (f k) o) in
    let le : m ≤ length (table n (λ k. cond (ltb k m) (f k) o)) = omega arith in
    table_from m f (take m xs) o (length-take-le m xs le) (λ k g.
    get_or-take m xs k o g ∙ get_or-table n (λ k. cond (ltb k m) (f k) o) k o (omega arith) ∙ ap (λ b. cond b (f k) o) (lt-ltb k m g))

pub cut-table : {X : Type 0} (n m : ℕ) (f : ℕ → X) (o : X) → m ≤ n → take m (table n f) ≡ table m f
cut-table n m f o h =
    let long = length-table n f in
    let le : m ≤ length (table n f) = omega arith in
    table_from m f (take m (table n f)) o (length-take-le m (table n f) le) (λ k g. get_or-take m (table n f) k o g ∙ get_or-table n f k o (omega arith))
