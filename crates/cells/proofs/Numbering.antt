-- Distinct numbers give distinct cofacets: a cofacet tells which part was split and what A was, and no split is listed twice.
use Rattle.std.proofs.Common.{◌≡◌, ℕ, zero, suc, ◌+◌, ◌-◌, ◌<◌, ◌≤◌, Bool, true, false, cond, not, ◌&&◌, eqb, List, [], ◌∷◌, ◌++◌, length, get_or, ℤ, pos, ◌-ℤ◌, sym, refl, ap, ◌∙◌, subst, ap₂, inl, inr, add-one, arith}
use Rattle.std.proofs.lemmas.List.{get_or_append_left, get_or-map, get_or_push, length-map, length_push}
use Rattle.std.proofs.lemmas.Int.{ints}
use Rattle.std.proofs.lemmas.Bool.{cases_Bool, cases_eq, cases_lt, cases_order, eq-eqb}
use Rattle.std.proofs.lemmas.Bool.Decides.{nat_tests}
use Rattle.cells.specs.Cells.{IsCell}
use Rattle.cells.specs.Chosen.{chosen}
use Rattle.cells.specs.Cofacets.{cofacet_base, cofacet_by, cofacet_label, cofacet_of, split_part, turned_part, turns}
use Rattle.cells.specs.Records.{base_at, label}
use Rattle.cells.specs.Splits.{holds, is_split, no_split, split_at, split_by, splits, splits_of, splits_to}
use Rattle.cells.specs.declared.records.CellRecord.{CellRecord}
use Rattle.cells.specs.declared.splits.Split.{Split}
use Rattle.cells.proofs.Choosing.{chosen_at}
use Rattle.cells.proofs.Coding.{same_code}
use Rattle.cells.proofs.Facing.{nth_divides}
use Rattle.cells.proofs.Listing.{at_here, length_more, splits_at, splits_more, splits_none}
use Rattle.cells.proofs.Splitting.{base_cofacet, Divides, label_cofacet, turns_last}

turned_tells : (p : ℕ) (m m' : Bool) → 1 ≤ p → turned_part p m p ≡ turned_part p m' p → m ≡ m'
turned_tells p true true h e = refl
turned_tells p true false h e = absurd (grind (arith, nat_tests))
turned_tells p false true h e = absurd (grind (arith, nat_tests))
turned_tells p false false h e = refl

split_tells : (p : ℕ) (m m' : Bool) → 1 ≤ p → split_part p m p ≡ split_part p m' p → m ≡ m'
split_tells p true true h e = refl
split_tells p true false h e = absurd (grind (arith, nat_tests))
split_tells p false true h e = absurd (grind (arith, nat_tests))
split_tells p false false h e = refl

-- the part that is split is told split_by its B
split_part_lem : (p p' : ℕ) (m : Bool) → p < p' → split_part p false p ≡ split_part p' m p → ⊥
split_part_lem p p' true h e = grind (arith, nat_tests)
split_part_lem p p' false h e = grind (arith, nat_tests)

down : (z : ℤ) → z -ℤ pos 1 ≡ z -ℤ pos 0 → ⊥
down z e = omega (arith, ints)

module _ (r : CellRecord) (cell : IsCell r) where
  -- A is told split_by its members in part p
  one_part : (p a a' : ℕ) → Divides r p a → Divides r p a' → a < 128 → a' < 128 → ((j : ℕ) → label r j ≡ p → holds a j ≡ holds a' j) → a ≡ a'
  one_part p a a' sp sp' h h' s = same_code 7 a a' h h' at
    where
      off : (a : ℕ) → Divides r p a → (j : ℕ) → j < 7 → (label r j ≡ p → ⊥) → holds a j ≡ false
      off a sp j g n = elim (cases_Bool (holds a j)) [ inl m ↦ absurd (n (sp.within j g m)) | inr m ↦ m ]

      at : (j : ℕ) → j < 7 → holds a j ≡ holds a' j
      at j g = elim (cases_eq (label r j) p) [ inl e ↦ s j e | inr n ↦ off a sp j g n ∙ sym (off a' sp' j g n) ]

  Labels : (p a p' a' : ℕ) → Type 0
  Labels p a p' a' = (j : ℕ) → cofacet_label r p a j ≡ cofacet_label r p' a' j

  on : (p a j : ℕ) (w : Bool) → turns r a ≡ w → cofacet_label r p a j ≡ cond w (turned_part p (holds a j) (label r j)) (split_part p (holds a j) (label r j))
  on p a j w e = ap (λ b. cond b (turned_part p (holds a j) (label r j)) (split_part p (holds a j) (label r j))) e

  -- only one of them turns: the base tells
  turns_one : (p a p' a' : ℕ) → Divides r p a → turns r a ≡ true → turns r a' ≡ false → ((j : ℕ) → cofacet_base r p a j ≡ cofacet_base r p' a' j) → ⊥
  turns_one p a p' a' sp w w' b =
      let o = sp.other in
      let j = o.0 in
      let t : (turns r a && (eqb (label r j) p && not (holds a j))) ≡ true = rw (w, eq-eqb _ _ o.2, o.3) refl in
      let u : (turns r a' && (eqb (label r j) p' && not (holds a' j))) ≡ false = rw w' refl in
      down (base_at r j) (sym (ap (λ c. base_at r j -ℤ pos (cond c 1 0)) t) ∙ b j ∙ ap (λ c. base_at r j -ℤ pos (cond c 1 0)) u)

  part_lt : (p a p' a' : ℕ) → Divides r p a → turns r a ≡ false → turns r a' ≡ false → Labels p a p' a' → p < p' → ⊥
  unfolding Labels
  part_lt p a p' a' sp w w' l h =
      let o = sp.other in
      let j = o.0 in
      split_part_lem p p' (holds a' j) h (sym (ap₂ (split_part p) o.3 o.2) ∙ sym (on p a j false w) ∙ l j ∙ on p' a' j false w' ∙ ap (split_part p' (holds a' j)) o.2)

  same_split : (p a p' a' : ℕ) → Divides r p a → Divides r p' a' → a < 128 → a' < 128 → cofacet_by r p a ≡ cofacet_by r p' a' → (p ≡ p') × (a ≡ a')
  unfolding Labels
  same_split p a p' a' sp sp' h h' e = elim (cases_Bool (turns r a)) [ inl w ↦ (elim (cases_Bool (turns r a')) [ inl w' ↦ both w w' | inr w' ↦ absurd (turns_one p a p' a' sp w w' bases) ]) | inr w ↦ (elim (cases_Bool (turns r a')) [ inl w' ↦ absurd (turns_one p' a' p a sp' w' w (λ j. sym (bases j))) | inr w' ↦ neither w w' ]) ]
    where
      labels : Labels p a p' a'
      labels j = sym (label_cofacet r cell p a sp j) ∙ ap (λ (f : CellRecord). label f j) e ∙ label_cofacet r cell p' a' sp' j

      bases : (j : ℕ) → cofacet_base r p a j ≡ cofacet_base r p' a' j
      bases j = sym (base_cofacet r cell p a sp j) ∙ ap (λ (f : CellRecord). base_at f j) e ∙ base_cofacet r cell p' a' sp' j

      code : (q : p ≡ p') → ((j : ℕ) → label r j ≡ p → holds a j ≡ holds a' j) → (p ≡ p') × (a ≡ a')
      code q s = (q, one_part p a a' sp (subst (λ x. Divides r x a') (sym q) sp') h h' s)

      both : turns r a ≡ true → turns r a' ≡ true → (p ≡ p') × (a ≡ a')
      both w w' =
          let q : p ≡ p' = turns_last r cell p a sp w ∙ sym (turns_last r cell p' a' sp' w') in
          code q (λ j g. turned_tells p _ _ sp.first (sym (ap (turned_part p (holds a j)) g) ∙ sym (on p a j true w) ∙ labels j ∙ on p' a' j true w' ∙ ap₂ (λ x y. turned_part x (holds a' j) y) (sym q) g))

      neither : turns r a ≡ false → turns r a' ≡ false → (p ≡ p') × (a ≡ a')
      neither w w' = elim (cases_order p p') [ inl q ↦ code q (λ j g. split_tells p _ _ sp.first (sym (ap (split_part p (holds a j)) g) ∙ sym (on p a j false w) ∙ labels j ∙ on p' a' j false w' ∙ ap₂ (λ x y. split_part x (holds a' j) y) (sym q) g)) | inr q ↦ (elim q [ inl u ↦ absurd (part_lt p a p' a' sp w w' labels u) | inr u ↦ absurd (part_lt p' a' p a sp' w' w (λ j. sym (labels j)) u) ]) ]

-- the chosen numbers ascend
push_up : (n : ℕ) (xs : List ℕ) (b : Bool) → ((c : ℕ) → c < length xs → get_or xs c 0 < n) → ((c k : ℕ) → c < k → k < length xs → get_or xs c 0 < get_or xs k 0) → (c k : ℕ) → c < k → k < length (cond b (xs ++ n ∷ []) xs) → get_or (cond b (xs ++ n ∷ []) xs) c 0 < get_or (cond b (xs ++ n ∷ []) xs) k 0
push_up n xs false low up c k h g = up c k h g
push_up n xs true low up c k h g =
    let e = length_push xs n in
    let u : c < length xs = omega arith in
    elim (cases_lt k (length xs)) [ inl v ↦ rw (get_or_append_left xs (n ∷ []) 0 c u, get_or_append_left xs (n ∷ []) 0 k v) (up c k h v) | inr v ↦ (let f : length xs ≡ k = omega arith in rw (get_or_append_left xs (n ∷ []) 0 c u, get_or_push xs n 0 k f) (low c u)) ]

chosen_up : (p : ℕ → Bool) (n c k : ℕ) → c < k → k < length (chosen p n) → get_or (chosen p n) c 0 < get_or (chosen p n) k 0
unfolding chosen
chosen_up p zero c k h g = absurd (omega arith)
chosen_up p (suc n) c k h g = push_up n (chosen p n) (p n) (λ c u. (chosen_at p n c u).0) (chosen_up p n) c k h g

-- so no split comes twice
part_apart : (r : CellRecord) (p t u : ℕ) → t < u → u < length (splits_of r p) → get_or (splits_of r p) t no_split ≡ get_or (splits_of r p) u no_split → ⊥
part_apart r p t u h g e =
    let m = length-map (chosen (is_split r p) 128) (split_by p) in
    let v : u < length (chosen (is_split r p) 128) = omega arith in
    let w : t < length (chosen (is_split r p) 128) = omega arith in
    let x = chosen_up (is_split r p) 128 t u h v in
    let f = ap (λ (s : Split). s.code) (sym (get_or-map (split_by p) (chosen (is_split r p) 128) t 0 no_split w) ∙ e ∙ get_or-map (split_by p) (chosen (is_split r p) 128) u 0 no_split v) in
    omega arith

part_is : (r : CellRecord) (p t : ℕ) → t < length (splits_of r p) → (get_or (splits_of r p) t no_split).part ≡ p
part_is r p t h =
    let m = length-map (chosen (is_split r p) 128) (split_by p) in
    ap (λ (s : Split). s.part) (get_or-map (split_by p) (chosen (is_split r p) 128) t 0 no_split (omega arith))

splits_apart : (r : CellRecord) (n c k : ℕ) → c < k → k < length (splits_to r n) → get_or (splits_to r n) c no_split ≡ get_or (splits_to r n) k no_split → ⊥
splits_apart r zero c k h g e = omega (arith, splits_none r)
splits_apart r (suc n) c k h g e = subst (λ x. k < length (splits_to r x) → get_or (splits_to r x) c no_split ≡ get_or (splits_to r x) k no_split → ⊥) (add-one n) (go (splits_apart r n c k h)) g e
  where
    front : (i : ℕ) → i < length (splits_to r n) → get_or (splits_to r (n + 1)) i no_split ≡ get_or (splits_to r n) i no_split
    front i u = ap (λ xs. get_or xs i no_split) (splits_more r n) ∙ get_or_append_left _ _ no_split i u

    back : (i : ℕ) → length (splits_to r n) ≤ i → i < length (splits_to r (n + 1)) → (i - length (splits_to r n) < length (splits_of r (n + 1))) × (get_or (splits_to r (n + 1)) i no_split ≡ get_or (splits_of r (n + 1)) (i - length (splits_to r n)) no_split)
    back i u v =
        let l = length_more r n in
        let w : i - length (splits_to r n) < length (splits_of r (n + 1)) = omega arith in
        (w, (at_here r n (i - length (splits_to r n)) i w (omega arith)).is)

    go : (k < length (splits_to r n) → get_or (splits_to r n) c no_split ≡ get_or (splits_to r n) k no_split → ⊥) → k < length (splits_to r (n + 1)) → get_or (splits_to r (n + 1)) c no_split ≡ get_or (splits_to r (n + 1)) k no_split → ⊥
    go ih g e = elim (cases_lt k (length (splits_to r n))) [ inl u ↦ ih u (sym (front c (omega arith)) ∙ e ∙ front k u) | inr u ↦ (let b = back k u g in elim (cases_lt c (length (splits_to r n))) [ inl v ↦ mixed v b | inr v ↦ (let d = back c v (omega arith) in part_apart r (n + 1) _ _ (omega arith) b.0 (sym d.1 ∙ e ∙ b.1)) ]) ]
      where
        mixed : c < length (splits_to r n) → (k - length (splits_to r n) < length (splits_of r (n + 1))) × (get_or (splits_to r (n + 1)) k no_split ≡ get_or (splits_of r (n + 1)) (k - length (splits_to r n)) no_split) → ⊥
        mixed v b =
            let f = (splits_at r n c v).final in
            let x : (get_or (splits_to r n) c no_split).part ≡ n + 1 = ap (λ (s : Split). s.part) (sym (front c v) ∙ e ∙ b.1) ∙ part_is r (n + 1) _ b.0 in
            omega arith

-- a cofacet has one number only
pub one_number : (r : CellRecord) → IsCell r → (c k : ℕ) → c < length (splits r) → k < length (splits r) → cofacet_of r c ≡ cofacet_of r k → c ≡ k
one_number r cell c k g f e =
    let x = splits_at r (r.l + 1) c g in
    let y = splits_at r (r.l + 1) k f in
    let s = same_split r cell _ _ _ _ (nth_divides r c g) (nth_divides r k f) x.code y.code e in
    let u : split_at r c ≡ split_at r k = ap₂ split_by s.0 s.1 in
    elim (cases_order c k) [
      | inl q ↦ q
      | inr q ↦ (elim q [ inl v ↦ absurd (splits_apart r (r.l + 1) c k v f u) | inr v ↦ absurd (splits_apart r (r.l + 1) k c v g (sym u)) ])
    ]
