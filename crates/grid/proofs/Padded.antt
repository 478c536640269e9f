-- Up to six numbers at the front of an array of six, and one number in the places past them.
use Rattle.std.proofs.Common.{◌≡◌, ℕ, ◌-◌, ◌≤◌, List, ◌++◌, length, get_or, replicate, sym, refl, ◌∙◌, inl, inr, arith}
use Rattle.std.proofs.lemmas.List.{get_or_append_left, get_or-append_right, get_or_past, get_or-replicate, length-append, length-replicate}
use Rattle.std.proofs.lemmas.Bool.{cases_lt}
use Rattle.grid.specs.Below.{table}
use Rattle.grid.proofs.Below.{table_from}

abbrev pub padded : {X : Type 0} → List X → X → List X
padded xs o = xs ++ replicate (6 - length xs) o

-- what stands where

pub length-padded : {X : Type 0} (xs : List X) (o : X) → length xs ≤ 6 → length (padded xs o) ≡ 6
length-padded xs o h = simp (length-append, length-replicate) (omega arith)

pub get_or-padded : {X : Type 0} (xs : List X) (o : X) (j : ℕ) → get_or (padded xs o) j o ≡ get_or xs j o
get_or-padded xs o j = elim (cases_lt j (length xs)) [ inl h ↦ get_or_append_left xs (replicate (6 - length xs) o) o j h | inr h ↦ past h ]
  where
    rest : (n k : ℕ) → get_or (replicate n o) k o ≡ o
    rest n k = elim (cases_lt k n) [ inl h ↦ get_or-replicate n k o o h | inr h ↦ get_or_past (replicate n o) k o (rw length-replicate h) ]

    past : length xs ≤ j → get_or (padded xs o) j o ≡ get_or xs j o
    past h = get_or-append_right xs (replicate (6 - length xs) o) (length xs) j o refl h ∙ rest (6 - length xs) (j - length xs) ∙ sym (get_or_past xs j o h)

-- six places of padding are a table
pub padded-table : {X : Type 0} (xs : List X) (o : X) → length xs ≤ 6 → padded xs o ≡ table 6 (λ j. get_or xs j o)
padded-table xs o h = table_from 6 (λ j. get_or xs j o) (padded xs o) o (length-padded xs o h) (λ j _. get_or-padded xs o j)
