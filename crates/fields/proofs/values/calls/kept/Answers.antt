use Rattle.std.proofs.Common.{◌≡◌, ◌≤◌, List, length, get_or, take, ℤ, pos, sym, refl, ap, ◌∙◌, rules}
use Rattle.grid.specs.Below.{table}
use Rattle.grid.proofs.Below.{cut-table, table_from}
use Rattle.grid.proofs.Made.{table_made}
use Rattle.fields.specs.Scale.{all_on_scale}
use Rattle.fields.proofs.values.calls.kept.Goals as goal

-- an array that holds the rows, and 0 past them, cut to the rows
copied : (xs ys : List ℤ) → length xs ≤ 3 → ys ≡ table 3 (λ r. get_or xs r (pos 0)) → take (length xs) ys ≡ xs
copied xs ys h e = ap (take (length xs)) e ∙ cut-table 3 (length xs) (λ r. get_or xs r (pos 0)) (pos 0) h ∙ sym (table_from (length xs) (λ r. get_or xs r (pos 0)) xs (pos 0) refl (λ _ _. refl))

pub invariant_of-result : goal.invariant_of-result
invariant_of-result c =
    let made = table_made _ (λ r. get_or c.args.rows.now r (pos 0)) (pos 0) _ _ 3 c.from_fn.ensures.items (λ i y q h k. search rules) in
    record { k_low = c.requires.some; k_high = c.requires.few; long = c.from_fn.ensures.items.long; on_scale = ap all_on_scale (copied c.args.rows.now _ c.requires.few made) ∙ c.requires.on_scale }

pub returns : goal.returns
returns c = copied c.args.rows.now _ c.requires.few (table_made _ (λ r. get_or c.args.rows.now r (pos 0)) (pos 0) _ _ 3 c.from_fn.ensures.items (λ i y q h k. search rules))
