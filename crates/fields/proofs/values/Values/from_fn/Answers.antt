use Rattle.std.proofs.Common.{cond, ltb, take, pos, ap, ◌∙◌, rules, inl, inr}
use Rattle.std.proofs.lemmas.Bool.{cases_lt, le-ltb, lt-ltb}
use Rattle.grid.proofs.Below.{front-table}
use Rattle.grid.proofs.Made.{table_made}
use Rattle.fields.specs.Values.{values_answer}
use Rattle.fields.proofs.Scaled.{few_rows}
use Rattle.fields.proofs.values.Values.from_fn.Goals as goal

pub returns : goal.returns
returns g c = λ f e.
    let k = c.args.k in
    let made = table_made _ (λ r. cond (ltb r k) (f r) (pos 0)) (pos 0) _ _ 3 c.from_fn-rows.ensures.items (λ i y q h called. elim (cases_lt i k) [ inl lt ↦ rw (lt-ltb i k lt) (search rules, e i y lt (search rules)) | inr le ↦ rw (le-ltb i k le) (search rules) ]) in
    c.new.ensures
    ∙ ap (λ n. values_answer (take n c.from_fn-rows.result)) c.from.ensures
    ∙ ap (λ rows. values_answer (take k rows)) made
    ∙ ap values_answer (front-table 3 k f (pos 0) c.requires.k_high)
    ∙ few_rows k f c.requires.k_low c.requires.k_high
