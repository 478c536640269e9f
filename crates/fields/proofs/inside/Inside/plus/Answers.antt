use Rattle.std.proofs.Common.{ℕ, length, get_or, take, ℤ, pos, ◌+ℤ◌, ap, ◌∙◌, rules}
use Rattle.grid.specs.Vertices.{vertex_answer}
use Rattle.grid.proofs.Below.{cut-table}
use Rattle.grid.proofs.Made.{table_made}
use Rattle.fields.proofs.inside.Inside.plus.Goals as goal

pub returns : goal.returns
returns c =
    let at = c.args.self.now.at.now in
    let sum : ℕ → ℤ = λ j. get_or c.args.self.now.at.now j (pos 0) +ℤ pos (get_or c.args.corner.now j 0) in
    let made = table_made _ sum (pos 0) _ _ 6 c.from_fn-sums.ensures.items (λ i y q h called. search rules) in
    c.new.ensures.answer
    ∙ ap (λ sums. vertex_answer (take (length at) sums)) made
    ∙ ap vertex_answer (cut-table 6 (length at) sum (pos 0) c.args.self.now.axes)
