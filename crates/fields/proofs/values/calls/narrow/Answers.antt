use Rattle.std.proofs.Common.{◌≡◌, get_or, pos, rules}
use Rattle.fields.proofs.Scaled.{row_fits, row_there}
use Rattle.fields.proofs.values.calls.narrow.Goals as goal

pub overflow_cast-result : goal.overflow_cast-result
overflow_cast-result c =
    let there : c.in-Some.row.now ≡ get_or c.args.rows.now c.args.r (pos 0) = search rules in
    row_fits c.args.rows.now c.args.r c.in-Some.row.now c.requires (search rules) there

pub returns-in-Some : goal.returns-in-Some
returns-in-Some c =
    let there : c.in-Some.row.now ≡ get_or c.args.rows.now c.args.r (pos 0) = search rules in
    row_there c.args.rows.now c.args.r c.in-Some.row.now c.requires (search rules) there
