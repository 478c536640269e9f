use Rattle.std.proofs.Common.{arith}
use Rattle.cells.proofs.Checked.{is_cell_lem}
use Rattle.cells.proofs.Counting.{splits_le}
use Rattle.cells.proofs.Relating.{all_cofacets}
use Rattle.cells.proofs.cells.Cell.cofacets.Goals as goal

pub returns : goal.returns
returns c =
    let r = c.args.self.now.plain in
    let i = is_cell_lem r c.args.self.now.ok in
    let e = c.count_splits.ensures in
    record { count = e; all = all_cofacets r i; small = omega (arith, splits_le r i) }
