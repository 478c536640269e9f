use Rattle.std.proofs.Common.{◌∙◌, arith}
use Rattle.cells.proofs.Listing.{splits_none, length_part}
use Rattle.cells.proofs.Counting.{found_at, part_le}
use Rattle.cells.proofs.cells.Cell.nth_split.Goals as goal

pub loop-p-init : goal.loop-p-init
loop-p-init c = let e = splits_none c.args.self.now.plain in omega arith

pub loop-p-preserved : goal.loop-p-preserved
loop-p-preserved c = let e = length_part c.args.self.now.plain c.loop-p.p (omega arith) in omega arith

pub split_of_part-requires : goal.split_of_part-requires
split_of_part-requires c = let m = part_le c.args.self.now.plain c.loop-p.p in omega arith

pub returns-then-left-n : goal.returns-then-left-n
returns-then-left-n c =
    let r = c.args.self.now.plain in
    let w = found_at r c.loop-p.p c.loop-p.left c.args.c (omega arith) (omega arith) (omega arith) c.loop-p.invariant in
    (w.0, c.split_of_part.ensures ∙ w.1)
