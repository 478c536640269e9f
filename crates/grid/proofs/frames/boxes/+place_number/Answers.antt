use Rattle.std.proofs.Common.{◌≡◌, ◌+◌, ◌-◌, ◌*◌, ◌<◌, length, get_or, pos, nat_abs, sym, ap, ◌∙◌, arith, w32, SFits, rules}
use Rattle.std.proofs.lemmas.Int.{to_z-of_z}
use Rattle.grid.specs.Boxes.{place_number, vertex_count}
use Rattle.grid.proofs.Places.{Before, bound_more, in_box_before, in_box_lem, last_on_axis, length-before, on_axis_is, place_last, short_before}
use Rattle.grid.proofs.frames.boxes.+place_number.Goals as goal

pub place_number-requires : goal.place_number-requires
place_number-requires t c =
    let ss = c.args.sides.now in
    let v = c.args.at.now in
    let box = in_box_lem ss v c.requires.within in
    let axes = box.axes in
    let long = length-before ss in
    let some : 0 < length ss = search rules in
    let x = get_or v (length v - 1) (pos 0) in
    let fit : SFits w32 x = search rules in
    let made = simp to_z-of_z at c.stacked.ensures in
    let on = on_axis_is (get_or ss (length ss - 1) 0) x (last_on_axis ss v box some) in
    let left : 6 - length ss + 1 ≡ 6 - (length ss - 1) = omega arith in
    let most = bound_more (get_or ss (length ss - 1) 0) (nat_abs x) c.args.after (6 - length ss) on.1 (c.requires.short (length ss - 1) (omega arith)) c.requires.after_below in
    (search rules, (in_box_before ss v c.requires.within, (short_before ss c.requires.short, (rw (made, long) (rw left at most), search rules))))

pub returns-in-len1-up-len1-up : goal.returns-in-len1-up-len1-up
returns-in-len1-up-len1-up t c =
    let ss = c.args.sides.now in
    let v = c.args.at.now in
    let axes = (in_box_lem ss v c.requires.within).axes in
    let x = get_or v (length v - 1) (pos 0) in
    let fit : SFits w32 x = search rules in
    let made = simp to_z-of_z at c.stacked.ensures in
    c.place_number.ensures ∙ ap (λ n. place_number (Before ss) (Before v) + vertex_count (Before ss) * n) made ∙ sym (place_last ss v c.args.after (search rules) axes)
