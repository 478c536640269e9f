use Rattle.std.proofs.Common.{refl}
use Rattle.cells.proofs.Ascending.{ascends, cell_labelled}
use Rattle.cells.proofs.Checked.{is_cell_lem}
use Rattle.cells.proofs.Matching.{triangulation}
use Rattle.cells.proofs.Telling.{same_cell}
use Rattle.cells.proofs.Walked.{closed_form, leads_back}
use Rattle.cells.proofs.cells.calls.made.Goals as goal

pub invariant_of-result : goal.invariant_of-result
invariant_of-result c =
    let i = is_cell_lem c.args.plain c.requires in
    record { ok = c.requires; d_low = i.d_low; d_high = i.d_high; l_high = i.l_high }

pub returns : goal.returns
returns c =
    let r = c.args.plain in
    let i = is_cell_lem r c.requires in
    record {
      same = refl;
      laws = record {
        is = i;
        closed = closed_form r (cell_labelled r i);
        back = leads_back r (cell_labelled r i);
        ascends = ascends r i;
        only = λ s h e. same_cell r s i (is_cell_lem s h) e;
        simplices = triangulation;
      };
    }
