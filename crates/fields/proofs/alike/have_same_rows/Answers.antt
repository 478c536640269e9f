use Rattle.std.proofs.Common.{◌≡◌, Decides, sym, ◌∙◌}
use Rattle.std.proofs.lemmas.Slice.Eq.{slice_eq-Decides}
use Rattle.fields.proofs.alike.have_same_rows.Goals as goal
use Rattle.std.proofs.lemmas.Bool.Decides.{Decides-int_eq}

pub returns : goal.returns
returns c =
    let same : Decides c.eq.result (c.rows.result.now ≡ c.rows-2.result.now) = slice_eq-Decides Decides-int_eq _ _ _ c.eq.ensures in
    let x = c.rows.ensures in
    let y = c.rows-2.ensures in
    (λ h. sym x ∙ same.0 h ∙ y, λ e. same.1 (x ∙ e ∙ sym y))
