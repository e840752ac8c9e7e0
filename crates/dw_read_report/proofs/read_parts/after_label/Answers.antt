use Rattle.std.proofs.Common.{◌∙◌, ap, sym, Some}
use Rattle.dw_read_report.proofs.Labels.{label_is_there, label_is_not_there}
use Rattle.dw_read_report.proofs.read_parts.after_label.Goals as goal

pub returns-in-Some : goal.returns-in-Some
returns-in-Some c =
    let is = rw c.as_bytes.ensures.value at c.in-Some.ensures.cases in
    label_is_there c.args.label.now c.args.bytes.now is.0 ∙ ap Some (sym is.1)

pub returns-in-None : goal.returns-in-None
returns-in-None c =
    label_is_not_there c.args.label.now c.args.bytes.now (rw c.as_bytes.ensures.value at c.in-None.ensures.cases)
