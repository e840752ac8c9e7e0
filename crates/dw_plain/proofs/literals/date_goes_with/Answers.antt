-- What DATE before a text goes with.
use Rattle.std.proofs.Common.{◌≡◌, ◌∙◌, Some, sym, ap}
use Rattle.dw_value.specs.Dates.{day_in}
use Rattle.dw_plain.proofs.LiteralLemmas.{no_date_goes, other_compares, other_goes}
use Rattle.dw_plain.proofs.literals.date_goes_with.Goals as goal

pub returns-in_default : goal.returns-in_default
returns-in_default c =
    let read : Some c.in-Some.field-0 ≡ day_in c.args.text.now = sym c.in-Some.is ∙ c.read_date.ensures ∙ ap day_in c.as_bytes.ensures.bytes in
    record {
      assigned = other_goes c.args.kind c.args.text.now c.in-Some.field-0 c.in_default.not-Date read;
      compared = other_compares c.args.kind c.args.text.now c.in-Some.field-0 c.in_default.not-Date read;
    }

pub returns-in-None-clause-assigned : goal.returns-in-None-clause-assigned
returns-in-None-clause-assigned c =
    no_date_goes c.args.kind c.args.text.now (sym c.in-None.is ∙ c.read_date.ensures ∙ ap day_in c.as_bytes.ensures.bytes)
