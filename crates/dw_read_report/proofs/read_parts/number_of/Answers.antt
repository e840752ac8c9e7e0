use Rattle.std.proofs.Common.{sym, ◌∙◌}
use Rattle.dw_read_report.proofs.Numbers.{digits_are_text, number_is_parsed, none_is_parsed}
use Rattle.dw_read_report.proofs.read_parts.number_of.Goals as goal

pub returns-in_default : goal.returns-in_default
returns-in_default c = absurd (c.in_default.ensures.cases.0 (digits_are_text c.args.digits.now c.requires))

pub returns-in-Ok-parse : goal.returns-in-Ok-parse
returns-in-Ok-parse c =
    number_is_parsed c.args.digits.now c.in-Ok-parse.number c.requires (sym c.has_zero_first.ensures ∙ c.if-has_zero_first.false)
    (rw (c.in-Ok.ensures.cases.0, c.in-Ok-parse.is) at c.parse.ensures.value.0)

pub returns-in-Err : goal.returns-in-Err
returns-in-Err c =
    none_is_parsed c.args.digits.now 0 c.requires (sym c.has_zero_first.ensures ∙ c.if-has_zero_first.false)
    (rw (c.in-Ok.ensures.cases.0, c.in-Err.is) at c.parse.ensures.value.0)
