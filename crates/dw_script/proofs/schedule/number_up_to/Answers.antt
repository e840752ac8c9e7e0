use Rattle.std.proofs.Common.{◌≡◌, true, sym, rules, arith, ◌<◌, ◌^◌}
use Rattle.std.specs.Char.{is_ascii_digit}
use Rattle.std.specs.List.{list_all}
use Rattle.dw_script.proofs.Numbers.{number-no_text, number-past}
use Rattle.dw_script.proofs.schedule.number_up_to.Goals as goal

pub returns-in_default : goal.returns-in_default
returns-in_default c = sym (number-no_text c.args.digits.now c.args.limit c.in_default.ensures.cases.0)

pub returns-in_default-parse-3 : goal.returns-in_default-parse-3
returns-in_default-parse-3 c =
    let all : list_all is_ascii_digit c.args.digits.now ≡ true = search rules in
    let fits : c.args.limit < 2 ^ 32 = omega arith in
    let parsed = rw c.in-Ok.ensures.cases.0 at c.in_default-parse.ensures.value.0 in
    sym (number-past c.args.digits.now c.args.limit c.in_default-parse.field-0 fits all parsed)
