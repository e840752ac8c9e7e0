use Rattle.std.proofs.Common.{◌≡◌, pos, arith, true≢false, sym}
use Rattle.std.proofs.lemmas.Int.{ints}
use Rattle.dw_value.proofs.ReadDates.{day_of_jiff, none_of_jiff}
use Rattle.dw_value.proofs.dates.day_of.Goals as goal

pub returns-in-Ok : goal.returns-in-Ok
returns-in-Ok c =
    let value = c.in-Ok.ensures.value in
    let year : c.in-Ok.date.year ≡ pos c.args.year = omega (arith, ints, value.0, c.in-Ok-Ok-Ok.ensures) in
    let month : c.in-Ok.date.month ≡ c.args.month = omega (arith, ints, value.1, c.in-Ok-Ok-Ok.ensures') in
    let day : c.in-Ok.date.day ≡ c.args.day = omega (arith, ints, value.2, c.in-Ok-Ok-Ok.ensures'') in
    day_of_jiff c.in-Ok.date.year c.in-Ok.date.month c.in-Ok.date.day c.args.year c.args.month c.args.day _ year month day (omega arith)
    (c.in-Ok.date.year_in, c.in-Ok.date.month_in, c.in-Ok.date.day_in) (omega (arith, ints, c.to_unix_epoch_day.ensures.value))

pub returns-in-Err : goal.returns-in-Err
returns-in-Err c =
    none_of_jiff _ _ _ c.args.year c.args.month c.args.day
    (omega (arith, ints, c.in-Ok-Ok-Ok.ensures)) (omega (arith, ints, c.in-Ok-Ok-Ok.ensures')) (omega (arith, ints, c.in-Ok-Ok-Ok.ensures''))
    (λ is. absurd (true≢false (sym (c.in-Err.ensures.succeeds.1 is))))
