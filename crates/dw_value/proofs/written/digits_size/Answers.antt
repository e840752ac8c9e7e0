use Rattle.std.proofs.Common.{◌-◌, ◌^◌, arith}
use Rattle.std.proofs.lemmas.Int.{ints}
use Rattle.dw_value.proofs.WrittenNumbers.{both_parts}
use Rattle.dw_value.proofs.written.digits_size.Goals as goal

pub returns-in-Ok : goal.returns-in-Ok
returns-in-Ok c =
    let is = both_parts (2 ^ 128 - 1) c.args.whole.now c.args.fraction.now c.number_after.result c.number_after-digits.result c.number_after.ensures c.number_after-digits.ensures in
    (omega (arith, ints, is, c.in-Ok.ensures), omega (arith, ints, is, c.in-Ok.ensures))

pub returns-in-Err : goal.returns-in-Err
returns-in-Err c =
    let is = both_parts (2 ^ 128 - 1) c.args.whole.now c.args.fraction.now c.number_after.result c.number_after-digits.result c.number_after.ensures c.number_after-digits.ensures in
    λ fits. absurd (omega (arith, ints, is, fits, c.in-Err.ensures))
