use Rattle.std.proofs.Common.{◌^◌, ◌≤◌, ◌<◌, sym, arith}
use Rattle.std.proofs.Math.Nat.{div-eq_of_lt}
use Rattle.dw_value.proofs.Powers.{ten_38, ten_39, ten_below, ten_pos}
use Rattle.dw_value.proofs.printed.whole_part.Goals as goal

pub pow-requires : goal.pow-requires
pow-requires c =
    let below : 10 ^ c.from.result ≤ 10 ^ 38 = ten_below c.from.result 38 (omega arith) in
    omega (arith, below, ten_38)

pub nonzero_div-result : goal.nonzero_div-result
nonzero_div-result c = omega (arith, c.pow.ensures, ten_pos c.from.result)

pub returns-then-places-gt38 : goal.returns-then-places-gt38
returns-then-places-gt38 c =
    let above : 10 ^ 39 ≤ 10 ^ c.args.places = ten_below 39 c.args.places (omega arith) in
    let less : c.args.size < 10 ^ c.args.places = omega (arith, above, ten_39) in
    sym (div-eq_of_lt less)
