use Rattle.std.proofs.Common.{◌^◌, ◌≤◌, sym, arith, FitsSigned}
use Rattle.std.specs.Int.{w128}
use Rattle.std.proofs.lemmas.Int.{ints}
use Rattle.dw_value.proofs.Powers.{ten_38, ten_39, ten_below, ten_pos}
use Rattle.dw_value.proofs.Rescaling.{rounded_nothing, nearest_small}
use Rattle.dw_value.proofs.scaling.round_off.Goals as goal

pub returns-then-places-gt38 : goal.returns-then-places-gt38
returns-then-places-gt38 c =
    let fits : FitsSigned w128 c.args.number = c.ranges.number in
    let above : 10 ^ 39 ≤ 10 ^ c.args.places = ten_below 39 c.args.places (omega arith) in
    sym (rounded_nothing c.args.number (10 ^ c.args.places) (omega (arith, ints, above, ten_39)))

pub pow-requires : goal.pow-requires
pow-requires c =
    let below : 10 ^ c.from.result ≤ 10 ^ 38 = ten_below c.from.result 38 (omega arith) in
    omega (arith, below, ten_38)

pub nearest-units-requires-clause-some : goal.nearest-units-requires-clause-some
nearest-units-requires-clause-some c = omega (arith, c.pow.ensures, ten_pos c.from.result)

pub nearest-units-requires-clause-unit : goal.nearest-units-requires-clause-unit
nearest-units-requires-clause-unit c =
    let below : 10 ^ c.from.result ≤ 10 ^ 38 = ten_below c.from.result 38 (omega arith) in
    omega (arith, c.pow.ensures, below, ten_38)

pub overflow_cast-units : goal.overflow_cast-units
overflow_cast-units c =
    let ten : 10 ^ 1 ≤ 10 ^ c.from.result = ten_below 1 c.from.result (omega arith) in
    let small = nearest_small c.unsigned_abs.result c.pow.result (omega (arith, c.pow.ensures, ten)) (omega (arith, c.unsigned_abs.ensures.bound)) in
    omega (arith, ints, small, c.nearest-units.ensures)

pub overflow_sub-result : goal.overflow_sub-result
overflow_sub-result c =
    let ten : 10 ^ 1 ≤ 10 ^ c.from.result = ten_below 1 c.from.result (omega arith) in
    let small = nearest_small c.unsigned_abs.result c.pow.result (omega (arith, c.pow.ensures, ten)) (omega (arith, c.unsigned_abs.ensures.bound)) in
    omega (arith, ints, small, c.nearest-units.ensures)
