use Rattle.std.proofs.Common.{◌^◌, ◌≤◌, arith}
use Rattle.std.proofs.lemmas.Int.{ints}
use Rattle.dw_value.proofs.Powers.{ten_38, ten_below}
use Rattle.dw_value.proofs.Rescaling.{past}
use Rattle.dw_value.proofs.scaling.raise.Goals as goal

pub returns-then-places-gt38 : goal.returns-then-places-gt38
returns-then-places-gt38 c = past c.args.number c.args.places (λ e. absurd (omega (arith, ints, e))) (omega arith)

pub pow-requires : goal.pow-requires
pow-requires c =
    let below : 10 ^ c.from.result ≤ 10 ^ 38 = ten_below c.from.result 38 (omega arith) in
    let exact = ten_38 in
    grind (arith, ints)
