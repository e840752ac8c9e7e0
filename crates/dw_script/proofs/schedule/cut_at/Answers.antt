use Rattle.std.proofs.Common.{◌+◌, ◌==◌, sym}
use Rattle.std.proofs.lemmas.List.{take_rest}
use Rattle.dw_script.proofs.Words.{cut_first, cut_none}
use Rattle.dw_script.proofs.schedule.cut_at.Goals as goal

pub returns-in_err-place-clause-whole : goal.returns-in_err-place-clause-whole
returns-in_err-place-clause-whole c =
    rw c.from_residual.ensures (cut_none (λ byte. byte == c.args.wanted) c.args.bytes.now (sym c.in_err-place.ensures.place))

pub returns-clause-cut : goal.returns-clause-cut
returns-clause-cut c =
    let rest = take_rest c.args.bytes.now (c.in_ok-place.place + 1) in
    rw rest (cut_first (λ byte. byte == c.args.wanted) c.args.bytes.now c.in_ok-place.place (sym c.in_ok-place.ensures.place))
