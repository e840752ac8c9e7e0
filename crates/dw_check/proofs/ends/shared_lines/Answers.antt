use Rattle.std.proofs.Common.{◌≤◌, length, arith}
use Rattle.std.specs.Prelude.{min}
use Rattle.dw_check.proofs.EndLemmas.{shared_past}
use Rattle.dw_check.proofs.ends.shared_lines.Goals as goal

-- after the last turn one of the texts is at its end
pub returns-clause-lines : goal.returns-clause-lines
returns-clause-lines c =
    let past : min (length c.args.bytes.now) (length c.args.due.now) ≤ c.loop-place.place = omega (arith, c.min-place-end.ensures) in
    let none = shared_past c.args.bytes.now c.args.due.now c.loop-place.place past in
    omega (arith, c.loop-place.invariant.lines, none)
