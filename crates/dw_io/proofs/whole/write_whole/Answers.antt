use Rattle.std.proofs.Common.{take, drop, ◌∙◌, ap, rules}
use Rattle.std.proofs.lemmas.List.{take_rest}
use Rattle.dw_io.specs.Outside.{appended}
use Rattle.dw_io.proofs.Appends.{appended-next}
use Rattle.dw_io.proofs.whole.write_whole.Goals as goal

-- the piece is what follows the bytes written so far, so with what the sink took of it they are again a prefix
pub loop-written-preserved : goal.loop-written-preserved
loop-written-preserved g c =
    let text = c.args.bytes.now in
    let written = c.loop-written.written in
    let n = c.in_ok-written.field-0 in
    let whole_piece = ap (λ piece. appended (g.S.Sink.has c.loop-written.sink) (take n piece)) (take_rest text written) in
    let had_before = ap (λ had. appended had (take n (drop written text))) c.loop-written.invariant.2 in
    (search rules, search rules, c.in_ok-written.ensures.takes ∙ whole_piece ∙ had_before ∙ appended-next _ text written n)
