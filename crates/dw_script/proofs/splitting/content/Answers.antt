use Rattle.std.proofs.Common.{arith, sym, ◌∙◌}
use Rattle.dw_script.proofs.Contents.{front-more, content-more}
use Rattle.dw_script.proofs.splitting.content.Goals as goal

pub loop-at-preserved : goal.loop-at-preserved
loop-at-preserved c =
    let part = c.args.part.now in
    let more = front-more c.loop-at.place c.loop-at.at part c.loop-at-test.true in
    let step = content-more c.loop-at.place c.loop-at.at part c.loop-at-test.true (sym c.begins_statement.ensures ∙ c.if-begins_statement.false) in
    record {
      here = rw c.after-place.ensures.place (sym step ∙ c.loop-at.invariant.here);
      within = rw c.after-place.ensures.place more.0;
      front = rw c.after-place.ensures.place more.1;
      nested = omega (arith, c.after-place.ensures.deeper);
    }
