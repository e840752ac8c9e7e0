use Rattle.std.proofs.Common.{length, codes}
use Rattle.dw_read_report.specs.Reading.{all_items, short_number}
use Rattle.dw_read_report.proofs.Items.{items_go_on}
use Rattle.dw_read_report.proofs.read_fields.read_sessions.Goals as goal

pub loop-preserved : goal.loop-preserved
loop-preserved c =
    rw c.in_ok-push.ensures.ok
    (items_go_on c.loop.sessions (length c.args.bytes.now) c.loop.counter (codes " ") c.loop.rest.now c.in-Some.item.now
    c.in_ok-session.next.now short_number c.in_ok-session.session (all_items (codes " ") short_number c.args.bytes.now)
    c.loop-test.true c.in-Some.ensures c.in_ok-session.ensures c.loop.invariant)
