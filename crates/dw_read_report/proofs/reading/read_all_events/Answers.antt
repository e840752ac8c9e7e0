use Rattle.std.proofs.Common.{length, sym, ◌∙◌}
use Rattle.std.proofs.lemmas.Result.{err_from_is_err_and}
use Rattle.dw_read_report.specs.ReportReading.{all_events_at}
use Rattle.dw_read_report.proofs.LineItems.{events_end, events_fail, events_go_on}
use Rattle.dw_read_report.proofs.reading.read_all_events.Goals as goal

pub returns-then-ends_journal : goal.returns-then-ends_journal
returns-then-ends_journal c =
    events_end c.loop-index.events (length c.args.bytes.now) c.loop-index.index c.loop-index.rest.now (all_events_at c.args.bytes.now)
    c.loop-index-test.true (sym c.ends_journal.ensures ∙ c.if-ends_journal.true) c.loop-index.invariant

pub returns-in_err-event : goal.returns-in_err-event
returns-in_err-event c =
    let p = err_from_is_err_and c.from_residual.result c.from_residual.ensures.1 in
    rw (p.1, p.2)
    (events_fail c.in_err-event.field-0.0 c.loop-index.events (length c.args.bytes.now) c.loop-index.index c.loop-index.rest.now
    (all_events_at c.args.bytes.now) c.loop-index-test.true (sym c.ends_journal.ensures ∙ c.if-ends_journal.false)
    c.in_err-event.ensures c.loop-index.invariant)

pub loop-index-preserved : goal.loop-index-preserved
loop-index-preserved c =
    rw c.in_ok-push.ensures.ok
    (events_go_on c.loop-index.events (length c.args.bytes.now) c.loop-index.index c.loop-index.rest.now c.in_ok-event.next.now
    c.in_ok-event.event (all_events_at c.args.bytes.now) c.loop-index-test.true
    (sym c.ends_journal.ensures ∙ c.if-ends_journal.false) c.in_ok-event.ensures c.loop-index.invariant)
