use Rattle.dw_read_report.specs.ReportReading.{rows_at}
use Rattle.dw_read_report.proofs.LineItems.{rows_go_on}
use Rattle.dw_read_report.proofs.reading.read_rows.Goals as goal

pub loop-preserved : goal.loop-preserved
loop-preserved c =
    rw c.in_ok-push.ensures.ok
    (rows_go_on c.loop.rows c.args.count c.loop.counter c.loop.rest.now c.in_ok-row.next.now c.in_ok-row.row
    (rows_at c.args.count c.args.bytes.now) c.loop-test.true c.in_ok-row.ensures c.loop.invariant)
