use Rattle.std.proofs.Common.{[], ◌∷◌, length, codes}
use Rattle.dw_read_report.specs.Reading.{all_items, shown_at, with_front}
use Rattle.dw_read_report.proofs.Items.{items_go_on}
use Rattle.dw_read_report.proofs.read_fields.read_fields_after.Goals as goal

pub loop-preserved : goal.loop-preserved
loop-preserved c =
    rw c.in_ok-push-2.ensures.ok
    (items_go_on c.loop.fields (length c.args.bytes.now) c.loop.counter (codes "|") c.loop.rest.now c.in-Some.item.now
    c.in_ok-shown.next.now shown_at c.in_ok-shown.shown (with_front (c.args.first ∷ []) (all_items (codes "|") shown_at c.args.bytes.now))
    c.loop-test.true c.in-Some.ensures c.in_ok-shown.ensures c.loop.invariant)
