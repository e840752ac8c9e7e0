-- The fields so far, before those to come, are all of them.
use Rattle.std.proofs.Common.{◌≡◌, ◌-◌, [], ◌∷◌, length, codes}
use Rattle.dw_read_report.specs.Reading.{all_items, items_at, shown_at, with_front}
use Rattle.dw_read_report.proofs.read_fields.read_fields_after.Given as goal

abbrev pub invariant-loop : goal.invariant-loop
invariant-loop l =
    with_front l.fields (items_at (length l.bytes - l.counter) (codes "|") shown_at l.rest) ≡ with_front (l.fn.first ∷ []) (all_items (codes "|") shown_at l.bytes)
