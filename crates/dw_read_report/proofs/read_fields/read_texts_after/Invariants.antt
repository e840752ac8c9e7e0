-- The texts so far, before those to come, are all of them.
use Rattle.std.proofs.Common.{◌≡◌, ◌-◌, [], ◌∷◌, length, codes}
use Rattle.dw_read_report.specs.Reading.{all_items, items_at, text_at, with_front}
use Rattle.dw_read_report.proofs.read_fields.read_texts_after.Given as goal

abbrev pub invariant-loop : goal.invariant-loop
invariant-loop l =
    with_front l.texts (items_at (length l.bytes - l.counter) (codes "|") text_at l.rest) ≡ with_front (l.fn.first ∷ []) (all_items (codes "|") text_at l.bytes)
