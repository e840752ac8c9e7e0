-- The sessions so far, before those to come, are all of them.
use Rattle.std.proofs.Common.{◌≡◌, ◌-◌, length, codes}
use Rattle.dw_read_report.specs.Reading.{all_items, items_at, short_number, with_front}
use Rattle.dw_read_report.proofs.read_fields.read_sessions.Given as goal

abbrev pub invariant-loop : goal.invariant-loop
invariant-loop l =
    with_front l.sessions (items_at (length l.bytes - l.counter) (codes " ") short_number l.rest) ≡ all_items (codes " ") short_number l.bytes
