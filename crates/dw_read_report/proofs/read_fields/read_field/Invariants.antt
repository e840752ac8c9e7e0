-- The text so far, before that of the bytes to come, is the whole text.
use Rattle.std.proofs.Common.{◌≡◌, drop}
use Rattle.dw_read_report.specs.Reading.{field_at, field_after, with_front}
use Rattle.dw_read_report.proofs.read_fields.read_field.Given as goal

abbrev pub invariant-loop-index : goal.invariant-loop-index
invariant-loop-index l = with_front l.text.items (field_after l.backslash (drop l.index l.bytes)) ≡ field_at l.bytes
