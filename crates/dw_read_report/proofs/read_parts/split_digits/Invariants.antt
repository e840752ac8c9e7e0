-- What is passed so far are digits, and they stand before what is to come.
use Rattle.std.proofs.Common.{◌≡◌, ◌++◌, true, take, drop}
use Rattle.std.specs.Char.{is_ascii_digit}
use Rattle.std.specs.List.{list_all}
use Rattle.dw_read_report.specs.Reading.{digits_at, after_digits}
use Rattle.dw_read_report.proofs.read_parts.split_digits.Given as goal

abbrev pub invariant-loop-index : goal.invariant-loop-index
invariant-loop-index l = record {
  digits : digits_at l.bytes ≡ take l.index l.bytes ++ digits_at (drop l.index l.bytes);
  rest : after_digits l.bytes ≡ after_digits (drop l.index l.bytes);
  all : list_all is_ascii_digit (take l.index l.bytes) ≡ true;
}
