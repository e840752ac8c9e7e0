-- The number of the digits so far, where each adds at most 207, which is nine times 23.
use Rattle.std.proofs.Common.{◌≡◌, ◌+◌, ◌*◌, ◌^◌, ◌≤◌, take}
use Rattle.dw_value.specs.Texts.{number_of}
use Rattle.dw_value.proofs.dates.number_of.Given as goal

abbrev pub invariant-loop-digit : goal.invariant-loop-digit
invariant-loop-digit l = record {
  so_far : l.number ≡ number_of (take l.digit-index l.digits);
  bound : l.number + 23 ≤ 23 * 10 ^ l.digit-index;
}
