-- The least, the greatest and the number of NULLs are those of the values that the loop has passed.
use Rattle.std.proofs.Common.{◌≡◌, ◌≤◌, take}
use Rattle.std.specs.List.{count_by}
use Rattle.std.specs.Option.{option_copied}
use Rattle.dw_value.specs.Values.{is_null}
use Rattle.dw_block.specs.Zones.{least_of, greatest_of}
use Rattle.dw_block.proofs.zone.zone_of.Given as goal

abbrev pub invariant-loop-value : goal.invariant-loop-value
invariant-loop-value l = record {
  least : option_copied l.least ≡ least_of (take l.value-index l.values);
  greatest : option_copied l.greatest ≡ greatest_of (take l.value-index l.values);
  counted : l.nulls ≡ count_by is_null (take l.value-index l.values);
  few : l.nulls ≤ l.value-index;
}
