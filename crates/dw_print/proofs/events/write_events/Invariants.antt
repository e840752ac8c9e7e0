-- What is written so far, with what the events that are left give, is what all events give; and those so far are of their
-- types.
use Rattle.std.proofs.Common.{◌≡◌, ◌++◌, ◌+◌, drop, take}
use Rattle.std.specs.List.{AllByRecursion}
use Rattle.dw_print.specs.Events.{journal_lines}
use Rattle.dw_print.specs.Typed.{IsTypedEvent}
use Rattle.dw_print.proofs.events.write_events.Given as goal

abbrev pub invariant-loop-index : goal.invariant-loop-index
invariant-loop-index l = record {
  text : l.out.items ++ journal_lines (l.index + 1) (drop l.index l.events) ≡ l.initial.out.items ++ journal_lines 1 l.events;
  typed : AllByRecursion IsTypedEvent (take l.index l.events);
}
