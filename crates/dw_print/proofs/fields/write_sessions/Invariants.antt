-- The numbers that the loop has passed are written, and are short.
use Rattle.std.proofs.Common.{◌≡◌, ◌++◌, take}
use Rattle.std.specs.List.{AllByRecursion}
use Rattle.dw_print.specs.Fields.{numbers_text}
use Rattle.dw_print.specs.Typed.{IsShort}
use Rattle.dw_print.proofs.fields.write_sessions.Given as goal

abbrev pub invariant-loop-session : goal.invariant-loop-session
invariant-loop-session l = record {
  text : l.out.items ≡ l.initial.out.items ++ numbers_text (take l.session-index l.sessions);
  typed : AllByRecursion IsShort (take l.session-index l.sessions);
}
