-- The columns so far, with those that are left, are all.
use Rattle.std.proofs.Common.{◌≡◌, ◌+◌, Ok, drop}
use Rattle.dw_query.specs.Binding.{appended}
use Rattle.dw_bind_query.specs.Parts.{so_far}
use Rattle.dw_bind_query.proofs.Gathering.{itself_from}
use Rattle.dw_bind_query.proofs.items.take_source.Given as goal

abbrev pub invariant-loop-column : goal.invariant-loop-column
invariant-loop-column l = record {
  place : l.place ≡ l.first + l.column-index;
  taken : appended (so_far l.parts.made l.parts.refusal) (Ok (itself_from l.number l.source.alias l.place (drop l.column-index l.source.columns)))
      ≡ appended (so_far l.initial.parts.made l.initial.parts.refusal) (Ok (itself_from l.number l.source.alias l.first l.source.columns));
}
