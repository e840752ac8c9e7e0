-- The columns of the sources so far, with those of the ones that are left, are all.
use Rattle.std.proofs.Common.{◌≡◌, Ok, drop}
use Rattle.dw_query.specs.Binding.{appended}
use Rattle.dw_bind_query.specs.Parts.{so_far}
use Rattle.dw_bind_query.proofs.Gathering.{itself_after}
use Rattle.dw_bind_query.proofs.items.take_sources.Given as goal

abbrev pub invariant-loop-source : goal.invariant-loop-source
invariant-loop-source l =
    appended (so_far l.parts.made l.parts.refusal) (Ok (itself_after l.number l.place (drop l.source-index l.sources)))
    ≡ appended (so_far l.initial.parts.made l.initial.parts.refusal) (Ok (itself_after 0 0 l.sources))
