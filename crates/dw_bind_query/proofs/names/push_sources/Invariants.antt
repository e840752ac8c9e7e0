-- The names so far, with those that are left, are all.
use Rattle.std.proofs.Common.{◌≡◌, ◌++◌, drop}
use Rattle.dw_bind_query.proofs.Gathering.{names_in}
use Rattle.dw_bind_query.proofs.names.push_sources.Given as goal

abbrev pub invariant-loop-source : goal.invariant-loop-source
invariant-loop-source l = l.names ++ names_in (drop l.source-index l.sources) ≡ l.initial.names ++ names_in l.sources
