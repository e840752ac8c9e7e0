-- What is wanted so far, with what is left, is all.
use Rattle.std.proofs.Common.{◌≡◌, ◌++◌, map, drop}
use Rattle.dw_query.specs.BindingRows.{wanted_for}
use Rattle.dw_bind_query.proofs.lookup.wanted_by_names.Given as goal

abbrev pub invariant-loop-name : goal.invariant-loop-name
invariant-loop-name l = l.wanted ++ map (wanted_for l.columns) (drop l.name-index l.names) ≡ map (wanted_for l.columns) l.names
