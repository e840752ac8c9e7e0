-- The keys of the options so far.
use Rattle.std.proofs.Common.{◌≡◌, ◌++◌, map, take}
use Rattle.std.specs.Prelude.{filter}
use Rattle.dw_parse.specs.Tables.{is_dist_key}
use Rattle.dw_parse.proofs.tables.push_dist_keys.Given as goal

abbrev pub invariant-loop-option : goal.invariant-loop-option
invariant-loop-option l =
    l.keys ≡ l.initial.keys ++ map (λ key. l.name) (filter is_dist_key (take l.option-index l.option-items))
