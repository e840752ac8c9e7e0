-- The names rise, so those below this one stand in front.
use Rattle.std.proofs.Common.{rules}
use Rattle.std.proofs.lemmas.List.Sorted.{IsPartitionPoint-from_clause}
use Rattle.std.specs.Ordering.{nat_cmp, is_lt}
use Rattle.std.specs.Arc.{arc_value}
use Rattle.std.specs.Cmp.Lexicographic.{slice_cmp}
use Rattle.dw_model.proofs.EntryLemmas.{T-from_true, names_parted, place_is}
use Rattle.dw_model.proofs.databases.place_of.Goals as goal

pub returns-clause-place : goal.returns-clause-place
returns-clause-place c =
    let name = c.args.name.now in
    let parted = names_parted name c.args.entries.now (T-from_true _ c.requires) in
    let point = IsPartitionPoint-from_clause (λ e. is_lt (slice_cmp nat_cmp (arc_value e.name) name)) c.args.entries.now c.partition_point.result c.partition_point.ensures.partitioned parted (λ a r q k. search rules) in
    place_is name c.args.entries.now c.partition_point.result c.partition_point.ensures.bound point.0 point.1
