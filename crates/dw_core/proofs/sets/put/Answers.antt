-- The objects before this one stand at the front, and it goes after them, where it isn't there.
use Rattle.std.proofs.Common.{◌≡◌, List, true, is_ok, ap, sym, subst, ◌∙◌, rules}
use Rattle.std.specs.Prelude.{if◌then◌else◌}
use Rattle.std.specs.List.{insert}
use Rattle.std.proofs.lemmas.List.Sorted.{IsPartitionPoint-from_clause}
use Rattle.dw_model.specs.declared.objects.Object.{Object}
use Rattle.dw_model.specs.Objects.{object_before, IsAscendingObjects}
use Rattle.dw_model.proofs.ObjectSets.{objects_parted, with_object-parted}
use Rattle.dw_core.proofs.sets.put.Goals as goal

pub returns-then-not-stands_at-clause-items : goal.returns-then-not-stands_at-clause-items
returns-then-not-stands_at-clause-items c =
    let set : List Object = c.args.set.now.items in
    let front : List Object = c.deref.result.now in
    let parted = objects_parted c.args.object front (subst IsAscendingObjects (sym c.deref.ensures.value) c.requires.ascending) in
    let point = IsPartitionPoint-from_clause (λ other. object_before other c.args.object) front c.partition_point-place.result c.partition_point-place.ensures.partitioned parted (λ a r q k. search rules) in
    let put = with_object-parted c.args.object set front c.as_slice.result.now c.partition_point-place.result c.stands_at.result c.deref.ensures.value c.as_slice.ensures.value c.partition_point-place.ensures.bound point.0 point.1 c.stands_at.ensures in
    let done : is_ok c.insert-inserted.result ≡ true = search (rules, c.insert-inserted.ensures.succeeds c.requires.room) in
    c.insert-inserted.ensures.items
    ∙ ap (λ b. if b then insert set c.partition_point-place.result c.args.object else set) done
    ∙ sym (put ∙ ap (λ b. if b then set else insert set c.partition_point-place.result c.args.object) c.if-not-stands_at.true)

pub returns-else-not-stands_at-clause-items : goal.returns-else-not-stands_at-clause-items
returns-else-not-stands_at-clause-items c =
    let set : List Object = c.args.set.now.items in
    let front : List Object = c.deref.result.now in
    let parted = objects_parted c.args.object front (subst IsAscendingObjects (sym c.deref.ensures.value) c.requires.ascending) in
    let point = IsPartitionPoint-from_clause (λ other. object_before other c.args.object) front c.partition_point-place.result c.partition_point-place.ensures.partitioned parted (λ a r q k. search rules) in
    let put = with_object-parted c.args.object set front c.as_slice.result.now c.partition_point-place.result c.stands_at.result c.deref.ensures.value c.as_slice.ensures.value c.partition_point-place.ensures.bound point.0 point.1 c.stands_at.ensures in
    sym (put ∙ ap (λ b. if b then set else insert set c.partition_point-place.result c.args.object) c.if-not-stands_at.false)
