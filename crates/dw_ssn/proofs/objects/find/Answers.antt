use Rattle.std.proofs.Common.{refl, sym, ap, ◌∙◌, rules}
use Rattle.std.specs.Prelude.{if◌then◌else◌}
use Rattle.std.specs.List.{insert}
use Rattle.std.proofs.lemmas.List.Sorted.{IsPartitionPoint-from_clause}
use Rattle.dw_model.specs.Objects.{object_before}
use Rattle.dw_model.proofs.ObjectSets.{objects_parted, with_object-parted}
use Rattle.dw_ssn.proofs.Places.{first_place, none_among, stands_within}
use Rattle.dw_ssn.proofs.objects.find.Goals as goal

pub returns-then-stands_at-clause-found : goal.returns-then-stands_at-clause-found
returns-then-stands_at-clause-found c = λ up.
    let object = c.args.object.now in
    let objects = c.args.objects.now in
    let point = IsPartitionPoint-from_clause (λ other. object_before other object) objects c.partition_point-place.result c.partition_point-place.ensures.partitioned (objects_parted object objects up) (λ a r q k. search rules) in
    first_place object objects c.partition_point-place.result point.0 (sym c.if-stands_at.true ∙ c.stands_at.ensures)

pub returns-then-stands_at-clause-within : goal.returns-then-stands_at-clause-within
returns-then-stands_at-clause-within c =
    stands_within c.args.object.now c.args.objects.now c.partition_point-place.result (sym c.if-stands_at.true ∙ c.stands_at.ensures)

pub returns-else-stands_at-clause-found : goal.returns-else-stands_at-clause-found
returns-else-stands_at-clause-found c = λ up.
    let object = c.args.object.now in
    let objects = c.args.objects.now in
    let place = c.partition_point-place.result in
    let point = IsPartitionPoint-from_clause (λ other. object_before other object) objects place c.partition_point-place.ensures.partitioned (objects_parted object objects up) (λ a r q k. search rules) in
    let put = with_object-parted object objects objects objects place c.stands_at.result refl refl c.partition_point-place.ensures.bound point.0 point.1 c.stands_at.ensures in (
      none_among object objects place up point.0 point.1 (sym c.if-stands_at.false ∙ c.stands_at.ensures),
      sym (put ∙ ap (λ b. if b then objects else insert objects place object) c.if-stands_at.false),
    )
