-- The objects that were passed have their places.
use Rattle.std.proofs.Common.{◌≡◌, true, length, take}
use Rattle.dw_model.specs.declared.objects.Object.{Object}
use Rattle.dw_model.specs.Objects.{IsAscendingObjects, is_among}
use Rattle.dw_ssn.specs.Summaries.{newest_at}
use Rattle.dw_ssn.proofs.summaries.make_room.Given as goal

abbrev pub invariant-loop-object : goal.invariant-loop-object
invariant-loop-object l = record {
  ascending : IsAscendingObjects l.objects.items;
  len : length l.objects.items ≡ length l.stamps.items;
  same : (object : Object) → newest_at object l.objects.items l.stamps.items ≡ newest_at object l.initial.objects.items l.initial.stamps.items;
  stay : (object : Object) → is_among object l.initial.objects.items ≡ true → is_among object l.objects.items ≡ true;
  there : (object : Object) → is_among object (take l.object-index l.more) ≡ true → is_among object l.objects.items ≡ true;
}
