-- The objects that were passed have the stamp, where they have their places.
use Rattle.std.proofs.Common.{◌≡◌, true, length, take}
use Rattle.std.specs.Prelude.{if◌then◌else◌}
use Rattle.dw_model.specs.declared.objects.Object.{Object}
use Rattle.dw_model.specs.Objects.{is_among}
use Rattle.dw_ssn.specs.Raised.{raised}
use Rattle.dw_ssn.specs.Summaries.{newest_at}
use Rattle.dw_ssn.proofs.summaries.raise.Given as goal

abbrev pub invariant-loop-object : goal.invariant-loop-object
invariant-loop-object l = record {
  len : length l.stamps.items ≡ length l.initial.stamps.items;
  raised : (object : Object) → (is_among object l.some ≡ true → is_among object l.objects ≡ true)
      → newest_at object l.objects l.stamps.items
      ≡ (if is_among object (take l.object-index l.some) then raised l.stamp l.is_written (newest_at object l.objects l.initial.stamps.items)
      else newest_at object l.objects l.initial.stamps.items);
}
