-- The last object that is left is put first.
use Rattle.std.proofs.Common.{◌≡◌, List, [], ◌∷◌, ◌++◌, length, length-append, ap, sym, subst, ◌∙◌, arith}
use Rattle.dw_model.specs.declared.objects.Object.{Object}
use Rattle.dw_model.specs.Objects.{with_objects, IsAscendingObjects}
use Rattle.dw_model.proofs.ObjectSets.{with_objects-last, IsAscendingObjects-with_object}
use Rattle.dw_model.proofs.objects.add_objects.Goals as goal

pub loop-object-preserved : goal.loop-object-preserved
loop-object-preserved c =
    let left : List Object = c.pop.new.self in
    let object : Object = c.in-Some.object in
    let split : c.loop-object.left ≡ left ++ object ∷ [] = c.in-Some.ensures in
    record {
      whole = ap (with_objects left) c.put_object.ensures.items
          ∙ sym (with_objects-last left object c.loop-object.set.items)
          ∙ ap (λ l. with_objects l c.loop-object.set.items) (sym split)
          ∙ c.loop-object.invariant.whole;
      up = subst IsAscendingObjects (sym c.put_object.ensures.items) (IsAscendingObjects-with_object object c.loop-object.set.items c.loop-object.invariant.up);
      room = omega (arith, c.loop-object.invariant.room, c.put_object.ensures.len, c.put_object.ensures.capacity, ap length split, length-append left (object ∷ []));
    }
