-- The last object that is left is put first.
use Rattle.std.proofs.Common.{◌≡◌, List, [], ◌∷◌, ◌++◌, length-append, ap, sym, subst, ◌∙◌, length, arith}
use Rattle.dw_model.specs.declared.objects.Object.{Object}
use Rattle.dw_model.specs.Objects.{with_objects, IsAscendingObjects}
use Rattle.dw_model.proofs.ObjectSets.{with_objects-last, IsAscendingObjects-with_object}
use Rattle.dw_core.proofs.sets.put_all.Goals as goal

pub loop-object-preserved : goal.loop-object-preserved
loop-object-preserved c =
    let left : List Object = c.pop.new.self in
    let object : Object = c.in-Some.object in
    let set = c.loop-object.set.items in
    let split : c.loop-object.left ≡ left ++ object ∷ [] = c.in-Some.ensures in
    record {
      whole = ap (with_objects left) c.put.ensures.items ∙ sym (with_objects-last left object set)
          ∙ ap (λ l. with_objects l set) (sym split) ∙ c.loop-object.invariant.whole;
      up = subst IsAscendingObjects (sym c.put.ensures.items) (IsAscendingObjects-with_object object set c.loop-object.invariant.up);
      room = omega (arith, c.loop-object.invariant.room, c.put.ensures.len, c.put.ensures.capacity, ap length split, length-append left (object ∷ []));
    }
