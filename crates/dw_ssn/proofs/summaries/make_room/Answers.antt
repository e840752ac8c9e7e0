use Rattle.std.proofs.Common.{◌≡◌, true, take, sym, subst, ◌∙◌, arith, inl, inr}
use Rattle.std.proofs.lemmas.Bool.{or_cases}
use Rattle.dw_model.specs.declared.objects.Object.{Object}
use Rattle.dw_model.specs.Objects.{is_among, same_object}
use Rattle.dw_model.proofs.ObjectSets.{objects_same}
use Rattle.dw_ssn.proofs.Places.{is_among-more}
use Rattle.dw_ssn.proofs.summaries.make_room.Goals as goal

pub loop-object-preserved : goal.loop-object-preserved
loop-object-preserved c =
    let add = c.in_ok-add.ensures in
    let loop = c.loop-object.invariant in
    let one = c.object-item.result in
    record {
      ascending = add.ascending;
      len = add.len;
      same = λ object. add.same object ∙ loop.same object;
      stay = λ object among. add.stay object (loop.stay object among);
      there = λ object among.
          elim (or_cases (is_among object (take c.loop-object.object-index c.args.more.now)) (same_object object one) (sym (is_among-more object c.args.more.now c.loop-object.object-index one (omega arith) c.object-item.is) ∙ among)) [
            | inl before ↦ add.stay object (loop.there object before)
            | inr here ↦ subst (λ (o : Object). is_among o c.add.new.objects.items ≡ true) (sym (objects_same object one here)) add.there
          ];
    }
