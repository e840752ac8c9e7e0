use Rattle.std.proofs.Common.{refl, ◌≡◌, List, true, false, Bool, length, take, set, sym, ap, ◌∙◌, arith, true≢false}
use Rattle.std.specs.Prelude.{◌||◌, if◌then◌else◌}
use Rattle.std.proofs.lemmas.List.{length-set}
use Rattle.dw_model.specs.declared.objects.Object.{Object}
use Rattle.dw_model.specs.Objects.{is_among, same_object}
use Rattle.dw_model.proofs.ObjectSets.{objects_same}
use Rattle.dw_ssn.specs.Raised.{raised}
use Rattle.dw_ssn.specs.Summaries.{newest_at}
use Rattle.dw_ssn.proofs.Places.{is_among-more, is_among-at, newest_at-set, newest_at-place, raised_set}
use Rattle.dw_ssn.proofs.summaries.raise.Goals as goal
use Rattle.dw_ssn.proofs.summaries.raise.Goals.{in-Ok, in_default}

absent_differs : (object one : Object) (some objects : List Object) → is_among one objects ≡ false → is_among one some ≡ true
    → (is_among object some ≡ true → is_among object objects ≡ true) → same_object object one ≡ false
absent_differs object one some objects none here there = by_same (same_object object one) refl where
  by_same : (b : Bool) → same_object object one ≡ b → b ≡ false
  by_same true same =
      let equal = objects_same object one same in
      absurd (true≢false (sym (there (ap (λ (o : Object). is_among o some) equal ∙ here)) ∙ ap (λ (o : Object). is_among o objects) equal ∙ none))
  by_same false same = refl

or_nil : (b : Bool) → (b || false) ≡ b
or_nil true = refl
or_nil false = refl

pub loop-object-preserved : goal.loop-object-preserved
loop-object-preserved c =
    let objects = c.args.objects.now in
    let some = c.args.some.now in
    let stamps = c.loop-object.stamps.items in
    let index = c.loop-object.object-index in
    let one = c.object-item.result in
    let stamp = c.args.stamp in
    let is_written = c.args.is_written in
    let loop = c.loop-object.invariant in
    elim c.match-find.branch [
      | in-Ok w ↦
          let place = w.in-Ok.place in
          let first = w.in-Ok.ensures.found c.requires.ascending in
          let long : length objects ≡ length stamps = c.requires.len ∙ sym loop.len in
          let items : c.match-find.stamps.items ≡ set stamps place (raised stamp is_written (newest_at one objects stamps)) =
          ap (λ v. v.items) w.stamps-is
          ∙ ap (set stamps place) (w.raised.ensures ∙ ap (raised stamp is_written) (w.index.ensures ∙ sym (newest_at-place one objects stamps place w.index.result.now first long))) in
          record {
            len = ap length items ∙ length-set stamps place _ ∙ loop.len;
            raised = λ object there.
                ap (newest_at object objects) items
                ∙ newest_at-set object one objects stamps place (raised stamp is_written (newest_at one objects stamps)) first long
                ∙ raised_set (is_among object (take index some)) (same_object object one) stamp is_written (newest_at one objects stamps) (newest_at object objects stamps) (newest_at object objects c.args.stamps.now.items)
                (loop.raised object there) (λ same. ap (λ (o : Object). newest_at o objects stamps) (sym (objects_same object one same)))
                ∙ ap (λ (b : Bool). if b then raised stamp is_written (newest_at object objects c.args.stamps.now.items) else newest_at object objects c.args.stamps.now.items)
                (sym (is_among-more object some index one (omega arith) c.object-item.is));
          }
      | in_default w ↦
          let none = (w.in_default.ensures.found c.requires.ascending).0 in
          let here = is_among-at some index one (omega arith) c.object-item.is in
          record {
            len = ap (λ v. length v.items) w.stamps-is ∙ loop.len;
            raised = λ object there.
                ap (λ v. newest_at object objects v.items) w.stamps-is
                ∙ loop.raised object there
                ∙ ap (λ (b : Bool). if b then raised stamp is_written (newest_at object objects c.args.stamps.now.items) else newest_at object objects c.args.stamps.now.items)
                (sym (is_among-more object some index one (omega arith) c.object-item.is
                ∙ ap (λ (b : Bool). is_among object (take index some) || b) (absent_differs object one some objects none here there)
                ∙ or_nil (is_among object (take index some))));
          }
    ]
