use Rattle.std.proofs.Common.{◌≡◌, ◌≤◌, List, length, true, false, Bool, sym, ap, subst, ◌∙◌, arith, rules}
use Rattle.std.specs.Prelude.{◌||◌}
use Rattle.std.specs.List.{insert}
use Rattle.dw_model.specs.declared.objects.Object.{Object}
use Rattle.dw_model.specs.Objects.{IsAscendingObjects, is_among, same_object, with_object}
use Rattle.dw_model.proofs.ObjectSets.{IsAscendingObjects-with_object, is_among-with_object, same_object-self}
use Rattle.dw_ssn.specs.Summaries.{newest_at}
use Rattle.dw_ssn.proofs.Places.{first_place-among, newest_at-insert, or_kept}
use Rattle.dw_ssn.proofs.summaries.add.Goals as goal

pub returns-in_default-clause-there : goal.returns-in_default-clause-there
returns-in_default-clause-there c =
    let up = subst IsAscendingObjects (sym c.as_slice.ensures.value) c.requires.ascending in
    subst (λ (l : List Object). is_among c.args.object.now l ≡ true) c.as_slice.ensures.value
    (first_place-among c.args.object.now c.as_slice.result.now c.in_default.field-0 (c.in_default.ensures.found up))

pub returns-clause-ascending : goal.returns-clause-ascending
returns-clause-ascending c =
    let up = subst IsAscendingObjects (sym c.as_slice.ensures.value) c.requires.ascending in
    let objects = c.args.objects.now.items in
    let found = c.in-Err.ensures.found up in
    let items : c.insert-added.new.self.items ≡ with_object c.args.object.now objects = search (rules, found, c.insert-added.ensures.items, c.insert-added.ensures.succeeds, c.in_ok-reserve.ensures.ok, c.in_ok-copy.ensures, c.as_slice.ensures.value) in
    subst IsAscendingObjects (sym items) (IsAscendingObjects-with_object c.args.object.now objects c.requires.ascending)

pub returns-clause-same : goal.returns-clause-same
returns-clause-same c = λ other.
    let up = subst IsAscendingObjects (sym c.as_slice.ensures.value) c.requires.ascending in
    let objects = c.args.objects.now.items in
    let stamps = c.args.stamps.now.items in
    let place = c.in-Err.place in
    let found = c.in-Err.ensures.found up in
    let none : is_among c.args.object.now objects ≡ false = subst (λ (l : List Object). is_among c.args.object.now l ≡ false) c.as_slice.ensures.value found.0 in
    let within : place ≤ length objects = omega (arith, c.in-Err.ensures.within, ap length c.as_slice.ensures.value) in
    let items : c.insert-added.new.self.items ≡ insert objects place c.args.object.now = search (rules, c.insert-added.ensures.items, c.insert-added.ensures.succeeds, c.in_ok-reserve.ensures.ok, c.in_ok-copy.ensures) in
    let stamped : c.insert-stamped.new.self.items ≡ insert stamps place (record { writer = 0; reader = 0 }) = search (rules, c.insert-stamped.ensures.items, c.insert-stamped.ensures.succeeds, c.in_ok-reserve-2.ensures.ok) in
    (λ k. newest_at other (items k) (stamped k)) ∙ newest_at-insert other c.args.object.now objects stamps place none c.requires.len within

pub returns-clause-stay : goal.returns-clause-stay
returns-clause-stay c = λ other among.
    let up = subst IsAscendingObjects (sym c.as_slice.ensures.value) c.requires.ascending in
    let objects = c.args.objects.now.items in
    let found = c.in-Err.ensures.found up in
    let items : c.insert-added.new.self.items ≡ with_object c.args.object.now objects = search (rules, found, c.insert-added.ensures.items, c.insert-added.ensures.succeeds, c.in_ok-reserve.ensures.ok, c.in_ok-copy.ensures, c.as_slice.ensures.value) in
    ap (is_among other) items ∙ is_among-with_object other c.args.object.now objects ∙ or_kept (same_object other c.args.object.now) (is_among other objects) among

pub returns-clause-there : goal.returns-clause-there
returns-clause-there c =
    let up = subst IsAscendingObjects (sym c.as_slice.ensures.value) c.requires.ascending in
    let object = c.args.object.now in
    let objects = c.args.objects.now.items in
    let found = c.in-Err.ensures.found up in
    let items : c.insert-added.new.self.items ≡ with_object object objects = search (rules, found, c.insert-added.ensures.items, c.insert-added.ensures.succeeds, c.in_ok-reserve.ensures.ok, c.in_ok-copy.ensures, c.as_slice.ensures.value) in
    ap (is_among object) items ∙ is_among-with_object object object objects ∙ ap (λ (b : Bool). b || is_among object objects) (same_object-self object)
