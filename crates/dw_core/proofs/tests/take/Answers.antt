use Rattle.std.proofs.Common.{◌≡◌, sym, ap, subst, ◌∙◌}
use Rattle.std.specs.Prelude.{Some}
use Rattle.dw_model.specs.declared.refusals.Refusal.{Refusal}
use Rattle.dw_journal.specs.declared.Event.TheVariants.{Refuse}
use Rattle.dw_journal.specs.declared.Given.{Given}
use Rattle.dw_journal.specs.declared.Given.TheVariants.{Refused}
use Rattle.dw_journal.specs.Turns.{IsForeign, Taking, call_of, number_due, turn_of}
use Rattle.dw_journal.specs.Legal.{IsNextEvent}
use Rattle.dw_core.proofs.Driver.{foreign_comes}
use Rattle.dw_core.proofs.tests.take.Goals as goal

same_some : (a b : Given) → Some a ≡ Some b → a ≡ b
same_some a b e = cc

pub declined-requires-clause-comes : goal.declined-requires-clause-comes
declined-requires-clause-comes c =
    let history = c.args.core.now in
    let session = c.args.session in
    let take = c.requires.take in
    let refusal = c.in-Some-Refused.refusal in
    let there : Some (Refused refusal) ≡ Some take.0 = cc (c.in-Some-Refused.ensures, c.in-Some-Refused.field-0-is, take.1) in
    let given : take.0 ≡ Refused refusal = sym (same_some (Refused refusal) take.0 there) in
    let turn : turn_of history session ≡ Taking (number_due history session) (IsForeign refusal) = take.2 ∙ ap (λ (g : Given). Taking (number_due history session) (call_of g)) given in
    subst (λ (r : Refusal). IsNextEvent history (Refuse session (number_due history session) r)) (sym c.in_ok-refusal-in-Some-Refused.ensures) (foreign_comes history session c.requires.session refusal turn)
