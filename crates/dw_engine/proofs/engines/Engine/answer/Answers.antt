use Rattle.std.proofs.Common.{◌≡◌, ◌-◌, List, None, Some, refl, ap, sym, subst, ◌∙◌, inl}
use Rattle.std.specs.Prelude.{Option}
use Rattle.dw_journal.specs.History.{History}
use Rattle.dw_journal.specs.Transactions.{transaction_of}
use Rattle.dw_commit.specs.declared.views.View.{View}
use Rattle.dw_engine.specs.EngineInvariant.{HasView}
use Rattle.std.proofs.Math.ListN.{set}
use Rattle.std.proofs.lemmas.List.{set-set}
use Rattle.dw_model.specs.declared.refusals.Refusal.TheVariants.{Memory}
use Rattle.dw_journal.specs.declared.Event.TheVariants.{Answer, Refuse}
use Rattle.dw_journal.specs.Worlds.{statement_at}
use Rattle.dw_journal.specs.Turns.{AnswerOf, number_due, statement_due, turn_of}
use Rattle.dw_engine.specs.EngineInvariant.{EngineInvariant}
use Rattle.dw_engine.specs.Steps.{IsStep, moved}
use Rattle.dw_engine.proofs.NextEvents.{open_refused}
use Rattle.dw_engine.proofs.Replies.{answered_comes, refused_comes, HasView-replied}
use Rattle.dw_engine.proofs.StepLemmas.{core_session, core_step}
use Rattle.dw_engine.proofs.ViewLemmas.{EngineInvariant-event, EngineInvariant-ended, HasView-read}
use Rattle.dw_engine.proofs.engines.Engine.answer.Goals.{in-Some-1, in-None-1}
use Rattle.dw_engine.proofs.engines.Engine.answer.Goals as goal

pub answered-requires-clause-comes : goal.answered-requires-clause-comes
answered-requires-clause-comes c =
    let i = c.self.inside in
    let session = c.args.session in
    let k = number_due i.core session in
    let is_session = (core_session session c.self.view_is c.requires.session).1 in
    let turn = subst (λ (h : History). turn_of h session ≡ AnswerOf (number_due h session)) (sym c.self.view_is) c.requires.answer.0 in
    let has = subst (λ (seen : Option View). HasView i.core session (transaction_of session i.core.events) seen) (sym c.replace-view.ensures.value)
    (HasView-read i.core i.database i.views.items c.self.invariant session c.place_of.result c.index_mut.result.now c.requires.session.0 is_session c.place_of.ensures c.index_mut.ensures.value) in
    answered_comes i.core session k is_session turn c.replace-view.result has c.in-Ok-Answered.answer c.in-Ok-Answered.view
    (rw c.in-Ok-Answered.field-0-is at c.in-Ok-Answered.ensures)

pub invariant_of-self-in-Ok-Answered-2 : goal.invariant_of-self-in-Ok-Answered-2
invariant_of-self-in-Ok-Answered-2 c =
    let i = c.self.inside in
    let session = c.args.session in
    let k = number_due i.core session in
    let is_session = (core_session session c.self.view_is c.requires.session).1 in
    let turn = subst (λ (h : History). turn_of h session ≡ AnswerOf (number_due h session)) (sym c.self.view_is) c.requires.answer.0 in
    let has = subst (λ (seen : Option View). HasView i.core session (transaction_of session i.core.events) seen) (sym c.replace-view.ensures.value)
    (HasView-read i.core i.database i.views.items c.self.invariant session c.place_of.result c.index_mut.result.now c.requires.session.0 is_session c.place_of.ensures c.index_mut.ensures.value) in
    let next = c.in-Ok-Answered.view in
    let place = c.place_of.result in
    let emptied = set i.views.items place c.replace-view.new.dest in
    let same : set emptied c.place_of-in-Ok-Answered.result (Some next) ≡ set i.views.items place (Some next) =
    ap (λ p. set emptied p (Some next)) (c.place_of-in-Ok-Answered.ensures ∙ sym c.place_of.ensures) ∙ set-set i.views.items place c.replace-view.new.dest (Some next) in
    subst (λ (views : List (Option View)). EngineInvariant c.answered.new.self i.database views) (sym same)
    (EngineInvariant-event i.core i.database i.views.items c.self.invariant session place (Answer session k c.in-Ok-Answered.answer) c.answered.new.self i.database (Some next)
    c.requires.session.0 c.place_of.ensures refl c.answered.ensures c.self.invariant.newest
    (HasView-replied i.core session k is_session turn c.replace-view.result has c.in-Ok-Answered.answer next (rw c.in-Ok-Answered.field-0-is at c.in-Ok-Answered.ensures)))

pub refused-requires-clause-comes : goal.refused-requires-clause-comes
refused-requires-clause-comes c =
    let i = c.self.inside in
    let session = c.args.session in
    let k = number_due i.core session in
    let is_session = (core_session session c.self.view_is c.requires.session).1 in
    let turn = subst (λ (h : History). turn_of h session ≡ AnswerOf (number_due h session)) (sym c.self.view_is) c.requires.answer.0 in
    let has = subst (λ (seen : Option View). HasView i.core session (transaction_of session i.core.events) seen) (sym c.replace-view.ensures.value)
    (HasView-read i.core i.database i.views.items c.self.invariant session c.place_of.result c.index_mut.result.now c.requires.session.0 is_session c.place_of.ensures c.index_mut.ensures.value) in
    refused_comes i.core session k is_session turn c.replace-view.result has c.in-Ok-Refused.refusal (rw c.in-Ok-Refused.field-0-is at c.in-Ok-Refused.ensures)

pub invariant_of-self-in-Ok-Refused : goal.invariant_of-self-in-Ok-Refused
invariant_of-self-in-Ok-Refused c =
    let i = c.self.inside in
    let session = c.args.session in
    subst (λ (view : Option View). EngineInvariant c.refused.new.self i.database (set i.views.items c.place_of.result view)) (sym c.replace-view.ensures.after)
    (EngineInvariant-ended i.core i.database i.views.items c.self.invariant session c.place_of.result (Refuse session (number_due i.core session) c.in-Ok-Refused.refusal) _ _
    c.requires.session.0 c.place_of.ensures refl c.refused.ensures.now c.self.invariant.newest refl)

pub refused-requires-in-Err-clause-comes : goal.refused-requires-in-Err-clause-comes
refused-requires-in-Err-clause-comes c =
    let core = c.self.inside.core in
    let session = c.args.session in
    let turn = subst (λ (h : History). turn_of h session ≡ AnswerOf (number_due h session)) (sym c.self.view_is) c.requires.answer.0 in
    let given = subst (λ (h : History). statement_due h session ≡ Some c.requires.answer.1) (sym c.self.view_is) c.requires.answer.2 in
    open_refused core session (core_session session c.self.view_is c.requires.session).1 (number_due core session) c.requires.answer.1 turn given Memory (inl refl)

pub invariant_of-self-in-Err : goal.invariant_of-self-in-Err
invariant_of-self-in-Err c =
    let i = c.self.inside in
    let session = c.args.session in
    subst (λ (view : Option View). EngineInvariant c.refused-in-Err.new.self i.database (set i.views.items c.place_of.result view)) (sym c.replace-view.ensures.after)
    (EngineInvariant-ended i.core i.database i.views.items c.self.invariant session c.place_of.result (Refuse session (number_due i.core session) Memory) _ _
    c.requires.session.0 c.place_of.ensures refl c.refused-in-Err.ensures.now c.self.invariant.newest refl)

pub returns-in-Ok-Answered : goal.returns-in-Ok-Answered
returns-in-Ok-Answered c =
    let i = c.self.inside in
    let session = c.args.session in
    let k = number_due i.core session in
    let is_session = (core_session session c.self.view_is c.requires.session).1 in
    let turn = subst (λ (h : History). turn_of h session ≡ AnswerOf (number_due h session)) (sym c.self.view_is) c.requires.answer.0 in
    let has = subst (λ (seen : Option View). HasView i.core session (transaction_of session i.core.events) seen) (sym c.replace-view.ensures.value)
    (HasView-read i.core i.database i.views.items c.self.invariant session c.place_of.result c.index_mut.result.now c.requires.session.0 is_session c.place_of.ensures c.index_mut.ensures.value) in
    let step = core_step session (Answer session k c.in-Ok-Answered.answer) c.self.view_is c.answered.ensures refl refl
    (answered_comes i.core session k is_session turn c.replace-view.result has c.in-Ok-Answered.answer c.in-Ok-Answered.view (rw c.in-Ok-Answered.field-0-is at c.in-Ok-Answered.ensures)) in
    elim c.match-index_mut.branch [
      | in-Some-1 w ↦ subst (IsStep session c.args.self.now) (sym w.self-is) step
      | in-None-1 w ↦ subst (IsStep session c.args.self.now) (sym w.self-is) step
    ]

pub returns-in-Ok-Refused : goal.returns-in-Ok-Refused
returns-in-Ok-Refused c =
    let i = c.self.inside in
    let session = c.args.session in
    let k = number_due i.core session in
    let is_session = (core_session session c.self.view_is c.requires.session).1 in
    let turn = subst (λ (h : History). turn_of h session ≡ AnswerOf (number_due h session)) (sym c.self.view_is) c.requires.answer.0 in
    let has = subst (λ (seen : Option View). HasView i.core session (transaction_of session i.core.events) seen) (sym c.replace-view.ensures.value)
    (HasView-read i.core i.database i.views.items c.self.invariant session c.place_of.result c.index_mut.result.now c.requires.session.0 is_session c.place_of.ensures c.index_mut.ensures.value) in
    core_step session (Refuse session k c.in-Ok-Refused.refusal) c.self.view_is c.refused.ensures.now refl refl
    (refused_comes i.core session k is_session turn c.replace-view.result has c.in-Ok-Refused.refusal (rw c.in-Ok-Refused.field-0-is at c.in-Ok-Refused.ensures))

pub returns-in-Err : goal.returns-in-Err
returns-in-Err c =
    let core = c.self.inside.core in
    let session = c.args.session in
    let turn = subst (λ (h : History). turn_of h session ≡ AnswerOf (number_due h session)) (sym c.self.view_is) c.requires.answer.0 in
    let given = subst (λ (h : History). statement_due h session ≡ Some c.requires.answer.1) (sym c.self.view_is) c.requires.answer.2 in
    core_step session (Refuse session (number_due core session) Memory) c.self.view_is c.refused-in-Err.ensures.now refl refl
    (open_refused core session (core_session session c.self.view_is c.requires.session).1 (number_due core session) c.requires.answer.1 turn given Memory (inl refl))
