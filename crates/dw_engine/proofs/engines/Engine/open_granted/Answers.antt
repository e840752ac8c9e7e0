use Rattle.std.proofs.Common.{◌≡◌, ◌≢◌, None, Some, inl, inr, refl, ap, sym, ◌∙◌}
use Rattle.std.specs.Prelude.{◌⊎◌}
use Rattle.dw_model.specs.Bound.{bound_refusal}
use Rattle.dw_model.specs.Databases.{def_of}
use Rattle.dw_journal.specs.declared.BlockState.{BlockState}
use Rattle.dw_journal.specs.declared.BlockState.TheVariants.{Outside, Within, Aborted}
use Rattle.dw_journal.specs.Blocks.{block_of}
use Rattle.dw_journal.specs.Contents.{view}
use Rattle.dw_journal.specs.Turns.{number_due}
use Rattle.dw_engine.specs.NextStatements.{refusal_on}
use Rattle.dw_engine.proofs.NextEvents.{bound_refused, opening_comes}
use Rattle.dw_engine.proofs.engines.Engine.open_granted.Goals as goal

-- a block that isn't aborted
stands : (block : BlockState) → block ≢ Aborted → (block ≡ Outside) ⊎ (block ≡ Within)
stands Outside other = inl refl
stands Within other = inr refl
stands Aborted other = absurd (other refl)

pub decline-requires-clause-next : goal.decline-requires-clause-next
decline-requires-clause-next c =
    let now = c.args.self.now in
    let session = c.args.session in
    let work = c.requires.work in
    let bound : bound_refusal work.0 (def_of (view now session)) ≡ Some c.in-Some.refusal =
    ap (refusal_on (view now session)) (sym work.1) ∙ sym c.in_ok-refusal.ensures ∙ c.in-Some.is in
    bound_refused now session c.requires.session.1 (number_due now session) work.0 work.2 c.requires.free (block_of now session)
    (stands (block_of now session) c.requires.stands) refl c.in-Some.refusal bound

pub opened-requires-clause-next : goal.opened-requires-clause-next
opened-requires-clause-next c =
    let now = c.args.self.now in
    let session = c.args.session in
    let work = c.requires.work in
    let bound : bound_refusal work.0 (def_of (view now session)) ≡ None =
    ap (refusal_on (view now session)) (sym work.1) ∙ sym c.in_ok-refusal.ensures ∙ c.in-None.is in
    opening_comes now session c.requires.session.1 work.0 work.2 work.1 c.requires.free bound (block_of now session)
    (stands (block_of now session) c.requires.stands) refl
