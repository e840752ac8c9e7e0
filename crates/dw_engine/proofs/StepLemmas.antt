-- What a core has done is a step of its engine, which is seen as the core's history.
use Rattle.std.proofs.Common.{◌≡◌, ℕ, false, refl, sym, ap, subst, ◌∙◌}
use Rattle.std.specs.Prelude.{Some}
use Rattle.dw_journal.specs.declared.BlockState.{BlockState}
use Rattle.dw_journal.specs.declared.Event.{Event}
use Rattle.dw_journal.specs.Worlds.{IsSession}
use Rattle.dw_journal.specs.Blocks.{block_of}
use Rattle.dw_journal.specs.History.{History, session_of, with_event}
use Rattle.dw_journal.specs.Legal.{IsNextEvent}
use Rattle.dw_journal.specs.Progress.{waits_or_sweeps}
use Rattle.dw_engine.specs.Steps.{IsStep, at_end, moved, repeats, waited}

-- the core has this event more
pub core_step : (session : ℕ) (event : Event) {engine core after : History} → core ≡ engine → after ≡ with_event core event
    → session_of event ≡ Some session → waits_or_sweeps event ≡ false → IsNextEvent core event → IsStep session engine after
core_step session event {engine} {core} {after} is now of_session plain next =
    subst (λ (h : History). IsStep session h after) is (subst (IsStep session core) (sym now) (moved event of_session plain next))

-- and the event comes next of the engine
pub stepped : (session : ℕ) (event : History → Event) {engine core after : History} → core ≡ engine → after ≡ with_event core (event core)
    → session_of (event core) ≡ Some session → waits_or_sweeps (event core) ≡ false → IsNextEvent engine (event engine) → IsStep session engine after
stepped session event {core = core} is now of_session plain next =
    core_step session (event core) is now of_session plain (subst (λ (h : History). IsNextEvent h (event h)) (sym is) next)

-- what is said of the engine is said of the core, and the other way round
pub core_session : {engine core : History} (session : ℕ) → core ≡ engine → IsSession engine.world session → IsSession core.world session
core_session session is there = subst (λ (h : History). IsSession h.world session) (sym is) there

pub engine_block : {engine core : History} (session : ℕ) {block : BlockState} → core ≡ engine → block ≡ block_of core session → block_of engine session ≡ block
engine_block session is stands = ap (λ (h : History). block_of h session) (sym is) ∙ sym stands

-- a step leaves the world
pub same_world : {session : ℕ} {before after : History} → IsStep session before after → after.world ≡ before.world
same_world (at_end ended) = refl
same_world (repeats again stuck) = refl
same_world (waited holders next stuck) = refl
same_world (moved event of_session plain next) = refl
