use Rattle.std.proofs.Common.{◌≡◌, ℕ, List, length, reverse, take, slice_index_or, sym, ap, subst, ◌∙◌, arith}
use Rattle.std.proofs.Math.Seq.{take-length}
use Rattle.dw_script.specs.declared.schedule.Move.{Move as Entry}
use Rattle.dw_journal.specs.declared.World.{World}
use Rattle.dw_journal.specs.Worlds.{IsSession}
use Rattle.dw_top.specs.Run.{moves_of}
use Rattle.dw_top.specs.Rounds.{Leads}
use Rattle.dw_top.proofs.Leading.{leads_none}
use Rattle.dw_top.proofs.ScheduleMoves.{leads_moves}
use Rattle.dw_top.proofs.rounds.take_moves.Goals as goal

abbrev none : Entry
none = record { session = 0; count = 0 }

pub loop-place-init : goal.loop-place-init
loop-place-init c = leads_none c.args.engine.now

pub take_steps-requires : goal.take_steps-requires
take_steps-requires c =
    let is = c.requires.moves c.loop-place.place none c.loop-place-test.true in
    record { session = subst (λ (w : World). IsSession w (slice_index_or c.args.moves.now c.loop-place.place none).session) (sym c.loop-place.invariant.world) (is.0, is.1) }

pub loop-place-preserved : goal.loop-place-preserved
loop-place-preserved c =
    leads_moves c.args.moves.now c.loop-place.place none c.loop-place-test.true c.loop-place.invariant c.in_ok-take_steps.ensures

pub returns : goal.returns
returns c =
    let all : c.loop-place.place ≡ length c.args.moves.now = omega (arith, c.loop-place-test.false, c.loop-place.auto.place-end) in
    let whole : take c.loop-place.place c.args.moves.now ≡ c.args.moves.now = ap (λ (n : ℕ). take n c.args.moves.now) all ∙ take-length c.args.moves.now in
    subst (λ (moves : List Entry). Leads (reverse (moves_of moves)) c.args.engine.now c.loop-place.engine) whole c.loop-place.invariant
