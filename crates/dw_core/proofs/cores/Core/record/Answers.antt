use Rattle.std.proofs.Common.{◌+◌, ◌-◌, ◌++◌, ◌∷◌, [], List, reverse, sym, ap, subst, ◌∙◌, arith}
use Rattle.dw_journal.specs.declared.Event.{Event}
use Rattle.dw_journal.specs.Worlds.{IsSession}
use Rattle.dw_journal.specs.History.{History}
use Rattle.dw_journal.specs.Legal.{IsNextEvent}
use Rattle.dw_core.specs.Changes.{session_after}
use Rattle.dw_core.proofs.CoreSteps.{agrees_plain, at_place, newest_first, place_within, room_made, roomier}
use Rattle.dw_core.proofs.cores.Core.record.Goals as goal

pub invariant_of-self : goal.invariant_of-self
invariant_of-self c =
    let i = c.self.inside in
    let history : History = record { shape = i.shape; world = i.world; events = reverse i.events.items } in
    let made = c.make_room.ensures in
    roomier history _ i.sessions.items i.certifier i.locks i.locks _ _ _ _ c.self.invariant (ap reverse made.items) c.self.invariant.locks made.len made.capacity

pub invariant_of-self-2 : goal.invariant_of-self-2
invariant_of-self-2 c =
    let i = c.self.inside in
    let history : History = record { shape = i.shape; world = i.world; events = reverse i.events.items } in
    let session = c.args.session in
    let event = c.args.event in
    let core = c.self.invariant in
    let is : IsSession i.world session = subst (λ (h : History). IsSession h.world session) (sym c.self.view_is) c.requires.session in
    let next = subst (λ (h : History). IsNextEvent h event) (sym c.self.view_is) c.requires.next in
    let here = at_place i.sessions.items (session - 1) (place_within history i.sessions.items i.certifier i.locks _ _ core session is) in
    let kept = here.0 in
    let newer = ap reverse (c.put.ensures.items ∙ ap (λ (events : List Event). events ++ event ∷ []) c.make_room.ensures.items) ∙ newest_first i.events.items event in
    let changed = c.put.ensures.kept kept here.1 in
    let room = room_made history i.sessions.items i.certifier i.locks _ _ core session is (session_after i.world event kept) _ _ _ changed (c.put.ensures.len ∙ ap (λ n. n + 1) c.make_room.ensures.len)
    (omega (arith, c.in_ok-make_room.ensures.room, c.make_room.ensures.len, c.put.ensures.capacity)) in
    agrees_plain history i.sessions.items i.certifier i.locks _ _ core session is kept (core.each session kept is.0 here.1) event c.requires.plain next _ _ _ _ _ newer changed c.put.ensures.locks room
