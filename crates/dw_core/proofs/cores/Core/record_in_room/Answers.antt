use Rattle.std.proofs.Common.{◌-◌, reverse, sym, ap, subst, ◌∙◌, arith}
use Rattle.dw_journal.specs.Worlds.{IsSession}
use Rattle.dw_journal.specs.History.{History}
use Rattle.dw_journal.specs.Legal.{IsNextEvent}
use Rattle.dw_core.specs.Changes.{HasRoomKept, session_after}
use Rattle.dw_core.proofs.CoreSteps.{agrees_plain, at_place, has_room, newest_first, owes_less, place_within, room_owed}
use Rattle.dw_core.proofs.cores.Core.record_in_room.Goals as goal

pub put-requires-clause-room : goal.put-requires-clause-room
put-requires-clause-room c =
    let i = c.self.inside in
    let history : History = record { shape = i.shape; world = i.world; events = reverse i.events.items } in
    let session = c.args.session in
    let event = c.args.event in
    let is : IsSession i.world session = subst (λ (h : History). IsSession h.world session) (sym c.self.view_is) c.requires.session in
    let next = subst (λ (h : History). IsNextEvent h event) (sym c.self.view_is) c.requires.next in
    let room = subst (λ (h : History). HasRoomKept h session event) (sym c.self.view_is) c.requires.room in
    let core = c.self.invariant in
    let here = at_place i.sessions.items (session - 1) (place_within history i.sessions.items i.certifier i.locks _ _ core session is) in
    let less = owes_less history i.sessions.items i.certifier i.locks _ _ core session is here.0 (core.each session here.0 is.0 here.1) event c.requires.plain next room in
    has_room history i.sessions.items i.certifier i.locks _ _ core session is here.0 here.1 (omega arith)

pub invariant_of-self : goal.invariant_of-self
invariant_of-self c =
    let i = c.self.inside in
    let history : History = record { shape = i.shape; world = i.world; events = reverse i.events.items } in
    let session = c.args.session in
    let event = c.args.event in
    let core = c.self.invariant in
    let is : IsSession i.world session = subst (λ (h : History). IsSession h.world session) (sym c.self.view_is) c.requires.session in
    let next = subst (λ (h : History). IsNextEvent h event) (sym c.self.view_is) c.requires.next in
    let room = subst (λ (h : History). HasRoomKept h session event) (sym c.self.view_is) c.requires.room in
    let here = at_place i.sessions.items (session - 1) (place_within history i.sessions.items i.certifier i.locks _ _ core session is) in
    let kept = here.0 in
    let is_kept = core.each session kept is.0 here.1 in
    let newer = ap reverse c.put.ensures.items ∙ newest_first i.events.items event in
    let changed = c.put.ensures.kept kept here.1 in
    let owed = room_owed history i.sessions.items i.certifier i.locks _ _ core session is kept (session_after i.world event kept) _ _ _ here.1 changed c.put.ensures.len c.put.ensures.capacity
    (owes_less history i.sessions.items i.certifier i.locks _ _ core session is kept is_kept event c.requires.plain next room) in
    agrees_plain history i.sessions.items i.certifier i.locks _ _ core session is kept is_kept event c.requires.plain next _ _ _ _ _ newer changed c.put.ensures.locks owed
