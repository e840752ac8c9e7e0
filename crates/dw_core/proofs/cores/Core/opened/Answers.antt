use Rattle.std.proofs.Common.{◌≡◌, ◌+◌, ◌<◌, ℕ, List, [], ◌∷◌, ◌++◌, length, set, reverse, vec_capacity, vec_len, refl, sym, ap, subst, ◌∙◌, arith}
use Rattle.std.specs.Prelude.{Option, Some}
use Rattle.std.proofs.lemmas.List.{set-get_or}
use Rattle.dw_journal.specs.declared.Event.{Event}
use Rattle.dw_journal.specs.declared.Event.TheVariants.{Opened}
use Rattle.dw_journal.specs.declared.Given.{Given}
use Rattle.dw_journal.specs.declared.Route.{Route}
use Rattle.dw_journal.specs.declared.Route.TheVariants.{Main}
use Rattle.dw_journal.specs.Worlds.{IsSession, read_in, statement_at}
use Rattle.dw_journal.specs.History.{History, with_event}
use Rattle.dw_journal.specs.Legal.{IsNextEvent, snapshot_due}
use Rattle.dw_journal.specs.Turns.{number_due, statement_due}
use Rattle.dw_core.specs.declared.sessions.Session.{Session}
use Rattle.dw_core.specs.declared.transactions.Transaction.{Transaction}
use Rattle.dw_core.specs.Changes.{footprint_of, session_after, opened_transaction}
use Rattle.dw_core.specs.CoreInvariant.{CoreInvariant, IsKept}
use Rattle.dw_core.specs.DueEvents.{opening_due, route_due}
use Rattle.dw_journal.specs.declared.locks.Want.{Want}
use Rattle.dw_journal.specs.Locks.{lock_state, wants_of}
use Rattle.dw_locks.specs.LockTable.{LockTable, StandsForLocks, entry_of, granted}
use Rattle.dw_locks.proofs.Lasting.{granted_stands}
use Rattle.dw_core.proofs.Asking.{nobody_blocks}
use Rattle.dw_core.proofs.Locking.{is_entry}
use Rattle.dw_core.proofs.CoreSteps.{agrees_after, still_open, newest_first, room_made, roomier, set_after}
use Rattle.dw_core.proofs.KeptSessions.{found}
use Rattle.dw_core.proofs.NextEvents.{are_sets, kept_opened}
use Rattle.dw_core.proofs.NoClusters.{route_main}
use Rattle.dw_core.proofs.Openings.{opened_next}
use Rattle.dw_core.proofs.cores.Core.opened.Goals as goal

pub invariant_of-self : goal.invariant_of-self
invariant_of-self c =
    let i = c.self.inside in
    let history : History = record { shape = i.shape; world = i.world; events = reverse i.events.items } in
    let made = c.make_room.ensures in
    roomier history _ i.sessions.items i.certifier i.locks i.locks _ _ _ _ c.self.invariant (ap reverse made.items) c.self.invariant.locks made.len made.capacity

pub grant_and_open-requires-clause-free : goal.grant_and_open-requires-clause-free
grant_and_open-requires-clause-free c =
    let i = c.self.inside in
    let history : History = record { shape = i.shape; world = i.world; events = reverse i.events.items } in
    let session = c.args.session in
    let core = c.self.invariant in
    let is : IsSession i.world session = subst (λ (h : History). IsSession h.world session) (sym c.self.view_is) c.requires.session in
    let k = number_due history session in
    let next : IsNextEvent history (opening_due history session) = subst (λ (h : History). IsNextEvent h (opening_due h session)) (sym c.self.view_is) c.requires.comes in
    let one = opened_next history session k (snapshot_due history session) (route_due history session) is.0 core.follows next in
    let wants_is = subst (λ (h : History). c.in_ok-wants.wants ≡ wants_of h.world session (number_due h session)) (sym c.self.view_is) c.in_ok-wants.ensures in
    nobody_blocks history i.locks core.locks session k c.in_ok-wants.wants wants_is one.free

pub grant_and_open-requires-clause-sets : goal.grant_and_open-requires-clause-sets
grant_and_open-requires-clause-sets c =
    let i = c.self.inside in
    let history : History = record { shape = i.shape; world = i.world; events = reverse i.events.items } in
    let session = c.args.session in
    let core = c.self.invariant in
    let kept = c.index_mut-kept.result.now in
    let is : IsSession i.world session = subst (λ (h : History). IsSession h.world session) (sym c.self.view_is) c.requires.session in
    let there = found i.sessions.items c.place_of.result session kept c.place_of.ensures (omega (arith, c.place_of.ensures, core.number, is.0, is.1)) c.index_mut-kept.ensures.value in
    λ one one_is. are_sets history session kept (core.each session kept is.0 there) one one_is

pub invariant_of-self-in_err-grant_and_open : goal.invariant_of-self-in_err-grant_and_open
invariant_of-self-in_err-grant_and_open c =
    let i = c.self.inside in
    let history : History = record { shape = i.shape; world = i.world; events = reverse i.events.items } in
    let made = c.make_room.ensures in
    let kept = c.index_mut-kept.result.now in
    let place = c.place_of.result in
    let still : set i.sessions.items place (record { taken = kept.taken; stage = kept.stage; block = kept.block; transaction = c.grant_and_open.new.kept; waits = kept.waits }) ≡ i.sessions.items =
    ap (λ (t : Option Transaction). set i.sessions.items place (record { taken = kept.taken; stage = kept.stage; block = kept.block; transaction = t; waits = kept.waits })) c.in_err-grant_and_open.ensures.err
    ∙ ap (set i.sessions.items place) c.index_mut-kept.ensures.value ∙ set-get_or i.sessions.items place kept in
    let newer : History = record { shape = i.shape; world = i.world; events = reverse c.make_room.new.events.items } in
    let locks = c.in_err-grant_and_open.ensures.withdrawn (lock_state history) c.self.invariant.locks in
    subst (λ (sessions : List Session). CoreInvariant newer sessions i.certifier c.grant_and_open.new.locks (vec_len c.make_room.new.events) (vec_capacity c.make_room.new.events)) (sym still)
    (roomier history _ i.sessions.items i.certifier i.locks c.grant_and_open.new.locks _ _ _ _ c.self.invariant (ap reverse made.items) locks made.len made.capacity)

-- the event that is recorded is the opening that is due
is_opening : (history : History) (session k snapshot : ℕ) (route : Route) → k ≡ number_due history session → snapshot ≡ snapshot_due history session → route ≡ route_due history session
    → Opened session k snapshot route ≡ opening_due history session
is_opening history session k snapshot route k_is snapshot_is route_is = cc

pub invariant_of-self-2 : goal.invariant_of-self-2
invariant_of-self-2 c =
    let i = c.self.inside in
    let history : History = record { shape = i.shape; world = i.world; events = reverse i.events.items } in
    let session = c.args.session in
    let k = c.number_due-statement.result in
    let snapshot = c.snapshot_due-snapshot.result in
    let event = Opened session k snapshot Main in
    let core = c.self.invariant in
    let kept = c.index_mut-kept.result.now in
    let is : IsSession i.world session = subst (λ (h : History). IsSession h.world session) (sym c.self.view_is) c.requires.session in
    let within : c.place_of.result < length i.sessions.items = omega (arith, c.place_of.ensures, core.number, is.0, is.1) in
    let there = found i.sessions.items c.place_of.result session kept c.place_of.ensures within c.index_mut-kept.ensures.value in
    let k_is = subst (λ (h : History). k ≡ number_due h session) (sym c.self.view_is) c.number_due-statement.ensures in
    let snapshot_is = subst (λ (h : History). snapshot ≡ snapshot_due h session) (sym c.self.view_is) c.snapshot_due-snapshot.ensures in
    let route_is = sym (route_main history core.unattached session (snapshot_due history session) (statement_due history session)) in
    let next : IsNextEvent history event = subst (IsNextEvent history) (sym (is_opening history session k snapshot Main k_is snapshot_is route_is))
    (subst (λ (h : History). IsNextEvent h (opening_due h session)) (sym c.self.view_is) c.requires.comes) in
    let one = opened_next history session k snapshot Main is.0 core.follows next in
    let wants_is : c.in_ok-wants.wants ≡ wants_of i.world session k =
    subst (λ (h : History). c.in_ok-wants.wants ≡ wants_of h.world session (number_due h session)) (sym c.self.view_is) c.in_ok-wants.ensures ∙ ap (wants_of i.world session) (sym k_is) in
    let left = c.put.ensures.locks ∙ c.in_ok-grant_and_open.ensures.locks ∙ ap (λ (asked : List Want). set i.locks session (granted asked (entry_of i.locks session))) wants_is in
    let locks : StandsForLocks c.put.new.locks (lock_state (with_event history event)) =
    subst (λ (t : LockTable). StandsForLocks t (lock_state (with_event history event))) (sym left)
    (granted_stands i.locks (lock_state history) core.locks session (is_entry history i.locks core.locks session is (core.unswept session)) k snapshot Main) in
    let opened_is : c.grant_and_open.new.kept ≡ Some (opened_transaction (footprint_of (statement_at i.world session k)) snapshot kept.transaction) =
    c.in_ok-grant_and_open.ensures.kept ∙ ap (λ (g : Option Given). Some (opened_transaction (footprint_of (read_in g)) snapshot kept.transaction)) c.given-given.ensures in
    let now : Session = session_after i.world event (record { taken = kept.taken; stage = kept.stage; block = kept.block; transaction = c.grant_and_open.new.kept; waits = kept.waits }) in
    let is_kept : IsKept (with_event history event) session now =
    subst (λ (t : Option Transaction). IsKept (with_event history event) session (session_after i.world event (record { taken = kept.taken; stage = kept.stage; block = kept.block; transaction = t; waits = kept.waits }))) (sym opened_is)
    (kept_opened history session kept (core.each session kept is.0 there) k snapshot Main one.statement one.there one.works one.settled) in
    let newer = ap reverse (c.put.ensures.items ∙ ap (λ (events : List Event). events ++ event ∷ []) c.make_room.ensures.items) ∙ newest_first i.events.items event in
    let changed = set_after (session_after i.world event) i.sessions.items _ c.place_of.result session _ c.place_of.ensures within c.put.ensures.kept in
    let room = room_made history i.sessions.items i.certifier i.locks _ _ core session is now _ _ _ changed (c.put.ensures.len ∙ ap (λ n. n + 1) c.make_room.ensures.len)
    (omega (arith, c.in_ok-make_room.ensures.room, c.make_room.ensures.len, c.put.ensures.capacity)) in
    agrees_after history i.sessions.items i.certifier i.locks _ _ core session is event refl next one.sees now is_kept _ _ i.certifier _ _ _ newer changed locks core.stands (still_open history i.sessions.items i.certifier i.locks _ _ core session is event refl next one.sees now is_kept) room

pub returns-clause-ok : goal.returns-clause-ok
returns-clause-ok c =
    let i = c.self.inside in
    let history : History = record { shape = i.shape; world = i.world; events = reverse i.events.items } in
    let session = c.args.session in
    let k = c.number_due-statement.result in
    let snapshot = c.snapshot_due-snapshot.result in
    let event = Opened session k snapshot Main in
    let route_is : Main ≡ route_due history session = sym (route_main history c.self.invariant.unattached session (snapshot_due history session) (statement_due history session)) in
    let k_is = subst (λ (h : History). k ≡ number_due h session) (sym c.self.view_is) c.number_due-statement.ensures in
    let snapshot_is = subst (λ (h : History). snapshot ≡ snapshot_due h session) (sym c.self.view_is) c.snapshot_due-snapshot.ensures in
    let event_is = is_opening history session k snapshot Main k_is snapshot_is route_is in
    let newer : reverse c.put.new.events.items ≡ event ∷ history.events = ap reverse (c.put.ensures.items ∙ ap (λ (events : List Event). events ++ event ∷ []) c.make_room.ensures.items) ∙ newest_first i.events.items event in
    let all : ◌≡◌ {A = History} (record { shape = i.shape; world = i.world; events = reverse c.put.new.events.items }) (with_event history (opening_due history session)) =
    ap (λ (events : List Event). record { shape = i.shape; world = i.world; events = events }) newer ∙ ap (with_event history) event_is in (
      subst (λ (h : History). Main ≡ route_due h session) c.self.view_is route_is,
      subst (λ (h : History). ◌≡◌ {A = History} (record { shape = i.shape; world = i.world; events = reverse c.put.new.events.items }) (with_event h (opening_due h session))) c.self.view_is all,
    )
