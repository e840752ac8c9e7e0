use Rattle.std.proofs.Common.{inl, inr, ◌≡◌, ◌≢◌, ◌+◌, ◌<◌, ℕ, List, [], length, ◌∷◌, ◌++◌, reverse, refl, sym, ap, subst, ◌∙◌, arith}
use Rattle.std.specs.Prelude.{Option, Some}
use Rattle.std.proofs.lemmas.Bool.{false≢true}
use Rattle.std.specs.List.{slice_set}
use Rattle.dw_journal.specs.declared.Event.{Event}
use Rattle.dw_journal.specs.declared.Event.TheVariants.{Wait}
use Rattle.dw_journal.specs.Worlds.{IsSession}
use Rattle.dw_journal.specs.History.{History, newest_event, with_event}
use Rattle.dw_journal.specs.Legal.{IsLockWait, IsNextEvent}
use Rattle.dw_journal.specs.Locks.{lock_state, wants_of}
use Rattle.dw_journal.specs.Turns.{number_due}
use Rattle.dw_locks.specs.LockTable.{LockTable, StandsForLocks, entry_of, waiting}
use Rattle.dw_locks.proofs.Lasting.{waiting_stands}
use Rattle.dw_core.specs.Asking.{HasWaited, IsToAsk, wait_due}
use Rattle.dw_core.specs.Changes.{session_after}
use Rattle.dw_core.specs.declared.sessions.Session.{Session}
use Rattle.dw_core.specs.declared.sessions.Stage.TheVariants as stage
use Rattle.dw_core.proofs.Asking.{is_lock_wait, is_wait_due, wait_comes, wait_follows, waiting_left}
use Rattle.dw_core.proofs.CoreSteps.{agrees_after, newest_first, room_made, roomier, set_after, still_open}
use Rattle.dw_core.proofs.Locking.{is_entry}
use Rattle.dw_core.proofs.NextEvents.{kept_waiting}
use Rattle.dw_core.proofs.KeptSessions.{found}
use Rattle.dw_core.proofs.cores.Core.wait.Goals as goal

pub invariant_of-self : goal.invariant_of-self
invariant_of-self c =
    let i = c.self.inside in
    let history : History = record { shape = i.shape; world = i.world; events = reverse i.events.items } in
    let made = c.make_room.ensures in
    roomier history _ i.sessions.items i.certifier i.locks i.locks _ _ _ _ c.self.invariant (ap reverse made.items) c.self.invariant.locks made.len made.capacity

pub invariant_of-self-in_err-_waits : goal.invariant_of-self-in_err-_waits
invariant_of-self-in_err-_waits c =
    let i = c.self.inside in
    let history : History = record { shape = i.shape; world = i.world; events = reverse i.events.items } in
    let made = c.make_room.ensures in
    let locks = subst (λ (t : LockTable). StandsForLocks t (lock_state history)) (sym c.in_err-_waits.ensures.err) c.self.invariant.locks in
    roomier history _ i.sessions.items i.certifier i.locks c.request.new.self _ _ _ _ c.self.invariant (ap reverse made.items) locks made.len made.capacity

pub invariant_of-self-2 : goal.invariant_of-self-2
invariant_of-self-2 c =
    let i = c.self.inside in
    let history : History = record { shape = i.shape; world = i.world; events = reverse i.events.items } in
    let session = c.args.session in
    let core = c.self.invariant in
    let k = c.number_due-statement.result in
    let holders = c.in_ok-named.named in
    let event = Wait session k holders in
    let is : IsSession i.world session = subst (λ (h : History). IsSession h.world session) (sym c.self.view_is) c.requires.session in
    let to_ask = subst (λ (h : History). IsToAsk h session) (sym c.self.view_is) c.requires.work in
    let k_is = subst (λ (h : History). k ≡ number_due h session) (sym c.self.view_is) c.number_due-statement.ensures in
    let waits = subst (λ (h : History). IsLockWait h session (number_due h session) c.args.holders.now) (sym c.self.view_is) c.requires.waits in
    let wants_is = subst (λ (h : History). c.args.wants.now ≡ wants_of h.world session (number_due h session)) (sym c.self.view_is) c.requires.wants in
    let other : newest_event session history.events ≢ Some (wait_due history session c.args.holders.now) =
    subst (λ (h : History). newest_event session h.events ≢ Some (wait_due h session c.args.holders.now)) (sym c.self.view_is)
    (λ same. false≢true (sym c.if-is_waiting.false ∙ c.is_waiting.ensures.1 same)) in
    let next : IsNextEvent history event = subst (IsNextEvent history) (sym (is_wait_due history session k holders c.args.holders.now k_is c.in_ok-named.ensures))
    (wait_comes history session is to_ask c.args.holders.now waits other) in
    let kept = c.index_mut.result.now in
    let within : c.place_of.result < length i.sessions.items = omega (arith, c.place_of.ensures, core.number, is.0, is.1) in
    let there = found i.sessions.items c.place_of.result session kept c.place_of.ensures within c.index_mut.ensures.value in
    let waits_for : Option (List ℕ) = Some c.in_ok-kept.kept in
    let now : Session = record { taken = kept.taken; stage = stage.Between; block = kept.block; transaction = kept.transaction; waits = waits_for } in
    let is_kept = kept_waiting history session kept (core.each session kept is.0 there) k holders waits_for (ap Some (c.in_ok-named.ensures ∙ sym c.in_ok-kept.ensures)) in
    let newer = ap reverse (c.put.ensures.items ∙ ap (λ (events : List Event). events ++ event ∷ []) c.make_room.ensures.items) ∙ newest_first i.events.items event in
    let changed = set_after (session_after i.world event) i.sessions.items _ c.place_of.result session _ c.place_of.ensures within c.put.ensures.kept in
    let room = room_made history i.sessions.items i.certifier i.locks _ _ core session is now _ _ _ changed (c.put.ensures.len ∙ ap (λ n. n + 1) c.make_room.ensures.len)
    (omega (arith, c.in_ok-make_room.ensures.room, c.make_room.ensures.len, c.put.ensures.capacity)) in
    let left = c.put.ensures.locks ∙ c.in_ok-_waits.ensures.table ∙ waiting_left history i.locks core.locks session (number_due history session) c.args.wants.now wants_is c.args.holders.now waits in
    let locks : StandsForLocks c.put.new.locks (lock_state (with_event history event)) =
    subst (λ (t : LockTable). StandsForLocks t (lock_state (with_event history event))) (sym left)
    (subst (λ (n : ℕ). StandsForLocks (slice_set i.locks session (waiting (wants_of i.world session n) (entry_of i.locks session))) (lock_state (with_event history event))) k_is
    (waiting_stands i.locks (lock_state history) core.locks session (is_entry history i.locks core.locks session is (core.unswept session)) k holders)) in
    agrees_after history i.sessions.items i.certifier i.locks _ _ core session is event refl next tt now is_kept _ _ i.certifier _ _ _ newer changed locks core.stands
    (still_open history i.sessions.items i.certifier i.locks _ _ core session is event refl next tt now is_kept) room

pub returns-clause-ok : goal.returns-clause-ok
returns-clause-ok c =
    let i = c.self.inside in
    let history : History = record { shape = i.shape; world = i.world; events = reverse i.events.items } in
    let session = c.args.session in
    let k = c.number_due-statement.result in
    let holders = c.in_ok-named.named in
    let event = Wait session k holders in
    let due = wait_due history session c.args.holders.now in
    let is : IsSession i.world session = subst (λ (h : History). IsSession h.world session) (sym c.self.view_is) c.requires.session in
    let to_ask = subst (λ (h : History). IsToAsk h session) (sym c.self.view_is) c.requires.work in
    let k_is = subst (λ (h : History). k ≡ number_due h session) (sym c.self.view_is) c.number_due-statement.ensures in
    let waits = subst (λ (h : History). IsLockWait h session (number_due h session) c.args.holders.now) (sym c.self.view_is) c.requires.waits in
    let other : newest_event session history.events ≢ Some (wait_due history session c.args.holders.now) =
    subst (λ (h : History). newest_event session h.events ≢ Some (wait_due h session c.args.holders.now)) (sym c.self.view_is)
    (λ same. false≢true (sym c.if-is_waiting.false ∙ c.is_waiting.ensures.1 same)) in
    let newer : reverse c.put.new.events.items ≡ event ∷ history.events = ap reverse (c.put.ensures.items ∙ ap (λ (events : List Event). events ++ event ∷ []) c.make_room.ensures.items) ∙ newest_first i.events.items event in
    let all : ◌≡◌ {A = History} (record { shape = i.shape; world = i.world; events = reverse c.put.new.events.items }) (with_event history due) =
    ap (λ (events : List Event). record { shape = i.shape; world = i.world; events = events }) newer
    ∙ ap (with_event history) (is_wait_due history session k holders c.args.holders.now k_is c.in_ok-named.ensures) in
    subst (λ (h : History). HasWaited h session c.args.holders.now (record { shape = i.shape; world = i.world; events = reverse c.put.new.events.items })) c.self.view_is
    (wait_follows history session is to_ask c.args.holders.now, is_lock_wait history session is to_ask c.args.holders.now waits, inr (other, all))

pub returns-then-is_waiting-clause-ok : goal.returns-then-is_waiting-clause-ok
returns-then-is_waiting-clause-ok c =
    let now = c.args.self.now in
    let session = c.args.session in (
      wait_follows now session c.requires.session c.requires.work c.args.holders.now,
      is_lock_wait now session c.requires.session c.requires.work c.args.holders.now c.requires.waits,
      inl (c.is_waiting.ensures.0 c.if-is_waiting.true, refl),
    )
