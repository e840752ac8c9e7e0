use Rattle.std.proofs.Common.{◌≡◌, ◌-◌, ◌<◌, ◌≤◌, ℕ, List, [], ◌∷◌, ◌++◌, length, set, reverse, refl, sym, ap, subst, ◌∙◌, arith}
use Rattle.std.specs.Prelude.{Option, Some, None}
use Rattle.dw_journal.specs.declared.Event.{Event}
use Rattle.dw_journal.specs.Worlds.{IsSession}
use Rattle.dw_journal.specs.History.{History, with_event}
use Rattle.dw_journal.specs.Follows.{FollowsAfter}
use Rattle.dw_journal.specs.Legal.{IsNextEvent}
use Rattle.dw_journal.specs.Turns.{number_due}
use Rattle.dw_core.specs.declared.transactions.Transaction.{Transaction}
use Rattle.dw_core.specs.Changes.{session_after}
use Rattle.dw_core.specs.CoreInvariant.{HasNames}
use Rattle.dw_core.specs.DueEvents.{commit_due, decision_of}
use Rattle.dw_core.specs.Traces.{LeavesUnlessStamped}
use Rattle.dw_core.proofs.Committing.{decided_alike, decided_calm, decision, decision_ends, decision_of_it, leaves_none, not_none, oldest_kept, owes_one}
use Rattle.std.specs.List.{filter_map}
use Rattle.dw_journal.specs.Worlds.{session_count}
use Rattle.dw_journal.specs.Transactions.{commits, open_snapshots, snapshot_of}
use Rattle.dw_journal.specs.Legal.{certified}
use Rattle.dw_journal.proofs.Stand.{commits-event}
use Rattle.dw_ssn.specs.CommitList.{CommitList}
use Rattle.dw_core.specs.CoreInvariant.{IsWithin}
use Rattle.dw_core.specs.Horizons.{kept_snapshot}
use Rattle.dw_core.specs.Pruned.{pruned_at}
use Rattle.dw_core.proofs.Horizons.{settled_open, settled_stands, snapshots_kept}
use Rattle.dw_core.proofs.NextEvents.{are_sets}
use Rattle.dw_core.proofs.CoreSteps.{agrees_after, each_after, length_set, pruned, still_open, has_room, newest_first, room_owed, set_after}
use Rattle.dw_core.proofs.KeptSessions.{found}
use Rattle.dw_core.proofs.Locking.{ended_locked, none_held}
use Rattle.dw_locks.specs.LockTable.{LockTable, StandsForLocks}
use Rattle.dw_journal.specs.Locks.{lock_state}
use Rattle.dw_core.specs.Changes.{locks_after}
use Rattle.dw_core.proofs.cores.Core.commit.Goals as goal

pub unreachable-requires : goal.unreachable-requires
unreachable-requires c =
    let i = c.self.inside in
    let history : History = record { shape = i.shape; world = i.world; events = reverse i.events.items } in
    let session = c.args.session in
    let core = c.self.invariant in
    let kept = c.index_mut.result.now in
    let is : IsSession i.world session = subst (λ (h : History). IsSession h.world session) (sym c.self.view_is) c.requires.session in
    let follows = subst (λ (h : History). FollowsAfter h (commit_due h session)) (sym c.self.view_is) c.requires.follows in
    let there = found i.sessions.items c.place_of.result session kept c.place_of.ensures (omega (arith, c.place_of.ensures, core.number, is.0, is.1)) c.index_mut.ensures.value in
    not_none history session is kept (core.each session kept is.0 there) (number_due history session) _ _ _ follows (sym c.take.ensures.value ∙ c.in_default.is)

pub decide-decided-requires : goal.decide-decided-requires
decide-decided-requires c =
    let i = c.self.inside in
    let history : History = record { shape = i.shape; world = i.world; events = reverse i.events.items } in
    let session = c.args.session in
    let core = c.self.invariant in
    let kept = c.index_mut.result.now in
    let one_is : kept.transaction ≡ Some c.in-Some.transaction = sym c.take.ensures.value ∙ c.in-Some.is in
    let is : IsSession i.world session = subst (λ (h : History). IsSession h.world session) (sym c.self.view_is) c.requires.session in
    let there = found i.sessions.items c.place_of.result session kept c.place_of.ensures (omega (arith, c.place_of.ensures, core.number, is.0, is.1)) c.index_mut.ensures.value in
    let is_kept = core.each session kept is.0 there in
    record {
      names = subst HasNames one_is is_kept.names;
      oldest = oldest_kept history session kept is_kept c.in-Some.transaction one_is i.certifier.oldest _ (core.snapshots session is);
      set = (are_sets history session kept is_kept c.in-Some.transaction one_is).writes;
      stands = (_, core.stands);
    }

pub put-requires-clause-room : goal.put-requires-clause-room
put-requires-clause-room c =
    let i = c.self.inside in
    let history : History = record { shape = i.shape; world = i.world; events = reverse i.events.items } in
    let session = c.args.session in
    let core = c.self.invariant in
    let kept = c.index_mut.result.now in
    let is : IsSession i.world session = subst (λ (h : History). IsSession h.world session) (sym c.self.view_is) c.requires.session in
    let follows = subst (λ (h : History). FollowsAfter h (commit_due h session)) (sym c.self.view_is) c.requires.follows in
    let there = found i.sessions.items c.place_of.result session kept c.place_of.ensures (omega (arith, c.place_of.ensures, core.number, is.0, is.1)) c.index_mut.ensures.value in
    has_room history i.sessions.items i.certifier i.locks _ _ core session is kept there
    (owes_one history session is kept (core.each session kept is.0 there) (number_due history session) _ _ _ follows)

pub invariant_of-self : goal.invariant_of-self
invariant_of-self c =
    let i = c.self.inside in
    let history : History = record { shape = i.shape; world = i.world; events = reverse i.events.items } in
    let session = c.args.session in
    let core = c.self.invariant in
    let kept = c.index_mut.result.now in
    let k = number_due history session in
    let result = c.decide-decided.result.0 in
    let event = decision_of session k result in
    let one_is : kept.transaction ≡ Some c.in-Some.transaction = sym c.take.ensures.value ∙ c.in-Some.is in
    let is : IsSession i.world session = subst (λ (h : History). IsSession h.world session) (sym c.self.view_is) c.requires.session in
    let follows = subst (λ (h : History). FollowsAfter h (commit_due h session)) (sym c.self.view_is) c.requires.follows in
    let within : c.place_of.result < length i.sessions.items = omega (arith, c.place_of.ensures, core.number, is.0, is.1) in
    let there = found i.sessions.items c.place_of.result session kept c.place_of.ensures within c.index_mut.ensures.value in
    let is_kept = core.each session kept is.0 there in
    let list : CommitList = record { oldest = pruned_at history; commits = certified history } in
    let decides = c.decide-decided.ensures.decides list core.stands in
    let after = decides.0 in
    let ok = decision history session is kept is_kept k _ _ _ follows c.in-Some.transaction one_is list after refl result decides.2 in
    let event_is : c.decide-decided.result.1 ≡ event = subst (λ (h : History). c.decide-decided.result.1 ≡ decision_of session (number_due h session) result) (sym c.self.view_is)
    (c.decide-decided.ensures.event ∙ ap (λ (n : ℕ). decision_of session n result) c.number_due-statement.ensures) in
    let changed = set_after (session_after i.world c.decide-decided.result.1) i.sessions.items _ c.place_of.result session _ c.place_of.ensures within c.put.ensures.kept
    ∙ ap (λ (t : Option Transaction). set i.sessions.items (session - 1) (session_after i.world c.decide-decided.result.1 (record { taken = kept.taken; stage = kept.stage; block = kept.block; transaction = t; waits = kept.waits }))) c.take.ensures.after
    ∙ ap (λ (e : Event). set i.sessions.items (session - 1) (session_after i.world e (record { taken = kept.taken; stage = kept.stage; block = kept.block; transaction = None; waits = kept.waits }))) event_is
    ∙ ap (set i.sessions.items (session - 1)) (decided_alike history session k result kept) in
    let newer = ap reverse (c.put.ensures.items ∙ ap (λ (e : Event). i.events.items ++ e ∷ []) event_is) ∙ newest_first i.events.items event in
    let owes = owes_one history session is kept is_kept k _ _ _ follows in
    let room = room_owed history i.sessions.items i.certifier i.locks _ _ core session is kept (session_after i.world event kept) _ _ _ there changed c.put.ensures.len c.put.ensures.capacity (omega (arith, owes, ok.owes_none)) in
    let calm = decided_calm history session k result in
    let now = session_after i.world event kept in
    let each = each_after history i.sessions.items i.certifier i.locks _ _ core session is event ok.of_it ok.next calm now ok.is_kept_now in
    let within = still_open history i.sessions.items i.certifier i.locks _ _ core session is event ok.of_it ok.next calm now ok.is_kept_now in
    let among : i.certifier.oldest ≤ commits (event ∷ history.events) = omega (arith, pruned history i.sessions.items i.certifier i.locks _ _ core session is, commits-event event history.events) in
    let sessions_are = c.as_slice.ensures.value ∙ changed in
    let open_are : filter_map kept_snapshot c.as_slice.result.now ≡ open_snapshots (session_count i.world) (event ∷ history.events) =
    ap (filter_map kept_snapshot) sessions_are
    ∙ snapshots_kept (with_event history event) (set i.sessions.items (session - 1) now) (length_set i.sessions.items (session - 1) now ∙ core.number) each in
    let settled = c.settle.ensures after decides.1 in
    let stands = settled_stands history session k i.certifier.oldest core.stands.oldest_is c.settle.new.certifier result after c.as_slice.result.now settled ok.certified_now (ok.oldest_now ∙ sym core.stands.oldest_is) open_are within among in
    let opens = settled_open history session k i.certifier.oldest core.stands.oldest_is result within in
    let locked_is = c.put.ensures.locks ∙ ap (λ (e : Event). locks_after e session i.locks) event_is in
    let locks = subst (λ (t : LockTable). StandsForLocks t (lock_state (with_event history event))) (sym locked_is)
    (ended_locked history i.locks core.locks session is (core.unswept session) event ok.of_it (decision_ends session k result)) in
    agrees_after history i.sessions.items i.certifier i.locks _ _ core session is event ok.of_it ok.next calm now ok.is_kept_now _ _ c.settle.new.certifier _ _ _ newer changed locks stands
    (λ other is_other. subst (λ (n : ℕ). IsWithin n (commits (event ∷ history.events)) (snapshot_of other (event ∷ history.events))) (sym stands.oldest_is) (opens other is_other)) room

pub returns-clause-comes : goal.returns-clause-comes
returns-clause-comes c =
    let i = c.self.inside in
    let history : History = record { shape = i.shape; world = i.world; events = reverse i.events.items } in
    let session = c.args.session in
    let core = c.self.invariant in
    let kept = c.index_mut.result.now in
    let result = c.decide-decided.result.0 in
    let one_is : kept.transaction ≡ Some c.in-Some.transaction = sym c.take.ensures.value ∙ c.in-Some.is in
    let is : IsSession i.world session = subst (λ (h : History). IsSession h.world session) (sym c.self.view_is) c.requires.session in
    let follows = subst (λ (h : History). FollowsAfter h (commit_due h session)) (sym c.self.view_is) c.requires.follows in
    let there = found i.sessions.items c.place_of.result session kept c.place_of.ensures (omega (arith, c.place_of.ensures, core.number, is.0, is.1)) c.index_mut.ensures.value in
    let list : CommitList = record { oldest = pruned_at history; commits = certified history } in
    let decides = c.decide-decided.ensures.decides list core.stands in
    let ok = decision history session is kept (core.each session kept is.0 there) (number_due history session) _ _ _ follows c.in-Some.transaction one_is list decides.0 refl result decides.2 in
    subst (λ (h : History). IsNextEvent h (decision_of session (number_due h session) result)) c.self.view_is ok.next

pub returns-clause-trace : goal.returns-clause-trace
returns-clause-trace c =
    let i = c.self.inside in
    let history : History = record { shape = i.shape; world = i.world; events = reverse i.events.items } in
    let session = c.args.session in
    let core = c.self.invariant in
    let k = c.number_due-statement.result in
    let result = c.decide-decided.result.0 in
    let event = decision_of session k result in
    let held = none_held history session (core.unswept session) event (decision_of_it session k result) (decision_ends session k result) in
    let newer = ap reverse (c.put.ensures.items ∙ ap (λ (e : Event). i.events.items ++ e ∷ []) c.decide-decided.ensures.event) ∙ newest_first i.events.items event in
    subst (λ (h : History). LeavesUnlessStamped result h session (record { shape = i.shape; world = i.world; events = reverse c.put.new.events.items })) c.self.view_is
    (subst (λ (events : List Event). LeavesUnlessStamped result history session (record { shape = i.shape; world = i.world; events = events })) (sym newer) (leaves_none history session k result held))
