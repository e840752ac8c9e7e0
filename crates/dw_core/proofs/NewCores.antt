-- Sessions that have done nothing agree with no event.
use Rattle.std.proofs.Common.{◌≡◌, ℕ, zero, suc, ◌+◌, ◌-◌, List, [], ◌∷◌, ◌++◌, length, reverse, refl, sym, ap, subst, ◌∙◌, arith}
use Rattle.std.specs.Prelude.{Some, None, replicate, slice_get}
use Rattle.std.proofs.lemmas.List.Sums.{sum_by-cons}
use Rattle.dw_journal.specs.declared.BlockState.TheVariants.{Outside}
use Rattle.dw_journal.specs.declared.Event.{Event}
use Rattle.dw_journal.specs.declared.Shape.{Shape}
use Rattle.dw_journal.specs.declared.World.{World}
use Rattle.dw_journal.specs.Worlds.{AreShort, session_count}
use Rattle.dw_journal.specs.History.{History}
use Rattle.dw_journal.specs.Locks.{lock_state, wants_of}
use Rattle.dw_locks.specs.LockTable.{LockTable, StandsForLocks, free_entry}
use Rattle.dw_locks.proofs.Lasting.{new_stands}
use Rattle.dw_ssn.specs.Summaries.{Summaries, StandsFor}
use Rattle.dw_core.specs.declared.sessions.Session.{Session}
use Rattle.dw_core.specs.declared.sessions.Stage.TheVariants as stage
use Rattle.dw_core.specs.CoreInvariant.{CoreInvariant, IsKept, owed_events, total_owed}

abbrev pub fresh : Session
fresh = record { taken = 0; stage = stage.Between; block = Outside; transaction = None; waits = None }

abbrev pub AreFresh : List Session → Type 0
AreFresh [] = Unit {0}
AreFresh (session ∷ sessions) = (session ≡ fresh) × AreFresh sessions

pub one_more : (sessions : List Session) (session : Session) → AreFresh sessions → session ≡ fresh → AreFresh (sessions ++ session ∷ [])
one_more [] session all is = (is, tt)
one_more (first ∷ sessions) session all is = (all.0, one_more sessions session all.1 is)

each_fresh : (sessions : List Session) (place : ℕ) (session : Session) → AreFresh sessions → slice_get sessions place ≡ Some session → session ≡ fresh
each_fresh [] place session all is = cc
each_fresh (first ∷ sessions) zero session all is = cc (all.0)
each_fresh (first ∷ sessions) (suc place) session all is = each_fresh sessions place session all.1 is

owes_none : (sessions : List Session) → AreFresh sessions → total_owed sessions ≡ 0
owes_none [] all = refl
owes_none (session ∷ sessions) all =
    let first : owed_events session.stage session.block ≡ 0 = ap (λ (s : Session). owed_events s.stage s.block) all.0 in
    omega (arith, sum_by-cons (λ (s : Session). owed_events s.stage s.block) session sessions, first, owes_none sessions all.1)

module _ (shape : Shape) (world : World) where
  abbrev at : List Event → History
  at events = record { shape = shape; world = world; events = events }

  is_kept_fresh : (session : ℕ) → IsKept (at []) session fresh
  is_kept_fresh session = record { count_is = refl; block_is = refl; turn_is = refl; at_stage = tt; taken_is = refl; names = tt; waits_is = refl }

  pub agrees_new : (items : List Event) (sessions : List Session) (certifier : Summaries) (table : LockTable) (count capacity : ℕ) → items ≡ [] → AreFresh sessions
      → StandsFor certifier (record { oldest = 0; commits = [] }) → table ≡ replicate (shape.sessions + 1) free_entry → count ≡ 0 → length sessions ≡ session_count world → shape.sessions ≡ session_count world → AreShort world.scripts
      → CoreInvariant (at (reverse items)) sessions certifier table count capacity
  agrees_new items sessions certifier table count capacity none all stands table_is count_is number shaped short =
      subst (λ (events : List Event). CoreInvariant (at (reverse events)) sessions certifier table count capacity) (sym none)
      (record {
        number = number;
        shaped = shaped;
        short = short;
        each = λ session kept first there. subst (IsKept (at []) session) (sym (each_fresh sessions (session - 1) kept all there)) (is_kept_fresh session);
        stands = stands;
        snapshots = λ session is. tt;
        locks = subst (λ (t : LockTable). StandsForLocks t (lock_state (at []))) (sym (table_is ∙ ap (λ (n : ℕ). replicate (n + 1) free_entry) shaped))
            (new_stands (wants_of world) (session_count world));
        unswept = λ session. refl;
        unattached = λ cluster. refl;
        follows = tt;
        legal = tt;
        room = omega (arith, owes_none sessions all);
      })
