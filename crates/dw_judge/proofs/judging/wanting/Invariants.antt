-- The sessions that the loop has passed have ended.
use Rattle.std.proofs.Common.{◌≡◌, ℕ, ◌<◌, ◌≤◌, true}
use Rattle.std.specs.Prelude.{Some, slice_get}
use Rattle.dw_journal.specs.History.{is_end}
use Rattle.dw_judge.specs.declared.sessions.Session.{Session}
use Rattle.dw_judge.specs.Readings.{newest_kept}
use Rattle.dw_judge.proofs.judging.wanting.Given as goal

abbrev pub invariant-loop-session : goal.invariant-loop-session
invariant-loop-session l =
    (session : ℕ) → 1 ≤ session → session < l.session → (kept : Session) → slice_get l.sessions session ≡ Some kept → is_end (newest_kept l.events kept) ≡ true
