-- Why rounds end: where in a round nobody does more than wait, somebody is left who waits for nobody.
use Rattle.std.proofs.Common.{inl, inr, ◌≡◌, ℕ, zero, suc, ◌+◌, ◌<◌, ◌≤◌, true, false, true≢false, List, [], length, refl, sym, ap, subst, ◌∙◌, arith}
use Rattle.std.specs.Prelude.{None, ◌⊎◌}
use Rattle.dw_journal.specs.declared.World.{World}
use Rattle.dw_journal.specs.Worlds.{IsSession, session_count}
use Rattle.dw_journal.specs.History.{History, has_ended}
use Rattle.dw_journal.specs.Vacuums.{swept_by}
use Rattle.dw_journal.specs.Follows.{EachFollows}
use Rattle.dw_journal.specs.Legal.{EachIsLegal}
use Rattle.dw_journal.specs.Locks.{lock_state, waits_for}
use Rattle.dw_progress.specs.Free.{IsFree}
use Rattle.dw_progress.proofs.NoStuckRun.{somebody_is_free}
use Rattle.dw_top.specs.Rounds.{IsHeld, SomeoneIsLeft, total_left}
use Rattle.dw_top.proofs.Nearing.{Comes, InRound}

-- who is free isn't held
not_held : (history : History) (one : IsFree history) → IsHeld history one.session → ⊥
not_held history one (inl ended) = true≢false (sym ended ∙ one.left)
not_held history one (inr stuck) =
    let none : length (waits_for (lock_state history) one.session) ≡ 0 = ap length one.free in omega (arith, none, stuck)

held_at : (history : History) (count : ℕ) → count ≡ session_count history.world → ((t : ℕ) → t < count → IsHeld history (suc t))
    → (session : ℕ) → IsSession history.world session → IsHeld history session
held_at history count all held zero within = absurd (omega (arith, within.0))
held_at history count all held (suc t) within = held t (omega (arith, all, within.1))

pub round_nearer : (count : ℕ) {before after : History} → count ≡ session_count before.world → InRound count count before after → SomeoneIsLeft before
    → EachFollows after.shape after.world after.events → EachIsLegal after.shape after.world after.events → after.shape.sessions ≡ session_count after.world
    → ((session : ℕ) → swept_by session after.events ≡ None) → total_left after count < total_left before count
round_nearer count {before} {after} all round someone follows legal shaped unswept = by round.comes where
  by : Comes count count before after → total_left after count < total_left before count
  by (inl less) = less
  by (inr same) =
      let there : IsSession after.world someone.session = subst (λ (w : World). IsSession w someone.session) (sym round.leads.world) someone.there in
      let one = somebody_is_free after.shape after.world after.events follows legal shaped unswept someone.session there (same.2 someone.session someone.left) in
      let counted : count ≡ session_count after.world = all ∙ ap session_count (sym round.leads.world) in
      absurd (not_held after one (held_at after count counted same.1 one.session one.there))
