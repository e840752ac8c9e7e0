-- What was committed stands when more events come.
use Rattle.std.proofs.Common.{◌≡◌, ℕ, ◌+◌, ◌≤◌, ◌<◌, true, false, List, [], ◌∷◌, ◌++◌, length, refl, ◌∙◌, arith}
use Rattle.std.specs.Prelude.{nat_le}
use Rattle.std.proofs.lemmas.Bool.Decides.{nat_tests}
use Rattle.std.specs.FinMap as map_of
use Rattle.dw_journal.specs.declared.Event.{Event}
use Rattle.dw_journal.specs.declared.Event.TheVariants.{Begin, Pass, Wait, Opened, Answer, Commit, Violation, Refuse, Rollback, VacuumBegin, VacuumSlice, VacuumEnd, Refresh, End}
use Rattle.dw_journal.specs.declared.World.{World}
use Rattle.dw_journal.specs.Transactions.{CommittedTransaction, committed, commits, committed_as, opened_statements, transaction_of}
use Rattle.dw_journal.specs.Contents.{contents_at, states, state_at, newest_state}

-- the states after no commit, after one, .. are one more than the commits
pub length-states : (world : World) (done : List CommittedTransaction) → length (states world done) ≡ length done + 1
length-states world [] = refl
length-states world (commit ∷ older) = omega (arith, length-states world older)

not_le : (a b : ℕ) → b < a → nat_le a b ≡ false
not_le a b lt = grind (arith, nat_tests, lt)

is_le : (a b : ℕ) → a ≤ b → nat_le a b ≡ true
is_le a b le = grind (arith, nat_tests, le)

-- one more commit leaves the states up to those before it
pub state_stands : (world : World) (commit : CommittedTransaction) (older : List CommittedTransaction) (count : ℕ) → count ≤ length older
    → state_at (states world (commit ∷ older)) count ≡ state_at (states world older) count
state_stands world commit older count le =
    let further : nat_le (length (states world older)) count ≡ false = not_le _ _ (omega (arith, length-states world older, le)) in
    rw further refl

-- after all commits, and past the last one, it is the newest state
pub state_newest : (world : World) (done : List CommittedTransaction) (count : ℕ) → length done ≤ count
    → state_at (states world done) count ≡ newest_state (states world done)
state_newest world [] count le = rw (is_le 0 count (omega arith)) refl
state_newest world (commit ∷ older) count le =
    let last : nat_le (length (states world older)) count ≡ true = is_le _ _ (omega (arith, length-states world older, le)) in
    rw last refl

-- before the first commit it is the empty database
pub state_first : (world : World) (done : List CommittedTransaction) → state_at (states world done) 0 ≡ map_of.empty
state_first world [] = refl
state_first world (commit ∷ older) = state_stands world commit older 0 (omega arith) ∙ state_first world older

-- the commits with one more event are those before it, and maybe one more
pub commits-event : (event : Event) (older : List Event) → commits older ≤ commits (event ∷ older)
commits-event (Begin session statement) older = omega arith
commits-event (Pass session statement word) older = omega arith
commits-event (Wait session statement holders) older = omega arith
commits-event (Opened session statement snapshot route) older = omega arith
commits-event (Answer session statement answer) older = omega arith
commits-event (Commit session statement stamp low high) older = omega arith
commits-event (Violation session statement low high object) older = omega arith
commits-event (Refuse session statement refusal) older = omega arith
commits-event (Rollback session statement) older = omega arith
commits-event (VacuumBegin session statement table) older = omega arith
commits-event (VacuumSlice session statement slice horizon) older = omega arith
commits-event (VacuumEnd session statement) older = omega arith
commits-event (Refresh cluster stamp) older = omega arith
commits-event (End session) older = omega arith

pub contents-event : (world : World) (event : Event) (older : List Event) (count : ℕ) → count ≤ commits older
    → contents_at world (event ∷ older) count ≡ contents_at world older count
contents-event world (Begin session statement) older count le = refl
contents-event world (Pass session statement word) older count le = refl
contents-event world (Wait session statement holders) older count le = refl
contents-event world (Opened session statement snapshot route) older count le = refl
contents-event world (Answer session statement answer) older count le = refl
contents-event world (Commit session statement stamp low high) older count le =
    state_stands world (committed_as session stamp low (opened_statements session older) (transaction_of session older)) (committed older) count le
contents-event world (Violation session statement low high object) older count le = refl
contents-event world (Refuse session statement refusal) older count le = refl
contents-event world (Rollback session statement) older count le = refl
contents-event world (VacuumBegin session statement table) older count le = refl
contents-event world (VacuumSlice session statement slice horizon) older count le = refl
contents-event world (VacuumEnd session statement) older count le = refl
contents-event world (Refresh cluster stamp) older count le = refl
contents-event world (End session) older count le = refl

commits-front : (newer older : List Event) → commits older ≤ commits (newer ++ older)
commits-front [] older = omega arith
commits-front (event ∷ newer) older = omega (arith, commits-front newer older, commits-event event (newer ++ older))

-- further events leave the contents after the commits that there were
pub contents-front : (world : World) (newer older : List Event) (count : ℕ) → count ≤ commits older
    → contents_at world (newer ++ older) count ≡ contents_at world older count
contents-front world [] older count le = refl
contents-front world (event ∷ newer) older count le =
    contents-event world event (newer ++ older) count (omega (arith, commits-front newer older)) ∙ contents-front world newer older count le
