-- Blocks: what a session does between BEGIN and the end of its block, after the SQL standard's transactions.
use Rattle.std.specs.Prelude.{ℕ, Bool, true, false, ◌&&◌, if◌then◌else◌, List, [], ◌∷◌, Option, Some}
use Rattle.dw_model.specs.declared.answers.Word.{Word}
use Rattle.dw_model.specs.declared.answers.Word.TheVariants as words
use Rattle.dw_model.specs.declared.refusals.Refusal.{Refusal}
use Rattle.dw_model.specs.declared.refusals.Refusal.TheVariants.{Memory}
use Rattle.dw_model.specs.declared.statements.Statement.{Statement}
use Rattle.dw_model.specs.declared.statements.Statement.TheVariants.{Commit as CommitStatement}
use Rattle.dw_journal.specs.declared.BlockState.{BlockState}
use Rattle.dw_journal.specs.declared.BlockState.TheVariants.{Outside, Within, Aborted}
use Rattle.dw_journal.specs.declared.Event.{Event}
use Rattle.dw_journal.specs.declared.Event.TheVariants.{Begin, Pass, Wait, Opened, Answer, Commit, Violation, Refuse, Rollback, VacuumBegin, VacuumSlice, VacuumEnd, Refresh, End}
use Rattle.dw_journal.specs.declared.World.{World}
use Rattle.dw_journal.specs.Worlds.{statement_at}
use Rattle.dw_journal.specs.History.{History, is_of}

-- a refusal aborts the block
abbrev pub refused_in : BlockState → BlockState
refused_in Outside = Outside
refused_in Within = Aborted
refused_in Aborted = Aborted

-- a COMMIT that passes ends its block; other words change nothing where they pass
abbrev pub passed_in : Word → BlockState → BlockState
passed_in words.Commit before = Outside
passed_in word before = before

abbrev pub is_memory : Refusal → Bool
is_memory Memory = true
is_memory refusal = false

abbrev pub is_commit : Option Statement → Bool
is_commit (Some CommitStatement) = true
is_commit statement = false

-- where a session stands once this statement is refused: a COMMIT that is refused for want of memory ends its block
abbrev pub block_refused : Option Statement → Refusal → BlockState → BlockState
block_refused statement refusal before = if is_memory refusal && is_commit statement then Outside else refused_in before

-- Where a session stands once it has this event. A block begins at its `Begin`. It ends at a commit, a violation, a
-- rollback, the script's end, a COMMIT that passes, and a COMMIT that is refused for want of memory. Any other refusal
-- aborts it.
abbrev pub block_after : World → Event → BlockState → BlockState
block_after world (Begin session statement) before = Within
block_after world (Pass session statement word) before = passed_in word before
block_after world (Wait session statement holders) before = before
block_after world (Opened session statement snapshot route) before = before
block_after world (Answer session statement answer) before = before
block_after world (Commit session statement stamp low high) before = Outside
block_after world (Violation session statement low high object) before = Outside
block_after world (Refuse session statement refusal) before =
    block_refused (statement_at world session statement) refusal before
block_after world (Rollback session statement) before = Outside
block_after world (VacuumBegin session statement table) before = before
block_after world (VacuumSlice session statement slice horizon) before = before
block_after world (VacuumEnd session statement) before = before
block_after world (Refresh cluster stamp) before = before
block_after world (End session) before = Outside

abbrev pub block_by : World → ℕ → List Event → BlockState
block_by world session [] = Outside
block_by world session (event ∷ older) =
    if is_of session event then block_after world event (block_by world session older) else block_by world session older

-- where a session stands
abbrev pub block_of : History → ℕ → BlockState
block_of history session = block_by history.world session history.events
