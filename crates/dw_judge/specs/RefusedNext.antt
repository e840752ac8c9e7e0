-- The refusals of the next statement, read off what is kept and what the table of locks answers it.
use Rattle.std.specs.Prelude.{◌≡◌, ℕ, ◌<◌, Bool, true, false, List, Option, Some, None, option_map}
use Rattle.dw_model.specs.declared.refusals.Refusal.{Refusal}
use Rattle.dw_model.specs.declared.refusals.Refusal.TheVariants.{Aborted as AbortedRefusal, InBlock, Memory}
use Rattle.dw_model.specs.Bound.{bound_refusal}
use Rattle.dw_model.specs.Databases.{Tables, def_of}
use Rattle.dw_journal.specs.declared.BlockState.{BlockState}
use Rattle.dw_journal.specs.declared.BlockState.TheVariants.{Outside, Within, Aborted}
use Rattle.dw_journal.specs.declared.Certified.{Certified}
use Rattle.dw_journal.specs.declared.Given.{Given}
use Rattle.dw_journal.specs.declared.Taken.{Taken}
use Rattle.dw_journal.specs.Turns.{Call, IsForeign, Commits, Sweeps, Works, call_of}
use Rattle.dw_journal.specs.Legal.{high_by, low_by, sweep_refusal, table_refusal}
use Rattle.dw_locks.specs.declared.locks.Asked.{Asked}
use Rattle.dw_commit.specs.declared.work.Replied.{Replied}
use Rattle.dw_commit.specs.declared.work.Replied.TheVariants.{Answered, Refused}
use Rattle.dw_judge.specs.declared.sessions.OpenOne.{OpenOne}
use Rattle.dw_judge.specs.Asking.{unless_asked}
use Rattle.dw_judge.specs.Sames.{same_refusal}

-- the statement was refused with this refusal
abbrev pub is_refused_so : Replied → Refusal → Bool
is_refused_so (Answered answer view) refusal = false
is_refused_so (Refused found) refusal = same_refusal found refusal

-- it is a COMMIT in a block
abbrev pub is_block_commit : Call → BlockState → Bool
is_block_commit Commits Within = true
is_block_commit call block = false

-- the first refusal with which a statement isn't opened, where this vacuum runs and this is what it is answered for locks
abbrev pub opening_kept : Option ℕ → Asked → Tables → Tables → Call → BlockState → Option Refusal
opening_kept swept asked database seen (IsForeign refusal) block = Some refusal
opening_kept swept asked database seen call Aborted = Some AbortedRefusal
opening_kept swept asked database seen (Sweeps table) Within = Some InBlock
opening_kept swept asked database seen (Sweeps table) Outside =
    sweep_refusal swept (unless_asked asked (table_refusal table database))
opening_kept swept asked database seen (Works given) block = unless_asked asked (bound_refusal given (def_of seen))
opening_kept swept asked database seen call block = None

-- what a transaction took, if one is open
abbrev pub took : Option OpenOne → Option Taken
took transaction = option_map (λ (one : OpenOne). one.taken) transaction

-- a commit may be refused for want of memory where it would be legal
abbrev pub IsCommitKept : List Certified → Option OpenOne → Refusal → Type 0
IsCommitKept commits transaction refusal =
    (refusal ≡ Memory) × (high_by commits (took transaction) < low_by commits (took transaction))

-- what may be refused: the COMMIT of a block, and else what isn't opened
abbrev pub IsRefusedBy : Bool → Type 0 → Option Refusal → Refusal → Type 0
IsRefusedBy true commits opening refusal = commits
IsRefusedBy false commits opening refusal = opening ≡ Some refusal

-- the refusal of the next statement, if there is one
abbrev pub IsNextKept : Tables → Tables → Option ℕ → Asked → List Certified → Option OpenOne → Refusal → Option Given
    → BlockState → Type 0
IsNextKept database seen swept asked commits transaction refusal None block = ⊥
IsNextKept database seen swept asked commits transaction refusal (Some given) block =
    IsRefusedBy (is_block_commit (call_of given) block) (IsCommitKept commits transaction refusal)
    (opening_kept swept asked database seen (call_of given) block) refusal
