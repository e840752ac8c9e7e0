-- What comes of an open statement that is run on its session's view.
use Rattle.std.specs.Prelude.{◌≡◌, [], ◌∷◌, ◌++◌, Some, None}
use Rattle.dw_model.specs.declared.answers.Plain.TheVariants.{Done}
use Rattle.dw_model.specs.declared.statements.Statement.{Statement}
use Rattle.dw_model.specs.Alone.{alone, change_of}
use Rattle.dw_model.specs.Files.{Files}
use Rattle.dw_model.specs.Limits.{limit_refusal}
use Rattle.dw_journal.specs.Legal.{work_refusal}
use Rattle.dw_commit.specs.declared.views.View.{View}
use Rattle.dw_commit.specs.declared.work.Replied.{Replied}
use Rattle.dw_commit.specs.declared.work.Replied.TheVariants.{Answered, Refused}

-- An answer is that of the statement run alone on the view, which then is the next view, with the statement's change after
-- the others. A refusal is its own, or the one of too many rows.
abbrev pub IsReply : Files → Statement → View → Replied → Type 0
IsReply files statement view (Answered answer next) =
    (alone files statement view.database ≡ Done answer next.database)
    × (limit_refusal statement next.database ≡ None)
    × (next.changes ≡ view.changes ++ change_of files statement view.database ∷ [])
IsReply files statement view (Refused refusal) = work_refusal statement (alone files statement view.database) ≡ Some refusal
