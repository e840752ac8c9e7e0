-- What comes of an open statement, where there is one, that is run on its session's view.
use Rattle.std.specs.Prelude.{Option, Some, None}
use Rattle.dw_model.specs.declared.statements.Statement.{Statement}
use Rattle.dw_model.specs.Files.{Files}
use Rattle.dw_commit.specs.declared.views.View.{View}
use Rattle.dw_commit.specs.declared.work.Replied.{Replied}
use Rattle.dw_commit.specs.Replies.{IsReply}

-- the reply of a statement and a view that are there
abbrev pub IsReplyOf : Files → Option Statement → Option View → Replied → Type 0
IsReplyOf files None view replied = ⊥
IsReplyOf files (Some statement) None replied = ⊥
IsReplyOf files (Some statement) (Some view) replied = IsReply files statement view replied
