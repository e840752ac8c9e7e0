-- What a session sees in its open transaction.
use Rattle.std.specs.Prelude.{◌≡◌, List}
use Rattle.dw_model.specs.declared.statements.Statement.{Statement}
use Rattle.dw_model.specs.Databases.{Tables}
use Rattle.dw_model.specs.Files.{Files}
use Rattle.dw_journal.specs.Contents.{view_after, changes_of}
use Rattle.dw_commit.specs.declared.views.View.{View}

-- the view is what these statements leave of the database `start`, with their changes in order
pub record IsViewOf (files : Files) (statements : List Statement) (start : Tables) (view : View) : Type 0 where
  pub database : view.database ≡ view_after files start statements
  pub changes : view.changes ≡ changes_of files statements start
