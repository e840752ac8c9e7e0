-- A commit as its changes: what the transaction's statements changed, applied to the committed database one after another.
use Rattle.std.specs.Prelude.{◌≡◌, List, [], ◌∷◌, map}
use Rattle.dw_model.specs.declared.changes.Change.{Change}
use Rattle.dw_model.specs.declared.objects.Object.{Object}
use Rattle.dw_model.specs.Changes.{changed}
use Rattle.dw_model.specs.Databases.{Tables}
use Rattle.dw_model.specs.Objects.{SameAt, SameAtAll}
use Rattle.dw_journal.specs.declared.World.{World}
use Rattle.dw_journal.specs.Transactions.{CommittedTransaction, taken_by}
use Rattle.dw_journal.specs.Contents.{effect_of, after_commit}

-- a database after changes one after another
abbrev pub changed_by_all : List Change → Tables → Tables
changed_by_all [] tables = tables
changed_by_all (change ∷ later) tables = changed_by_all later (changed change tables)

-- all statements that were opened in a transaction were answered
abbrev pub AllAnswered : CommittedTransaction → Type 0
AllAnswered commit = commit.opened ≡ map (λ pair. pair.0) commit.answered

-- Where the database `before` has the same of all that the transaction read as the one at its snapshot, its commit on `before`
-- applies its changes to it.
abbrev pub CommitAppliesChanges : World → CommittedTransaction → Tables → Tables → Type 0
CommitAppliesChanges world commit start before =
    AllAnswered commit → SameAtAll before start (taken_by world commit).reads → (object : Object) →
    SameAt (after_commit (effect_of world commit start) before) (changed_by_all (effect_of world commit start).changes before) object
