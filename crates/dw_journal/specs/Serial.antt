-- Which order the committed transactions are run in, each alone, and what that run has to give.
-- The order is after the Serial Safety Net paper of Wang, Johnson, Fekete and Pandis: ascending low watermark.
use Rattle.std.specs.Prelude.{◌≡◌, Bool, false, ◌==◌, ◌&&◌, ◌||◌, nat_lt, if◌then◌else◌, List, [], ◌∷◌}
use Rattle.std.specs.FinMap as map_of
use Rattle.dw_model.specs.declared.answers.Answer.{Answer as Reply}
use Rattle.dw_model.specs.declared.answers.Plain.TheVariants.{Done}
use Rattle.dw_model.specs.declared.statements.Statement.{Statement}
use Rattle.dw_model.specs.Databases.{Tables}
use Rattle.dw_model.specs.Alone.{alone}
use Rattle.dw_journal.specs.declared.Journal.{Journal}
use Rattle.dw_model.specs.Files.{Files}
use Rattle.dw_journal.specs.declared.World.{World}
use Rattle.dw_journal.specs.History.{events_of, history_of}
use Rattle.dw_journal.specs.Transactions.{CommittedTransaction, committed, answered_statements}
use Rattle.dw_journal.specs.Contents.{contents}

-- in serial order the lower low watermark comes first, and at equal ones the later commit
abbrev pub comes_first : CommittedTransaction → CommittedTransaction → Bool
comes_first a b = nat_lt a.low b.low || ((a.low == b.low) && nat_lt b.stamp a.stamp)

-- a list in serial order with one more transaction at its place
abbrev pub put_in_order : CommittedTransaction → List CommittedTransaction → List CommittedTransaction
put_in_order a [] = a ∷ []
put_in_order a (b ∷ rest) = if comes_first a b then a ∷ b ∷ rest else b ∷ put_in_order a rest

-- these transactions in serial order
abbrev pub in_order : List CommittedTransaction → List CommittedTransaction
in_order [] = []
in_order (a ∷ rest) = put_in_order a (in_order rest)

-- none of these comes before it
abbrev pub NoneComesBefore : CommittedTransaction → List CommittedTransaction → Type 0
NoneComesBefore a [] = Unit {0}
NoneComesBefore a (b ∷ rest) = (comes_first b a ≡ false) × NoneComesBefore a rest

-- none comes before one that stands before it
abbrev pub AreInOrder : List CommittedTransaction → Type 0
AreInOrder [] = Unit {0}
AreInOrder (a ∷ rest) = NoneComesBefore a rest × AreInOrder rest

-- the committed transactions of a journal in serial order
abbrev pub serial_order : Journal → List CommittedTransaction
serial_order journal = in_order (committed (events_of journal))

-- these statements, each run alone on what the one before left, give these answers and lead from one database to the
-- other
abbrev pub RunsAlone : Files → List (Statement × Reply) → Tables → Tables → Type 0
RunsAlone files [] before after = after ≡ before
RunsAlone files (answered ∷ later) before after =
    (mid : Tables) × ((alone files answered.0 before ≡ Done answered.1 mid) × RunsAlone files later mid after)

-- these transactions, one after another, give their answers and lead from one database to the other
abbrev pub RunsInOrder : World → List CommittedTransaction → Tables → Tables → Type 0
RunsInOrder world [] before after = after ≡ before
RunsInOrder world (commit ∷ later) before after =
    (mid : Tables)
    × (RunsAlone world.files (answered_statements world commit.session commit.answered) before mid
    × RunsInOrder world later mid after)

-- The journal is serial: from the empty database on, its committed transactions, run alone in serial order, give their
-- printed answers and the committed database. Snapshots and watermarks have no part in that run but for its order.
abbrev pub IsSerial : World → Journal → Type 0
IsSerial world journal = RunsInOrder world (serial_order journal) map_of.empty (contents (history_of world journal))
