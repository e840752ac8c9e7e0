-- Worked examples: what some transactions took, in the order of their commits, and the watermarks and orders that the
-- definitions give for them. The law `worked_examples` says the numbers.
use Rattle.std.specs.Prelude.{ℕ, ◌==◌, ◌&&◌, if◌then◌else◌, List, [], ◌∷◌, ◌++◌, map, reverse, length, codes}
use Rattle.dw_model.specs.declared.answers.Answer.{Answer as Reply}
use Rattle.dw_model.specs.declared.answers.Answer.TheVariants.{Plain}
use Rattle.dw_model.specs.declared.answers.Word.TheVariants.{CreateTable}
use Rattle.dw_model.specs.declared.objects.Object.{Object}
use Rattle.dw_model.specs.declared.objects.Object.TheVariants.{Def, Rows}
use Rattle.dw_journal.specs.declared.locks.Mode.TheVariants.{AccessExclusive}
use Rattle.dw_journal.specs.declared.locks.Want.{Want}
use Rattle.dw_journal.specs.declared.Event.{Event}
use Rattle.dw_journal.specs.declared.Event.TheVariants.{Begin, Wait, Opened, Answer}
use Rattle.dw_journal.specs.declared.Route.TheVariants.{Main}
use Rattle.dw_journal.specs.declared.Certified.{Certified}
use Rattle.dw_journal.specs.declared.Taken.{Taken}
use Rattle.dw_journal.specs.Transactions.{CommittedTransaction}
use Rattle.dw_journal.specs.Watermarks.{low_watermark, high_watermark}
use Rattle.dw_journal.specs.Locks.{Wants, LockState}
use Rattle.dw_journal.specs.Serial.{in_order}

-- both objects of a table
abbrev pub both : List ℕ → List Object
both name = Def name ∷ Rows name ∷ []

-- transactions of one statement: CREATE TABLE, a query, INSERT, and a change or deletion of rows
abbrev pub creates : ℕ → List ℕ → Taken
creates snapshot name = record { snapshot = snapshot; reads = both name; writes = both name }

abbrev pub selects : ℕ → List ℕ → Taken
selects snapshot name = record { snapshot = snapshot; reads = both name; writes = [] }

abbrev pub inserts : ℕ → List ℕ → Taken
inserts snapshot name = record { snapshot = snapshot; reads = Def name ∷ []; writes = Rows name ∷ [] }

abbrev pub changes : ℕ → List ℕ → Taken
changes snapshot name = record { snapshot = snapshot; reads = both name; writes = Rows name ∷ [] }

-- two statements of one transaction
abbrev pub and_then : Taken → Taken → Taken
and_then a b = record { snapshot = a.snapshot; reads = a.reads ++ b.reads; writes = a.writes ++ b.writes }

-- these transactions, newest first, as they are committed one after another
abbrev pub certified_all : List Taken → List Certified
certified_all [] = []
certified_all (taken ∷ older) =
    record { low = low_watermark taken (certified_all older); taken = taken } ∷ certified_all older

-- their low watermarks and their high ones, in the order of the commits
abbrev pub lows : List Taken → List ℕ
lows oldest_first = reverse (map (λ commit. commit.low) (certified_all (reverse oldest_first)))

abbrev pub highs_of : List Taken → List ℕ
highs_of [] = []
highs_of (taken ∷ older) = high_watermark taken (certified_all older) ∷ highs_of older

abbrev pub highs : List Taken → List ℕ
highs oldest_first = reverse (highs_of (reverse oldest_first))

-- their stamps in serial order
abbrev pub commits_of : List Certified → List CommittedTransaction
commits_of [] = []
commits_of (commit ∷ older) =
    record {
      session = 1;
      stamp = length (commit ∷ older);
      low = commit.low;
      snapshot = commit.taken.snapshot;
      opened = [];
      answered = [];
    }
    ∷ commits_of older

abbrev pub order : List Taken → List ℕ
order oldest_first = map (λ commit. commit.stamp) (in_order (commits_of (certified_all (reverse oldest_first))))

-- Two sessions each read one table and write the other.
abbrev pub write_skew : List Taken
write_skew = creates 0 (codes "a") ∷ creates 1 (codes "b") ∷ and_then (selects 2 (codes "a")) (inserts 2 (codes "b")) ∷ []

abbrev pub skewed : Taken
skewed = and_then (selects 2 (codes "b")) (inserts 2 (codes "a"))

-- One session changes rows that another deleted after its snapshot.
abbrev pub lost_update : List Taken
lost_update = creates 0 (codes "t") ∷ inserts 1 (codes "t") ∷ changes 2 (codes "t") ∷ []

abbrev pub lost : Taken
lost = and_then (selects 2 (codes "t")) (changes 2 (codes "t"))

-- A reader commits after the writer whose rows it didn't see, and comes first in serial order.
abbrev pub reader_before_writer : List Taken
reader_before_writer = creates 0 (codes "t") ∷ creates 1 (codes "u") ∷ inserts 2 (codes "t") ∷ selects 2 (codes "t") ∷ []

-- Three sessions, of which the last one's second transaction comes before its first in serial order.
abbrev pub three_sessions : List Taken
three_sessions =
    creates 0 (codes "x") ∷ creates 1 (codes "y") ∷ creates 2 (codes "z") ∷ inserts 3 (codes "x") ∷ inserts 3 (codes "z")
    ∷ and_then (selects 3 (codes "x")) (inserts 3 (codes "y")) ∷ selects 5 (codes "y") ∷ []

-- Two sessions lock the tables a and b in blocks, in opposite order: session 1 by its statements 4 and 5, session 2 by
-- its statements 2 and 3.
abbrev pub lock : List ℕ → List Want
lock name = record { table = name; mode = AccessExclusive } ∷ []

abbrev pub crossed_wants : Wants
crossed_wants session statement =
    if (session == 1) && (statement == 4) then lock (codes "a") else
    if (session == 1) && (statement == 5) then lock (codes "b") else
    if (session == 2) && (statement == 2) then lock (codes "b") else
    if (session == 2) && (statement == 3) then lock (codes "a") else []

abbrev pub locked : Reply
locked = Plain CreateTable

-- each session has its first lock, and session 1 waits for session 2; newest first
abbrev pub first_locks : List Event
first_locks =
    Answer 2 2 locked ∷ Opened 2 2 2 Main ∷ Begin 2 1 ∷ Answer 1 4 locked ∷ Opened 1 4 2 Main ∷ Begin 1 3 ∷ []

abbrev pub one_waits : List Event
one_waits = Wait 1 5 (2 ∷ []) ∷ first_locks

-- the locks at these events, where two sessions take part
abbrev pub locks_at : List Event → LockState
locks_at events = record { wants = crossed_wants; sessions = 2; events = events }
