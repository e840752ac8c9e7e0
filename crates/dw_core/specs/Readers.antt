-- What a core tells of what is due of a session.
use Rattle.std.specs.Prelude.{◌≡◌, ℕ, Some}
use Rattle.dw_model.specs.declared.statements.Statement.{Statement}
use Rattle.dw_journal.specs.declared.BlockState.TheVariants.{Outside}
use Rattle.dw_journal.specs.declared.Given.{Given}
use Rattle.dw_journal.specs.Worlds.{given_at}
use Rattle.dw_journal.specs.History.{History}
use Rattle.dw_journal.specs.Blocks.{block_of}
use Rattle.dw_journal.specs.Transactions.{Transaction, transaction_of}
use Rattle.dw_journal.specs.Turns.{Nothing, AnswerOf, CommitOf, Taking, AtEnd, call_of, turn_of, number_due, statement_due}
use Rattle.dw_core.specs.declared.cores.Next.{Next}
use Rattle.dw_core.specs.declared.cores.Next.TheVariants as next

-- What is due of a session. The statement that is to be answered is one that the grammar read, and what is to be
-- committed is a transaction outside a block.
abbrev pub MeansTurn : History → ℕ → Next → Type 0
MeansTurn history session next.Nothing = turn_of history session ≡ Nothing
MeansTurn history session next.Answer =
    (turn_of history session ≡ AnswerOf (number_due history session))
    × (statement : Statement) × (statement_due history session ≡ Some statement)
MeansTurn history session next.Commit =
    (turn_of history session ≡ CommitOf (number_due history session))
    × (block_of history session ≡ Outside)
    × (transaction : Transaction) × (transaction_of session history.events ≡ Some transaction)
MeansTurn history session next.Take =
    (given : Given) × (given_at history.world session (number_due history session) ≡ Some given)
    × (turn_of history session ≡ Taking (number_due history session) (call_of given))
MeansTurn history session next.End = turn_of history session ≡ AtEnd
