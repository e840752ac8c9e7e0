-- What a journal is read beside: the statements of each session's script, each of them read or refused, and the files
-- that were handed in.
use Rattle.std.specs.Prelude.{◌≡◌, ℕ, zero, suc, ◌^◌, ◌≤◌, ◌<◌, List, [], length, slice_get, unwrap_or, Option, Some, None}
use Rattle.dw_model.specs.declared.statements.Statement.{Statement}
use Rattle.dw_journal.specs.declared.Given.{Given}
use Rattle.dw_journal.specs.declared.Given.TheVariants.{Read, Refused}
use Rattle.dw_journal.specs.declared.World.{World}

-- the statements of each session's script, sessions in ascending number
abbrev pub Scripts : Type 0
Scripts = List (List Given)

-- how many sessions have a script; they are numbered from 1
abbrev pub session_count : World → ℕ
session_count world = length world.scripts

abbrev pub IsSession : World → ℕ → Type 0
IsSession world session = (1 ≤ session) × (session ≤ session_count world)

-- the statements of a session's script; session 0, the background worker, has none
abbrev pub script_of : World → ℕ → List Given
script_of world zero = []
script_of world (suc place) = unwrap_or (slice_get world.scripts place) []

-- statement k of a session's script, from 1; there is no statement 0
abbrev pub given_at : World → ℕ → ℕ → Option Given
given_at world session zero = None
given_at world session (suc place) = slice_get (script_of world session) place

-- the statement that the grammar read there, if it did
abbrev pub read_in : Option Given → Option Statement
read_in None = None
read_in (Some (Read statement)) = Some statement
read_in (Some (Refused refusal)) = None

abbrev pub statement_at : World → ℕ → ℕ → Option Statement
statement_at world session statement = read_in (given_at world session statement)

-- each script has so few statements that their numbers fit 32 bits
abbrev pub AreShort : Scripts → Type 0
AreShort scripts = (place : ℕ) (script : List Given) → slice_get scripts place ≡ Some script → length script < 2 ^ 32
