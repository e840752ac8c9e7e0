-- How many rows a table may have that a statement writes. The limit is this project's own.
use Rattle.std.specs.Prelude.{ℕ, nat_lt, List, length, Option, Some, None, if◌then◌else◌}
use Rattle.dw_model.specs.declared.refusals.Refusal.{Refusal}
use Rattle.dw_model.specs.declared.refusals.Refusal.TheVariants.{Limit}
use Rattle.dw_model.specs.declared.statements.Statement.{Statement}
use Rattle.dw_model.specs.declared.statements.Statement.TheVariants.{Begin, Commit, Rollback, Vacuum, Create, Drop, Lock, Insert, Select}
use Rattle.dw_model.specs.Databases.{Tables, rows_of}

-- the table whose rows a statement writes
abbrev pub written_table : Statement → Option (List ℕ)
written_table Begin = None
written_table Commit = None
written_table Rollback = None
written_table (Vacuum table) = None
written_table (Create spec) = Some spec.name
written_table (Drop table) = Some table
written_table (Lock tables) = None
written_table (Insert table columns rows) = Some table
written_table (Select query) = None

-- so many rows in a table are refused where they are too many: more than 4,194,304
abbrev pub too_many : ℕ → Option Refusal
too_many count = if nat_lt 4194304 count then Some (Limit count) else None

-- the refusal of a table with too many rows in this database
abbrev pub too_many_in : Option (List ℕ) → Tables → Option Refusal
too_many_in None next = None
too_many_in (Some name) next = too_many (length (rows_of next name))

-- a statement is refused where it would leave too many rows in the table that it writes: `next` is what it leaves
abbrev pub limit_refusal : Statement → Tables → Option Refusal
limit_refusal statement next = too_many_in (written_table statement) next
