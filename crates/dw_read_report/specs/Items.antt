-- Which scripts have only answers that a report can say: a SELECT of theirs has an item at least, so that the rows of its
-- answer have names. The grammar derives no other SELECT.
use Rattle.std.specs.List.{AllByRecursion}
use Rattle.dw_model.specs.declared.statements.Statement.{Statement}
use Rattle.dw_model.specs.declared.statements.Statement.TheVariants.{Select}
use Rattle.dw_journal.specs.declared.Given.{Given}
use Rattle.dw_journal.specs.declared.Given.TheVariants.{Read, Refused}
use Rattle.dw_journal.specs.declared.World.{World}
use Rattle.dw_read_report.specs.Readable.{HasAny}

-- a SELECT has an item
abbrev pub HasItems : Statement → Type 0
HasItems (Select query) = HasAny query.items
HasItems statement = Unit {0}

abbrev pub HasGivenItems : Given → Type 0
HasGivenItems (Read statement) = HasItems statement
HasGivenItems (Refused refusal) = Unit {0}

-- each SELECT of the scripts has one
abbrev pub EachHasItems : World → Type 0
EachHasItems world = AllByRecursion (AllByRecursion HasGivenItems) world.scripts
