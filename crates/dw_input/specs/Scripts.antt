-- The world that scripts are: what the grammar makes of the statements in their bytes.
use Rattle.std.specs.Prelude.{ℕ, List, [], ◌∷◌, map, Option, Some, None, Result}
use Rattle.std.specs.Prelude.{Ok as Had, Err as Foreign}
use Rattle.std.specs.FinMap as map_of
use Rattle.std.specs.Option.{option_map, option_or}
use Rattle.dw_io.specs.Outside.{Held}
use Rattle.dw_script.specs.declared.status.Status.{Status}
use Rattle.dw_script.specs.declared.status.Status.TheVariants.{BadScript}
use Rattle.dw_script.specs.Statements.{statements, script_cause}
use Rattle.dw_lex.specs.declared.token.Token.{Token}
use Rattle.dw_lex.specs.Reading.{read_tokens}
use Rattle.dw_parse.specs.Reading.{read_statement}
use Rattle.dw_model.specs.declared.refusals.Refusal.TheVariants.{Syntax}
use Rattle.dw_model.specs.declared.statements.Statement.{Statement}
use Rattle.dw_model.specs.declared.statements.Statement.TheVariants.{Vacuum}
use Rattle.dw_journal.specs.declared.Given.{Given}
use Rattle.dw_journal.specs.declared.Given.TheVariants.{Read, Refused}
use Rattle.dw_journal.specs.declared.World.{World}
use Rattle.dw_journal.specs.Worlds.{Scripts}
use Rattle.dw_input.specs.Files.{bytes_under}

-- A statement that a session can do is read. VACUUM is refused at its first byte, as outside the grammar, until sessions
-- can sweep.
abbrev pub given_of_form : Statement → Given
given_of_form (Vacuum table) = Refused (Syntax 0)
given_of_form statement = Read statement

-- the statement that the grammar derives, or the refusal at the statement's first byte where it derives none
abbrev pub given_of_statement : Option Statement → Given
given_of_statement None = Refused (Syntax 0)
given_of_statement (Some statement) = given_of_form statement

-- the statement that the grammar derives from the tokens, or the refusal at the first place where there is none
abbrev pub given_of_tokens : Result (List Token) ℕ → Given
given_of_tokens (Had tokens) = given_of_statement (read_statement tokens)
given_of_tokens (Foreign place) = Refused (Syntax place)

-- what the grammar makes of a statement's bytes
abbrev pub given_of : List ℕ → Given
given_of statement = given_of_tokens (read_tokens statement)

-- what the grammar makes of a script's bytes
abbrev pub givens_of : List ℕ → List Given
givens_of bytes = map given_of (statements bytes)

-- what scripts are run beside: no file is handed in until statements load them
abbrev pub world_of : Scripts → World
world_of scripts = record { scripts = scripts; files = map_of.empty }

-- the scripts that these names name, one for each session, as the world of a run
abbrev pub world_under : List (List ℕ) → Held → World
world_under names held = world_of (map (λ name. givens_of (bytes_under held name)) names)

-- why a script, beside its name, can't be read
abbrev pub refusal_of : List ℕ × List ℕ → Option Status
refusal_of script = option_map (BadScript script.0) (script_cause script.1)

-- why the first script that can't be read can't
abbrev pub bad_script : List (List ℕ × List ℕ) → Option Status
bad_script [] = None
bad_script (script ∷ scripts) = option_or (refusal_of script) (bad_script scripts)
