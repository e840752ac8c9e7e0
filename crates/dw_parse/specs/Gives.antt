-- What a call of the parser gave.
use Rattle.std.specs.Prelude.{◌≡◌, Some, None, Result, Ok, Err, List}
use Rattle.dw_lex.specs.declared.token.Token.{Token}
use Rattle.dw_model.specs.declared.statements.Statement.{Statement}
use Rattle.dw_parse.specs.Reading.{read_statement}
use Rattle.dw_parse.specs.declared.fault.ParseFault.{ParseFault}
use Rattle.dw_parse.specs.declared.fault.ParseFault.TheVariants.{Syntax, Memory}

-- the statement, or the place 0 exactly where there is none, unless memory ran out
abbrev pub Gives : Result Statement ParseFault → List Token → Type 0
Gives (Ok statement) tokens = read_statement tokens ≡ Some statement
Gives (Err (Syntax place)) tokens = (read_statement tokens ≡ None) × (place ≡ 0)
Gives (Err Memory) tokens = Unit {0}
