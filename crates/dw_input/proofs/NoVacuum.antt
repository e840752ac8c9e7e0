-- No VACUUM is read.
use Rattle.std.proofs.Common.{◌≡◌, ℕ, zero, suc, List, [], map, ap, sym, ◌∙◌}
use Rattle.std.specs.Prelude.{slice_get, Option, Some, None, Result, option_map, unwrap_or}
use Rattle.std.specs.Prelude.{Ok as Had, Err as Foreign}
use Rattle.std.proofs.lemmas.Option.{slice_get-map}
use Rattle.dw_lex.specs.declared.token.Token.{Token}
use Rattle.dw_lex.specs.Reading.{read_tokens}
use Rattle.dw_parse.specs.Reading.{read_statement}
use Rattle.dw_script.specs.Statements.{statements}
use Rattle.dw_model.specs.declared.statements.Statement.{Statement}
use Rattle.dw_model.specs.declared.statements.Statement.TheVariants.{Create, Drop, Lock, Insert, Select, Begin, Commit, Rollback, Vacuum}
use Rattle.dw_journal.specs.Worlds.{read_in, statement_at}
use Rattle.dw_input.specs.Scripts.{given_of, given_of_form, given_of_statement, given_of_tokens, givens_of, world_of}

form_no_vacuum : (form : Statement) (table : List ℕ) → read_in (Some (given_of_form form)) ≡ Some (Vacuum table) → ⊥
form_no_vacuum Begin table is = cc
form_no_vacuum Commit table is = cc
form_no_vacuum Rollback table is = cc
form_no_vacuum (Vacuum swept) table is = cc
form_no_vacuum (Create spec) table is = cc
form_no_vacuum (Drop dropped) table is = cc
form_no_vacuum (Lock tables) table is = cc
form_no_vacuum (Insert into columns rows) table is = cc
form_no_vacuum (Select query) table is = cc

statement_no_vacuum : (derived : Option Statement) (table : List ℕ) → read_in (Some (given_of_statement derived)) ≡ Some (Vacuum table) → ⊥
statement_no_vacuum None table is = cc
statement_no_vacuum (Some form) table is = form_no_vacuum form table is

tokens_no_vacuum : (tokens : Result (List Token) ℕ) (table : List ℕ) → read_in (Some (given_of_tokens tokens)) ≡ Some (Vacuum table) → ⊥
tokens_no_vacuum (Had tokens) table is = statement_no_vacuum (read_statement tokens) table is
tokens_no_vacuum (Foreign place) table is = cc

given_no_vacuum : (found : Option (List ℕ)) (table : List ℕ) → read_in (option_map given_of found) ≡ Some (Vacuum table) → ⊥
given_no_vacuum None table is = cc
given_no_vacuum (Some bytes) table is = tokens_no_vacuum (read_tokens bytes) table is

script_no_vacuum : (found : Option (List ℕ)) (place : ℕ) (table : List ℕ)
    → read_in (slice_get (unwrap_or (option_map givens_of found) []) place) ≡ Some (Vacuum table) → ⊥
script_no_vacuum None place table is = cc
script_no_vacuum (Some bytes) place table is =
    given_no_vacuum (slice_get (statements bytes) place) table (ap read_in (sym (slice_get-map given_of (statements bytes) place)) ∙ is)

-- no statement of a script is a VACUUM
pub no_vacuum : (files : List (List ℕ)) (session statement : ℕ) (table : List ℕ) → statement_at (world_of (map givens_of files)) session statement ≡ Some (Vacuum table) → ⊥
no_vacuum files session zero table is = cc
no_vacuum files zero (suc place) table is = cc
no_vacuum files (suc n) (suc place) table is =
    script_no_vacuum (slice_get files n) place table
    (ap (λ found. read_in (slice_get (unwrap_or found []) place)) (sym (slice_get-map givens_of files n)) ∙ is)
