-- Each SELECT that is read from bytes has an item.
use Rattle.std.proofs.Common.{◌≡◌, ℕ, List, [], ◌∷◌, map, refl}
use Rattle.std.specs.Prelude.{Option, Some, None, Result}
use Rattle.std.specs.Prelude.{Ok as Had, Err as Foreign}
use Rattle.std.specs.List.{AllByRecursion}
use Rattle.dw_lex.specs.declared.token.Token.{Token}
use Rattle.dw_lex.specs.Reading.{read_tokens}
use Rattle.dw_script.specs.Statements.{statements}
use Rattle.dw_model.specs.declared.statements.Statement.{Statement}
use Rattle.dw_model.specs.declared.statements.Statement.TheVariants as forms
use Rattle.dw_parse_words.specs.Pieces.{Listed, one, more}
use Rattle.dw_parse.specs.Grammar.{Derives, begin, start, commit, end, rollback, abort, create, drop, lock, lock_table, insert, select}
use Rattle.dw_parse.specs.Reading.{read_statement}
use Rattle.dw_parse.proofs.StatementLemmas.{read_derives}
use Rattle.dw_input.specs.Scripts.{given_of, given_of_form, given_of_statement, given_of_tokens, givens_of, world_of}
use Rattle.dw_read_report.specs.Readable.{HasAny}
use Rattle.dw_read_report.specs.Items.{EachHasItems, HasGivenItems, HasItems}

-- a list of the grammar has one or more
listed_any : {A : Type 0} {X : ℕ → A → ℕ → Type 0} (tokens : List Token) {i j : ℕ} {xs : List A} → Listed X tokens i xs j → HasAny xs
listed_any tokens (one x) = tt
listed_any tokens (more x comma others) = tt

derived_items : (tokens : List Token) (statement : Statement) → Derives tokens statement → HasItems statement
derived_items tokens statement (begin w rest) = tt
derived_items tokens statement (start w t count) = tt
derived_items tokens statement (commit w rest) = tt
derived_items tokens statement (end w rest) = tt
derived_items tokens statement (rollback w rest) = tt
derived_items tokens statement (abort w rest) = tt
derived_items tokens statement (create w t table o list c attributes last few) = tt
derived_items tokens statement (drop w t table last) = tt
derived_items tokens statement (lock w list last) = tt
derived_items tokens statement (lock_table w t list last) = tt
derived_items tokens statement (insert w t table names v list last) = tt
derived_items tokens statement (select w list f table condition) = listed_any tokens list

form_items : (form : Statement) → HasItems form → HasGivenItems (given_of_form form)
form_items forms.Begin has = tt
form_items forms.Commit has = tt
form_items forms.Rollback has = tt
form_items (forms.Vacuum table) has = tt
form_items (forms.Create spec) has = tt
form_items (forms.Drop table) has = tt
form_items (forms.Lock tables) has = tt
form_items (forms.Insert table columns rows) has = tt
form_items (forms.Select query) has = has

statement_items : (tokens : List Token) (read : Option Statement) → read_statement tokens ≡ read → HasGivenItems (given_of_statement read)
statement_items tokens None is = tt
statement_items tokens (Some form) is = form_items form (derived_items tokens form (read_derives tokens form is))

token_items : (tokens : Result (List Token) ℕ) → HasGivenItems (given_of_tokens tokens)
token_items (Had tokens) = statement_items tokens (read_statement tokens) refl
token_items (Foreign place) = tt

text_items : (texts : List (List ℕ)) → AllByRecursion HasGivenItems (map given_of texts)
text_items [] = tt
text_items (text ∷ texts) = (token_items (read_tokens text), text_items texts)

script_items : (scripts : List (List ℕ)) → AllByRecursion (AllByRecursion HasGivenItems) (map givens_of scripts)
script_items [] = tt
script_items (script ∷ scripts) = (text_items (statements script), script_items scripts)

pub read_items : (scripts : List (List ℕ)) → EachHasItems (world_of (map givens_of scripts))
read_items scripts = script_items scripts
