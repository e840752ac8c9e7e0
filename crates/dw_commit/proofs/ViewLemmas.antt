-- What one more statement makes of a view.
use Rattle.std.proofs.Common.{◌≡◌, ℕ, List, [], ◌∷◌, ◌++◌, map, refl, sym, ap, ◌∙◌}
use Rattle.std.specs.Prelude.{Option, Some}
use Rattle.std.specs.List.{cons_option}
use Rattle.std.proofs.lemmas.List.{map-append}
use Rattle.dw_model.specs.declared.answers.Answer.{Answer as Reply}
use Rattle.dw_model.specs.declared.answers.Plain.TheVariants.{Done}
use Rattle.dw_model.specs.declared.changes.Change.{Change}
use Rattle.dw_model.specs.declared.statements.Statement.{Statement}
use Rattle.dw_model.specs.Alone.{alone, change_of, next_of}
use Rattle.dw_model.specs.Databases.{Tables}
use Rattle.dw_model.specs.Files.{Files}
use Rattle.dw_journal.specs.declared.World.{World}
use Rattle.dw_journal.specs.Worlds.{statement_at}
use Rattle.dw_journal.specs.Transactions.{statement_with, statements_in, answered_statements}
use Rattle.dw_journal.specs.Contents.{view_after, changes_of}
use Rattle.dw_journal.proofs.AloneLemmas.{next_of-done}
use Rattle.dw_journal.proofs.TakenObjects.{answered_statements-more}
use Rattle.dw_commit.specs.declared.views.View.{View}
use Rattle.dw_commit.specs.Views.{IsViewOf}

-- further statements after others
view_after-append : (files : Files) (start : Tables) (first second : List Statement)
    → view_after files start (first ++ second) ≡ view_after files (view_after files start first) second
view_after-append files start [] second = refl
view_after-append files start (statement ∷ first) second = view_after-append files (next_of files statement start) first second

changes_of-append : (files : Files) (start : Tables) (first second : List Statement)
    → changes_of files (first ++ second) start ≡ changes_of files first start ++ changes_of files second (view_after files start first)
changes_of-append files start [] second = refl
changes_of-append files start (statement ∷ first) second =
    ap (λ (later : List Change). change_of files statement start ∷ later) (changes_of-append files (next_of files statement start) first second)

-- a statement that is answered comes last
pub statements_in-answered : (world : World) (session k : ℕ) (answer : Reply) (statement : Statement) (answered : List (ℕ × Reply))
    → statement_at world session k ≡ Some statement
    → statements_in world session ((k, answer) ∷ answered) ≡ statements_in world session answered ++ statement ∷ []
statements_in-answered world session k answer statement answered given =
    let first = λ (pair : Statement × Reply). pair.0 in
    ap (λ (pairs : List (Statement × Reply)). map first pairs) (answered_statements-more world session k answer answered)
    ∙ map-append first (answered_statements world session answered) (cons_option (statement_with (statement_at world session k) answer) [])
    ∙ ap (λ (found : Option Statement). statements_in world session answered ++ map first (cons_option (statement_with found answer) [])) given

-- what one more statement does to a view
pub IsViewOf-answered : (files : Files) (statements : List Statement) (start : Tables) (statement : Statement) (answer : Reply) (view next : View)
    → IsViewOf files statements start view → alone files statement view.database ≡ Done answer next.database
    → next.changes ≡ view.changes ++ change_of files statement view.database ∷ []
    → IsViewOf files (statements ++ statement ∷ []) start next
IsViewOf-answered files statements start statement answer view next is is_done grown = record {
  database = sym (next_of-done files statement view.database next.database answer is_done)
      ∙ ap (next_of files statement) is.database ∙ sym (view_after-append files start statements (statement ∷ []));
  changes = grown
      ∙ ap (λ (tables : Tables). view.changes ++ change_of files statement tables ∷ []) is.database
      ∙ ap (λ (changes : List Change). changes ++ change_of files statement (view_after files start statements) ∷ []) is.changes
      ∙ sym (changes_of-append files start statements (statement ∷ []));
}
