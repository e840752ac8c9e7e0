use Rattle.std.proofs.Common.{◌≡◌, ◌<◌, ℕ, List}
use Rattle.std.specs.Prelude.{slice_get, Some}
use Rattle.dw_model.specs.declared.statements.Statement.TheVariants.{Vacuum}
use Rattle.dw_journal.specs.declared.Given.TheVariants.{Read}
use Rattle.dw_engine.proofs.tests.is_fit.Given as goal

abbrev pub invariant-loop-given : goal.invariant-loop-given
invariant-loop-given l =
    (place : ℕ) (table : List ℕ) → place < l.given-index → slice_get l.script place ≡ Some (Read (Vacuum table)) → ⊥
