use Rattle.std.proofs.Common.{◌≡◌, ◌<◌, ◌^◌, ℕ, List, length}
use Rattle.std.specs.Prelude.{slice_get, Some}
use Rattle.dw_model.specs.declared.statements.Statement.TheVariants.{Vacuum}
use Rattle.dw_journal.specs.declared.Given.{Given}
use Rattle.dw_journal.specs.declared.Given.TheVariants.{Read}
use Rattle.dw_engine.proofs.tests.are_fit.Given as goal

abbrev pub invariant-loop-script : goal.invariant-loop-script
invariant-loop-script l =
    (place : ℕ) (script : List Given) → place < l.script-index → slice_get l.world.scripts place ≡ Some script
    → (length script < 2 ^ 32) × ((k : ℕ) (table : List ℕ) → slice_get script k ≡ Some (Read (Vacuum table)) → ⊥)
