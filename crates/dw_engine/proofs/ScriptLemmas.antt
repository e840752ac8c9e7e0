-- Scripts in which no table is swept.
use Rattle.std.proofs.Common.{◌≡◌, ℕ, zero, suc, List, [], refl, ap, ◌∙◌}
use Rattle.std.specs.Prelude.{Option, Some, None, slice_get, unwrap_or}
use Rattle.dw_model.specs.declared.statements.Statement.{Statement}
use Rattle.dw_model.specs.declared.statements.Statement.TheVariants.{Vacuum}
use Rattle.dw_journal.specs.declared.Given.{Given}
use Rattle.dw_journal.specs.declared.Given.TheVariants.{Read, Refused}
use Rattle.dw_journal.specs.declared.World.{World}
use Rattle.dw_journal.specs.Worlds.{read_in}
use Rattle.dw_engine.specs.EngineInvariant.{HaveNoVacuum}

-- no script sweeps a table where none has such a statement at any place
pub HaveNoVacuum-each : (world : World)
    → ((place : ℕ) (script : List Given) → slice_get world.scripts place ≡ Some script
    → (k : ℕ) (table : List ℕ) → slice_get script k ≡ Some (Read (Vacuum table)) → ⊥)
    → HaveNoVacuum world
HaveNoVacuum-each world each zero zero table is = cc
HaveNoVacuum-each world each zero (suc k) table is = cc
HaveNoVacuum-each world each (suc place) zero table is = cc
HaveNoVacuum-each world each (suc place) (suc k) table is = by_script (slice_get world.scripts place) refl is
  where
    by_given : (script : List Given) → slice_get world.scripts place ≡ Some script → (given : Option Given) → slice_get script k ≡ given
        → read_in given ≡ Some (Vacuum table) → ⊥
    by_given script there None at is = cc
    by_given script there (Some (Refused refusal)) at is = cc
    by_given script there (Some (Read statement)) at is =
        let same : statement ≡ Vacuum table = cc is in
        each place script there k table (at ∙ ap (λ (s : Statement). Some (Read s)) same)

    by_script : (script : Option (List Given)) → slice_get world.scripts place ≡ script → read_in (slice_get (unwrap_or script []) k) ≡ Some (Vacuum table) → ⊥
    by_script None at is = cc
    by_script (Some script) at is = by_given script at (slice_get script k) refl is
