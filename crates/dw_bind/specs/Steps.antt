-- What the passes over an expression are made of.
use Rattle.std.specs.Prelude.{ℕ, Bool, List, ◌++◌, Option, Some, None, if◌then◌else◌}
use Rattle.dw_expr.specs.declared.typed.Typed.{Typed}
use Rattle.dw_expr.specs.declared.typed.Typed.TheVariants.{Decided}
use Rattle.dw_expr.specs.BoundTree.{count_rows}

-- the first of two names, or else the second
abbrev pub first_name : Option (List ℕ) → Option (List ℕ) → Option (List ℕ)
first_name (Some name) other = Some name
first_name None other = other

-- COUNT(*), where aggregates may stand
abbrev pub counted : Bool → Option Typed
counted aggregates = if aggregates then Some (Decided count_rows) else None

-- the items before, and these
abbrev pub after : {A : Type 0} → List A → Option (List A) → Option (List A)
after before None = None
after before (Some items) = Some (before ++ items)
