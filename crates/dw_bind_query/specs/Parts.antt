-- What a call gives that owes something bound: it or the refusal, unless there was no memory; and what parts that are
-- bound one after another come to.
use Rattle.std.specs.Prelude.{◌≡◌, ℕ, List, slice_get, Option, Some, None, unwrap_or, Result, Ok, Err}
use Rattle.dw_expr.specs.declared.faults.BindFault.{BindFault}
use Rattle.dw_expr.specs.declared.faults.BindFault.TheVariants.{Unknown, Clash, Memory}
use Rattle.dw_expr.specs.declared.typed.Wanted.{Wanted}
use Rattle.dw_query.specs.Binding.{first_refusal}
use Rattle.dw_expr.specs.declared.typed.Wanted.TheVariants.{Anything}

abbrev pub Gives : {A : Type 0} → Result A BindFault → Result A BindFault → Type 0
Gives outcome (Ok made) = outcome ≡ Ok made
Gives outcome (Err (Unknown name)) = outcome ≡ Err (Unknown name)
Gives outcome (Err Clash) = outcome ≡ Err Clash
Gives outcome (Err Memory) = Unit {0}

-- the parts so far, or the refusal so far
abbrev pub so_far : {A : Type 0} → List A → Option BindFault → Result (List A) BindFault
so_far made None = Ok made
so_far made (Some fault) = Err fault

-- what two calls' refusals come to: where one had no memory, nothing is known of what it owes
abbrev pub told : BindFault → BindFault → BindFault
told Memory other = Memory
told first Memory = Memory
told first other = first_refusal first other

-- what the expression at a place of a tuple has to be; past the columns anything
abbrev pub wanted_at : List Wanted → ℕ → Wanted
wanted_at wanted place = unwrap_or (slice_get wanted place) Anything
