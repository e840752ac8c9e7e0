-- The refusals of statements, by number and text. The numbers and texts are this project's own.
use Rattle.std.specs.Prelude.{ℕ, Option, Some, None, Result, Ok, Err}
use Rattle.dw_model.specs.declared.refusals.Refusal.{Refusal}
use Rattle.dw_model.specs.declared.refusals.Refusal.TheVariants.{Syntax, Unknown, Exists, Clash, Range, NullIn, Deadlock, Aborted, InBlock, Vacuuming, Limit, Memory}

-- the number that a report prints before a refusal's text
abbrev pub number_of : Refusal → ℕ
number_of (Syntax place) = 1
number_of (Unknown name) = 2
number_of (Exists name) = 3
number_of Clash = 4
number_of Range = 5
number_of (NullIn column) = 7
number_of (Deadlock cycle) = 10
number_of Aborted = 11
number_of InBlock = 12
number_of (Vacuuming session) = 13
number_of (Limit count) = 14
number_of Memory = 16

-- the refusal where there is one, or else what follows
abbrev pub unless_refused : {A : Type 0} → Option Refusal → Result A Refusal → Result A Refusal
unless_refused None result = result
unless_refused (Some refusal) result = Err refusal

-- what a step makes of a result; a refusal stays
abbrev pub after_result : {A B : Type 0} → (A → Result B Refusal) → Result A Refusal → Result B Refusal
after_result step (Ok value) = step value
after_result step (Err refusal) = Err refusal
