-- Which cause a script has.
use Rattle.std.proofs.Common.{◌≡◌, ℕ, ◌<◌, ◌≤◌, Bool, true, false, nat_lt, List, length, Some, None, Result, Ok, Err, IfOk, IfErr, refl, sym, ap, ◌∙◌}
use Rattle.std.proofs.lemmas.Str.{IsUtf8-from_is_utf8, is_utf8-from_IsUtf8}
use Rattle.std.specs.Str.{IsUtf8, is_utf8}
use Rattle.std.specs.Str.Lossy.{utf8_valid_len}
use Rattle.std.proofs.lemmas.Bool.Decides.{nat_tests}
use Rattle.std.proofs.Common.{arith}
use Rattle.dw_script.specs.declared.script.ScriptCause.{ScriptCause}
use Rattle.dw_script.specs.declared.script.ScriptCause.TheVariants.{NotUtf8, TooMany}
use Rattle.dw_script.specs.declared.script.Script.{Script}
use Rattle.dw_script.specs.declared.script.ScriptFault.{ScriptFault}
use Rattle.dw_script.specs.declared.script.ScriptFault.TheVariants.{Bad, Memory}
use Rattle.dw_script.specs.Place.{left_open, open_part, place_after}
use Rattle.dw_script.specs.Statements.{most_statements, cause_of, statements, script_cause, IfBad}

by_test : (bytes : List ℕ) (test : Bool) → is_utf8 bytes ≡ test → ¬ (IsUtf8 bytes) → is_utf8 bytes ≡ false
by_test bytes true e refuted = absurd (refuted (IsUtf8-from_is_utf8 bytes e))
by_test bytes false e refuted = e

pub cause_not_utf8 : (bytes : List ℕ) → ¬ (IsUtf8 bytes) → script_cause bytes ≡ Some (NotUtf8 (utf8_valid_len bytes))
unfolding script_cause
cause_not_utf8 bytes refuted = rw (by_test bytes (is_utf8 bytes) refl refuted) refl

-- in UTF-8, what is left open and the number of statements decide
pub cause_utf8 : (bytes : List ℕ) → IsUtf8 bytes → script_cause bytes ≡ cause_of (open_part (place_after bytes)) (length (statements bytes))
unfolding script_cause left_open
cause_utf8 bytes utf8 = rw (is_utf8-from_IsUtf8 bytes utf8) refl

pub cause_many : (bytes : List ℕ) → IsUtf8 bytes → open_part (place_after bytes) ≡ None → most_statements < length (statements bytes) → script_cause bytes ≡ Some TooMany
cause_many bytes utf8 closed many =
    let test : nat_lt most_statements (length (statements bytes)) ≡ true = grind (arith, nat_tests) in
    cause_utf8 bytes utf8 ∙ rw (closed, test) refl

pub cause_none : (bytes : List ℕ) → IsUtf8 bytes → open_part (place_after bytes) ≡ None → length (statements bytes) ≤ most_statements → script_cause bytes ≡ None
cause_none bytes utf8 closed few =
    let test : nat_lt most_statements (length (statements bytes)) ≡ false = grind (arith, nat_tests) in
    cause_utf8 bytes utf8 ∙ rw (closed, test) refl

pub read_after_cut : (cut : Result Script ScriptFault) (bytes : List ℕ) → IsUtf8 bytes → open_part (place_after bytes) ≡ None
    → IfOk cut (λ script. script.statements ≡ statements bytes) → IfOk cut (λ script. length script.statements ≤ most_statements)
    → IfOk cut (λ script. script_cause bytes ≡ None)
read_after_cut (Ok script) bytes utf8 closed same few = cause_none bytes utf8 closed (rw (← same) few)
read_after_cut (Err fault) bytes utf8 closed same few = tt

pub bad_after_cut : (cut : Result Script ScriptFault) (bytes : List ℕ) → IsUtf8 bytes → open_part (place_after bytes) ≡ None
    → IfErr cut (λ fault. IfBad fault (λ cause. (cause ≡ TooMany) × (most_statements < length (statements bytes))))
    → IfErr cut (λ fault. IfBad fault (λ cause. script_cause bytes ≡ Some cause))
bad_after_cut (Ok script) bytes utf8 closed many = tt
bad_after_cut (Err Memory) bytes utf8 closed many = tt
bad_after_cut (Err (Bad cause)) bytes utf8 closed many = cause_many bytes utf8 closed many.1 ∙ ap (λ (cause : ScriptCause). Some cause) (sym many.0)
