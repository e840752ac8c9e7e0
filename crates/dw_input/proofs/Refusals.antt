-- Why a file can't be had.
use Rattle.std.proofs.Common.{◌≡◌, ℕ, ◌<◌, ◌∙◌, true, List, length, ap, sym, refl, nat_lt, rules, tests}
use Rattle.std.specs.Prelude.{Option, Some, None, Result, IsSomeAnd}
use Rattle.std.specs.Prelude.{Err as Refused}
use Rattle.dw_script.specs.declared.status.Status.{Status}
use Rattle.dw_script.specs.declared.status.Status.TheVariants.{ReadFault, Memory, TooLong}
use Rattle.dw_input.specs.Files.{bytes_within}
use Rattle.dw_input.specs.Statuses.{IsOrMemory, MayRefuse}

-- what is wrong with a file may be said, or want of memory
MayRefuse-meant : (file : Result (List ℕ) Status) (meant status : Status) → file ≡ Refused meant
    → IsOrMemory meant status → MayRefuse file status
MayRefuse-meant file meant Memory is said = tt
MayRefuse-meant file meant ReadFault is said = tt
MayRefuse-meant file meant status is said = is ∙ ap Refused (sym said)

-- so a file past the limit may be refused as too long
pub MayRefuse-too_long : (room : ℕ) (name : List ℕ) (held : Option (List ℕ)) (status : Status)
    → IsSomeAnd held (λ bytes. room < length bytes) → IsOrMemory (TooLong name) status → MayRefuse (bytes_within room name held) status
MayRefuse-too_long room name None status long said = absurd long
MayRefuse-too_long room name (Some bytes) status long said =
    let past : nat_lt room (length bytes) ≡ true = search (rules, tests) in
    MayRefuse-meant (bytes_within room name (Some bytes)) (TooLong name) status (rw past refl) said
