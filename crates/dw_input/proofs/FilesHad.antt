-- The bytes that are had are those that stand in the files.
use Rattle.std.proofs.Common.{◌≡◌, ℕ, ◌+◌, Bool, true, false, List, [], ◌∷◌, length, map, ap, nat_lt, refl, sym, ◌∙◌}
use Rattle.std.specs.Prelude.{Option, Some, None, Result, unwrap_or, if◌then◌else◌}
use Rattle.std.specs.Prelude.{Ok as Had, Err as Refused}
use Rattle.dw_io.specs.Outside.{Held}
use Rattle.dw_script.specs.declared.status.Status.{Status}
use Rattle.dw_input.specs.Files.{script_limit, bytes_within, room_after, file_of, files_of, with_file, with_bytes, bytes_under}
use Rattle.dw_input.specs.Scripts.{givens_of}

-- what is had where it isn't refused
had_by : (refuse : Bool) (status : Status) (there bytes : List ℕ)
    → (if refuse then Refused status else Had there) ≡ Had bytes → there ≡ bytes
had_by true status there bytes had = cc
had_by false status there bytes had = cc

-- bytes are had only of a file that is there
there_by : (room : ℕ) (name : List ℕ) (held : Option (List ℕ)) (bytes : List ℕ) → bytes_within room name held ≡ Had bytes → unwrap_or held [] ≡ bytes
there_by room name None bytes had = cc
there_by room name (Some there) bytes had = had_by (nat_lt room (length there)) _ there bytes had

pub bytes_there : (held : Held) (limit before : ℕ) (name bytes : List ℕ) → file_of held limit before name ≡ Had bytes → bytes_under held name ≡ bytes
bytes_there held limit before name bytes had = there_by (room_after limit before) name (held name) bytes had

later_had : (bytes : List ℕ) (later : Result (List (List ℕ)) Status) (files : List (List ℕ)) → with_bytes bytes later ≡ Had files
    → (more : List (List ℕ)) × (later ≡ Had more) × (bytes ∷ more ≡ files)
later_had bytes (Refused status) files had = cc
later_had bytes (Had more) files had = (more, refl, (cc))

first_had : (file : Result (List ℕ) Status) (later : List ℕ → Result (List (List ℕ)) Status) (files : List (List ℕ)) → with_file file later ≡ Had files
    → (bytes : List ℕ) × (more : List (List ℕ)) × (file ≡ Had bytes) × (later bytes ≡ Had more) × (bytes ∷ more ≡ files)
first_had (Refused status) later files had = cc
first_had (Had bytes) later files had =
    let rest = later_had bytes (later bytes) files had in
    (bytes, rest.0, refl, rest.1, rest.2)

-- so the statements of the bytes that were had are those of the scripts that are held
pub scripts_had : (held : Held) (before : ℕ) (names files : List (List ℕ)) → files_of held before names ≡ Had files
    → map givens_of files ≡ map (λ name. givens_of (bytes_under held name)) names
scripts_had held before [] files had = let none : files ≡ [] = cc in ap (map givens_of) none
scripts_had held before (name ∷ names) files had =
    let first = first_had (file_of held script_limit before name) (λ bytes. files_of held (before + length bytes) names) files had in
    ap (map givens_of) (sym first.4)
    ∙ ap (λ bytes. givens_of bytes ∷ map givens_of first.1) (sym (bytes_there held script_limit before name first.0 first.2))
    ∙ ap (λ scripts. givens_of (bytes_under held name) ∷ scripts) (scripts_had held (before + length first.0) names first.1 first.3)
