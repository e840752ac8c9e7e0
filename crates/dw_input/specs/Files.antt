-- The files that a program reads: each within a limit of its own, and all together within one. The limits are this
-- project's own.
use Rattle.std.specs.Prelude.{ℕ, ◌+◌, ◌-◌, min, nat_lt, List, [], ◌∷◌, length, Option, Some, None, Result, if◌then◌else◌, unwrap_or}
use Rattle.std.specs.Prelude.{Ok as Had, Err as Refused}
use Rattle.dw_io.specs.Outside.{Held}
use Rattle.dw_script.specs.declared.status.Status.{Status}
use Rattle.dw_script.specs.declared.status.Status.TheVariants.{Missing, TooLong}

-- the most bytes that a schedule or a script may have: 16 MiB
abbrev pub script_limit : ℕ
script_limit = 16777216

-- the most bytes that a file of this limit may have where so many were read before it: all files of a call have at most
-- 1 GiB together
abbrev pub room_after : ℕ → ℕ → ℕ
room_after limit before = min limit (1073741824 - before)

-- the bytes that stand under a name, or why they can't be had: nothing stands there, or too much
abbrev pub bytes_within : ℕ → List ℕ → Option (List ℕ) → Result (List ℕ) Status
bytes_within room name None = Refused (Missing name)
bytes_within room name (Some bytes) = if nat_lt room (length bytes) then Refused (TooLong name) else Had bytes

-- the bytes of a file of this limit, where so many were read before it, or why they can't be had
abbrev pub file_of : Held → ℕ → ℕ → List ℕ → Result (List ℕ) Status
file_of held limit before name = bytes_within (room_after limit before) name (held name)

-- a file's bytes before those of the files after it, unless one of them can't be had
abbrev pub with_bytes : List ℕ → Result (List (List ℕ)) Status → Result (List (List ℕ)) Status
with_bytes bytes (Refused status) = Refused status
with_bytes bytes (Had files) = Had (bytes ∷ files)

abbrev pub with_file : Result (List ℕ) Status → (List ℕ → Result (List (List ℕ)) Status) → Result (List (List ℕ)) Status
with_file (Refused status) later = Refused status
with_file (Had bytes) later = with_bytes bytes (later bytes)

-- the bytes of scripts, where so many bytes were read before them, or why the first that can't be had can't
abbrev pub files_of : Held → ℕ → List (List ℕ) → Result (List (List ℕ)) Status
files_of held before [] = Had []
files_of held before (name ∷ names) =
    with_file (file_of held script_limit before name) (λ bytes. files_of held (before + length bytes) names)

-- the bytes that are held under a name
abbrev pub bytes_under : Held → List ℕ → List ℕ
bytes_under held name = unwrap_or (held name) []
