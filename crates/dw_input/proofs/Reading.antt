-- Files that are read one after another.
use Rattle.std.specs.Prelude.{ℕ, List, ◌++◌, Result}
use Rattle.std.specs.Prelude.{Ok as Had, Err as Refused}
use Rattle.dw_script.specs.declared.status.Status.{Status}

-- what is had after these files
abbrev pub after_files : List (List ℕ) → Result (List (List ℕ)) Status → Result (List (List ℕ)) Status
after_files front (Refused status) = Refused status
after_files front (Had files) = Had (front ++ files)
