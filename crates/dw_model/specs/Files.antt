-- The files that were handed in: the bytes of each, under its name. A name that isn't there is absent.
use Rattle.std.specs.Prelude.{ℕ, List, map}
use Rattle.std.specs.Ordering.{nat_cmp}
use Rattle.std.specs.Cmp.Lexicographic.{slice_cmp}
use Rattle.std.specs.FinMap as map_of
use Rattle.dw_model.specs.declared.files.File.{File}

-- names are told apart by their bytes
abbrev pub Files : Type 0
Files = map_of.FinMap (slice_cmp nat_cmp) (List ℕ)

-- the fields of the files: the bytes of each beside its name
abbrev pub named_bytes : List File → List (List ℕ × List ℕ)
named_bytes files = map (λ file. (file.name, file.bytes.items)) files
