-- Where a printed report parts from the one that is due.
use Rattle.std.specs.Prelude.{ℕ, ◌+◌, ◌==◌, bytes_eq, List, [], ◌∷◌, Option, Some, None, if◌then◌else◌}
use Rattle.std.specs.List.{count_by}

-- the longest front that two texts share
abbrev pub common_front : List ℕ → List ℕ → List ℕ
common_front [] due = []
common_front (byte ∷ bytes) [] = []
common_front (byte ∷ bytes) (other ∷ due) = if byte == other then byte ∷ common_front bytes due else []

-- how many lines end in these bytes
abbrev pub line_ends : List ℕ → ℕ
line_ends bytes = count_by (λ byte. byte == 10) bytes

-- The first line, counted from 1, that isn't the one that is due: the one after those that both texts share whole. It may
-- be wanting, be one too many, or want its line feed.
abbrev pub wrong_line : List ℕ → List ℕ → Option ℕ
wrong_line bytes due = if bytes_eq bytes due then None else Some (1 + line_ends (common_front bytes due))
