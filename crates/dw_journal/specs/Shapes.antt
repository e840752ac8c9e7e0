-- The shape of a warehouse.
use Rattle.std.specs.Prelude.{ℕ}
use Rattle.dw_journal.specs.declared.Shape.{Shape}

-- the shape where nothing else is asked for; the numbers are this project's own
abbrev pub standard_shape : ℕ → Shape
standard_shape sessions = record { nodes = 2; slices = 2; clusters = 1; slots = 5; sessions = sessions }
