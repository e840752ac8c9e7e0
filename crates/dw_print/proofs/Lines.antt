-- What stands in a buffer after the writes of a line, and after those of a report.
use Rattle.std.proofs.Common.{◌≡◌, ℕ, List, [], ◌++◌, codes, decimal, refl, append_assoc}
use Rattle.dw_journal.specs.declared.Shape.{Shape}
use Rattle.dw_print.specs.Report.{header}

-- the six writes of the first line
pub header_is_written : (shape : Shape) (before nodes slices clusters slots sessions after : List ℕ)
    → nodes ≡ before ++ codes "warehouse nodes " ++ decimal shape.nodes
    → slices ≡ nodes ++ codes " slices " ++ decimal shape.slices
    → clusters ≡ slices ++ codes " clusters " ++ decimal shape.clusters
    → slots ≡ clusters ++ codes " slots " ++ decimal shape.slots
    → sessions ≡ slots ++ codes " sessions " ++ decimal shape.sessions
    → after ≡ sessions ++ codes "\n" → after ≡ before ++ header shape
unfolding header
header_is_written shape before nodes slices clusters slots sessions after a b c d e f =
    rw (f, e, d, c, b, a) (simp append_assoc)

-- the four parts of a report
pub parts_are_written : (before first second third after w x y z : List ℕ)
    → before ≡ [] → first ≡ before ++ w → second ≡ first ++ x → third ≡ second ++ y → after ≡ third ++ z
    → after ≡ w ++ x ++ y ++ z
parts_are_written before first second third after w x y z a b c d e = rw (e, d, c, b, a) refl
