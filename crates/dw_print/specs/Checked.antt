-- What a report is answered with that was judged right. The form is this project's own.
use Rattle.std.specs.Prelude.{ℕ, List, ◌++◌, codes, decimal}
use Rattle.dw_print.specs.Report.{serial_line}

-- how many events and commits a legal journal has
abbrev pub legal_line : ℕ → ℕ → List ℕ
legal_line events commits = codes "legal " ++ decimal events ++ codes " events " ++ decimal commits ++ codes " commits\n"

-- what is answered of a report with so many events and commits, which have these stamps in serial order
abbrev pub checked_text : ℕ → ℕ → List ℕ → List ℕ
checked_text events commits stamps = legal_line events commits ++ serial_line stamps
