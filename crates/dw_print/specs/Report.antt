-- The report of a journal, as text. Each line ends with a line feed, and numbers are plain decimals. The form is this
-- project's own. The report of one session with an empty script is just these four lines:
--     warehouse nodes 2 slices 2 clusters 1 slots 5 sessions 1
--     1 end 1
--     tables 0
--     serial
use Rattle.std.specs.Prelude.{ℕ, List, ◌++◌, map, codes, decimal}
use Rattle.dw_model.specs.Databases.{Tables}
use Rattle.dw_journal.specs.declared.Shape.{Shape}
use Rattle.dw_journal.specs.declared.Journal.{Journal}
use Rattle.dw_journal.specs.declared.World.{World}
use Rattle.dw_journal.specs.History.{history_of}
use Rattle.dw_journal.specs.Contents.{contents}
use Rattle.dw_journal.specs.Serial.{serial_order}
use Rattle.dw_print.specs.Fields.{numbers_text}
use Rattle.dw_print.specs.Events.{journal_lines}
use Rattle.dw_print.specs.Tables.{tables_lines}

-- the first line: the shape of the warehouse
unfoldable pub header : Shape → List ℕ
header shape =
    codes "warehouse nodes " ++ decimal shape.nodes
    ++ codes " slices " ++ decimal shape.slices
    ++ codes " clusters " ++ decimal shape.clusters
    ++ codes " slots " ++ decimal shape.slots
    ++ codes " sessions " ++ decimal shape.sessions
    ++ codes "\n"

-- the stamps of the committed transactions, in serial order
abbrev pub serial_line : List ℕ → List ℕ
serial_line stamps = codes "serial" ++ numbers_text stamps ++ codes "\n"

-- the text of a journal's shape and its events, numbered from 1, beside these tables and these stamps
abbrev pub report_of : Journal → Tables → List ℕ → List ℕ
report_of journal tables stamps =
    header journal.shape ++ journal_lines 1 journal.events ++ tables_lines tables ++ serial_line stamps

-- The report of a journal beside its scripts: its shape, its events, the committed tables after the last event, and the
-- stamps of the committed transactions in serial order.
abbrev pub report : World → Journal → List ℕ
report world journal =
    report_of journal (contents (history_of world journal)) (map (λ transaction. transaction.stamp) (serial_order journal))
