use Rattle.std.proofs.Common.{◌++◌, ◌∙◌, ap}
use Rattle.dw_print.specs.Events.{journal_lines}
use Rattle.dw_print.specs.Report.{header, serial_line}
use Rattle.dw_print.specs.Tables.{tables_lines}
use Rattle.dw_print.proofs.Lines.{parts_are_written}
use Rattle.dw_print.proofs.report.report_text.Goals as goal

pub returns-clause-text : goal.returns-clause-text
returns-clause-text c =
    let shape = c.write_header.new.out.items in
    let tables = c.write_tables.new.out.items in
    c.from_vec.ensures
    ∙ parts_are_written c.new-out.result.items shape c.write_events.new.out.items tables c.write_serial.new.out.items
    (header c.args.journal.now.shape) (journal_lines 1 c.args.journal.now.events)
    (tables_lines c.args.database.now) (serial_line c.args.serial.now)
    c.new-out.ensures.items
    c.in_ok-write_header.ensures.text
    (c.in_ok-write_events.ensures.text ∙ ap (λ events. shape ++ journal_lines 1 events) c.as_slice.ensures.items)
    c.in_ok-write_tables.ensures
    (c.in_ok-write_serial.ensures ∙ ap (λ stamps. tables ++ serial_line stamps) c.as_slice-2.ensures.items)
