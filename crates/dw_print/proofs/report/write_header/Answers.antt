use Rattle.dw_print.proofs.Lines.{header_is_written}
use Rattle.dw_print.proofs.report.write_header.Goals as goal

pub returns-clause-text : goal.returns-clause-text
returns-clause-text c =
    header_is_written c.args.shape.now c.args.out.now.items c.write_number.new.out.items
    c.write_number-2.new.out.items c.write_number-3.new.out.items c.write_number-4.new.out.items
    c.write_number-5.new.out.items c.write_text.new.out.items
    c.in_ok-write_number.ensures c.in_ok-write_number-2.ensures c.in_ok-write_number-3.ensures
    c.in_ok-write_number-4.ensures c.in_ok-write_number-5.ensures c.in_ok-write_text.ensures
