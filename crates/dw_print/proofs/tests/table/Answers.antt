use Rattle.dw_print.proofs.tests.table.Goals as goal

pub returns : goal.returns
returns c = c.in_ok-rows.ensures.ascending
