use Rattle.dw_top.specs.Run.{moves_of}
use Rattle.dw_top.proofs.Reported.{run_driven, reported}
use Rattle.dw_top.proofs.top.report_of_run.Goals as goal

pub returns : goal.returns
returns c =
    let ran = c.in_ok-ran.ran in
    let moves = moves_of c.args.moves.now in
    let run = run_driven c.args.world moves ran.journal c.in_ok-ran.ensures.shape c.in_ok-ran.ensures.driven in
    reported c.args.world moves ran.journal ran.database c.in_ok-serial.serial c.report_text.result run c.in_ok-ran.ensures.database c.in_ok-serial.ensures c.report_text.ensures.text c.report_text.ensures.typed
