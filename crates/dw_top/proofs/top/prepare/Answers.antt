use Rattle.std.proofs.Common.{length, map, ap, sym, ◌∙◌}
use Rattle.dw_input.specs.Files.{script_limit}
use Rattle.dw_input.specs.Scripts.{givens_of, world_of}
use Rattle.dw_input.proofs.FilesHad.{bytes_there, scripts_had}
use Rattle.dw_top.specs.Run.{moves_read}
use Rattle.dw_top.proofs.Scripted.{run_same}
use Rattle.dw_top.proofs.top.prepare.Goals as goal

-- the run is one of the scripts that are held under the schedule that is, since the bytes read are those under the names
pub returns-clause-run : goal.returns-clause-run
returns-clause-run g c held told =
    let schedule = c.args.schedule.now in
    let names = c.args.scripts.now in
    let moves = c.in_ok-moves.moves in
    let files = c.in_ok-statements.statements in
    let there = bytes_there held script_limit 0 schedule moves (c.in_ok-moves.ensures.had held told) in
    let had = c.in_ok-statements.ensures.had held (c.read_file.ensures.keeps ∙ told) in
    let scripts = ap (λ files. world_of (map givens_of files)) c.as_slice-2.ensures.items ∙ ap world_of (scripts_had held c.len.result names files had) in
    let go = ap (λ count. moves_read count c.as_slice.result.now) (ap length c.as_slice-2.ensures.items ∙ c.in_ok-statements.ensures.each)
    ∙ ap (λ bytes. moves_read (length names) bytes) (c.as_slice.ensures.items ∙ sym there) in
    run_same c.report_of.result _ _ _ _ scripts go c.report_of.ensures.run
