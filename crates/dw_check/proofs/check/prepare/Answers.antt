use Rattle.std.proofs.Common.{map, zip, ap, sym, ◌∙◌}
use Rattle.dw_input.specs.Files.{files_of}
use Rattle.dw_input.specs.Scripts.{givens_of, world_of, bad_script}
use Rattle.dw_input.proofs.FilesHad.{bytes_there, scripts_had}
use Rattle.dw_check.specs.Answers.{journal_limit, due_of_scripts, due_of_bytes, due_of_files}
use Rattle.dw_check.proofs.DueLemmas.{refused_same, due_same, right_same}
use Rattle.dw_check.proofs.check.prepare.Goals as goal

-- what is answered is of the bytes under the names, since these are the ones that were read
pub returns-clause-refused : goal.returns-clause-refused
returns-clause-refused g c held told =
    let journal = c.args.journal.now in
    let names = c.args.scripts.now in
    let files = c.in_ok-statements.statements in
    let report = c.in_ok-report.ensures.had held told in
    let had = c.in_ok-statements.ensures.had held (c.read_file.ensures.keeps ∙ told) in
    let due = ap (λ files. due_of_scripts (bad_script (zip names files))) c.as_slice-2.ensures.items
    ∙ sym (ap (λ file. due_of_files names file held) report ∙ ap (λ before. due_of_bytes names (files_of held before names)) (sym c.len.ensures)
    ∙ ap (due_of_bytes names) had) in
    let world = ap (λ files. world_of (map givens_of files)) c.as_slice-2.ensures.items ∙ ap world_of (scripts_had held c.len.result names files had) in
    let bytes = c.as_slice.ensures.items ∙ sym (bytes_there held journal_limit 0 journal c.in_ok-report.report report) in
    refused_same c.answer_of.result _ _ _ _ _ _ due world bytes c.answer_of.ensures.refused

pub returns-clause-due : goal.returns-clause-due
returns-clause-due g c held told =
    let journal = c.args.journal.now in
    let names = c.args.scripts.now in
    let files = c.in_ok-statements.statements in
    let report = c.in_ok-report.ensures.had held told in
    let had = c.in_ok-statements.ensures.had held (c.read_file.ensures.keeps ∙ told) in
    let due = ap (λ files. due_of_scripts (bad_script (zip names files))) c.as_slice-2.ensures.items
    ∙ sym (ap (λ file. due_of_files names file held) report ∙ ap (λ before. due_of_bytes names (files_of held before names)) (sym c.len.ensures)
    ∙ ap (due_of_bytes names) had) in
    let world = ap (λ files. world_of (map givens_of files)) c.as_slice-2.ensures.items ∙ ap world_of (scripts_had held c.len.result names files had) in
    let bytes = c.as_slice.ensures.items ∙ sym (bytes_there held journal_limit 0 journal c.in_ok-report.report report) in
    due_same c.answer_of.result _ _ _ _ _ _ due world bytes c.answer_of.ensures.due

pub returns-clause-right : goal.returns-clause-right
returns-clause-right g c held told =
    let names = c.args.scripts.now in
    let report = c.in_ok-report.ensures.had held told in
    let had = c.in_ok-statements.ensures.had held (c.read_file.ensures.keeps ∙ told) in
    let world = ap (λ files. world_of (map givens_of files)) c.as_slice-2.ensures.items
    ∙ ap world_of (scripts_had held c.len.result names c.in_ok-statements.statements had) in
    let bytes = c.as_slice.ensures.items ∙ sym (bytes_there held journal_limit 0 c.args.journal.now c.in_ok-report.report report) in
    right_same c.answer_of.result world bytes c.answer_of.ensures.right
