use Rattle.std.proofs.Common.{sym, ◌∙◌}
use Rattle.std.proofs.lemmas.Bool.{false≢true}
use Rattle.dw_judge.specs.Judging.{seen_in}
use Rattle.dw_judge.proofs.RefusalTests.{or_memory, replied-decides, work_seen}
use Rattle.dw_judge.proofs.refusing.is_work_refusal.Goals as goal

pub returns : goal.returns
returns c =
    let given = c.in-Some.open_one.now in
    let refusal = c.args.refusal.now in
    or_memory refusal c.is_refused_so.result
    (work_seen c.args.world.now.files given _ c.in_ok-copy.field-0 (seen_in c.args.database.now c.args.kept.now.transaction) refusal c.is_refused_so.result
    (replied-decides c.args.world.now.files given _ c.in_ok-replied.replied refusal c.is_refused_so.result c.in_ok-replied.ensures c.is_refused_so.ensures)
    (c.in_ok-copy.ensures ∙ c.seen.ensures) c.in-Some.ensures)
    (λ memory. false≢true (sym c.if-is_memory.false ∙ c.is_memory.ensures.1 memory))
