use Rattle.std.proofs.Common.{sym}
use Rattle.dw_ssn.proofs.Places.{newest_at-place, newest_at-absent}
use Rattle.dw_ssn.proofs.summaries.newest_at.Goals as goal

pub returns-in-Ok : goal.returns-in-Ok
returns-in-Ok c =
    sym (newest_at-place c.args.object.now c.args.objects.now c.args.stamps.now c.in-Ok.place _ (c.in-Ok.ensures.found c.requires.ascending) c.requires.len)

pub returns-in-Err : goal.returns-in-Err
returns-in-Err c =
    sym (newest_at-absent c.args.object.now c.args.objects.now c.args.stamps.now ((c.in-Err.ensures.found c.requires.ascending).0))
