use Rattle.std.proofs.Common.{◌≡◌, ◌<◌, length, sym, subst, ◌∙◌, arith}
use Rattle.std.specs.Prelude.{All}
use Rattle.std.proofs.lemmas.List.Elements.{All-push}
use Rattle.dw_locks.specs.LockTable.{table_would_wait_for}
use Rattle.dw_locks.proofs.TableLemmas.{waits_more, length-waits}
use Rattle.dw_locks.proofs.blockers.all_waits.Goals as goal

-- one more session is told
pub loop-place-preserved : goal.loop-place-preserved
loop-place-preserved c = record {
  is = waits_more (table_would_wait_for c.args.entries.now c.args.session c.args.wants.now) c.loop-place.waits c.push.new.self c.loop-place.place _
      c.in_ok-push.ensures.ok c.loop-place.invariant.is c.in_ok-would_wait_for.ensures.is;
  within = subst (All (All (λ other. other < length c.args.entries.now))) (sym c.in_ok-push.ensures.ok)
      (All-push (All (λ other. other < length c.args.entries.now)) c.loop-place.waits _ c.loop-place.invariant.within c.in_ok-would_wait_for.ensures.within);
}

pub returns-clause-each : goal.returns-clause-each
returns-clause-each c =
    let ended : c.loop-place.place ≡ length c.args.entries.now = omega (arith, c.loop-place-test.false, c.loop-place.auto.place-end) in
    let long = length-waits (table_would_wait_for c.args.entries.now c.args.session c.args.wants.now) c.loop-place.waits c.loop-place.place c.loop-place.invariant.is ∙ ended in
    subst (λ count. All (All (λ other. other < count)) c.loop-place.waits) (sym long) c.loop-place.invariant.within
