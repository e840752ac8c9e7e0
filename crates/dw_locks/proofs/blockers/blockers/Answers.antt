use Rattle.std.proofs.Common.{◌<◌, length, sym, subst, ◌∙◌}
use Rattle.std.specs.Prelude.{All}
use Rattle.std.proofs.lemmas.List.Elements.{All-push}
use Rattle.dw_locks.specs.LockTable.{is_blocker}
use Rattle.dw_locks.proofs.TableLemmas.{told_more, told_no_more}
use Rattle.dw_locks.proofs.blockers.blockers.Goals as goal
use Rattle.dw_locks.proofs.blockers.blockers.Goals.{then-is_blocked_by+in_ok-push, else-is_blocked_by}

-- one more session is told
pub loop-place-preserved : goal.loop-place-preserved
loop-place-preserved c =
    let blocks = is_blocker c.args.entries.now c.args.session c.args.wants.now in
    elim c.if-is_blocked_by.branch [
      | then-is_blocked_by+in_ok-push w ↦
          let pushes = w.holders-is ∙ w.in_ok-push.ensures.ok in record {
            is = told_more blocks c.loop-place.place c.loop-place.holders _ (sym c.is_blocked_by.ensures ∙ w.if-is_blocked_by.true) pushes c.loop-place.invariant.is;
            within = subst (All (λ other. other < length c.args.entries.now)) (sym pushes)
                (All-push (λ other. other < length c.args.entries.now) c.loop-place.holders c.loop-place.place c.loop-place.invariant.within c.loop-place-test.true);
          }
      | else-is_blocked_by w ↦ record {
        is = w.holders-is ∙ told_no_more blocks c.loop-place.place c.loop-place.holders (sym c.is_blocked_by.ensures ∙ w.if-is_blocked_by.false) c.loop-place.invariant.is;
        within = subst (All (λ other. other < length c.args.entries.now)) (sym w.holders-is) c.loop-place.invariant.within;
      }
    ]
