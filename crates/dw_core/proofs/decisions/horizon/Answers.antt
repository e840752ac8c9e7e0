use Rattle.std.proofs.Common.{◌≡◌, ℕ, List, take, sym, ap, ◌∙◌, arith, rules}
use Rattle.std.specs.Prelude.{Option, Some, None, option_map}
use Rattle.std.specs.List.{filter_map}
use Rattle.std.proofs.lemmas.List.{append-nil}
use Rattle.dw_core.specs.declared.transactions.Transaction.{Transaction}
use Rattle.dw_core.specs.CoreInvariant.{taken_in}
use Rattle.dw_core.specs.Horizons.{kept_snapshot, least_among}
use Rattle.dw_core.proofs.Horizons.{least_more, least_push}
use Rattle.dw_core.proofs.decisions.horizon.Goals as goal
use Rattle.dw_core.proofs.decisions.horizon.Goals.{in-Some, in_default}

pub loop-session-preserved : goal.loop-session-preserved
loop-session-preserved c =
    let loop = c.loop-session.invariant in
    let sessions = c.args.sessions.now in
    let one = c.session-item.result in
    let passed : List ℕ = filter_map kept_snapshot (take c.loop-session.session-index sessions) in
    elim c.match-session.branch [
      | in-Some w ↦
          let there : one.transaction ≡ Some w.in-Some.transaction = search rules in
          let number_is : kept_snapshot one ≡ Some w.in-Some.transaction.taken.snapshot = ap (λ (t : Option Transaction). option_map (λ taken. taken.snapshot) (taken_in t)) there in
          let more = least_more c.args.commits sessions c.loop-session.session-index one (Some w.in-Some.transaction.taken.snapshot) (omega arith) c.session-item.is number_is in
          record {
            within = omega (arith, w.least-is, w.min-least.ensures, loop.within);
            least = omega (arith, w.least-is, w.min-least.ensures, loop.least, more, least_push c.args.commits passed w.in-Some.transaction.taken.snapshot);
          }
      | in_default w ↦
          let none : one.transaction ≡ None = search rules in
          let number_is : kept_snapshot one ≡ None = ap (λ (t : Option Transaction). option_map (λ taken. taken.snapshot) (taken_in t)) none in
          let more = least_more c.args.commits sessions c.loop-session.session-index one None (omega arith) c.session-item.is number_is in
          record {
            within = omega (arith, w.least-is, loop.within);
            least = w.least-is ∙ loop.least ∙ ap (least_among c.args.commits) (sym (append-nil passed)) ∙ sym more;
          }
    ]
