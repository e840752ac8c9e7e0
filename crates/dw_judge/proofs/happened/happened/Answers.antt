use Rattle.std.proofs.Common.{◌≡◌, ◌<◌, ℕ, length, drop, refl, ap, ◌∙◌, arith}
use Rattle.std.specs.Prelude.{unwrap_or}
use Rattle.std.specs.List.{filter_map}
use Rattle.std.proofs.Math.ListN.{set}
use Rattle.dw_journal.specs.History.{History}
use Rattle.dw_journal.specs.Transactions.{least_of}
use Rattle.dw_judge.specs.Readings.{snapshot_kept}
use Rattle.dw_judge.specs.Verdicts.{history_before}
use Rattle.dw_judge.specs.declared.summaries.Summary.{Summary}
use Rattle.dw_judge.proofs.Happening.{at_place, stands_after}
use Rattle.dw_judge.proofs.happened.happened.Goals as goal

pub returns : goal.returns
returns c =
    let history : History = history_before c.args.world.now c.args.journal.now c.args.place in
    let before = c.args.summary.now in
    let session = c.args.session in
    let in_list : session < length before.sessions.items = omega (arith, c.requires.within) in
    let counted : c.len.result ≡ length before.commits.items = omega (arith, c.len.ensures) in
    let there = at_place before.sessions.items session in_list in
    let changed : Summary = record { sessions = c.put.new.sessions; horizons = c.mark.new.horizons; commits = before.commits; database = before.database; stamps = before.stamps } in
    stands_after c.args.journal.now.events history c.args.event.now session c.args.place c.args.transaction before c.requires.own c.requires.here in_list c.requires.ready
    changed c.put.ensures.kept
    (c.mark.ensures ∙ ap (λ (n : ℕ). set before.horizons.items session (unwrap_or (least_of (filter_map snapshot_kept (drop 1 c.put.new.sessions.items))) n)) counted)
    refl refl refl there.0 there.1
