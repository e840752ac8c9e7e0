use Rattle.std.proofs.Common.{◌≡◌, [], length, map, get_or, false, ap, ◌∙◌, arith}
use Rattle.std.specs.List.{list_any, range_with_len}
use Rattle.std.proofs.lemmas.List.{get_or_default}
use Rattle.dw_locks.specs.Walks.{waits_in}
use Rattle.dw_locks.proofs.LevelLemmas.{level_more, level_next}
use Rattle.dw_locks.proofs.cycles.next_level.Goals as goal

-- one more session is told
pub loop-ones-preserved : goal.loop-ones-preserved
loop-ones-preserved c =
    level_more (λ from. list_any (λ one. get_or c.args.fewer.now one false) (waits_in c.args.waits.now from)) c.loop-ones.level c.push.new.self
    c.loop-ones.ones-index c.is_reached.result c.in_ok-push.ensures.ok c.loop-ones.invariant
    (c.is_reached.ensures ∙ ap (λ ones. list_any (λ one. get_or c.args.fewer.now one false) ones)
    (c.as_slice.ensures.items ∙ c.ones-item.is ∙ get_or_default c.args.waits.now c.loop-ones.ones-index c.ones-item.result [] c.loop-ones-test.true))

-- after the last turn all are
pub returns : goal.returns
returns c session steps is =
    let ended : c.loop-ones.ones-index ≡ length c.args.waits.now = omega (arith, c.loop-ones-test.false, c.loop-ones.auto.ones-index-end) in
    c.loop-ones.invariant
    ∙ ap (λ count. map (λ from. list_any (λ one. get_or c.args.fewer.now one false) (waits_in c.args.waits.now from)) (range_with_len 0 count)) ended
    ∙ level_next c.args.waits.now c.args.fewer.now session steps c.requires.each is
