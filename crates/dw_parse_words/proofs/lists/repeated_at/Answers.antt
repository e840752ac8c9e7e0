use Rattle.std.proofs.Common.{◌≡◌, ◌<◌, ◌≤◌, length, rules, Some, arith}
use Rattle.dw_parse_words.specs.PieceReading.{repeated_at}
use Rattle.dw_parse_words.proofs.ListLemmas.{repeats_all, repeats_more}
use Rattle.dw_parse_words.proofs.lists.repeated_at.Goals as goal

pub loop-elements-init : goal.loop-elements-init
loop-elements-init g c = record {
  within = c.requires;
  past = omega arith;
  so_far = rw c.new-elements.ensures (repeats_all (g.X.Element.read_at c.args.tokens.now) c.args.tokens.now c.args.start);
}

pub loop-elements-preserved : goal.loop-elements-preserved
loop-elements-preserved g c =
    let read = g.X.Element.read_at c.args.tokens.now in
    let found : read c.loop-elements.at ≡ Some (c.in-Some.element, c.in-Some.end) = cc (c.in_ok-element.ensures.value) in
    let spans : (c.loop-elements.at < c.in-Some.end) × (c.in-Some.end ≤ length c.args.tokens.now) = search rules in
    record {
      within = spans.1;
      past = omega (arith, spans.0, c.loop-elements.invariant.past);
      so_far = rw c.in_ok-push.ensures.ok
          (repeats_more read c.args.tokens.now c.loop-elements.elements c.loop-elements.at (repeated_at read c.args.tokens.now c.args.start)
          c.loop-elements.invariant.within c.in-Some.element c.in-Some.end found spans.0 c.loop-elements.invariant.so_far);
    }
