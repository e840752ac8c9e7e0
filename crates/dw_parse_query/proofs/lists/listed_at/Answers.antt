use Rattle.std.proofs.Common.{◌≡◌, ◌<◌, ◌≤◌, ◌+◌, length, rules, true, false, Some, arith}
use Rattle.dw_lex.specs.declared.signs.Sign.TheVariants as mark
use Rattle.dw_parse_words.specs.Words.{is_sign_at}
use Rattle.dw_parse_words.specs.PieceReading.{listed_at}
use Rattle.dw_parse_query.proofs.ListLemmas.{reads_all, reads_more, reads_last}
use Rattle.dw_parse_query.proofs.lists.listed_at.Goals as goal

pub loop-elements-init : goal.loop-elements-init
loop-elements-init g c = record {
  within = c.requires;
  past = omega arith;
  so_far = rw c.new-elements.ensures (reads_all (g.X.Element.read_at c.args.tokens.now) c.args.tokens.now c.args.start);
}

pub returns-then-not-is_sign_at-clause-value : goal.returns-then-not-is_sign_at-clause-value
returns-then-not-is_sign_at-clause-value g c =
    let read = g.X.Element.read_at c.args.tokens.now in
    let found : read c.loop-elements.at ≡ Some (c.in-Some.element, c.in-Some.end) = cc (c.in_ok-element.ensures.value) in
    let ends : is_sign_at mark.Comma c.args.tokens.now c.in-Some.end ≡ false = cc (c.if-not-is_sign_at.ensures.value) in
    rw c.in_ok-push.ensures.ok
    (reads_last read c.args.tokens.now c.loop-elements.elements c.loop-elements.at (listed_at read c.args.tokens.now c.args.start)
    c.loop-elements.invariant.within c.in-Some.element c.in-Some.end found ends c.loop-elements.invariant.so_far)

pub loop-elements-preserved : goal.loop-elements-preserved
loop-elements-preserved g c =
    let read = g.X.Element.read_at c.args.tokens.now in
    let found : read c.loop-elements.at ≡ Some (c.in-Some.element, c.in-Some.end) = cc (c.in_ok-element.ensures.value) in
    let comma : is_sign_at mark.Comma c.args.tokens.now c.in-Some.end ≡ true = cc (c.if-not-is_sign_at.ensures.value) in
    let spans : (c.loop-elements.at < c.in-Some.end) × (c.in-Some.end ≤ length c.args.tokens.now) = search rules in
    let after : c.loop-elements.at < c.in-Some.end + 1 = omega arith in
    record {
      within = omega (arith, c.if-not-is_sign_at.ensures.within);
      past = omega (arith, c.loop-elements.invariant.past);
      so_far = rw c.in_ok-push.ensures.ok
          (reads_more read c.args.tokens.now c.loop-elements.elements c.loop-elements.at (listed_at read c.args.tokens.now c.args.start)
          c.loop-elements.invariant.within c.in-Some.element c.in-Some.end found comma after c.loop-elements.invariant.so_far);
    }
