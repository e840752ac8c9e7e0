use Rattle.std.proofs.Common.{◌≡◌, ◌<◌, ◌≤◌, ◌+◌, length, drop, sym, ◌∙◌, arith}
use Rattle.std.proofs.lemmas.List.{take_rest, length-drop}
use Rattle.std.proofs.lemmas.Result.{err_from_is_err_and}
use Rattle.dw_lex.specs.Gaps.{gap_at}
use Rattle.dw_lex.specs.Reading.{read_tokens}
use Rattle.dw_lex.proofs.ReadingLemmas.{with_front-none, gap_more, token_more, fault_ends, all_read}
use Rattle.dw_lex.proofs.PlaceLemmas.{nothing_between, AreInOrder-gap, AreInOrder-push}
use Rattle.dw_lex.proofs.reading.tokens.Goals as goal

pub loop-at-init : goal.loop-at-init
loop-at-init c = (
  omega arith,
  rw c.new-tokens.ensures (with_front-none (read_tokens c.args.text.now)),
  rw c.new-tokens.ensures (omega arith, nothing_between c.args.text.now 0),
)

pub loop-at-preserved-then-gap-gt0 : goal.loop-at-preserved-then-gap-gt0
loop-at-preserved-then-gap-gt0 c =
    let rest = take_rest c.args.text.now c.loop-at.at in
    let long : c.gap_at-gap.result ≡ gap_at (drop c.loop-at.at c.args.text.now) = rw rest at c.gap_at-gap.ensures.long in
    let fits : c.gap_at-gap.result ≤ length (drop c.loop-at.at c.args.text.now) = rw rest at c.gap_at-gap.ensures.within in
    let within : c.loop-at.at + c.gap_at-gap.result ≤ length c.args.text.now = omega (arith, length-drop c.loop-at.at c.args.text.now) in
    let some : 0 < gap_at (drop c.loop-at.at c.args.text.now) = rw (← long) c.if-gap-gt0.true in (
      within,
      gap_more c.args.text.now c.loop-at.at c.gap_at-gap.result c.loop-at.tokens _ c.loop-at-test.true c.if-gap-gt0.true (sym long) within c.loop-at.invariant.1,
      rw long (AreInOrder-gap c.args.text.now 0 c.loop-at.tokens c.loop-at.at some c.loop-at.invariant.2),
    )

pub returns-in_err-token-clause-read : goal.returns-in_err-token-clause-read
returns-in_err-token-clause-read c =
    let long : c.gap_at-gap.result ≡ gap_at (drop c.loop-at.at c.args.text.now) = rw (take_rest c.args.text.now c.loop-at.at) at c.gap_at-gap.ensures.long in
    let none : c.gap_at-gap.result ≡ 0 = omega arith in
    let p = err_from_is_err_and c.from_residual.result c.from_residual.ensures.1 in
    rw (p.1, p.2) (fault_ends c.in_err-token.field-0.0 c.args.text.now c.loop-at.at c.loop-at.tokens _ c.loop-at-test.true (sym long ∙ none) c.in_err-token.ensures.given c.loop-at.invariant.1)

pub loop-at-preserved : goal.loop-at-preserved
loop-at-preserved c =
    let long : c.gap_at-gap.result ≡ gap_at (drop c.loop-at.at c.args.text.now) = rw (take_rest c.args.text.now c.loop-at.at) at c.gap_at-gap.ensures.long in
    let none : c.gap_at-gap.result ≡ 0 = omega arith in
    let slice = c.in_ok-token.ensures.slice in
    let after : c.loop-at.at < c.in_ok-token.token.end = omega (arith, c.in_ok-token.ensures.starts, slice.some) in (
      slice.within,
      rw c.in_ok-push.ensures.ok (token_more c.args.text.now c.loop-at.at c.in_ok-token.token c.loop-at.tokens _ c.loop-at-test.true (sym long ∙ none) c.in_ok-token.ensures.given after slice.within c.loop-at.invariant.1),
      rw c.in_ok-push.ensures.ok (AreInOrder-push c.args.text.now 0 c.loop-at.tokens c.loop-at.at c.in_ok-token.token c.in_ok-token.ensures.starts slice c.loop-at.invariant.2),
    )

pub returns-clause-read : goal.returns-clause-read
returns-clause-read c = all_read c.args.text.now c.loop-at.at c.loop-at.tokens _ c.loop-at-test.false c.loop-at.invariant.1

pub returns-clause-places : goal.returns-clause-places
returns-clause-places c =
    let e : c.loop-at.at ≡ length c.args.text.now = omega arith in rw (← e) c.loop-at.invariant.2
