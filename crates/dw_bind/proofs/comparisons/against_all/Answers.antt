-- Each turn takes the last item that is left, and a clash at one is that of all.
use Rattle.std.proofs.Common.{◌≡◌, Some, ap, ◌∙◌}
use Rattle.std.proofs.lemmas.Result.{err_from_is_err_and}
use Rattle.dw_expr.specs.Binding.{with_both, some_more, against}
use Rattle.dw_bind.proofs.Exits.{Gains-exit}
use Rattle.dw_bind.proofs.FromTheEnd.{onto-turn, onto-clash, without_rest, against_step, against_all-onto}
use Rattle.dw_bind.proofs.comparisons.against_all.Goals as goal

pub loop-b-init : goal.loop-b-init
loop-b-init c = against_all-onto c.args.a.now c.args.list

pub returns-in_err-b : goal.returns-in_err-b
returns-in_err-b c =
    let a = c.args.a.now in
    let p = err_from_is_err_and c.from_residual.result c.from_residual.ensures.1 in
    rw (p.1, p.2) (Gains-exit c.in_err-b.field-0.0 (against a c.in-Some.b) _ c.in_err-b.ensures
    (λ q. onto-clash (against_step a) (λ b. without_rest some_more (against a b)) c.loop-b.list c.pop.new.self c.in-Some.b (Some c.loop-b.bound) _ c.in-Some.ensures
    (ap (λ o. with_both some_more o (Some c.loop-b.bound)) q) c.loop-b.invariant))

pub loop-b-preserved : goal.loop-b-preserved
loop-b-preserved c =
    let a = c.args.a.now in
    let one : against_step a c.in-Some.b (Some c.loop-b.bound) ≡ Some c.in_ok-bound.bound = ap (λ o. with_both some_more o (Some c.loop-b.bound)) c.in_ok-b.ensures ∙ c.in_ok-bound.ensures in
    onto-turn (against_step a) c.loop-b.list c.pop.new.self c.in-Some.b (Some c.loop-b.bound) (Some c.in_ok-bound.bound) _ c.in-Some.ensures one c.loop-b.invariant
