-- Each turn takes the last item that is left, and a clash at one is that of all.
use Rattle.std.proofs.Common.{◌≡◌, Some, ap, sym, ◌∙◌}
use Rattle.std.proofs.lemmas.Result.{err_from_is_err_and}
use Rattle.dw_value.specs.declared.kinds.Comparison.TheVariants.{Equal}
use Rattle.dw_expr.specs.Binding.{with_both, some_either, comparison_of}
use Rattle.dw_bind.proofs.Exits.{Gains-exit}
use Rattle.dw_bind.proofs.FromTheEnd.{onto, onto-turn, onto-clash, without_rest, equality_step, equality_tests-onto}
use Rattle.dw_bind.proofs.comparisons.equality_tests.Goals as goal

pub loop-b-init : goal.loop-b-init
loop-b-init c = ap (λ t. onto (equality_step c.args.a.now) c.args.list (Some t)) c.literal-tests.ensures ∙ equality_tests-onto c.args.a.now c.args.list

pub returns-in_err-test : goal.returns-in_err-test
returns-in_err-test c =
    let a = c.args.a.now in
    let same = c.in_ok-copy.ensures in
    let p = err_from_is_err_and c.from_residual-in_err-test.result c.from_residual-in_err-test.ensures.1 in
    rw (p.1, p.2) (Gains-exit c.in_err-test.field-0.0 (comparison_of Equal c.in_ok-copy.copy c.in-Some.b) _ c.in_err-test.ensures
    (λ q. onto-clash (equality_step a) (λ b. without_rest some_either (comparison_of Equal a b)) c.loop-b.list c.pop.new.self c.in-Some.b (Some c.loop-b.tests) _ c.in-Some.ensures
    (ap (λ o. with_both some_either o (Some c.loop-b.tests)) (ap (λ x. comparison_of Equal x c.in-Some.b) (sym same) ∙ q)) c.loop-b.invariant))

pub loop-b-preserved : goal.loop-b-preserved
loop-b-preserved c =
    let a = c.args.a.now in
    let same = c.in_ok-copy.ensures in
    let one : equality_step a c.in-Some.b (Some c.loop-b.tests) ≡ Some c.in_ok-tests.tests =
    ap (λ o. with_both some_either o (Some c.loop-b.tests)) (ap (λ x. comparison_of Equal x c.in-Some.b) (sym same) ∙ c.in_ok-test.ensures) ∙ c.in_ok-tests.ensures in
    onto-turn (equality_step a) c.loop-b.list c.pop.new.self c.in-Some.b (Some c.loop-b.tests) (Some c.in_ok-tests.tests) _ c.in-Some.ensures one c.loop-b.invariant
