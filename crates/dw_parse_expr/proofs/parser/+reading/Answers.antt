-- What each call finds is what is read there.
use Rattle.std.proofs.Common.{◌≡◌, ◌+◌, ◌-◌, max, true, false, Some, None, length, refl, sym, ◌∙◌, ap, arith, rules, ◌++◌, ◌∷◌, []}
use Rattle.std.specs.Option.{option_and_then}
use Rattle.dw_parse_expr.specs.declared.marks.Mark.TheVariants as mark
use Rattle.dw_parse_expr.specs.Marks.{mark_at, level_of, prefix_level, operator_of, marked}
use Rattle.dw_parse_expr.specs.Reading.{below, chain, steps, read, goes_on, arm_at}
use Rattle.dw_parse_expr.proofs.Steps.{chain_stops}
use Rattle.dw_parse_expr.proofs.Items.{listed_last, armed_last}
use Rattle.dw_parse_expr.proofs.Along.{read_none, read_atom, read_prefix, read_layer, chain_deep, chain_turn, listed_none, listed_turn, armed_none, armed_turn}
use Rattle.dw_parse_expr.proofs.parser.+reading.Goals as goal

pub read-returns-then-budget-eq0-clause-value : goal.read-returns-then-budget-eq0-clause-value
read-returns-then-budget-eq0-clause-value t c = sym (read_none c.args.tokens.now _ _ _ c.if-budget-eq0.true)

pub read-returns-then-level-eq0-clause-value : goal.read-returns-then-level-eq0-clause-value
read-returns-then-level-eq0-clause-value t c =
    rw (read_atom c.args.tokens.now c.args.budget c.args.level c.args.at (omega arith) c.if-level-eq0.true) c.atom.ensures.value

pub read-returns-then-prefix_at-level-clause-value : goal.read-returns-then-prefix_at-level-clause-value
read-returns-then-prefix_at-level-clause-value t c =
    let p : prefix_level (mark_at c.args.tokens.now c.args.at) ≡ c.args.level = sym c.prefix_at.ensures.value ∙ c.if-prefix_at-level.true in
    rw (read_prefix c.args.tokens.now c.args.budget c.args.level c.args.at (omega arith) (omega arith) p) c.prefixed.ensures.value

pub read-returns-in_default-clause-value : goal.read-returns-in_default-clause-value
read-returns-in_default-clause-value t c =
    let e = read_layer c.args.tokens.now c.args.budget c.args.level c.args.at (omega arith) (omega arith)
    (λ x. c.if-prefix_at-level.false (c.prefix_at.ensures.value ∙ x)) in
    let r : read c.args.tokens.now c.args.budget (c.args.level - 1) c.args.at ≡ None = sym c.in_ok-first.ensures.value ∙ c.in_default.is in
    sym (e ∙ rw r refl)

pub read-returns-clause-value : goal.read-returns-clause-value
read-returns-clause-value t c =
    let e = read_layer c.args.tokens.now c.args.budget c.args.level c.args.at (omega arith) (omega arith)
    (λ x. c.if-prefix_at-level.false (c.prefix_at.ensures.value ∙ x)) in
    let r : read c.args.tokens.now c.args.budget (c.args.level - 1) c.args.at ≡ Some c.in-Some.first = sym c.in_ok-first.ensures.value ∙ c.in-Some.is in
    rw (e ∙ ap (option_and_then (chain c.args.tokens.now (read c.args.tokens.now (below c.args.budget)) c.args.budget c.args.level (steps c.args.level c.args.budget))) r) c.chain.ensures.value

pub chain-loop-step-init : goal.chain-loop-step-init
chain-loop-step-init t c =
    let z : c.most_steps-limit.result - 0 ≡ c.most_steps-limit.result = omega arith in
    record {
      place = c.requires.place;
      deep = c.requires.depth;
      rest = ap (λ n. chain c.args.tokens.now (read c.args.tokens.now (below c.args.budget)) c.args.budget c.args.level n c.args.first) (z ∙ c.most_steps-limit.ensures);
    }

pub chain-returns-then-level_at-level-clause-value : goal.chain-returns-then-level_at-level-clause-value
chain-returns-then-level_at-level-clause-value t c =
    sym (chain_stops c.args.tokens.now c.args.budget c.args.level (c.most_steps-limit.result - c.loop-step.step) c.loop-step.left
    (λ x. c.if-level_at-level.true (c.level_at.ensures.value ∙ x))) ∙ c.loop-step.invariant.rest

pub chain-returns-then-left-budget-clause-value : goal.chain-returns-then-left-budget-clause-value
chain-returns-then-left-budget-clause-value t c =
    let here : level_of (mark_at c.args.tokens.now c.loop-step.left.2) ≡ c.args.level = sym c.level_at.ensures.value ∙ c.if-level_at-level.false in
    sym (chain_deep c.args.tokens.now c.args.budget c.args.level c.most_steps-limit.result c.loop-step.step c.loop-step.left
    c.loop-step-test.true here c.if-left-budget.true) ∙ c.loop-step.invariant.rest

pub chain-returns-in_default-clause-value : goal.chain-returns-in_default-clause-value
chain-returns-in_default-clause-value t c =
    let here : level_of (mark_at c.args.tokens.now c.loop-step.left.2) ≡ c.args.level = sym c.level_at.ensures.value ∙ c.if-level_at-level.false in
    let r : goes_on c.args.tokens.now (read c.args.tokens.now (c.args.budget - 1)) (c.args.level - 1) c.loop-step.left (operator_of (mark_at c.args.tokens.now c.loop-step.left.2)) ≡ None
    = sym c.in_ok-next.ensures.value ∙ c.in_default.is in
    sym (chain_turn c.args.tokens.now c.args.budget c.args.level c.most_steps-limit.result c.loop-step.step c.loop-step.left
    c.loop-step-test.true here c.if-left-budget.false ∙ rw r refl) ∙ c.loop-step.invariant.rest

pub chain-loop-step-preserved : goal.chain-loop-step-preserved
chain-loop-step-preserved t c =
    let here : level_of (mark_at c.args.tokens.now c.loop-step.left.2) ≡ c.args.level = sym c.level_at.ensures.value ∙ c.if-level_at-level.false in
    let r : goes_on c.args.tokens.now (read c.args.tokens.now (c.args.budget - 1)) (c.args.level - 1) c.loop-step.left (operator_of (mark_at c.args.tokens.now c.loop-step.left.2)) ≡ Some c.in-Some.next
    = sym c.in_ok-next.ensures.value ∙ c.in-Some.is in
    record {
      place = search rules;
      deep = search rules;
      rest = sym (chain_turn c.args.tokens.now c.args.budget c.args.level c.most_steps-limit.result c.loop-step.step c.loop-step.left
          c.loop-step-test.true here c.if-left-budget.false ∙ rw r refl) ∙ c.loop-step.invariant.rest;
    }

pub listed-returns-in_default-clause-value : goal.listed-returns-in_default-clause-value
listed-returns-in_default-clause-value t c =
    let r : read c.args.tokens.now c.args.budget 8 c.loop-step.at ≡ None = sym c.in_ok-tree.ensures.value ∙ c.in_default.is in
    sym (listed_none c.args.tokens.now (read c.args.tokens.now c.args.budget 8) (length c.args.tokens.now - c.loop-step.step) c.loop-step.depth c.loop-step.at c.loop-step.list r)
    ∙ c.loop-step.invariant.rest

pub listed-returns-then-not-marked-clause-value : goal.listed-returns-then-not-marked-clause-value
listed-returns-then-not-marked-clause-value t c =
    let r : read c.args.tokens.now c.args.budget 8 c.loop-step.at ≡ Some (c.in-Some.tree, c.in-Some.deep, c.in-Some.end) = sym c.in_ok-tree.ensures.value ∙ c.in-Some.is in
    let m : marked c.args.tokens.now mark.Comma c.in-Some.end ≡ false = sym c.if-not-marked.ensures.value in
    let d : c.max-depth.result ≡ max c.loop-step.depth c.in-Some.deep = search rules in
    let n : c.push.new.self ≡ c.loop-step.list ++ c.in-Some.tree ∷ [] = c.in_ok-push.ensures.ok in
    rw (d, n) (sym (listed_last c.args.tokens.now (read c.args.tokens.now c.args.budget 8) (length c.args.tokens.now - c.loop-step.step) c.loop-step.depth c.loop-step.at c.loop-step.list
    (c.in-Some.tree, c.in-Some.deep, c.in-Some.end) (omega arith) r m) ∙ c.loop-step.invariant.rest)

pub listed-loop-step-preserved : goal.listed-loop-step-preserved
listed-loop-step-preserved t c =
    let r : read c.args.tokens.now c.args.budget 8 c.loop-step.at ≡ Some (c.in-Some.tree, c.in-Some.deep, c.in-Some.end) = sym c.in_ok-tree.ensures.value ∙ c.in-Some.is in
    let m : marked c.args.tokens.now mark.Comma c.in-Some.end ≡ true = sym c.if-not-marked.ensures.value in
    let d : c.max-depth.result ≡ max c.loop-step.depth c.in-Some.deep = search rules in
    let n : c.push.new.self ≡ c.loop-step.list ++ c.in-Some.tree ∷ [] = c.in_ok-push.ensures.ok in
    record {
      place = search rules;
      deep = search rules;
      rest = rw (d, n) (sym (listed_turn c.args.tokens.now (read c.args.tokens.now c.args.budget 8) (length c.args.tokens.now) c.loop-step.step c.loop-step.depth c.loop-step.at c.loop-step.list
          (c.in-Some.tree, c.in-Some.deep, c.in-Some.end) (omega arith) r m) ∙ c.loop-step.invariant.rest);
    }

pub armed-returns-in_default-clause-value : goal.armed-returns-in_default-clause-value
armed-returns-in_default-clause-value t c =
    let r : arm_at c.args.tokens.now (read c.args.tokens.now c.args.budget) c.loop-step.at ≡ None = sym c.in_ok-arm.ensures.value ∙ c.in_default.is in
    sym (armed_none c.args.tokens.now (read c.args.tokens.now c.args.budget) (length c.args.tokens.now - c.loop-step.step) c.loop-step.depth c.loop-step.at c.loop-step.arms r)
    ∙ c.loop-step.invariant.rest

pub armed-returns-then-not-marked-clause-value : goal.armed-returns-then-not-marked-clause-value
armed-returns-then-not-marked-clause-value t c =
    let r : arm_at c.args.tokens.now (read c.args.tokens.now c.args.budget) c.loop-step.at ≡ Some (c.in-Some.arm, c.in-Some.deep, c.in-Some.end) = sym c.in_ok-arm.ensures.value ∙ c.in-Some.is in
    let m : marked c.args.tokens.now mark.When c.in-Some.end ≡ false = sym c.if-not-marked.ensures.value in
    let d : c.max-depth.result ≡ max c.loop-step.depth c.in-Some.deep = search rules in
    let n : c.push.new.self ≡ c.loop-step.arms ++ c.in-Some.arm ∷ [] = c.in_ok-push.ensures.ok in
    rw (d, n) (sym (armed_last c.args.tokens.now (read c.args.tokens.now c.args.budget) (length c.args.tokens.now - c.loop-step.step) c.loop-step.depth c.loop-step.at c.loop-step.arms
    (c.in-Some.arm, c.in-Some.deep, c.in-Some.end) (omega arith) r m) ∙ c.loop-step.invariant.rest)

pub armed-loop-step-preserved : goal.armed-loop-step-preserved
armed-loop-step-preserved t c =
    let r : arm_at c.args.tokens.now (read c.args.tokens.now c.args.budget) c.loop-step.at ≡ Some (c.in-Some.arm, c.in-Some.deep, c.in-Some.end) = sym c.in_ok-arm.ensures.value ∙ c.in-Some.is in
    let m : marked c.args.tokens.now mark.When c.in-Some.end ≡ true = sym c.if-not-marked.ensures.value in
    let d : c.max-depth.result ≡ max c.loop-step.depth c.in-Some.deep = search rules in
    let n : c.push.new.self ≡ c.loop-step.arms ++ c.in-Some.arm ∷ [] = c.in_ok-push.ensures.ok in
    record {
      place = search rules;
      deep = search rules;
      rest = rw (d, n) (sym (armed_turn c.args.tokens.now (read c.args.tokens.now c.args.budget) (length c.args.tokens.now) c.loop-step.step c.loop-step.depth c.loop-step.at c.loop-step.arms
          (c.in-Some.arm, c.in-Some.deep, c.in-Some.end) (omega arith) r m) ∙ c.loop-step.invariant.rest);
    }
