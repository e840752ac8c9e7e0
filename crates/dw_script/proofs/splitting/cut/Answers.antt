use Rattle.std.proofs.Common.{rules, arith, sym, ap, ◌∙◌, append_assoc, ◌++◌, ℕ, List}
use Rattle.dw_script.specs.Statements.{statements}
use Rattle.dw_script.proofs.Parts.{to_come-start, to_come-next, to_come-more}
use Rattle.dw_script.proofs.splitting.cut.Goals as goal
use Rattle.dw_script.proofs.splitting.cut.Goals.{then-ends_statement+in_ok-push_statement, else-ends_statement}

pub loop-at-init : goal.loop-at-init
unfolding statements
loop-at-init c = record {
  begun = omega arith;
  few = rw c.new-statements.ensures (search rules);
  nested = omega arith;
  come = rw c.new-statements.ensures (to_come-start c.args.bytes.now);
}

pub loop-at-preserved : goal.loop-at-preserved
loop-at-preserved c =
    let bytes = c.args.bytes.now in
    let done = c.loop-at.statements in
    elim c.if-ends_statement.branch [
      | then-ends_statement+in_ok-push_statement w ↦
          let next = to_come-next c.loop-at.place c.loop-at.begin c.loop-at.at bytes c.loop-at-test.true (sym c.ends_statement.ensures ∙ w.if-ends_statement.true) in
          record {
            begun = omega arith;
            few = search rules;
            nested = omega (arith, c.after-place.ensures.deeper);
            come = rw (w.statements-is, w.begin-is, c.after-place.ensures.place, w.in_ok-push_statement.ensures.ok)
                (append_assoc done _ _ ∙ ap (λ (rest : List (List ℕ)). done ++ rest) (sym next) ∙ c.loop-at.invariant.come);
          }
      | else-ends_statement w ↦
          let more = to_come-more c.loop-at.place c.loop-at.begin c.loop-at.at bytes c.loop-at.invariant.begun c.loop-at-test.true (sym c.ends_statement.ensures ∙ w.if-ends_statement.false) in
          record {
            begun = omega arith;
            few = search rules;
            nested = omega (arith, c.after-place.ensures.deeper);
            come = rw (w.statements-is, w.begin-is, c.after-place.ensures.place)
                (ap (λ (rest : List (List ℕ)). done ++ rest) (sym more) ∙ c.loop-at.invariant.come);
          }
    ]
