-- The result after ELSE comes first, and a clash there is that of all.
use Rattle.std.proofs.Common.{None, subst, sym}
use Rattle.std.proofs.lemmas.Result.{err_from_is_err_and}
use Rattle.dw_expr.specs.Binding.{results_of}
use Rattle.dw_bind.specs.Gained.{Gains}
use Rattle.dw_bind.specs.Joints.{joint_with}
use Rattle.dw_bind.proofs.Exits.{Gains-exit}
use Rattle.dw_bind.proofs.JointKinds.{joint-turn, joint-clash}
use Rattle.dw_bind.proofs.branches.joint_of_choice.Goals as goal

pub returns-in_err-first : goal.returns-in_err-first
returns-in_err-first c =
    let other = c.args.other.now in
    let p = err_from_is_err_and c.from_residual.result c.from_residual.ensures.1 in
    rw (p.1, p.2) (Gains-exit c.in_err-first.field-0.0 (joint_with None other) _ c.in_err-first.ensures (joint-clash None other (results_of c.args.arms.now)))

pub returns : goal.returns
returns c =
    subst (λ kind. Gains kind c.joint_of_arms.result)
    (sym (joint-turn None c.in_ok-first.first c.args.other.now (results_of c.args.arms.now) c.in_ok-first.ensures)) c.joint_of_arms.ensures
