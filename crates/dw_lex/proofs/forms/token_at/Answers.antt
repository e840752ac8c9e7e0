use Rattle.std.proofs.Common.{sym}
use Rattle.dw_lex.proofs.FormLemmas.{token_at-none, token_at-some, token_at-bad}
use Rattle.dw_lex.proofs.forms.token_at.Goals as goal

pub returns-in_err-form-clause-found : goal.returns-in_err-form-clause-found
returns-in_err-form-clause-found c =
    rw c.from_residual.ensures (sym (token_at-none c.args.bytes.now (sym c.in_err-form.ensures.form)))

pub returns-in-Ok-clause-found : goal.returns-in-Ok-clause-found
returns-in-Ok-clause-found c =
    rw c.in-Ok.ensures.cases.0 (sym (token_at-some c.args.bytes.now c.in_ok-form.form c.in_ok-form.length (sym c.in_ok-form.ensures.form) c.in-Ok.ensures.cases.1))

pub returns-in-Err-clause-found : goal.returns-in-Err-clause-found
returns-in-Err-clause-found c =
    sym (token_at-bad c.args.bytes.now c.in_ok-form.form c.in_ok-form.length (sym c.in_ok-form.ensures.form) c.in-Err.ensures.cases.0)
