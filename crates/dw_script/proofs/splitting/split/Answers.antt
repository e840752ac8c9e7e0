use Rattle.std.proofs.Common.{refl, sym, ap, ◌∙◌, ◌≡◌, ℕ, Some, None}
use Rattle.dw_script.specs.declared.script.ScriptCause.TheVariants.{NotUtf8}
use Rattle.dw_script.specs.Place.{open_part, place_after}
use Rattle.dw_script.proofs.Causes.{cause_not_utf8, cause_utf8, read_after_cut, bad_after_cut}
use Rattle.dw_script.proofs.Utf8.{utf8_after_cut}
use Rattle.dw_script.proofs.splitting.split.Goals as goal

pub returns-in-Err-clause-bad : goal.returns-in-Err-clause-bad
returns-in-Err-clause-bad c =
    cause_not_utf8 c.args.bytes.now c.in-Err.ensures.cases.0 ∙ ap (λ (n : ℕ). Some (NotUtf8 n)) (sym (c.valid_up_to-place.ensures ∙ c.in-Err.ensures.valid_len))

pub returns-in-Some-clause-bad : goal.returns-in-Some-clause-bad
returns-in-Some-clause-bad c =
    let opened : open_part (place_after c.args.bytes.now) ≡ Some c.in-Some.cause = cc in
    cause_utf8 c.args.bytes.now c.in_default.ensures.cases.1 ∙ rw opened refl

pub returns-clause-read : goal.returns-clause-read
returns-clause-read c =
    let closed : open_part (place_after c.args.bytes.now) ≡ None = cc in
    read_after_cut c.cut.result c.args.bytes.now c.in_default.ensures.cases.1 closed c.cut.ensures.statements c.cut.ensures.few

pub returns-clause-bad : goal.returns-clause-bad
returns-clause-bad c =
    let closed : open_part (place_after c.args.bytes.now) ≡ None = cc in
    bad_after_cut c.cut.result c.args.bytes.now c.in_default.ensures.cases.1 closed c.cut.ensures.bad

pub returns-clause-utf8 : goal.returns-clause-utf8
returns-clause-utf8 c = utf8_after_cut c.cut.result c.args.bytes.now c.in_default.ensures.cases.1 c.cut.ensures.statements
