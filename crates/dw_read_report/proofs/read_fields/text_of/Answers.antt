use Rattle.std.proofs.Common.{◌≡◌, ℕ, ◌∙◌, ap, subst, refl, Vec, Global}
use Rattle.std.specs.Str.{is_utf8, IsUtf8}
use Rattle.std.proofs.lemmas.Bool.{false≢true}
use Rattle.std.proofs.lemmas.Str.{is_utf8-from_IsUtf8}
use Rattle.dw_read_report.proofs.Texts.{not_utf8}
use Rattle.dw_read_report.proofs.read_fields.text_of.Goals as goal

pub returns-in-Ok : goal.returns-in-Ok
returns-in-Ok c =
    let is : c.from_string.result ≡ c.args.bytes.items =
    c.from_string.ensures.bytes ∙ ap (λ (v : Vec ℕ Global). v.items) c.in-Ok.ensures.ok in
    (is_utf8-from_IsUtf8 c.args.bytes.items (subst IsUtf8 is c.from_string.ensures.utf8), is)

pub returns : goal.returns
returns c =
    not_utf8 c.args.bytes.items (is_utf8 c.args.bytes.items) refl
    (λ utf8. false≢true (c.in-Err.ensures.succeeds utf8))
