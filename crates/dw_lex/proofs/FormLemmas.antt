-- The bytes of a token, where they are UTF-8 and where they aren't.
use Rattle.std.proofs.Common.{◌≡◌, ℕ, Bool, true, false, Some, None, List, take, refl}
use Rattle.std.specs.Str.{IsUtf8, is_utf8}
use Rattle.std.proofs.lemmas.Str.{IsUtf8-from_is_utf8, is_utf8-from_IsUtf8}
use Rattle.dw_lex.specs.Forms.{token_at, form_at}
use Rattle.dw_lex.specs.declared.token.Form.{Form}

is_utf8-not : (bytes : List ℕ) → ¬ (IsUtf8 bytes) → is_utf8 bytes ≡ false
is_utf8-not bytes h = at (is_utf8 bytes) refl
  where
    at : (b : Bool) → is_utf8 bytes ≡ b → is_utf8 bytes ≡ false
    at true e = absurd (h (IsUtf8-from_is_utf8 bytes e))
    at false e = e

pub token_at-none : (bytes : List ℕ) → form_at bytes ≡ None → token_at bytes ≡ None
unfolding token_at
token_at-none bytes e = rw e refl

pub token_at-some : (bytes : List ℕ) (form : Form) (long : ℕ) → form_at bytes ≡ Some (form, long) → IsUtf8 (take long bytes) → token_at bytes ≡ Some (form, take long bytes)
unfolding token_at
token_at-some bytes form long e u = let v = is_utf8-from_IsUtf8 (take long bytes) u in rw (e, v) refl

pub token_at-bad : (bytes : List ℕ) (form : Form) (long : ℕ) → form_at bytes ≡ Some (form, long) → ¬ (IsUtf8 (take long bytes)) → token_at bytes ≡ None
unfolding token_at
token_at-bad bytes form long e n = let v = is_utf8-not (take long bytes) n in rw (e, v) refl
