-- Scripts that are read one after another.
use Rattle.std.proofs.Common.{◌≡◌, ℕ, ◌+◌, ◌<◌, List, [], ◌∷◌, ◌++◌, length, map, take, get_or, false, ap, sym, ◌∙◌}
use Rattle.std.specs.Prelude.{Result, Ok, Err, is_err, OnOk}
use Rattle.std.proofs.lemmas.List.{take_more, map-append}
use Rattle.dw_journal.specs.declared.Given.{Given}
use Rattle.dw_journal.specs.Worlds.{Scripts}
use Rattle.dw_input.specs.Scripts.{givens_of}

-- what holds of a call that gave no error
pub at_ok : {T E P : Type 0} (result : Result T E) → is_err result ≡ false → OnOk result P → P
at_ok (Ok value) is_ok holds = holds
at_ok (Err error) is_ok holds = cc

-- one more script after those that were read
pub scripts_more : (files : List (List ℕ)) (place : ℕ) (bytes : List ℕ) (scripts : Scripts) (script : List Given) → place < length files
    → bytes ≡ get_or files place bytes → scripts ≡ map givens_of (take place files) → script ≡ givens_of bytes
    → scripts ++ script ∷ [] ≡ map givens_of (take (place + 1) files)
scripts_more files place bytes scripts script within at are is =
    ap (λ scripts. scripts ++ script ∷ []) are
    ∙ ap (λ script. map givens_of (take place files) ++ script ∷ []) (is ∙ ap givens_of at)
    ∙ sym (ap (map givens_of) (take_more files place bytes within) ∙ map-append givens_of (take place files) (get_or files place bytes ∷ []))
