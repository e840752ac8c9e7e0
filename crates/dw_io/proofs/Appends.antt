-- What a sink has after pieces that follow one another.
use Rattle.std.proofs.Common.{◌≡◌, ℕ, ◌+◌, List, ◌++◌, take, drop, sym, ap, ◌∙◌, refl, append_assoc}
use Rattle.std.specs.Prelude.{Option, Some, None}
use Rattle.std.proofs.Math.Seq.{take-add}
use Rattle.dw_io.specs.Outside.{appended}

-- one piece and then another are both in one
appended-appended : (had : Option (List ℕ)) (xs ys : List ℕ) → appended (appended had xs) ys ≡ appended had (xs ++ ys)
appended-appended None xs ys = refl
appended-appended (Some bytes) xs ys = ap Some (append_assoc bytes xs ys)

-- the first bytes of a text and the first of what follows them are the first of the text
pub appended-next : (had : Option (List ℕ)) (text : List ℕ) (written n : ℕ) → appended (appended had (take written text)) (take n (drop written text)) ≡ appended had (take (written + n) text)
appended-next had text written n =
    appended-appended had (take written text) (take n (drop written text)) ∙ ap (appended had) (sym (take-add written n text))
