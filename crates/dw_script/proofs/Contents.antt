-- The content of a part, one byte after the other.
use Rattle.std.proofs.Common.{◌≡◌, ℕ, zero, suc, ◌+◌, ◌-◌, ◌<◌, ◌≤◌, Bool, true, false, cond, eqb, List, [], ◌∷◌, ◌++◌, length, get_or, drop, ◌⊎◌, inl, inr, refl, sym, ap, ◌∙◌, arith}
use Rattle.std.proofs.lemmas.Bool.{eqb-true}
use Rattle.std.proofs.lemmas.List.{drop_more}
use Rattle.dw_script.specs.Characters.{quote, name_quote, dash, line_feed, slash, star}
use Rattle.dw_script.specs.declared.place.Place.{Place}
use Rattle.dw_script.specs.declared.place.Place.TheVariants.{Outside, InText, AfterQuote, InName, AfterDash, InLine, AfterSlash, InBlock, AfterStar, AfterInnerSlash}
use Rattle.dw_script.specs.Place.{begun, commented, closed, after}
use Rattle.dw_script.specs.Statements.{begins_statement, pending_mark, content_from}

-- the mark that is pending is nothing, or the byte before
IsPending : ℕ → Place → Type 0
IsPending byte place = (pending_mark place ≡ []) ⊎ (pending_mark place ≡ byte ∷ [])

pending_mark-cond : (byte : ℕ) (test : Bool) (x y : Place) → (test ≡ true → IsPending byte x) → IsPending byte y → IsPending byte (cond test x y)
pending_mark-cond byte true x y h k = h refl
pending_mark-cond byte false x y h k = k

pending_mark-begun : (at byte : ℕ) → IsPending byte (begun at byte)
unfolding IsPending
pending_mark-begun at byte =
    pending_mark-cond byte (eqb byte quote) (InText at) _ (λ h. inl refl)
    (pending_mark-cond byte (eqb byte name_quote) (InName at) _ (λ h. inl refl)
    (pending_mark-cond byte (eqb byte dash) AfterDash _ (λ h. inr (ap (λ (b : ℕ). b ∷ []) (sym (eqb-true byte dash h))))
    (pending_mark-cond byte (eqb byte slash) (AfterSlash at) Outside (λ h. inr (ap (λ (b : ℕ). b ∷ []) (sym (eqb-true byte slash h)))) (inl refl))))

pending_mark-commented : (begins nested byte : ℕ) → IsPending byte (commented begins nested byte)
unfolding IsPending
pending_mark-commented begins nested byte =
    pending_mark-cond byte (eqb byte star) (AfterStar begins nested) _ (λ h. inl refl)
    (pending_mark-cond byte (eqb byte slash) (AfterInnerSlash begins nested) (InBlock begins nested) (λ h. inl refl) (inl refl))

pending_mark-closed : (begins nested byte : ℕ) → IsPending byte (closed begins nested)
unfolding IsPending
pending_mark-closed begins zero byte = inl refl
pending_mark-closed begins (suc nested) byte = inl refl

pending_mark-after : (place : Place) (at byte : ℕ) → IsPending byte (after place at byte)
unfolding IsPending
pending_mark-after Outside at byte = pending_mark-begun at byte
pending_mark-after (InText begins) at byte = pending_mark-cond byte (eqb byte quote) (AfterQuote begins) (InText begins) (λ h. inl refl) (inl refl)
pending_mark-after (AfterQuote begins) at byte = pending_mark-cond byte (eqb byte quote) (InText begins) (begun at byte) (λ h. inl refl) (pending_mark-begun at byte)
pending_mark-after (InName begins) at byte = pending_mark-cond byte (eqb byte name_quote) Outside (InName begins) (λ h. inl refl) (inl refl)
pending_mark-after AfterDash at byte = pending_mark-cond byte (eqb byte dash) InLine (begun at byte) (λ h. inl refl) (pending_mark-begun at byte)
pending_mark-after InLine at byte = pending_mark-cond byte (eqb byte line_feed) Outside InLine (λ h. inl refl) (inl refl)
pending_mark-after (AfterSlash begins) at byte = pending_mark-cond byte (eqb byte star) (InBlock begins 0) (begun at byte) (λ h. inl refl) (pending_mark-begun at byte)
pending_mark-after (InBlock begins nested) at byte = pending_mark-commented begins nested byte
pending_mark-after (AfterStar begins nested) at byte = pending_mark-cond byte (eqb byte slash) (closed begins nested) (commented begins nested byte) (λ h. pending_mark-closed begins nested byte) (pending_mark-commented begins nested byte)
pending_mark-after (AfterInnerSlash begins nested) at byte = pending_mark-cond byte (eqb byte star) (InBlock begins (nested + 1)) (commented begins nested byte) (λ h. inl refl) (pending_mark-commented begins nested byte)

front-by : (part mark : List ℕ) (at : ℕ) → at < length part → (mark ≡ []) ⊎ (mark ≡ get_or part at 0 ∷ [])
    → (length mark ≤ at + 1) × (mark ++ drop (at + 1) part ≡ drop (at + 1 - length mark) part)
front-by part mark at lt (inl nothing) =
    let n : at + 1 - 0 ≡ at + 1 = omega arith in rw nothing (omega arith, ap (λ (k : ℕ). drop k part) (sym n))
front-by part mark at lt (inr one) =
    let n : at + 1 - 1 ≡ at = omega arith in rw one (omega arith, sym (ap (λ (k : ℕ). drop k part) n ∙ drop_more part at 0 lt))

-- with one byte more the mark that is pending is still the end of what is passed
pub front-more : (place : Place) (at : ℕ) (part : List ℕ) → at < length part
    → (length (pending_mark (after place at (get_or part at 0))) ≤ at + 1)
    × (pending_mark (after place at (get_or part at 0)) ++ drop (at + 1) part ≡ drop (at + 1 - length (pending_mark (after place at (get_or part at 0)))) part)
unfolding IsPending
front-more place at part lt = front-by part (pending_mark (after place at (get_or part at 0))) at lt (pending_mark-after place at (get_or part at 0))

pub content-more : (place : Place) (at : ℕ) (part : List ℕ) → at < length part → begins_statement place (get_or part at 0) ≡ false
    → content_from place at (drop at part) ≡ content_from (after place at (get_or part at 0)) (at + 1) (drop (at + 1) part)
content-more place at part lt h = ap (content_from place at) (drop_more part at 0 lt) ∙ rw h refl
