-- Blanks and whole comments before a script.
use Rattle.std.proofs.Common.{◌≡◌, ℕ, zero, suc, ◌+◌, Bool, true, false, not, eqb, List, [], ◌∷◌, ◌++◌, length, None, refl, sym, ap, ◌∙◌, subst, add-one, arith}
use Rattle.std.specs.Option.{option_map}
use Rattle.std.specs.List.{list_all}
use Rattle.std.proofs.lemmas.Bool.{and_parts}
use Rattle.std.proofs.lemmas.Bool.Decides.{nat_tests}
use Rattle.std.proofs.lemmas.List.{append-nil}
use Rattle.dw_script.specs.Characters.{dash, line_feed, slash, star}
use Rattle.dw_script.specs.declared.place.Place.{Place}
use Rattle.dw_script.specs.declared.place.Place.TheVariants.{Outside, InLine, InBlock, AfterStar, AfterInnerSlash}
use Rattle.dw_script.specs.Place.{begun, commented, after, place_from, place_after, is_outside, open_part, ends_outside, left_open}
use Rattle.dw_script.specs.Statements.{is_blank, ends_statement, begins_statement, content_from, content, one_if_any, parts_from, statements_of, statements}
use Rattle.dw_script.specs.Comments.{begins_mark, EndsBlocks, all_ended, ends, opens, other, IsOneLine, IsGap, nothing, blank, line, block}
use Rattle.dw_script.specs.Texts.{further}
use Rattle.dw_script.proofs.Parts.{onto_front, onto_front-nil, onto_front-append, parts_from-goes_on}
use Rattle.dw_script.proofs.Joined.{shifted, place_from-append, place_from-shifted, open_part-shifted, is_outside-shifted, parts_from-anywhere, content_from-anywhere}

-- the bytes end no statement, and none begins with them
abbrev IsQuiet : Place → ℕ → List ℕ → Type 0
IsQuiet place at [] = Unit {0}
IsQuiet place at (byte ∷ bytes) =
    (ends_statement (place, byte) ≡ false) × (begins_statement place byte ≡ false) × IsQuiet (after place at byte) (at + 1) bytes

-- quiet bytes from one place to another
abbrev Leads : Place → ℕ → List ℕ → Place → Type 0
Leads place at bytes next = IsQuiet place at bytes × (place_from place at bytes ≡ next)

leads-byte : (place : Place) (at byte : ℕ) (bytes : List ℕ) (then next : Place) → ends_statement (place, byte) ≡ false → begins_statement place byte ≡ false
    → after place at byte ≡ then → Leads then (at + 1) bytes next → Leads place at (byte ∷ bytes) next
leads-byte place at byte bytes then next ends_none begins_none same rest =
    let moved : Leads (after place at byte) (at + 1) bytes next = subst (λ (p : Place). Leads p (at + 1) bytes next) (sym same) rest in
    ((ends_none, begins_none, moved.0), moved.1)

leads-append : (place : Place) (at : ℕ) (xs ys : List ℕ) (then next : Place) → Leads place at xs then → ((k : ℕ) → Leads then k ys next) → Leads place at (xs ++ ys) next
leads-append place at [] ys then next first rest = subst (λ (p : Place). Leads p at ys next) (sym first.1) (rest at)
leads-append place at (x ∷ xs) ys then next first rest =
    let more = leads-append (after place at x) (at + 1) xs ys then next (first.0.2, first.1) rest in ((first.0.0, first.0.1, more.0), more.1)

-- the rest of a line
leads-line : (at : ℕ) (comment : List ℕ) → IsOneLine comment → Leads InLine at comment InLine
leads-line at [] one = (tt, refl)
leads-line at (byte ∷ comment) one =
    let parts = and_parts (not (eqb byte line_feed)) (list_all (λ b. not (eqb b line_feed)) comment) one in
    leads-byte InLine at byte comment InLine InLine refl refl (stays byte (eqb byte line_feed) refl parts.0) (leads-line (at + 1) comment parts.1)
  where
    stays : (byte : ℕ) (test : Bool) → eqb byte line_feed ≡ test → not (eqb byte line_feed) ≡ true → after InLine at byte ≡ InLine
    stays byte true h n = let k = rw h at n in cc
    stays byte false h n = rw h refl

-- where one may stand in a block comment before these bytes, so that the byte before makes no mark with them
abbrev no_first : ℕ → List ℕ → Type 0
no_first mark [] = Unit {0}
no_first mark (byte ∷ bytes) = eqb byte mark ≡ false

data Fits (begins nested : ℕ) (bytes : List ℕ) : Place → Type 0 where
  plain : Fits begins nested bytes (InBlock begins nested)
  after_star : no_first slash bytes → Fits begins nested bytes (AfterStar begins nested)
  after_slash : no_first star bytes → Fits begins nested bytes (AfterInnerSlash begins nested)

-- whatever the byte before was, it makes no mark
fits-byte : (begins nested : ℕ) (byte : ℕ) (bytes : List ℕ) (place : Place) (at : ℕ) → Fits begins nested (byte ∷ bytes) place
    → (ends_statement (place, byte) ≡ false) × (begins_statement place byte ≡ false) × (after place at byte ≡ commented begins nested byte)
fits-byte begins nested byte bytes place at plain = (refl, refl, refl)
fits-byte begins nested byte bytes place at (after_star h) = (refl, refl, rw h refl)
fits-byte begins nested byte bytes place at (after_slash h) = (refl, refl, rw h refl)

-- a byte that begins no mark leaves one where the next bytes fit
no_slash : (byte : ℕ) (bytes : List ℕ) → eqb byte star ≡ true → begins_mark byte bytes ≡ false → no_first slash bytes
no_slash byte [] h no_mark = tt
no_slash byte (next ∷ bytes) h no_mark = grind (arith, nat_tests)

no_star : (byte : ℕ) (bytes : List ℕ) → eqb byte slash ≡ true → begins_mark byte bytes ≡ false → no_first star bytes
no_star byte [] h no_mark = tt
no_star byte (next ∷ bytes) h no_mark = grind (arith, nat_tests)

fits-next : (begins nested byte : ℕ) (bytes : List ℕ) (is_star is_slash : Bool) → eqb byte star ≡ is_star → eqb byte slash ≡ is_slash → begins_mark byte bytes ≡ false → Fits begins nested bytes (commented begins nested byte)
fits-next begins nested byte bytes true is_slash h k no_mark = rw h (after_star (no_slash byte bytes h no_mark))
fits-next begins nested byte bytes false true h k no_mark = rw (h, k) (after_slash (no_star byte bytes k no_mark))
fits-next begins nested byte bytes false false h k no_mark = rw (h, k) plain

closes-last : (begins at : ℕ) (rest : List ℕ) → EndsBlocks 0 rest → Leads (AfterStar begins 0) at (slash ∷ rest) Outside
closes-last begins at rest all_ended = ((refl, refl, tt), refl)

leads-blocks : (begins nested : ℕ) (bytes : List ℕ) → EndsBlocks (suc nested) bytes → (place : Place) (at : ℕ) → Fits begins nested bytes place → Leads place at bytes Outside
leads-blocks begins zero bytes (ends blocks rest more) place at fits =
    let first = fits-byte begins 0 star (slash ∷ rest) place at fits in
    leads-byte place at star (slash ∷ rest) (AfterStar begins 0) Outside first.0 first.1 first.2 (closes-last begins (at + 1) rest more)
leads-blocks begins (suc nested) bytes (ends blocks rest more) place at fits =
    let first = fits-byte begins (suc nested) star (slash ∷ rest) place at fits in
    leads-byte place at star (slash ∷ rest) (AfterStar begins (suc nested)) Outside first.0 first.1 first.2
    (leads-byte (AfterStar begins (suc nested)) (at + 1) slash rest (InBlock begins nested) Outside refl refl refl
    (leads-blocks begins nested rest more (InBlock begins nested) (at + 1 + 1) plain))
leads-blocks begins nested bytes (opens blocks rest more) place at fits =
    let first = fits-byte begins nested slash (star ∷ rest) place at fits in
    let deeper : InBlock begins (nested + 1) ≡ InBlock begins (suc nested) = ap (λ (n : ℕ). InBlock begins n) (add-one nested) in
    leads-byte place at slash (star ∷ rest) (AfterInnerSlash begins nested) Outside first.0 first.1 first.2
    (leads-byte (AfterInnerSlash begins nested) (at + 1) star rest (InBlock begins (suc nested)) Outside refl refl deeper
    (leads-blocks begins (suc nested) rest more (InBlock begins (suc nested)) (at + 1 + 1) plain))
leads-blocks begins nested bytes (other blocks byte rest no_mark more) place at fits =
    let first = fits-byte begins nested byte rest place at fits in
    leads-byte place at byte rest (commented begins nested byte) Outside first.0 first.1 first.2
    (leads-blocks begins nested rest more (commented begins nested byte) (at + 1) (fits-next begins nested byte rest (eqb byte star) (eqb byte slash) refl refl no_mark))

-- a blank begins nothing
blank_cases : (byte : ℕ) → is_blank byte ≡ true → (begun_none : (at : ℕ) → begun at byte ≡ Outside) × (ends_statement (Outside, byte) ≡ false)
blank_cases byte h = (λ at. grind (arith, nat_tests), grind (arith, nat_tests))

blank_begins : (byte : ℕ) → is_blank byte ≡ true → begins_statement Outside byte ≡ false
blank_begins byte h = rw h refl

leads-gap : (gap : List ℕ) → IsGap gap → (at : ℕ) → Leads Outside at gap Outside
leads-gap gap nothing at = (tt, refl)
leads-gap gap (blank byte rest h more) at =
    let cases = blank_cases byte h in
    leads-byte Outside at byte rest Outside Outside cases.1 (blank_begins byte h) (cases.0 at) (leads-gap rest more (at + 1))
leads-gap gap (line comment rest one more) at =
    let tail : (k : ℕ) → Leads InLine k (line_feed ∷ rest) Outside = λ k. leads-byte InLine k line_feed rest Outside Outside refl refl refl (leads-gap rest more (k + 1)) in
    let inside = leads-append InLine (at + 1 + 1) comment (line_feed ∷ rest) InLine Outside (leads-line (at + 1 + 1) comment one) tail in
    ((refl, refl, (refl, refl, inside.0)), inside.1)
leads-gap gap (block comment rest closes more) at =
    let inside = leads-append (InBlock at 0) (at + 1 + 1) comment rest Outside Outside (leads-blocks at 0 comment closes (InBlock at 0) (at + 1 + 1) plain) (leads-gap rest more) in
    ((refl, refl, (refl, refl, inside.0)), inside.1)

-- quiet bytes belong to the first part, and its content comes after them
parts-quiet : (place : Place) (at : ℕ) (bytes rest : List ℕ) → IsQuiet place at bytes → parts_from place at (bytes ++ rest) ≡ onto_front bytes (parts_from (place_from place at bytes) (at + length bytes) rest)
parts-quiet place at [] rest quiet =
    let here : at + 0 ≡ at = omega arith in
    sym (onto_front-nil place at rest) ∙ ap (λ (k : ℕ). onto_front [] (parts_from place k rest)) (sym here)
parts-quiet place at (byte ∷ bytes) rest quiet =
    let here : at + 1 + length bytes ≡ at + length (byte ∷ bytes) = omega arith in
    parts_from-goes_on place at byte (bytes ++ rest) quiet.0
    ∙ ap (onto_front (byte ∷ [])) (parts-quiet (after place at byte) (at + 1) bytes rest quiet.2)
    ∙ onto_front-append (byte ∷ []) bytes (parts_from (place_from (after place at byte) (at + 1) bytes) (at + 1 + length bytes) rest)
    ∙ ap (λ (k : ℕ). onto_front (byte ∷ bytes) (parts_from (place_from (after place at byte) (at + 1) bytes) k rest)) here

content-quiet : (place : Place) (at : ℕ) (bytes rest : List ℕ) → IsQuiet place at bytes → content_from place at (bytes ++ rest) ≡ content_from (place_from place at bytes) (at + length bytes) rest
content-quiet place at [] rest quiet = let here : at + 0 ≡ at = omega arith in ap (λ (k : ℕ). content_from place k rest) (sym here)
content-quiet place at (byte ∷ bytes) rest quiet =
    let here : at + 1 + length bytes ≡ at + length (byte ∷ bytes) = omega arith in
    let none = quiet.1 in
    rw none (content-quiet (after place at byte) (at + 1) bytes rest quiet.2 ∙ ap (λ (k : ℕ). content_from (place_from (after place at byte) (at + 1) bytes) k rest) here)

content-gap : (gap rest : List ℕ) → IsGap gap → content (gap ++ rest) ≡ content rest
content-gap gap rest is =
    let leads = leads-gap gap is 0 in
    content-quiet Outside 0 gap rest leads.0 ∙ ap (λ (p : Place). content_from p (0 + length gap) rest) leads.1 ∙ content_from-anywhere (0 + length gap) rest

-- what stands before the first part counts for nothing, if the part's content comes after it
statements-onto : (front : List ℕ) (parts : List (List ℕ)) → ((rest : List ℕ) → content (front ++ rest) ≡ content rest) → statements_of (onto_front front parts) ≡ statements_of (onto_front [] parts)
statements-onto front [] same =
    let none = same [] in
    ap (λ (c : List ℕ). one_if_any c ++ []) (ap content (sym (append-nil front)) ∙ none)
statements-onto front (part ∷ parts) same = ap (λ (c : List ℕ). one_if_any c ++ statements_of parts) (same part)

pub statements-gap : (gap script : List ℕ) → IsGap gap → statements (gap ++ script) ≡ statements script
unfolding statements
statements-gap gap script is =
    let leads = leads-gap gap is 0 in
    ap statements_of (parts-quiet Outside 0 gap script leads.0 ∙ ap (λ (p : Place). onto_front gap (parts_from p (0 + length gap) script)) leads.1)
    ∙ statements-onto gap (parts_from Outside (0 + length gap) script) (λ rest. content-gap gap rest is)
    ∙ ap statements_of (onto_front-nil Outside (0 + length gap) script ∙ parts_from-anywhere (0 + length gap) script)

place_after-gap : (gap script : List ℕ) → IsGap gap → place_after (gap ++ script) ≡ shifted (length gap) (place_after script)
unfolding shifted
place_after-gap gap script is =
    let here : 0 + length gap ≡ length gap + 0 = omega arith in
    place_from-append Outside 0 gap script
    ∙ ap (λ (p : Place). place_from p (0 + length gap) script) (leads-gap gap is 0).1
    ∙ ap (λ (k : ℕ). place_from Outside k script) here
    ∙ place_from-shifted (length gap) Outside 0 script

pub left_open-gap : (gap script : List ℕ) → IsGap gap → left_open (gap ++ script) ≡ option_map (further (length gap)) (left_open script)
unfolding left_open
left_open-gap gap script is = ap open_part (place_after-gap gap script is) ∙ open_part-shifted (length gap) (place_after script)

pub ends_outside-gap : (gap script : List ℕ) → IsGap gap → ends_outside (gap ++ script) ≡ ends_outside script
unfolding ends_outside
ends_outside-gap gap script is = ap is_outside (place_after-gap gap script is) ∙ is_outside-shifted (length gap) (place_after script)

-- a comment that the end of the script ends
leads-last : (comment : List ℕ) → IsOneLine comment → Leads Outside 0 (dash ∷ dash ∷ comment) InLine
leads-last comment one = let inside = leads-line 2 comment one in ((refl, refl, (refl, refl, inside.0)), inside.1)

pub statements-last : (comment : List ℕ) → IsOneLine comment → statements (dash ∷ dash ∷ comment) ≡ []
unfolding statements
statements-last comment one =
    let bytes : List ℕ = dash ∷ dash ∷ comment in
    let leads = leads-last comment one in
    let part : parts_from Outside 0 (bytes ++ []) ≡ bytes ∷ [] = parts-quiet Outside 0 bytes [] leads.0 ∙ ap (λ (p : Place). onto_front bytes (parts_from p (0 + length bytes) [])) leads.1 ∙ ap (λ (part : List ℕ). part ∷ []) (append-nil bytes) in
    let void : content (bytes ++ []) ≡ [] = content-quiet Outside 0 bytes [] leads.0 ∙ ap (λ (p : Place). content_from p (0 + length bytes) []) leads.1 in
    ap (λ (all : List ℕ). statements_of (parts_from Outside 0 all)) (sym (append-nil bytes))
    ∙ ap statements_of part
    ∙ ap (λ (c : List ℕ). one_if_any c ++ []) (ap content (sym (append-nil bytes)) ∙ void)

pub left_open-last : (comment : List ℕ) → IsOneLine comment → left_open (dash ∷ dash ∷ comment) ≡ None
unfolding left_open
left_open-last comment one = ap open_part (leads-last comment one).1
