-- The statements of a script in UTF-8 are in UTF-8: they are cut at bytes of ASCII.
use Rattle.std.proofs.Common.{◌≡◌, ℕ, zero, suc, ◌+◌, ◌<◌, Bool, true, false, eqb, List, [], ◌∷◌, ◌++◌, length, get_or, take, drop, Result, Ok, Err, IfOk, refl, sym, ap, ◌∙◌, subst, append_assoc, arith}
use Rattle.std.specs.List.{All, AllByRecursion}
use Rattle.std.specs.Str.{IsUtf8}
use Rattle.std.proofs.lemmas.Str.{IsUtf8-from_ascii}
use Rattle.std.proofs.lemmas.Str.Ascii.{IsAscii-nil, IsAscii-cons}
use Rattle.std.proofs.lemmas.Bool.{eqb-true}
use Rattle.std.proofs.lemmas.List.{append-nil, take_at, drop_at, length-append, get_or_at}
use Rattle.std.proofs.lemmas.List.Elements.{All-from_recursion}
use Rattle.std.proofs.lemmas.Str.{IsUtf8-take, IsUtf8-drop, IsCharBoundary-before_ascii, IsCharBoundary-after_ascii}
use Rattle.std.proofs.lemmas.Bool.Decides.{nat_tests}
use Rattle.std.proofs.lemmas.Bool.{false≢true}
use Rattle.dw_script.specs.Characters.{semicolon, dash, slash, star, line_feed}
use Rattle.dw_script.specs.declared.place.Place.{Place}
use Rattle.dw_script.specs.declared.place.Place.TheVariants.{Outside, InText, AfterQuote, InName, AfterDash, InLine, AfterSlash, InBlock, AfterStar, AfterInnerSlash}
use Rattle.dw_script.specs.declared.script.Script.{Script}
use Rattle.dw_script.specs.declared.script.ScriptFault.{ScriptFault}
use Rattle.dw_script.specs.Place.{begun, commented, after}
use Rattle.dw_script.specs.Statements.{ends_statement, begins_statement, pending_mark, content_from, content, one_if_any, parts_from, is_blank, statements_of, statements}
use Rattle.dw_script.proofs.Parts.{onto_front, onto_front-append, onto_front-nil, parts_from-goes_on, parts_from-ends}

before_ascii : (front : List ℕ) (byte : ℕ) (rest : List ℕ) → byte < 128 → IsUtf8 (front ++ byte ∷ rest) → IsUtf8 front
before_ascii front byte rest small utf8 =
    let here : get_or (front ++ byte ∷ rest) (length front) 0 ≡ byte = get_or_at front byte rest 0 (length front) refl in
    let low : get_or (front ++ byte ∷ rest) (length front) 0 < 128 = rw here small in
    let within : length front < length (front ++ byte ∷ rest) = rw length-append (omega arith) in
    let cut : IsUtf8 (take (length front) (front ++ byte ∷ rest)) = IsUtf8-take (front ++ byte ∷ rest) (length front) utf8 (IsCharBoundary-before_ascii (front ++ byte ∷ rest) (length front) within low) in
    rw (take_at front (byte ∷ rest) (length front) refl) at cut

after_ascii : (front : List ℕ) (byte : ℕ) (rest : List ℕ) → byte < 128 → IsUtf8 (front ++ byte ∷ rest) → IsUtf8 rest
after_ascii front byte rest small utf8 =
    let here : get_or (front ++ byte ∷ rest) (length front) 0 ≡ byte = get_or_at front byte rest 0 (length front) refl in
    let low : get_or (front ++ byte ∷ rest) (length front) 0 < 128 = rw here small in
    let within : length front < length (front ++ byte ∷ rest) = rw length-append (omega arith) in
    let cut : IsUtf8 (drop (length front + 1) (front ++ byte ∷ rest)) = IsUtf8-drop (front ++ byte ∷ rest) (length front + 1) utf8 (IsCharBoundary-after_ascii (front ++ byte ∷ rest) (length front) utf8 within low) in
    let joined : front ++ byte ∷ rest ≡ (front ++ byte ∷ []) ++ rest = sym (append_assoc front (byte ∷ []) rest) in
    let long : length (front ++ byte ∷ []) ≡ length front + 1 = rw length-append refl in
    let same : drop (length front + 1) (front ++ byte ∷ rest) ≡ rest = ap (drop (length front + 1)) joined ∙ drop_at (front ++ byte ∷ []) rest (length front + 1) long in
    subst (λ (bytes : List ℕ). IsUtf8 bytes) same cut

semicolon_is_ascii : (byte : ℕ) → eqb byte semicolon ≡ true → byte < 128
semicolon_is_ascii byte h = let is = eqb-true byte semicolon h in omega arith

ends_in_ascii : (place : Place) (byte : ℕ) → ends_statement (place, byte) ≡ true → byte < 128
ends_in_ascii Outside byte h = semicolon_is_ascii byte h
ends_in_ascii (AfterQuote begins) byte h = semicolon_is_ascii byte h
ends_in_ascii AfterDash byte h = semicolon_is_ascii byte h
ends_in_ascii (AfterSlash begins) byte h = semicolon_is_ascii byte h
ends_in_ascii place byte h = absurd (false≢true h)

parts_by : (front : List ℕ) (place : Place) (at byte : ℕ) (rest : List ℕ) (ends : Bool) → ends_statement (place, byte) ≡ ends
    → IsUtf8 (front ++ byte ∷ rest)
    → ((next : List ℕ) → IsUtf8 (next ++ rest) → AllByRecursion IsUtf8 (onto_front next (parts_from (after place at byte) (at + 1) rest)))
    → AllByRecursion IsUtf8 (onto_front front (parts_from place at (byte ∷ rest)))
parts_by front place at byte rest true h utf8 others =
    let small : byte < 128 = ends_in_ascii place byte h in
    let first : IsUtf8 (front ++ []) = subst (λ (bytes : List ℕ). IsUtf8 bytes) (sym (append-nil front)) (before_ascii front byte rest small utf8) in
    let more : AllByRecursion IsUtf8 (parts_from (after place at byte) (at + 1) rest) =
    subst (λ (parts : List (List ℕ)). AllByRecursion IsUtf8 parts) (onto_front-nil (after place at byte) (at + 1) rest) (others [] (after_ascii front byte rest small utf8)) in
    subst (λ (parts : List (List ℕ)). AllByRecursion IsUtf8 (onto_front front parts)) (sym (parts_from-ends place at byte rest h)) (first, more)
parts_by front place at byte rest false h utf8 others =
    subst (λ (parts : List (List ℕ)). AllByRecursion IsUtf8 (onto_front front parts)) (sym (parts_from-goes_on place at byte rest h))
    (subst (λ (parts : List (List ℕ)). AllByRecursion IsUtf8 parts) (sym (onto_front-append front (byte ∷ []) (parts_from (after place at byte) (at + 1) rest)))
    (others (front ++ byte ∷ []) (subst (λ (bytes : List ℕ). IsUtf8 bytes) (sym (append_assoc front (byte ∷ []) rest)) utf8)))

parts_utf8 : (front : List ℕ) (place : Place) (at : ℕ) (rest : List ℕ) → IsUtf8 (front ++ rest) → AllByRecursion IsUtf8 (onto_front front (parts_from place at rest))
parts_utf8 front place at [] utf8 = (utf8, tt)
parts_utf8 front place at (byte ∷ rest) utf8 =
    parts_by front place at byte rest (ends_statement (place, byte)) refl utf8 (λ next h. parts_utf8 next (after place at byte) (at + 1) rest h)

blank_is_ascii : (byte : ℕ) → is_blank byte ≡ true → byte < 128
blank_is_ascii byte h = grind (arith, nat_tests)

-- what stands before these bytes in a part of which nothing is content yet: in a comment it may be anything
abbrev Before : Place → List ℕ → Type 0
Before Outside front = front ≡ []
Before AfterDash front = front ≡ dash ∷ []
Before (AfterSlash begins) front = front ≡ slash ∷ []
Before (InText begins) front = ⊥
Before (AfterQuote begins) front = ⊥
Before (InName begins) front = ⊥
Before _ front = Unit {0}

-- one byte further on the bytes are still UTF-8, from a place that may begin a statement or with what is before in a
-- comment
abbrev Further : Place → List ℕ → Type 0
Further place bytes = (front : List ℕ) × IsUtf8 (front ++ bytes) × Before place front

one_more : (front : List ℕ) (byte : ℕ) (bytes : List ℕ) → IsUtf8 (front ++ byte ∷ bytes) → IsUtf8 ((front ++ byte ∷ []) ++ bytes)
one_more front byte bytes utf8 = subst (λ (all : List ℕ). IsUtf8 all) (sym (append_assoc front (byte ∷ []) bytes)) utf8

inside_block : (begins nested byte : ℕ) (front : List ℕ) (is_star is_slash : Bool) → eqb byte star ≡ is_star → eqb byte slash ≡ is_slash → Before (commented begins nested byte) front
inside_block begins nested byte front true is_slash h k = rw h tt
inside_block begins nested byte front false true h k = rw (h, k) tt
inside_block begins nested byte front false false h k = rw (h, k) tt

further-block : (begins nested byte : ℕ) (front bytes : List ℕ) → IsUtf8 (front ++ byte ∷ bytes) → Further (commented begins nested byte) bytes
further-block begins nested byte front bytes utf8 =
    (front ++ byte ∷ [], one_more front byte bytes utf8, inside_block begins nested byte (front ++ byte ∷ []) (eqb byte star) (eqb byte slash) refl refl)

blank_begins_none : (at byte : ℕ) → is_blank byte ≡ true → begun at byte ≡ Outside
blank_begins_none at byte h = grind (arith, nat_tests)

dash_begun : (at byte : ℕ) → eqb byte dash ≡ true → begun at byte ≡ AfterDash
dash_begun at byte h = let is = eqb-true byte dash h in rw is refl

slash_begun : (at byte : ℕ) → eqb byte slash ≡ true → begun at byte ≡ AfterSlash at
slash_begun at byte h = let is = eqb-true byte slash h in rw is refl

further-outside : (at byte : ℕ) (bytes : List ℕ) (blank is_dash is_slash : Bool) → is_blank byte ≡ blank → eqb byte dash ≡ is_dash → eqb byte slash ≡ is_slash
    → begins_statement Outside byte ≡ false → IsUtf8 (byte ∷ bytes) → Further (begun at byte) bytes
further-outside at byte bytes true is_dash is_slash h k l none utf8 =
    subst (λ (place : Place). Further place bytes) (sym (blank_begins_none at byte h)) ([], after_ascii [] byte bytes (blank_is_ascii byte h) utf8, refl)
further-outside at byte bytes false true is_slash h k l none utf8 =
    subst (λ (place : Place). Further place bytes) (sym (dash_begun at byte k)) (dash ∷ [], rw (eqb-true byte dash k) at utf8, refl)
further-outside at byte bytes false false true h k l none utf8 =
    subst (λ (place : Place). Further place bytes) (sym (slash_begun at byte l)) (slash ∷ [], rw (eqb-true byte slash l) at utf8, refl)
further-outside at byte bytes false false false h k l none utf8 = let m = rw (h, k, l) at none in cc

further-dash : (at byte : ℕ) (front bytes : List ℕ) (test : Bool) → eqb byte dash ≡ test → begins_statement AfterDash byte ≡ false → IsUtf8 (front ++ byte ∷ bytes) → Further (after AfterDash at byte) bytes
further-dash at byte front bytes true h none utf8 = rw h (front ++ byte ∷ [], one_more front byte bytes utf8, tt)
further-dash at byte front bytes false h none utf8 = let m = rw h at none in cc

further-slash : (begins at byte : ℕ) (front bytes : List ℕ) (test : Bool) → eqb byte star ≡ test → begins_statement (AfterSlash begins) byte ≡ false → IsUtf8 (front ++ byte ∷ bytes) → Further (after (AfterSlash begins) at byte) bytes
further-slash begins at byte front bytes true h none utf8 = rw h (front ++ byte ∷ [], one_more front byte bytes utf8, tt)
further-slash begins at byte front bytes false h none utf8 = let m = rw h at none in cc

further-line : (at byte : ℕ) (front bytes : List ℕ) (test : Bool) → eqb byte line_feed ≡ test → IsUtf8 (front ++ byte ∷ bytes) → Further (after InLine at byte) bytes
further-line at byte front bytes true h utf8 = let is = eqb-true byte line_feed h in rw h ([], after_ascii front byte bytes (omega arith) utf8, refl)
further-line at byte front bytes false h utf8 = rw h (front ++ byte ∷ [], one_more front byte bytes utf8, tt)

further-star : (begins nested at byte : ℕ) (front bytes : List ℕ) (test : Bool) → eqb byte slash ≡ test → IsUtf8 (front ++ byte ∷ bytes) → Further (after (AfterStar begins nested) at byte) bytes
further-star begins zero at byte front bytes true h utf8 = let is = eqb-true byte slash h in rw h ([], after_ascii front byte bytes (omega arith) utf8, refl)
further-star begins (suc nested) at byte front bytes true h utf8 = rw h (front ++ byte ∷ [], one_more front byte bytes utf8, tt)
further-star begins nested at byte front bytes false h utf8 =
    let same : after (AfterStar begins nested) at byte ≡ commented begins nested byte = rw h refl in
    subst (λ (place : Place). Further place bytes) (sym same) (further-block begins nested byte front bytes utf8)

further-inner : (begins nested at byte : ℕ) (front bytes : List ℕ) (test : Bool) → eqb byte star ≡ test → IsUtf8 (front ++ byte ∷ bytes) → Further (after (AfterInnerSlash begins nested) at byte) bytes
further-inner begins nested at byte front bytes true h utf8 = rw h (front ++ byte ∷ [], one_more front byte bytes utf8, tt)
further-inner begins nested at byte front bytes false h utf8 =
    let same : after (AfterInnerSlash begins nested) at byte ≡ commented begins nested byte = rw h refl in
    subst (λ (place : Place). Further place bytes) (sym same) (further-block begins nested byte front bytes utf8)

further : (place : Place) (at byte : ℕ) (front bytes : List ℕ) → begins_statement place byte ≡ false → IsUtf8 (front ++ byte ∷ bytes) → Before place front → Further (after place at byte) bytes
further Outside at byte front bytes none utf8 before = further-outside at byte bytes (is_blank byte) (eqb byte dash) (eqb byte slash) refl refl refl none (rw before at utf8)
further AfterDash at byte front bytes none utf8 before = further-dash at byte front bytes (eqb byte dash) refl none utf8
further (AfterSlash begins) at byte front bytes none utf8 before = further-slash begins at byte front bytes (eqb byte star) refl none utf8
further InLine at byte front bytes none utf8 before = further-line at byte front bytes (eqb byte line_feed) refl utf8
further (InBlock begins nested) at byte front bytes none utf8 before = further-block begins nested byte front bytes utf8
further (AfterStar begins nested) at byte front bytes none utf8 before = further-star begins nested at byte front bytes (eqb byte slash) refl utf8
further (AfterInnerSlash begins nested) at byte front bytes none utf8 before = further-inner begins nested at byte front bytes (eqb byte star) refl utf8
further place at byte front bytes none utf8 before = absurd before

-- the mark that is pending and the bytes from there on, where a statement begins
begun_utf8 : (place : Place) (byte : ℕ) (front bytes : List ℕ) → begins_statement place byte ≡ true → IsUtf8 (front ++ byte ∷ bytes) → Before place front → IsUtf8 (pending_mark place ++ byte ∷ bytes)
begun_utf8 Outside byte front bytes h utf8 before = rw before at utf8
begun_utf8 AfterDash byte front bytes h utf8 before = rw before at utf8
begun_utf8 (AfterSlash begins) byte front bytes h utf8 before = rw before at utf8
begun_utf8 place byte front bytes h utf8 before = absurd (false≢true h)

pending_mark_utf8 : (place : Place) → IsUtf8 (pending_mark place)
pending_mark_utf8 AfterDash = IsUtf8-from_ascii (dash ∷ []) (IsAscii-cons dash [] (omega arith) IsAscii-nil)
pending_mark_utf8 (AfterSlash begins) = IsUtf8-from_ascii (slash ∷ []) (IsAscii-cons slash [] (omega arith) IsAscii-nil)
pending_mark_utf8 place = IsUtf8-from_ascii [] IsAscii-nil

content_by : (place : Place) (at byte : ℕ) (front bytes : List ℕ) (begins : Bool) → begins_statement place byte ≡ begins → IsUtf8 (front ++ byte ∷ bytes) → Before place front
    → (Further (after place at byte) bytes → IsUtf8 (content_from (after place at byte) (at + 1) bytes)) → IsUtf8 (content_from place at (byte ∷ bytes))
content_by place at byte front bytes true h utf8 before rest = rw h (begun_utf8 place byte front bytes h utf8 before)
content_by place at byte front bytes false h utf8 before rest = rw h (rest (further place at byte front bytes h utf8 before))

content_utf8 : (place : Place) (at : ℕ) (front bytes : List ℕ) → IsUtf8 (front ++ bytes) → Before place front → IsUtf8 (content_from place at bytes)
content_utf8 place at front [] utf8 before = pending_mark_utf8 place
content_utf8 place at front (byte ∷ bytes) utf8 before =
    content_by place at byte front bytes (begins_statement place byte) refl utf8 before (λ next. content_utf8 (after place at byte) (at + 1) next.0 bytes next.1 next.2)

kept_by : (statement : List ℕ) (others : List (List ℕ)) → IsUtf8 statement → AllByRecursion IsUtf8 others → AllByRecursion IsUtf8 (one_if_any statement ++ others)
kept_by [] others first more = more
kept_by (byte ∷ bytes) others first more = (first, more)

statements_of_utf8 : (parts : List (List ℕ)) → AllByRecursion IsUtf8 parts → AllByRecursion IsUtf8 (statements_of parts)
statements_of_utf8 [] each = tt
statements_of_utf8 (part ∷ parts) each = kept_by (content part) (statements_of parts) (content_utf8 Outside 0 [] part each.0 refl) (statements_of_utf8 parts each.1)

pub statements_utf8 : (bytes : List ℕ) → IsUtf8 bytes → All IsUtf8 (statements bytes)
unfolding statements
statements_utf8 bytes utf8 =
    All-from_recursion IsUtf8 (statements_of (parts_from Outside 0 bytes))
    (statements_of_utf8 (parts_from Outside 0 bytes)
    (subst (λ (parts : List (List ℕ)). AllByRecursion IsUtf8 parts) (onto_front-nil Outside 0 bytes) (parts_utf8 [] Outside 0 bytes utf8)))

pub utf8_after_cut : (cut : Result Script ScriptFault) (bytes : List ℕ) → IsUtf8 bytes → IfOk cut (λ script. script.statements ≡ statements bytes) → IfOk cut (λ script. All IsUtf8 script.statements)
utf8_after_cut (Ok script) bytes utf8 same = subst (λ (each : List (List ℕ)). All IsUtf8 each) (sym same) (statements_utf8 bytes utf8)
utf8_after_cut (Err fault) bytes utf8 same = tt
