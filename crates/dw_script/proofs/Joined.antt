-- A script after another.
use Rattle.std.proofs.Common.{◌≡◌, ℕ, zero, suc, ◌+◌, Bool, true, false, cond, eqb, List, [], ◌∷◌, ◌++◌, length, refl, sym, ap, ◌∙◌, append_assoc, add_assoc, arith}
use Rattle.std.specs.Option.{option_map}
use Rattle.dw_script.specs.Characters.{quote, name_quote, dash, line_feed, slash, star, semicolon}
use Rattle.dw_script.specs.declared.place.Place.{Place}
use Rattle.dw_script.specs.declared.place.Place.TheVariants.{Outside, InText, AfterQuote, InName, AfterDash, InLine, AfterSlash, InBlock, AfterStar, AfterInnerSlash}
use Rattle.dw_script.specs.Place.{begun, commented, closed, after, place_from, place_after, is_outside, open_part, ends_outside, left_open}
use Rattle.dw_script.specs.Statements.{ends_statement, begins_statement, pending_mark, content_from, parts_from, statements_of, statements}
use Rattle.dw_script.specs.Texts.{further}
use Rattle.dw_script.proofs.Parts.{onto_front, onto_front-nil, parts_from-goes_on, parts_from-ends, statements_of-cons}

-- the same place, of bytes that stand n places further on
unfoldable pub shifted : ℕ → Place → Place
shifted n Outside = Outside
shifted n (InText begins) = InText (n + begins)
shifted n (AfterQuote begins) = AfterQuote (n + begins)
shifted n (InName begins) = InName (n + begins)
shifted n AfterDash = AfterDash
shifted n InLine = InLine
shifted n (AfterSlash begins) = AfterSlash (n + begins)
shifted n (InBlock begins nested) = InBlock (n + begins) nested
shifted n (AfterStar begins nested) = AfterStar (n + begins) nested
shifted n (AfterInnerSlash begins nested) = AfterInnerSlash (n + begins) nested

shifted-cond : (n : ℕ) (test : Bool) (x y far_x far_y : Place) → far_x ≡ shifted n x → far_y ≡ shifted n y → cond test far_x far_y ≡ shifted n (cond test x y)
shifted-cond n true x y far_x far_y p q = p
shifted-cond n false x y far_x far_y p q = q

begun-shifted : (n at byte : ℕ) → begun (n + at) byte ≡ shifted n (begun at byte)
unfolding shifted
begun-shifted n at byte =
    shifted-cond n (eqb byte quote) (InText at) _ (InText (n + at)) _ refl
    (shifted-cond n (eqb byte name_quote) (InName at) _ (InName (n + at)) _ refl
    (shifted-cond n (eqb byte dash) AfterDash _ AfterDash _ refl
    (shifted-cond n (eqb byte slash) (AfterSlash at) Outside (AfterSlash (n + at)) Outside refl refl)))

commented-shifted : (n begins nested byte : ℕ) → commented (n + begins) nested byte ≡ shifted n (commented begins nested byte)
unfolding shifted
commented-shifted n begins nested byte =
    shifted-cond n (eqb byte star) (AfterStar begins nested) _ (AfterStar (n + begins) nested) _ refl
    (shifted-cond n (eqb byte slash) (AfterInnerSlash begins nested) (InBlock begins nested) (AfterInnerSlash (n + begins) nested) (InBlock (n + begins) nested) refl refl)

closed-shifted : (n begins nested : ℕ) → closed (n + begins) nested ≡ shifted n (closed begins nested)
unfolding shifted
closed-shifted n begins zero = refl
closed-shifted n begins (suc nested) = refl

after-shifted : (n : ℕ) (place : Place) (at byte : ℕ) → after (shifted n place) (n + at) byte ≡ shifted n (after place at byte)
unfolding shifted
after-shifted n Outside at byte = begun-shifted n at byte
after-shifted n (InText begins) at byte = shifted-cond n (eqb byte quote) (AfterQuote begins) (InText begins) (AfterQuote (n + begins)) (InText (n + begins)) refl refl
after-shifted n (AfterQuote begins) at byte = shifted-cond n (eqb byte quote) (InText begins) (begun at byte) (InText (n + begins)) (begun (n + at) byte) refl (begun-shifted n at byte)
after-shifted n (InName begins) at byte = shifted-cond n (eqb byte name_quote) Outside (InName begins) Outside (InName (n + begins)) refl refl
after-shifted n AfterDash at byte = shifted-cond n (eqb byte dash) InLine (begun at byte) InLine (begun (n + at) byte) refl (begun-shifted n at byte)
after-shifted n InLine at byte = shifted-cond n (eqb byte line_feed) Outside InLine Outside InLine refl refl
after-shifted n (AfterSlash begins) at byte = shifted-cond n (eqb byte star) (InBlock begins 0) (begun at byte) (InBlock (n + begins) 0) (begun (n + at) byte) refl (begun-shifted n at byte)
after-shifted n (InBlock begins nested) at byte = commented-shifted n begins nested byte
after-shifted n (AfterStar begins nested) at byte = shifted-cond n (eqb byte slash) (closed begins nested) (commented begins nested byte) (closed (n + begins) nested) (commented (n + begins) nested byte) (closed-shifted n begins nested) (commented-shifted n begins nested byte)
after-shifted n (AfterInnerSlash begins nested) at byte = shifted-cond n (eqb byte star) (InBlock begins (nested + 1)) (commented begins nested byte) (InBlock (n + begins) (nested + 1)) (commented (n + begins) nested byte) refl (commented-shifted n begins nested byte)

ends_statement-shifted : (n : ℕ) (place : Place) (byte : ℕ) → ends_statement (shifted n place, byte) ≡ ends_statement (place, byte)
unfolding shifted
ends_statement-shifted n Outside byte = refl
ends_statement-shifted n place byte = refl

begins_statement-shifted : (n : ℕ) (place : Place) (byte : ℕ) → begins_statement (shifted n place) byte ≡ begins_statement place byte
unfolding shifted
begins_statement-shifted n Outside byte = refl
begins_statement-shifted n place byte = refl

pending_mark-shifted : (n : ℕ) (place : Place) → pending_mark (shifted n place) ≡ pending_mark place
unfolding shifted
pending_mark-shifted n Outside = refl
pending_mark-shifted n place = refl

pub is_outside-shifted : (n : ℕ) (place : Place) → is_outside (shifted n place) ≡ is_outside place
unfolding shifted
is_outside-shifted n Outside = refl
is_outside-shifted n place = refl

pub open_part-shifted : (n : ℕ) (place : Place) → open_part (shifted n place) ≡ option_map (further n) (open_part place)
unfolding shifted
open_part-shifted n Outside = refl
open_part-shifted n place = refl

pub place_from-shifted : (n : ℕ) (place : Place) (at : ℕ) (bytes : List ℕ) → place_from (shifted n place) (n + at) bytes ≡ shifted n (place_from place at bytes)
place_from-shifted n place at [] = refl
place_from-shifted n place at (byte ∷ bytes) = rw (after-shifted n place at byte, add_assoc n at 1) (place_from-shifted n (after place at byte) (at + 1) bytes)

parts_from-shifted_by : (n : ℕ) (place : Place) (at byte : ℕ) (bytes : List ℕ) (ends : Bool) → ends_statement (place, byte) ≡ ends
    → parts_from (after (shifted n place) (n + at) byte) (n + at + 1) bytes ≡ parts_from (after place at byte) (at + 1) bytes
    → parts_from (shifted n place) (n + at) (byte ∷ bytes) ≡ parts_from place at (byte ∷ bytes)
parts_from-shifted_by n place at byte bytes true h rest =
    parts_from-ends (shifted n place) (n + at) byte bytes (ends_statement-shifted n place byte ∙ h)
    ∙ ap (λ (parts : List (List ℕ)). [] ∷ parts) rest ∙ sym (parts_from-ends place at byte bytes h)
parts_from-shifted_by n place at byte bytes false h rest =
    parts_from-goes_on (shifted n place) (n + at) byte bytes (ends_statement-shifted n place byte ∙ h)
    ∙ ap (onto_front (byte ∷ [])) rest ∙ sym (parts_from-goes_on place at byte bytes h)

-- the parts are the same wherever the bytes stand
parts_from-shifted : (n : ℕ) (place : Place) (at : ℕ) (bytes : List ℕ) → parts_from (shifted n place) (n + at) bytes ≡ parts_from place at bytes
parts_from-shifted n place at [] = refl
parts_from-shifted n place at (byte ∷ bytes) =
    parts_from-shifted_by n place at byte bytes (ends_statement (place, byte)) refl
    (rw (after-shifted n place at byte, add_assoc n at 1) (parts_from-shifted n (after place at byte) (at + 1) bytes))

pub parts_from-anywhere : (n : ℕ) (bytes : List ℕ) → parts_from Outside n bytes ≡ parts_from Outside 0 bytes
unfolding shifted
parts_from-anywhere n bytes =
    let here : n + 0 ≡ n = omega arith in
    ap (λ (at : ℕ). parts_from Outside at bytes) (sym here) ∙ parts_from-shifted n Outside 0 bytes

-- the content of a part is the same wherever it stands
content_from-shifted_by : (n : ℕ) (place : Place) (at byte : ℕ) (bytes : List ℕ) (begins : Bool) → begins_statement place byte ≡ begins
    → content_from (after (shifted n place) (n + at) byte) (n + at + 1) bytes ≡ content_from (after place at byte) (at + 1) bytes
    → content_from (shifted n place) (n + at) (byte ∷ bytes) ≡ content_from place at (byte ∷ bytes)
content_from-shifted_by n place at byte bytes true h rest = rw (begins_statement-shifted n place byte, pending_mark-shifted n place, h) refl
content_from-shifted_by n place at byte bytes false h rest = rw (begins_statement-shifted n place byte, h) rest

content_from-shifted : (n : ℕ) (place : Place) (at : ℕ) (bytes : List ℕ) → content_from (shifted n place) (n + at) bytes ≡ content_from place at bytes
content_from-shifted n place at [] = pending_mark-shifted n place
content_from-shifted n place at (byte ∷ bytes) =
    content_from-shifted_by n place at byte bytes (begins_statement place byte) refl
    (rw (after-shifted n place at byte, add_assoc n at 1) (content_from-shifted n (after place at byte) (at + 1) bytes))

pub content_from-anywhere : (n : ℕ) (bytes : List ℕ) → content_from Outside n bytes ≡ content_from Outside 0 bytes
unfolding shifted
content_from-anywhere n bytes =
    let here : n + 0 ≡ n = omega arith in
    ap (λ (at : ℕ). content_from Outside at bytes) (sym here) ∙ content_from-shifted n Outside 0 bytes

-- a `;` outside of texts, names and comments
after-semicolon : (place : Place) (at : ℕ) → is_outside place ≡ true → after place at semicolon ≡ Outside
after-semicolon Outside at out = refl
after-semicolon (AfterQuote begins) at out = refl
after-semicolon AfterDash at out = refl
after-semicolon (AfterSlash begins) at out = refl
after-semicolon place at out = cc

semicolon_ends : (place : Place) → is_outside place ≡ true → ends_statement (place, semicolon) ≡ true
semicolon_ends place out = rw out refl

onto_front-append_right : (front : List ℕ) (ps qs : List (List ℕ)) → onto_front [] ps ≡ ps → onto_front front (ps ++ qs) ≡ onto_front front ps ++ qs
onto_front-append_right front [] qs some = cc
onto_front-append_right front (p ∷ ps) qs some = refl

parts_from-joined_by : (place : Place) (at byte : ℕ) (front back : List ℕ) (ends : Bool) → ends_statement (place, byte) ≡ ends
    → parts_from (after place at byte) (at + 1) (front ++ semicolon ∷ back) ≡ parts_from (after place at byte) (at + 1) front ++ parts_from Outside 0 back
    → parts_from place at (byte ∷ front ++ semicolon ∷ back) ≡ parts_from place at (byte ∷ front) ++ parts_from Outside 0 back
parts_from-joined_by place at byte front back true h rest =
    parts_from-ends place at byte (front ++ semicolon ∷ back) h
    ∙ ap (λ (parts : List (List ℕ)). [] ∷ parts) rest
    ∙ ap (λ (parts : List (List ℕ)). parts ++ parts_from Outside 0 back) (sym (parts_from-ends place at byte front h))
parts_from-joined_by place at byte front back false h rest =
    parts_from-goes_on place at byte (front ++ semicolon ∷ back) h
    ∙ ap (onto_front (byte ∷ [])) rest
    ∙ onto_front-append_right (byte ∷ []) (parts_from (after place at byte) (at + 1) front) (parts_from Outside 0 back) (onto_front-nil (after place at byte) (at + 1) front)
    ∙ ap (λ (parts : List (List ℕ)). parts ++ parts_from Outside 0 back) (sym (parts_from-goes_on place at byte front h))

parts_from-joined : (place : Place) (at : ℕ) (front back : List ℕ) → is_outside (place_from place at front) ≡ true
    → parts_from place at (front ++ semicolon ∷ back) ≡ parts_from place at front ++ parts_from Outside 0 back
parts_from-joined place at [] back closed =
    parts_from-ends place at semicolon back (semicolon_ends place closed)
    ∙ ap (λ (next : Place). [] ∷ parts_from next (at + 1) back) (after-semicolon place at closed)
    ∙ ap (λ (parts : List (List ℕ)). [] ∷ parts) (parts_from-anywhere (at + 1) back)
parts_from-joined place at (byte ∷ front) back closed =
    parts_from-joined_by place at byte front back (ends_statement (place, byte)) refl (parts_from-joined (after place at byte) (at + 1) front back closed)

statements_of-append : (ps qs : List (List ℕ)) → statements_of (ps ++ qs) ≡ statements_of ps ++ statements_of qs
statements_of-append [] qs = refl
statements_of-append (p ∷ ps) qs =
    statements_of-cons p (ps ++ qs)
    ∙ ap (λ (rest : List (List ℕ)). statements_of (p ∷ []) ++ rest) (statements_of-append ps qs)
    ∙ sym (append_assoc (statements_of (p ∷ [])) (statements_of ps) (statements_of qs))
    ∙ ap (λ (front : List (List ℕ)). front ++ statements_of qs) (sym (statements_of-cons p ps))

pub statements-joined : (front back : List ℕ) → ends_outside front ≡ true → statements (front ++ semicolon ∷ back) ≡ statements front ++ statements back
unfolding statements ends_outside
statements-joined front back closed =
    ap statements_of (parts_from-joined Outside 0 front back closed)
    ∙ statements_of-append (parts_from Outside 0 front) (parts_from Outside 0 back)

pub place_from-append : (place : Place) (at : ℕ) (xs ys : List ℕ) → place_from place at (xs ++ ys) ≡ place_from (place_from place at xs) (at + length xs) ys
place_from-append place at [] ys =
    let here : at + 0 ≡ at = omega arith in
    ap (λ (k : ℕ). place_from place k ys) (sym here)
place_from-append place at (x ∷ xs) ys =
    let here : at + 1 + length xs ≡ at + length (x ∷ xs) = omega arith in
    place_from-append (after place at x) (at + 1) xs ys ∙ ap (λ (k : ℕ). place_from (place_from (after place at x) (at + 1) xs) k ys) here

-- after a script and a `;` one stands where one does after what follows, further on
place_after-joined : (front back : List ℕ) → is_outside (place_after front) ≡ true → place_after (front ++ semicolon ∷ back) ≡ shifted (length front + 1) (place_after back)
unfolding shifted
place_after-joined front back out =
    let here : 0 + length front + 1 ≡ length front + 1 + 0 = omega arith in
    place_from-append Outside 0 front (semicolon ∷ back)
    ∙ ap (λ (next : Place). place_from next (0 + length front + 1) back) (after-semicolon (place_after front) (0 + length front) out)
    ∙ ap (λ (k : ℕ). place_from Outside k back) here
    ∙ place_from-shifted (length front + 1) Outside 0 back

pub left_open-joined : (front back : List ℕ) → ends_outside front ≡ true → left_open (front ++ semicolon ∷ back) ≡ option_map (further (length front + 1)) (left_open back)
unfolding left_open ends_outside
left_open-joined front back out = ap open_part (place_after-joined front back out) ∙ open_part-shifted (length front + 1) (place_after back)

pub ends_outside-joined : (front back : List ℕ) → ends_outside front ≡ true → ends_outside (front ++ semicolon ∷ back) ≡ ends_outside back
unfolding ends_outside
ends_outside-joined front back out = ap is_outside (place_after-joined front back out) ∙ is_outside-shifted (length front + 1) (place_after back)
