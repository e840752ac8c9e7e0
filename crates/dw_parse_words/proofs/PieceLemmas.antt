-- The grammar and the reading of lists, names and literals agree.
use Rattle.std.proofs.Common.{◌≡◌, ℕ, zero, suc, ◌+◌, ◌<◌, ◌≤◌, true, false, ◌&&◌, Option, Some, None, List, [], ◌∷◌, length, refl, arith}
use Rattle.std.specs.Prelude.{codes}
use Rattle.std.specs.Option.{option_map, option_and_then}
use Rattle.dw_lex.specs.Meaning.{folded}
use Rattle.dw_lex.specs.declared.signs.Sign.TheVariants as mark
use Rattle.dw_lex.specs.declared.token.Token.{Token}
use Rattle.dw_model.specs.declared.statements.Literal.{Literal}
use Rattle.dw_model.specs.declared.statements.Literal.TheVariants.{Null, Words, Date, Truth}
use Rattle.dw_parse_words.specs.declared.parts.LiteralWord.{LiteralWord}
use Rattle.dw_parse_words.specs.declared.parts.LiteralWord.TheVariants as word
use Rattle.dw_parse_words.specs.Words.{is_sign, is_sign_at, is_reserved, name_of, word_at, sign_at, name_at}
use Rattle.dw_parse_words.specs.Literals.{literal_words, literal_word, digits_at, text_of, text_at, number_of_digits, negative_of_digits}
use Rattle.dw_parse_words.specs.PieceReading.{with_end, first_and_more, listed_within, listed_at, first_and_rest, repeated_within, repeated_at, table_at, named_at, closed, names_at, maybe_names_at, plain_of, literal_by, literal_at, tuple_at}
use Rattle.dw_parse_words.specs.Pieces.{Listed, one, more, Repeated, nothing, next, IsNamed, named, IsTable, alone, public, IsNames, names, IsMaybeNames, none, some, IsLiteral, number, negative, text, date, true_word, false_word, null_word, IsTuple, tuple}
use Rattle.dw_parse_words.proofs.FoundLemmas.{at_within, sign_within, meant_within, digits_within, Spans, and_both, and_false, one_word, name_no_word, meant_no_sign, digits_no_minus, text_no_minus, digits_no_word, text_no_word, text_no_digits, close_comma, comma_dot, open_dot, Sound, sound_some, sound_none, sound_if, sound_when, sound_bind, sound_map}

-- lists
module _ {A : Type 0} (x : ℕ → Option (A × ℕ)) (X : ℕ → A → ℕ → Type 0) (tokens : List Token) (spans : (i j : ℕ) (a : A) → X i a j → Spans tokens i j) where
  pub listed_spans : {i k : ℕ} {xs : List A} → Listed X tokens i xs k → Spans tokens i k
  listed_spans (one {i} {j} {a} h) = spans i j a h
  listed_spans (more {i} {j} {k} {a} {xs} h comma rest) =
      let s = spans i j a h in let t = listed_spans rest in (omega arith, t.1)

  module _ (F : ℕ → Type 0) (at_comma : (j : ℕ) → is_sign_at mark.Comma tokens j ≡ true → F j) (each : (i j : ℕ) (a : A) → X i a j → F j → x i ≡ Some (a, j)) where
    listed_complete : (limit : ℕ) {i k : ℕ} {xs : List A} → Listed X tokens i xs k → F k
        → is_sign_at mark.Comma tokens k ≡ false → length tokens < limit + i → listed_within x tokens limit i ≡ Some (xs, k)
    listed_complete zero (one {i} {j} {a} h) ends stop big = let s = spans i j a h in absurd (omega arith)
    listed_complete zero (more {i} {j} {k} {a} {xs} h comma rest) ends stop big = let s = spans i j a h in absurd (omega arith)
    listed_complete (suc limit) (one {i} {j} {a} h) ends stop big = let e = each i j a h ends in rw (e, stop) refl
    listed_complete (suc limit) (more {i} {j} {k} {a} {xs} h comma rest) ends stop big =
        let s = spans i j a h in
        let e = each i j a h (at_comma j comma) in
        let below : length tokens < limit + (j + 1) = omega arith in
        let tail = listed_complete limit rest ends stop below in
        rw (e, comma, tail) refl

    pub listed_at_complete : {i k : ℕ} {xs : List A} → Listed X tokens i xs k → F k → is_sign_at mark.Comma tokens k ≡ false → listed_at x tokens i ≡ Some (xs, k)
    listed_at_complete d ends stop = listed_complete (suc (length tokens)) d ends stop (omega arith)

  listed_sound : ((i : ℕ) → Sound (λ (r : A × ℕ). X i r.0 r.1) (x i)) → (limit i : ℕ) → Sound (λ (r : List A × ℕ). Listed X tokens i r.0 r.1) (listed_within x tokens limit i)
  listed_sound each zero i = sound_none (λ (r : List A × ℕ). Listed X tokens i r.0 r.1)
  listed_sound each (suc limit) i = on (listed_sound each limit) (x i) refl
    where
      on : ((j : ℕ) → Sound (λ (r : List A × ℕ). Listed X tokens j r.0 r.1) (listed_within x tokens limit j)) → (found : Option (A × ℕ)) → x i ≡ found
          → Sound (λ (r : List A × ℕ). Listed X tokens i r.0 r.1) (first_and_more found (λ j. is_sign_at mark.Comma tokens j) (listed_within x tokens limit))
      on again None is = sound_none (λ (r : List A × ℕ). Listed X tokens i r.0 r.1)
      on again (Some first) is =
          sound_if (λ (r : List A × ℕ). Listed X tokens i r.0 r.1) (is_sign_at mark.Comma tokens first.1)
          (option_map (λ (rest : List A × ℕ). (first.0 ∷ rest.0, rest.1)) (listed_within x tokens limit (first.1 + 1))) (Some (first.0 ∷ [], first.1))
          (λ comma. sound_map (λ (r : List A × ℕ). Listed X tokens i r.0 r.1) (λ (rest : List A × ℕ). (first.0 ∷ rest.0, rest.1)) (listed_within x tokens limit (first.1 + 1))
          (λ rest e. more (each i first is) comma (again (first.1 + 1) rest e)))
          (λ comma. sound_some (λ (r : List A × ℕ). Listed X tokens i r.0 r.1) (first.0 ∷ [], first.1) (one (each i first is)))

  pub listed_at_sound : ((i : ℕ) → Sound (λ (r : A × ℕ). X i r.0 r.1) (x i)) → (i : ℕ) → Sound (λ (r : List A × ℕ). Listed X tokens i r.0 r.1) (listed_at x tokens i)
  listed_at_sound each i = listed_sound each (suc (length tokens)) i

  -- without commas
  pub repeated_spans : {i k : ℕ} {xs : List A} → Repeated X i xs k → i ≤ length tokens → (i ≤ k) × (k ≤ length tokens)
  repeated_spans (nothing {i}) within = (omega arith, within)
  repeated_spans (next {i} {j} {k} {a} {xs} h rest) within =
      let s = spans i j a h in let t = repeated_spans rest s.1 in (omega arith, t.1)

  module _ (F : ℕ → Type 0) (starts : (i j : ℕ) (a : A) → X i a j → F i) (each : (i j : ℕ) (a : A) → X i a j → F j → x i ≡ Some (a, j)) where
    pub repeated_starts : {i k : ℕ} {xs : List A} → Repeated X i xs k → F k → F i
    repeated_starts (nothing {i}) ends = ends
    repeated_starts (next {i} {j} {k} {a} {xs} h rest) ends = starts i j a h

    repeated_complete : (limit : ℕ) {i k : ℕ} {xs : List A} → Repeated X i xs k → F k → x k ≡ None → i ≤ length tokens → length tokens < limit + i → repeated_within x limit i ≡ (xs, k)
    repeated_complete zero (nothing {i}) ends stop within big = absurd (omega arith)
    repeated_complete zero (next {i} {j} {k} {a} {xs} h rest) ends stop within big = absurd (omega arith)
    repeated_complete (suc limit) (nothing {i}) ends stop within big = rw stop refl
    repeated_complete (suc limit) (next {i} {j} {k} {a} {xs} h rest) ends stop within big =
        let s = spans i j a h in
        let e = each i j a h (repeated_starts rest ends) in
        let tail = repeated_complete limit rest ends stop s.1 (omega arith) in
        rw (e, tail) refl

    pub repeated_at_complete : {i k : ℕ} {xs : List A} → Repeated X i xs k → F k → x k ≡ None → i ≤ length tokens → repeated_at x tokens i ≡ (xs, k)
    repeated_at_complete d ends stop within = repeated_complete (suc (length tokens)) d ends stop within (omega arith)

  repeated_sound : ((i : ℕ) → Sound (λ (r : A × ℕ). X i r.0 r.1) (x i)) → (limit i : ℕ) → Repeated X i (repeated_within x limit i).0 (repeated_within x limit i).1
  repeated_sound each zero i = nothing
  repeated_sound each (suc limit) i = on (repeated_sound each limit) (x i) refl
    where
      on : ((j : ℕ) → Repeated X j (repeated_within x limit j).0 (repeated_within x limit j).1) → (found : Option (A × ℕ)) → x i ≡ found
          → Repeated X i (first_and_rest i found (repeated_within x limit)).0 (first_and_rest i found (repeated_within x limit)).1
      on again None is = nothing
      on again (Some first) is = next (each i first is) (again first.1)

  pub repeated_at_sound : ((i : ℕ) → Sound (λ (r : A × ℕ). X i r.0 r.1) (x i)) → (i : ℕ) → Repeated X i (repeated_at x tokens i).0 (repeated_at x tokens i).1
  repeated_at_sound each i = repeated_sound each (suc (length tokens)) i

-- nothing is asked of what comes after
abbrev pub Anything : ℕ → Type 0
Anything j = Unit {0}

abbrev anything : (tokens : List Token) (j : ℕ) → is_sign_at mark.Comma tokens j ≡ true → Anything j
anything tokens j e = tt

-- `name`
pub named_spans : (tokens : List Token) (i j : ℕ) (name : List ℕ) → IsNamed tokens i name j → Spans tokens i j
named_spans tokens i j name (named {name = n} e) = let h = at_within name_of tokens i n e in (omega arith, omega arith)

named_complete : (tokens : List Token) (i j : ℕ) (name : List ℕ) → IsNamed tokens i name j → Anything j → named_at tokens i ≡ Some (name, j)
named_complete tokens i j name (named e) after = rw e refl

pub named_sound : (tokens : List Token) (i : ℕ) → Sound (λ (r : List ℕ × ℕ). IsNamed tokens i r.0 r.1) (named_at tokens i)
named_sound tokens i = sound_map (λ (r : List ℕ × ℕ). IsNamed tokens i r.0 r.1) (λ (name : List ℕ). (name, i + 1)) (name_at tokens i) (λ name e. named e)

pub named_list_complete : (tokens : List Token) {i k : ℕ} {list : List (List ℕ)} → Listed (IsNamed tokens) tokens i list k → is_sign_at mark.Comma tokens k ≡ false → listed_at (named_at tokens) tokens i ≡ Some (list, k)
named_list_complete tokens d stop =
    listed_at_complete (named_at tokens) (IsNamed tokens) tokens (named_spans tokens) Anything (anything tokens) (named_complete tokens) d tt stop

pub named_list_sound : (tokens : List Token) (i : ℕ) → Sound (λ (r : List (List ℕ) × ℕ). Listed (IsNamed tokens) tokens i r.0 r.1) (listed_at (named_at tokens) tokens i)
named_list_sound tokens i = listed_at_sound (named_at tokens) (IsNamed tokens) tokens (named_spans tokens) (named_sound tokens) i

-- `[public .] name`
pub table_spans : (tokens : List Token) {i j : ℕ} {name : List ℕ} → IsTable tokens i name j → Spans tokens i j
table_spans tokens (alone {i} {name} e) = let h = at_within name_of tokens i name e in (omega arith, omega arith)
table_spans tokens (public {i} {name} w d e) = let h = at_within name_of tokens (i + 2) name e in (omega arith, omega arith)

pub table_complete : (tokens : List Token) {i j : ℕ} {name : List ℕ} → IsTable tokens i name j → is_sign_at mark.Dot tokens j ≡ false → table_at tokens i ≡ Some (name, j)
table_complete tokens (alone {i} e) stop =
    let lacks = and_false (word_at (codes "public") tokens i) (is_sign_at mark.Dot tokens (i + 1)) stop in rw (lacks, e) refl
table_complete tokens (public w d e) stop = rw (w, d, e) refl

pub table_sound : (tokens : List Token) (i : ℕ) → Sound (λ (r : List ℕ × ℕ). IsTable tokens i r.0 r.1) (table_at tokens i)
table_sound tokens i =
    sound_if (λ (r : List ℕ × ℕ). IsTable tokens i r.0 r.1) (word_at (codes "public") tokens i && is_sign_at mark.Dot tokens (i + 1))
    (with_end (i + 3) (name_at tokens (i + 2))) (with_end (i + 1) (name_at tokens i))
    (λ h. sound_map (λ (r : List ℕ × ℕ). IsTable tokens i r.0 r.1) (λ (name : List ℕ). (name, i + 3)) (name_at tokens (i + 2))
    (λ name e. public (and_both (word_at (codes "public") tokens i) (is_sign_at mark.Dot tokens (i + 1)) h).0 (and_both (word_at (codes "public") tokens i) (is_sign_at mark.Dot tokens (i + 1)) h).1 e))
    (λ h. sound_map (λ (r : List ℕ × ℕ). IsTable tokens i r.0 r.1) (λ (name : List ℕ). (name, i + 1)) (name_at tokens i) (λ name e. alone e))

-- `[public .] name {, [public .] name}`
pub table_list_complete : (tokens : List Token) {i k : ℕ} {list : List (List ℕ)} → Listed (IsTable tokens) tokens i list k → is_sign_at mark.Dot tokens k ≡ false → is_sign_at mark.Comma tokens k ≡ false → listed_at (table_at tokens) tokens i ≡ Some (list, k)
table_list_complete tokens d ends stop =
    listed_at_complete (table_at tokens) (IsTable tokens) tokens (λ i j name t. table_spans tokens t) (λ j. is_sign_at mark.Dot tokens j ≡ false) (λ j comma. comma_dot (sign_at tokens j) comma)
    (λ i j name t after. table_complete tokens t after) d ends stop

pub table_list_sound : (tokens : List Token) (i : ℕ) → Sound (λ (r : List (List ℕ) × ℕ). Listed (IsTable tokens) tokens i r.0 r.1) (listed_at (table_at tokens) tokens i)
table_list_sound tokens i = listed_at_sound (table_at tokens) (IsTable tokens) tokens (λ i j name t. table_spans tokens t) (table_sound tokens) i

-- no table's name begins with the word table
table_reserved : is_reserved (folded (codes "table")) ≡ true
unfolding is_reserved
table_reserved = refl

table_no_word : (tokens : List Token) {i j : ℕ} {name : List ℕ} → IsTable tokens i name j → word_at (codes "table") tokens i ≡ false
table_no_word tokens (alone {i} {name} e) = name_no_word (codes "table") tokens i name table_reserved e
table_no_word tokens (public {i} w d e) = one_word (codes "public") (codes "table") tokens i refl w

pub table_list_no_word : (tokens : List Token) {i k : ℕ} {list : List (List ℕ)} → Listed (IsTable tokens) tokens i list k → word_at (codes "table") tokens i ≡ false
table_list_no_word tokens (one h) = table_no_word tokens h
table_list_no_word tokens (more h comma rest) = table_no_word tokens h

-- `( name {, name} )` and `[names]`
pub names_spans : (tokens : List Token) {i j : ℕ} {those : List (List ℕ)} → IsNames tokens i those j → Spans tokens i j
names_spans tokens (names {i} {j} o list c) =
    let s = listed_spans (named_at tokens) (IsNamed tokens) tokens (named_spans tokens) list in
    let h = sign_within (is_sign mark.Close) tokens j refl c in (omega arith, omega arith)

pub names_complete : (tokens : List Token) {i j : ℕ} {those : List (List ℕ)} → IsNames tokens i those j → names_at tokens i ≡ Some (those, j)
names_complete tokens (names {i} {j} o list c) =
    let e = named_list_complete tokens list (close_comma (sign_at tokens j) c) in rw (o, e, c) refl

pub names_sound : (tokens : List Token) (i : ℕ) → Sound (λ (r : List (List ℕ) × ℕ). IsNames tokens i r.0 r.1) (names_at tokens i)
names_sound tokens i =
    sound_when (λ (r : List (List ℕ) × ℕ). IsNames tokens i r.0 r.1) (is_sign_at mark.Open tokens i) (option_and_then (closed tokens) (listed_at (named_at tokens) tokens (i + 1)))
    (λ o. sound_bind (λ (r : List (List ℕ) × ℕ). IsNames tokens i r.0 r.1) (closed tokens) (listed_at (named_at tokens) tokens (i + 1))
    (λ list e. sound_when (λ (r : List (List ℕ) × ℕ). IsNames tokens i r.0 r.1) (is_sign_at mark.Close tokens list.1) (Some (list.0, list.1 + 1))
    (λ c. sound_some (λ (r : List (List ℕ) × ℕ). IsNames tokens i r.0 r.1) (list.0, list.1 + 1) (names o (named_list_sound tokens (i + 1) list e) c))))

pub maybe_names_spans : (tokens : List Token) {i j : ℕ} {those : List (List ℕ)} → IsMaybeNames tokens i those j → i ≤ length tokens → (i ≤ j) × (j ≤ length tokens)
maybe_names_spans tokens (none {i}) within = (omega arith, within)
maybe_names_spans tokens (some n) within = let s = names_spans tokens n in (omega arith, s.1)

pub maybe_names_complete : (tokens : List Token) {i j : ℕ} {those : List (List ℕ)} → IsMaybeNames tokens i those j → is_sign_at mark.Open tokens j ≡ false → maybe_names_at tokens i ≡ Some (those, j)
maybe_names_complete tokens (none {i}) stop = rw stop refl
maybe_names_complete tokens (some (names {i} {j} o list c)) stop =
    let e = named_list_complete tokens list (close_comma (sign_at tokens j) c) in rw (o, e, c) refl

pub maybe_names_dot : (tokens : List Token) {i j : ℕ} {those : List (List ℕ)} → IsMaybeNames tokens i those j → is_sign_at mark.Dot tokens j ≡ false → is_sign_at mark.Dot tokens i ≡ false
maybe_names_dot tokens (none {i}) stop = stop
maybe_names_dot tokens (some (names {i} {j} o list c)) stop = open_dot (sign_at tokens i) o

pub maybe_names_sound : (tokens : List Token) (i : ℕ) → Sound (λ (r : List (List ℕ) × ℕ). IsMaybeNames tokens i r.0 r.1) (maybe_names_at tokens i)
maybe_names_sound tokens i =
    sound_if (λ (r : List (List ℕ) × ℕ). IsMaybeNames tokens i r.0 r.1) (is_sign_at mark.Open tokens i) (names_at tokens i) (Some ([], i))
    (λ o r e. some (names_sound tokens i r e)) (λ o. sound_some (λ (r : List (List ℕ) × ℕ). IsMaybeNames tokens i r.0 r.1) ([], i) none)

-- literals
pub literal_spans : (tokens : List Token) (i j : ℕ) (v : Literal) → IsLiteral tokens i v j → Spans tokens i j
literal_spans tokens i j v (number {n = n} e) = let h = digits_within tokens i n e in (omega arith, omega arith)
literal_spans tokens i j v (negative {n = n} m e) = let h = digits_within tokens (i + 1) n e in (omega arith, omega arith)
literal_spans tokens i j v (text {said = s} e) = let h = at_within text_of tokens i s e in (omega arith, omega arith)
literal_spans tokens i j v (date {said = s} w e) = let h = at_within text_of tokens (i + 1) s e in (omega arith, omega arith)
literal_spans tokens i j v (true_word w) = let h = meant_within literal_words tokens i word.True w in (omega arith, omega arith)
literal_spans tokens i j v (false_word w) = let h = meant_within literal_words tokens i word.False w in (omega arith, omega arith)
literal_spans tokens i j v (null_word w) = let h = meant_within literal_words tokens i word.Null w in (omega arith, omega arith)

pub literal_complete : (tokens : List Token) (i j : ℕ) (v : Literal) → IsLiteral tokens i v j → Anything j → literal_at tokens i ≡ Some (v, j)
literal_complete tokens i j v (number {n = n} e) after =
    let m = digits_no_minus tokens i n e in let w = digits_no_word literal_words tokens i n e in rw (m, w, e) refl
literal_complete tokens i j v (negative m e) after = rw (m, e) refl
literal_complete tokens i j v (text {said = s} e) after =
    let m = text_no_minus tokens i s e in
    let w = text_no_word literal_words tokens i s e in
    let d = text_no_digits tokens i s e in
    rw (m, w, d, e) refl
literal_complete tokens i j v (date w e) after =
    let m = meant_no_sign literal_words (is_sign mark.Minus) tokens i word.Date w refl in rw (m, w, e) refl
literal_complete tokens i j v (true_word w) after =
    let m = meant_no_sign literal_words (is_sign mark.Minus) tokens i word.True w refl in rw (m, w) refl
literal_complete tokens i j v (false_word w) after =
    let m = meant_no_sign literal_words (is_sign mark.Minus) tokens i word.False w refl in rw (m, w) refl
literal_complete tokens i j v (null_word w) after =
    let m = meant_no_sign literal_words (is_sign mark.Minus) tokens i word.Null w refl in rw (m, w) refl

plain_sound : (tokens : List Token) (i : ℕ) (n : Option (ℕ × ℕ)) → digits_at tokens i ≡ n → Sound (λ (r : Literal × ℕ). IsLiteral tokens i r.0 r.1) (plain_of i n (text_at tokens i))
plain_sound tokens i (Some n) is = sound_some (λ (r : Literal × ℕ). IsLiteral tokens i r.0 r.1) (number_of_digits n, i + 1) (number is)
plain_sound tokens i None is =
    sound_map (λ (r : Literal × ℕ). IsLiteral tokens i r.0 r.1) (λ (v : Literal). (v, i + 1)) (option_map (λ (said : List ℕ). Words said) (text_at tokens i))
    (sound_map (λ (v : Literal). IsLiteral tokens i v (i + 1)) (λ (said : List ℕ). Words said) (text_at tokens i) (λ said e. text e))

word_sound : (tokens : List Token) (i : ℕ) (w : Option LiteralWord) → literal_word tokens i ≡ w → Sound (λ (r : Literal × ℕ). IsLiteral tokens i r.0 r.1) (literal_by tokens i w)
word_sound tokens i (Some word.Null) is = sound_some (λ (r : Literal × ℕ). IsLiteral tokens i r.0 r.1) (Null, i + 1) (null_word is)
word_sound tokens i (Some word.True) is = sound_some (λ (r : Literal × ℕ). IsLiteral tokens i r.0 r.1) (Truth true, i + 1) (true_word is)
word_sound tokens i (Some word.False) is = sound_some (λ (r : Literal × ℕ). IsLiteral tokens i r.0 r.1) (Truth false, i + 1) (false_word is)
word_sound tokens i (Some word.Date) is =
    sound_map (λ (r : Literal × ℕ). IsLiteral tokens i r.0 r.1) (λ (v : Literal). (v, i + 2)) (option_map (λ (said : List ℕ). Date said) (text_at tokens (i + 1)))
    (sound_map (λ (v : Literal). IsLiteral tokens i v (i + 2)) (λ (said : List ℕ). Date said) (text_at tokens (i + 1)) (λ said e. date is e))
word_sound tokens i None is = plain_sound tokens i (digits_at tokens i) refl

pub literal_sound : (tokens : List Token) (i : ℕ) → Sound (λ (r : Literal × ℕ). IsLiteral tokens i r.0 r.1) (literal_at tokens i)
literal_sound tokens i =
    sound_if (λ (r : Literal × ℕ). IsLiteral tokens i r.0 r.1) (is_sign_at mark.Minus tokens i)
    (with_end (i + 2) (option_map (λ (n : ℕ × ℕ). negative_of_digits n) (digits_at tokens (i + 1)))) (literal_by tokens i (literal_word tokens i))
    (λ m. sound_map (λ (r : Literal × ℕ). IsLiteral tokens i r.0 r.1) (λ (v : Literal). (v, i + 2)) (option_map (λ (n : ℕ × ℕ). negative_of_digits n) (digits_at tokens (i + 1)))
    (sound_map (λ (v : Literal). IsLiteral tokens i v (i + 2)) (λ (n : ℕ × ℕ). negative_of_digits n) (digits_at tokens (i + 1)) (λ n e. negative m e)))
    (λ m. word_sound tokens i (literal_word tokens i) refl)

-- `( literal {, literal} )`
pub tuple_spans : (tokens : List Token) (i j : ℕ) (row : List Literal) → IsTuple tokens i row j → Spans tokens i j
tuple_spans tokens i j row (tuple {j = k} o list c) =
    let s = listed_spans (literal_at tokens) (IsLiteral tokens) tokens (literal_spans tokens) list in
    let h = sign_within (is_sign mark.Close) tokens k refl c in (omega arith, omega arith)

tuple_complete : (tokens : List Token) (i j : ℕ) (row : List Literal) → IsTuple tokens i row j → Anything j → tuple_at tokens i ≡ Some (row, j)
tuple_complete tokens i j row (tuple {j = k} o list c) after =
    let e = listed_at_complete (literal_at tokens) (IsLiteral tokens) tokens (literal_spans tokens) Anything (anything tokens) (literal_complete tokens) list tt (close_comma (sign_at tokens k) c) in
    rw (o, e, c) refl

tuple_sound : (tokens : List Token) (i : ℕ) → Sound (λ (r : List Literal × ℕ). IsTuple tokens i r.0 r.1) (tuple_at tokens i)
tuple_sound tokens i =
    sound_when (λ (r : List Literal × ℕ). IsTuple tokens i r.0 r.1) (is_sign_at mark.Open tokens i) (option_and_then (closed tokens) (listed_at (literal_at tokens) tokens (i + 1)))
    (λ o. sound_bind (λ (r : List Literal × ℕ). IsTuple tokens i r.0 r.1) (closed tokens) (listed_at (literal_at tokens) tokens (i + 1))
    (λ list e. sound_when (λ (r : List Literal × ℕ). IsTuple tokens i r.0 r.1) (is_sign_at mark.Close tokens list.1) (Some (list.0, list.1 + 1))
    (λ c. sound_some (λ (r : List Literal × ℕ). IsTuple tokens i r.0 r.1) (list.0, list.1 + 1)
    (tuple o (listed_at_sound (literal_at tokens) (IsLiteral tokens) tokens (literal_spans tokens) (literal_sound tokens) (i + 1) list e) c))))

pub tuples_complete : (tokens : List Token) {i k : ℕ} {rows : List (List Literal)} → Listed (IsTuple tokens) tokens i rows k → is_sign_at mark.Comma tokens k ≡ false → listed_at (tuple_at tokens) tokens i ≡ Some (rows, k)
tuples_complete tokens d stop =
    listed_at_complete (tuple_at tokens) (IsTuple tokens) tokens (tuple_spans tokens) Anything (anything tokens) (tuple_complete tokens) d tt stop

pub tuples_sound : (tokens : List Token) (i : ℕ) → Sound (λ (r : List (List Literal) × ℕ). Listed (IsTuple tokens) tokens i r.0 r.1) (listed_at (tuple_at tokens) tokens i)
tuples_sound tokens i = listed_at_sound (tuple_at tokens) (IsTuple tokens) tokens (tuple_spans tokens) (tuple_sound tokens) i
