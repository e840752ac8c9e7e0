-- The grammar and the reading of kinds agree.
use Rattle.std.proofs.Common.{◌≡◌, ℕ, ◌+◌, ◌<◌, ◌≤◌, true, false, Some, List, length, refl, arith}
use Rattle.std.specs.Prelude.{codes}
use Rattle.std.specs.Option.{option_and_then}
use Rattle.dw_lex.specs.declared.signs.Sign.TheVariants as mark
use Rattle.dw_lex.specs.declared.token.Token.{Token}
use Rattle.dw_value.specs.declared.kinds.Kind.{Kind}
use Rattle.dw_value.specs.declared.kinds.Kind.TheVariants as kinds
use Rattle.dw_parse_words.specs.declared.parts.KindWord.{KindWord}
use Rattle.dw_parse_words.specs.declared.parts.KindWord.TheVariants as k
use Rattle.dw_parse_words.specs.Words.{is_sign, is_sign_at, word_at, sign_at}
use Rattle.dw_parse_words.specs.Kinds.{kind_words, kind_word, length_in, precision_at, scale_at}
use Rattle.dw_parse_words.specs.KindReading.{when, length_at, scaled_at, precise_at, precision_and_scale_at, char_at, varchar_at, kind_by, kind_at}
use Rattle.dw_parse_words.specs.KindGrammar.{IsLength, IsDigits, IsKind}
use Rattle.dw_parse_words.specs.KindGrammar as g
use Rattle.dw_parse_words.proofs.FoundLemmas.{sign_within, word_within, meant_within, Spans, close_comma, Sound, sound_some, sound_if, sound_when, sound_bind, sound_map}

pub close_within : (tokens : List Token) (i : ℕ) → is_sign_at mark.Close tokens i ≡ true → i < length tokens
close_within tokens i e = sign_within (is_sign mark.Close) tokens i refl e

-- the length of a text
length_spans : (limit unwritten : ℕ) (tokens : List Token) {i j n : ℕ} → IsLength limit unwritten tokens i n j → i ≤ length tokens → (i ≤ j) × (j ≤ length tokens)
length_spans limit unwritten tokens (g.absent {i}) within = (omega arith, within)
length_spans limit unwritten tokens (g.present {i} o n c) within = let h = close_within tokens (i + 2) c in (omega arith, omega arith)

length_complete : (limit unwritten : ℕ) (tokens : List Token) {i j n : ℕ} → IsLength limit unwritten tokens i n j → is_sign_at mark.Open tokens j ≡ false → length_at limit unwritten tokens i ≡ Some (n, j)
length_complete limit unwritten tokens (g.absent {i}) stop = rw stop refl
length_complete limit unwritten tokens (g.present {i} o n c) stop = rw (o, n, c) refl

length_sound : (limit unwritten : ℕ) (tokens : List Token) (i : ℕ) → Sound (λ (r : ℕ × ℕ). IsLength limit unwritten tokens i r.0 r.1) (length_at limit unwritten tokens i)
length_sound limit unwritten tokens i =
    sound_if (λ (r : ℕ × ℕ). IsLength limit unwritten tokens i r.0 r.1) (is_sign_at mark.Open tokens i)
    (option_and_then (λ (n : ℕ). when (is_sign_at mark.Close tokens (i + 2)) (n, i + 3)) (length_in limit tokens (i + 1))) (Some (unwritten, i))
    (λ o. sound_bind (λ (r : ℕ × ℕ). IsLength limit unwritten tokens i r.0 r.1) (λ (n : ℕ). when (is_sign_at mark.Close tokens (i + 2)) (n, i + 3)) (length_in limit tokens (i + 1))
    (λ n e. sound_when (λ (r : ℕ × ℕ). IsLength limit unwritten tokens i r.0 r.1) (is_sign_at mark.Close tokens (i + 2)) (Some (n, i + 3))
    (λ c. sound_some (λ (r : ℕ × ℕ). IsLength limit unwritten tokens i r.0 r.1) (n, i + 3) (g.present o e c))))
    (λ o. sound_some (λ (r : ℕ × ℕ). IsLength limit unwritten tokens i r.0 r.1) (unwritten, i) g.absent)

-- the digits of a DECIMAL
digits_spans : (tokens : List Token) {i j : ℕ} {d : ℕ × ℕ} → IsDigits tokens i d j → i ≤ length tokens → (i ≤ j) × (j ≤ length tokens)
digits_spans tokens (g.absent {i}) within = (omega arith, within)
digits_spans tokens (g.whole {i} o n c) within = let h = close_within tokens (i + 2) c in (omega arith, omega arith)
digits_spans tokens (g.scaled {i} o n comma s c) within = let h = close_within tokens (i + 4) c in (omega arith, omega arith)

digits_complete : (tokens : List Token) {i j : ℕ} {d : ℕ × ℕ} → IsDigits tokens i d j → is_sign_at mark.Open tokens j ≡ false → precision_and_scale_at tokens i ≡ Some (d, j)
digits_complete tokens (g.absent {i}) stop = rw stop refl
digits_complete tokens (g.whole {i} o n c) stop = let comma = close_comma (sign_at tokens (i + 2)) c in rw (o, n, comma, c) refl
digits_complete tokens (g.scaled {i} o n comma s c) stop = rw (o, n, comma, s, c) refl

digits_sound : (tokens : List Token) (i : ℕ) → Sound (λ (r : (ℕ × ℕ) × ℕ). IsDigits tokens i r.0 r.1) (precision_and_scale_at tokens i)
digits_sound tokens i =
    sound_if (λ (r : (ℕ × ℕ) × ℕ). IsDigits tokens i r.0 r.1) (is_sign_at mark.Open tokens i)
    (option_and_then (precise_at tokens i) (precision_at tokens (i + 1))) (Some ((18, 0), i))
    (λ o. sound_bind (λ (r : (ℕ × ℕ) × ℕ). IsDigits tokens i r.0 r.1) (precise_at tokens i) (precision_at tokens (i + 1))
    (λ n e. sound_if (λ (r : (ℕ × ℕ) × ℕ). IsDigits tokens i r.0 r.1) (is_sign_at mark.Comma tokens (i + 2)) (scaled_at tokens i n) (when (is_sign_at mark.Close tokens (i + 2)) ((n, 0), i + 3))
    (λ comma. sound_bind (λ (r : (ℕ × ℕ) × ℕ). IsDigits tokens i r.0 r.1) (λ (s : ℕ). when (is_sign_at mark.Close tokens (i + 4)) ((n, s), i + 5)) (scale_at n tokens (i + 3))
    (λ s f. sound_when (λ (r : (ℕ × ℕ) × ℕ). IsDigits tokens i r.0 r.1) (is_sign_at mark.Close tokens (i + 4)) (Some ((n, s), i + 5))
    (λ c. sound_some (λ (r : (ℕ × ℕ) × ℕ). IsDigits tokens i r.0 r.1) ((n, s), i + 5) (g.scaled o e comma f c))))
    (λ comma. sound_when (λ (r : (ℕ × ℕ) × ℕ). IsDigits tokens i r.0 r.1) (is_sign_at mark.Close tokens (i + 2)) (Some ((n, 0), i + 3))
    (λ c. sound_some (λ (r : (ℕ × ℕ) × ℕ). IsDigits tokens i r.0 r.1) ((n, 0), i + 3) (g.whole o e c)))))
    (λ o. sound_some (λ (r : (ℕ × ℕ) × ℕ). IsDigits tokens i r.0 r.1) ((18, 0), i) g.absent)

-- kinds
after_word : (tokens : List Token) {i j : ℕ} → i < length tokens → (i + 1 ≤ length tokens → (i + 1 ≤ j) × (j ≤ length tokens)) → Spans tokens i j
after_word tokens here rest = let s = rest (omega arith) in (omega arith, s.1)

pub kind_spans : (tokens : List Token) {i j : ℕ} {kind : Kind} → IsKind tokens i kind j → Spans tokens i j
kind_spans tokens (g.plain {i} {kind} w) = let h = meant_within kind_words tokens i (k.Plain kind) w in (omega arith, omega arith)
kind_spans tokens (g.decimal {i} w d) = after_word tokens (meant_within kind_words tokens i k.Decimal w) (digits_spans tokens d)
kind_spans tokens (g.char {i} w n) = after_word tokens (meant_within kind_words tokens i k.Char w) (length_spans 4096 1 tokens n)
kind_spans tokens (g.character {i} w v n) = after_word tokens (meant_within kind_words tokens i k.Character w) (length_spans 4096 1 tokens n)
kind_spans tokens (g.varchar {i} w n) = after_word tokens (meant_within kind_words tokens i k.Varchar w) (length_spans 65535 256 tokens n)
kind_spans tokens (g.varying {i} w v n) =
    let h = word_within (codes "varying") tokens (i + 1) v in
    let s = length_spans 65535 256 tokens n (omega arith) in (omega arith, s.1)

pub kind_complete : (tokens : List Token) {i j : ℕ} {kind : Kind} → IsKind tokens i kind j → is_sign_at mark.Open tokens j ≡ false → kind_at tokens i ≡ Some (kind, j)
kind_complete tokens (g.plain w) stop = rw w refl
kind_complete tokens (g.decimal w d) stop = let e = digits_complete tokens d stop in rw (w, e) refl
kind_complete tokens (g.char w n) stop = let e = length_complete 4096 1 tokens n stop in rw (w, e) refl
kind_complete tokens (g.character w v n) stop = let e = length_complete 4096 1 tokens n stop in rw (w, v, e) refl
kind_complete tokens (g.varchar w n) stop = let e = length_complete 65535 256 tokens n stop in rw (w, e) refl
kind_complete tokens (g.varying w v n) stop = let e = length_complete 65535 256 tokens n stop in rw (w, v, e) refl

char_sound : (tokens : List Token) (i j : ℕ) → ((n l : ℕ) → IsLength 4096 1 tokens j n l → IsKind tokens i (kinds.Char n) l) → Sound (λ (r : Kind × ℕ). IsKind tokens i r.0 r.1) (char_at tokens j)
char_sound tokens i j rule =
    sound_map (λ (r : Kind × ℕ). IsKind tokens i r.0 r.1) (λ (n : ℕ × ℕ). (kinds.Char n.0, n.1)) (length_at 4096 1 tokens j)
    (λ n e. rule n.0 n.1 (length_sound 4096 1 tokens j n e))

varchar_sound : (tokens : List Token) (i j : ℕ) → ((n l : ℕ) → IsLength 65535 256 tokens j n l → IsKind tokens i (kinds.Varchar n) l) → Sound (λ (r : Kind × ℕ). IsKind tokens i r.0 r.1) (varchar_at tokens j)
varchar_sound tokens i j rule =
    sound_map (λ (r : Kind × ℕ). IsKind tokens i r.0 r.1) (λ (n : ℕ × ℕ). (kinds.Varchar n.0, n.1)) (length_at 65535 256 tokens j)
    (λ n e. rule n.0 n.1 (length_sound 65535 256 tokens j n e))

kind_by_sound : (tokens : List Token) (i : ℕ) (w : KindWord) → kind_word tokens i ≡ Some w → Sound (λ (r : Kind × ℕ). IsKind tokens i r.0 r.1) (kind_by tokens i w)
kind_by_sound tokens i (k.Plain kind) is = sound_some (λ (r : Kind × ℕ). IsKind tokens i r.0 r.1) (kind, i + 1) (g.plain is)
kind_by_sound tokens i k.Decimal is =
    sound_map (λ (r : Kind × ℕ). IsKind tokens i r.0 r.1) (λ (d : (ℕ × ℕ) × ℕ). (kinds.Decimal d.0.0 d.0.1, d.1)) (precision_and_scale_at tokens (i + 1))
    (λ d e. g.decimal is (digits_sound tokens (i + 1) d e))
kind_by_sound tokens i k.Char is = char_sound tokens i (i + 1) (λ n l h. g.char is h)
kind_by_sound tokens i k.Character is =
    sound_if (λ (r : Kind × ℕ). IsKind tokens i r.0 r.1) (word_at (codes "varying") tokens (i + 1)) (varchar_at tokens (i + 2)) (char_at tokens (i + 1))
    (λ v. varchar_sound tokens i (i + 2) (λ n l h. g.varying is v h)) (λ v. char_sound tokens i (i + 1) (λ n l h. g.character is v h))
kind_by_sound tokens i k.Varchar is = varchar_sound tokens i (i + 1) (λ n l h. g.varchar is h)

pub kind_sound : (tokens : List Token) (i : ℕ) → Sound (λ (r : Kind × ℕ). IsKind tokens i r.0 r.1) (kind_at tokens i)
kind_sound tokens i = sound_bind (λ (r : Kind × ℕ). IsKind tokens i r.0 r.1) (kind_by tokens i) (kind_word tokens i) (λ w e. kind_by_sound tokens i w e)
