-- Reading the words of a schedule, one after the other.
use Rattle.std.proofs.Common.{◌≡◌, ℕ, ◌+◌, ◌≤◌, Bool, true, false, not, ◌&&◌, cond, eqb, leb, ltb, Option, Some, None, Ok, Err, List, [], ◌∷◌, ◌++◌, length, map, take, drop, refl, sym, ap, ◌∙◌, subst, append_assoc, arith}
use Rattle.std.specs.List.{slice_split, onto_first, position, position_or_len, list_all, All, AllByRecursion}
use Rattle.std.specs.Str.Lines.{lines, lines_of_parts, strip_carriage_return}
use Rattle.std.specs.Char.{is_ascii_digit}
use Rattle.std.specs.Str.Parse.{digits_value}
use Rattle.std.proofs.lemmas.Bool.{and_parts, leb-true, ltb-true, ltb-false}
use Rattle.std.proofs.lemmas.Bool.Decides.{nat_tests}
use Rattle.std.proofs.lemmas.List.{append-nil}
use Rattle.std.proofs.lemmas.List.Splits.{slice_split_first}
use Rattle.std.proofs.lemmas.List.Elements.{All-from_recursion}
use Rattle.dw_script.specs.Characters.{line_feed, space, times_sign, digit_zero}
use Rattle.dw_script.specs.declared.schedule.Move.{Move}
use Rattle.dw_script.specs.declared.schedule.ScheduleFault.{ScheduleFault}
use Rattle.dw_script.specs.declared.schedule.ScheduleFault.TheVariants.{Bad, Memory}
use Rattle.dw_script.specs.Schedule.{most_moves, most_steps, words_on, words_from, number_up_to, move_by, move_at, move_of, IsMove, NumberedWord, Read, with_move, read_words, with_front, ReadsOn, EndsAt, IfBadLine, read_schedule}

-- the words of what is left of a line
abbrev pub words_left : ℕ → List ℕ → List NumberedWord
words_left number rest = map (λ word. (number, word)) (slice_split (λ b. eqb b space) rest)

-- reading some words after some moves is reading other words after others, whatever comes then
abbrev pub Continues : ℕ → List NumberedWord → List Move → List NumberedWord → List Move → Type 0
Continues sessions words before rest after =
    (more : List NumberedWord) → with_front before (read_words sessions (length before) (words ++ more))
    ≡ with_front after (read_words sessions (length after) (rest ++ more))

-- a text is cut at the first byte that passes a test
some_is : (test : Bool) (m n : ℕ) → cond test (Some m) None ≡ Some n → (test ≡ true) × (m ≡ n)
some_is true m n e = (refl, cc)
some_is false m n e = cc

none_is : (test : Bool) (m : ℕ) → ◌≡◌ {A = Option ℕ} (cond test (Some m) None) None → test ≡ false
none_is true m e = cc
none_is false m e = refl

pub cut_first : (p : ℕ → Bool) (xs : List ℕ) (n : ℕ) → position p xs ≡ Some n → slice_split p xs ≡ take n xs ∷ slice_split p (drop (n + 1) xs)
cut_first p xs n found =
    let is = some_is (ltb (position_or_len p xs) (length xs)) (position_or_len p xs) n found in
    let cut = slice_split_first p xs 0 (ltb-true (position_or_len p xs) (length xs) is.0) in
    rw is.1 at cut

uncut_by : (p : ℕ → Bool) (x : ℕ) (xs : List ℕ) (test : Bool) → p x ≡ test → length (x ∷ xs) ≤ position_or_len p (x ∷ xs)
    → (length xs ≤ position_or_len p xs → slice_split p xs ≡ xs ∷ []) → slice_split p (x ∷ xs) ≡ (x ∷ xs) ∷ []
uncut_by p x xs true h long rest = let short : position_or_len p (x ∷ xs) ≡ 0 = rw h refl in absurd (omega arith)
uncut_by p x xs false h long rest =
    let more : position_or_len p (x ∷ xs) ≡ 1 + position_or_len p xs = rw h refl in
    let whole = rest (omega arith) in
    rw (h, whole) refl

uncut : (p : ℕ → Bool) (xs : List ℕ) → length xs ≤ position_or_len p xs → slice_split p xs ≡ xs ∷ []
uncut p [] long = refl
uncut p (x ∷ xs) long = uncut_by p x xs (p x) refl long (uncut p xs)

pub cut_none : (p : ℕ → Bool) (xs : List ℕ) → position p xs ≡ None → slice_split p xs ≡ xs ∷ []
cut_none p xs found = uncut p xs (ltb-false (position_or_len p xs) (length xs) (none_is (ltb (position_or_len p xs) (length xs)) (position_or_len p xs) found))

-- the lines, and those after the first
lines-onto : (line : List ℕ) (y : ℕ) (parts : List (List ℕ)) → lines_of_parts (line ∷ onto_first y parts) ≡ strip_carriage_return line ∷ lines_of_parts (onto_first y parts)
lines-onto line y [] = refl
lines-onto line y (part ∷ parts) = refl

lines-cons_by : (line : List ℕ) (y : ℕ) (parts : List (List ℕ)) (test : Bool) → lines_of_parts (line ∷ cond test ([] ∷ parts) (onto_first y parts)) ≡ strip_carriage_return line ∷ lines_of_parts (cond test ([] ∷ parts) (onto_first y parts))
lines-cons_by line y parts true = refl
lines-cons_by line y parts false = lines-onto line y parts

lines-cons : (line bytes : List ℕ) → lines_of_parts (line ∷ slice_split (λ b. eqb b 10) bytes) ≡ strip_carriage_return line ∷ lines bytes
lines-cons line [] = refl
lines-cons line (y ∷ ys) = lines-cons_by line y (slice_split (λ b. eqb b 10) ys) (eqb y 10)

abbrev Cut : ℕ → List ℕ → List ℕ → List ℕ → Type 0
Cut byte rest front tail = slice_split (λ b. eqb b byte) rest ≡ front ∷ slice_split (λ b. eqb b byte) tail

abbrev Uncut : ℕ → List ℕ → Type 0
Uncut byte rest = slice_split (λ b. eqb b byte) rest ≡ rest ∷ []

lines-first : (rest line tail : List ℕ) → Cut line_feed rest line tail → lines rest ≡ strip_carriage_return line ∷ lines tail
lines-first rest line tail cut = ap lines_of_parts cut ∙ lines-cons line tail

only_line : (number : ℕ) (rest : List ℕ) → words_from number (lines_of_parts (rest ∷ [])) ≡ words_on number rest
only_line number [] = refl
only_line number (b ∷ bs) =
    let some : eqb (length (b ∷ bs)) 0 ≡ false = grind (arith, nat_tests) in
    rw some (append-nil (words_on number (b ∷ bs)))

lines-last : (number : ℕ) (rest : List ℕ) → Uncut line_feed rest → words_from number (lines rest) ≡ words_on number rest
lines-last number rest whole = ap (λ (parts : List (List ℕ)). words_from number (lines_of_parts parts)) whole ∙ only_line number rest

pub continues-more : (sessions : ℕ) (words first left : List NumberedWord) (before so_far after : List Move)
    → Continues sessions words before (first ++ left) so_far → ReadsOn sessions first so_far after → Continues sessions words before left after
continues-more sessions words first left before so_far after start one more =
    start more
    ∙ ap (λ (all : List NumberedWord). with_front so_far (read_words sessions (length so_far) all)) (append_assoc first left more)
    ∙ one (left ++ more)

front_bad : (front : List Move) (read : Read) (bad : ℕ) → with_front front read ≡ Err bad → read ≡ Err bad
front_bad front (Ok moves) bad e = cc
front_bad front (Err line) bad e = e

pub ends-after : (sessions : ℕ) (words first left : List NumberedWord) (before so_far : List Move) (bad : ℕ)
    → Continues sessions words before (first ++ left) so_far → EndsAt sessions first so_far bad → EndsAt sessions words before bad
ends-after sessions words first left before so_far bad start one more =
    front_bad before (read_words sessions (length before) (words ++ more)) bad
    (start more
    ∙ ap (λ (all : List NumberedWord). with_front so_far (read_words sessions (length so_far) all)) (append_assoc first left more)
    ∙ ap (with_front so_far) (one (left ++ more)))

-- the bad line of what was returned
pub bad_further : (fault : ScheduleFault) (P Q : ℕ → Type 0) → ((bad : ℕ) → P bad → Q bad) → IfBadLine fault P → IfBadLine fault Q
bad_further (Bad line) P Q h bad = h line bad
bad_further Memory P Q h bad = tt

-- a word more of a line
word_front : (number : ℕ) (rest word tail : List ℕ) → Cut space rest word tail → words_left number rest ≡ (number, word) ∷ words_left number tail
word_front number rest word tail cut = ap (map (λ (w : List ℕ). (number, w))) cut

last_word : (number : ℕ) (rest : List ℕ) → Uncut space rest → words_left number rest ≡ (number, rest) ∷ []
last_word number rest whole = ap (map (λ (w : List ℕ). (number, w))) whole

pub word-more : (sessions number : ℕ) (words : List NumberedWord) (rest word tail : List ℕ) (before so_far after : List Move) → Cut space rest word tail
    → Continues sessions words before (words_left number rest) so_far → ReadsOn sessions ((number, word) ∷ []) so_far after → Continues sessions words before (words_left number tail) after
word-more sessions number words rest word tail before so_far after cut start one =
    continues-more sessions words ((number, word) ∷ []) (words_left number tail) before so_far after
    (subst (λ (left : List NumberedWord). Continues sessions words before left so_far) (word_front number rest word tail cut) start) one

pub word-ends : (sessions number : ℕ) (words : List NumberedWord) (rest word tail : List ℕ) (before so_far : List Move) (bad : ℕ) → Cut space rest word tail
    → Continues sessions words before (words_left number rest) so_far → EndsAt sessions ((number, word) ∷ []) so_far bad → EndsAt sessions words before bad
word-ends sessions number words rest word tail before so_far bad cut start one =
    ends-after sessions words ((number, word) ∷ []) (words_left number tail) before so_far bad
    (subst (λ (left : List NumberedWord). Continues sessions words before left so_far) (word_front number rest word tail cut) start) one

pub word-last : (sessions number : ℕ) (words : List NumberedWord) (rest : List ℕ) (before so_far after : List Move) → Uncut space rest
    → Continues sessions words before (words_left number rest) so_far → ReadsOn sessions ((number, rest) ∷ []) so_far after → ReadsOn sessions words before after
word-last sessions number words rest before so_far after whole start one =
    continues-more sessions words ((number, rest) ∷ []) [] before so_far after
    (subst (λ (left : List NumberedWord). Continues sessions words before left so_far) (last_word number rest whole) start) one

pub word-last_ends : (sessions number : ℕ) (words : List NumberedWord) (rest : List ℕ) (before so_far : List Move) (bad : ℕ) → Uncut space rest
    → Continues sessions words before (words_left number rest) so_far → EndsAt sessions ((number, rest) ∷ []) so_far bad → EndsAt sessions words before bad
word-last_ends sessions number words rest before so_far bad whole start one =
    ends-after sessions words ((number, rest) ∷ []) [] before so_far bad
    (subst (λ (left : List NumberedWord). Continues sessions words before left so_far) (last_word number rest whole) start) one

-- a line more of a schedule
line_front : (number : ℕ) (rest line tail : List ℕ) → Cut line_feed rest line tail → words_from number (lines rest) ≡ words_on number (strip_carriage_return line) ++ words_from (number + 1) (lines tail)
line_front number rest line tail cut = ap (words_from number) (lines-first rest line tail cut)

pub line-more : (sessions number : ℕ) (words : List NumberedWord) (rest line tail : List ℕ) (so_far after : List Move) → Cut line_feed rest line tail
    → Continues sessions words [] (words_from number (lines rest)) so_far → ReadsOn sessions (words_on number (strip_carriage_return line)) so_far after
    → Continues sessions words [] (words_from (number + 1) (lines tail)) after
line-more sessions number words rest line tail so_far after cut start one =
    continues-more sessions words (words_on number (strip_carriage_return line)) (words_from (number + 1) (lines tail)) [] so_far after
    (subst (λ (left : List NumberedWord). Continues sessions words [] left so_far) (line_front number rest line tail cut) start) one

pub line-ends : (sessions number : ℕ) (words : List NumberedWord) (rest line tail : List ℕ) (so_far : List Move) (bad : ℕ) → Cut line_feed rest line tail
    → Continues sessions words [] (words_from number (lines rest)) so_far → EndsAt sessions (words_on number (strip_carriage_return line)) so_far bad
    → EndsAt sessions words [] bad
line-ends sessions number words rest line tail so_far bad cut start one =
    ends-after sessions words (words_on number (strip_carriage_return line)) (words_from (number + 1) (lines tail)) [] so_far bad
    (subst (λ (left : List NumberedWord). Continues sessions words [] left so_far) (line_front number rest line tail cut) start) one

line_alone : (sessions number : ℕ) (words : List NumberedWord) (rest : List ℕ) (so_far : List Move) → Uncut line_feed rest
    → Continues sessions words [] (words_from number (lines rest)) so_far → Continues sessions words [] (words_on number rest ++ []) so_far
line_alone sessions number words rest so_far whole start =
    subst (λ (left : List NumberedWord). Continues sessions words [] left so_far) (lines-last number rest whole ∙ sym (append-nil (words_on number rest))) start

pub line-last : (sessions number : ℕ) (words : List NumberedWord) (rest : List ℕ) (so_far after : List Move) → Uncut line_feed rest
    → Continues sessions words [] (words_from number (lines rest)) so_far → ReadsOn sessions (words_on number rest) so_far after → ReadsOn sessions words [] after
line-last sessions number words rest so_far after whole start one =
    continues-more sessions words (words_on number rest) [] [] so_far after (line_alone sessions number words rest so_far whole start) one

pub line-last_ends : (sessions number : ℕ) (words : List NumberedWord) (rest : List ℕ) (so_far : List Move) (bad : ℕ) → Uncut line_feed rest
    → Continues sessions words [] (words_from number (lines rest)) so_far → EndsAt sessions (words_on number rest) so_far bad → EndsAt sessions words [] bad
line-last_ends sessions number words rest so_far bad whole start one =
    ends-after sessions words (words_on number rest) [] [] so_far bad (line_alone sessions number words rest so_far whole start) one

-- what was read of all words
pub read-whole : (sessions : ℕ) (words : List NumberedWord) (moves : List Move) → ReadsOn sessions words [] moves → read_words sessions 0 words ≡ Ok moves
read-whole sessions words moves on =
    let all = on [] in
    let front : with_front [] (read_words sessions 0 (words ++ [])) ≡ Ok (moves ++ []) = all in
    without_front (read_words sessions 0 words) moves (ap (λ (ws : List NumberedWord). with_front [] (read_words sessions 0 ws)) (sym (append-nil words)) ∙ front ∙ ap Ok (append-nil moves))
  where
    without_front : (read : Read) (moves : List Move) → with_front [] read ≡ Ok moves → read ≡ Ok moves
    without_front (Ok found) moves e = e
    without_front (Err bad) moves e = cc

pub bad-whole : (sessions : ℕ) (words : List NumberedWord) (bad : ℕ) → EndsAt sessions words [] bad → read_words sessions 0 words ≡ Err bad
bad-whole sessions words bad ends = ap (read_words sessions 0) (sym (append-nil words)) ∙ ends []

-- the moves that were read are of the sessions, and no more than the limit
guarded : (t : Bool) (x y : ℕ) → cond t (Some x) None ≡ Some y → (t ≡ true) × (x ≡ y)
guarded true x y e = (refl, cc)
guarded false x y e = cc

in_range : (limit : ℕ) (text : List ℕ) (n : ℕ) → number_up_to limit text ≡ Some n → (1 ≤ n) × (n ≤ limit)
in_range limit [] n e = cc
in_range limit (d ∷ ds) n e =
    let value : ℕ = digits_value 10 (d ∷ ds) in
    let g = guarded (not (eqb d digit_zero) && list_all is_ascii_digit (d ∷ ds) && leb 1 value && leb value limit) value n e in
    let outer = and_parts (not (eqb d digit_zero) && list_all is_ascii_digit (d ∷ ds) && leb 1 value) (leb value limit) g.0 in
    let inner = and_parts (not (eqb d digit_zero) && list_all is_ascii_digit (d ∷ ds)) (leb 1 value) outer.0 in
    (rw (← g.1) (leb-true 1 value inner.1), rw (← g.1) (leb-true value limit outer.1))

by_is_move : (sessions : ℕ) (session count : Option ℕ) (move : Move) → ((s : ℕ) → session ≡ Some s → (1 ≤ s) × (s ≤ sessions)) → ((k : ℕ) → count ≡ Some k → (1 ≤ k) × (k ≤ most_steps))
    → move_by session count ≡ Some move → IsMove sessions move
by_is_move sessions None count move of_session of_count e = cc
by_is_move sessions (Some s) None move of_session of_count e = cc
by_is_move sessions (Some s) (Some k) move of_session of_count e =
    let own : Move = record { session = s; count = k } in
    let is : own ≡ move = cc in
    let bounds : IsMove sessions own = ((of_session s refl).0, (of_session s refl).1, (of_count k refl).0, (of_count k refl).1) in
    subst (IsMove sessions) is bounds

at_is_move : (sessions : ℕ) (word : List ℕ) (place : Option ℕ) (move : Move) → move_at sessions word place ≡ Some move → IsMove sessions move
at_is_move sessions word None move e =
    by_is_move sessions (number_up_to sessions word) (Some 1) move (in_range sessions word) one_step e
  where
    one_step : (k : ℕ) → Some 1 ≡ Some k → (1 ≤ k) × (k ≤ most_steps)
    one_step k e = let is : 1 ≡ k = cc in (omega arith, omega arith)
at_is_move sessions word (Some times) move e =
    by_is_move sessions (number_up_to sessions (take times word)) (number_up_to most_steps (drop (times + 1) word)) move
    (in_range sessions (take times word)) (in_range most_steps (drop (times + 1) word)) e

abbrev Fine : ℕ → ℕ → List Move → Type 0
Fine sessions before moves = AllByRecursion (IsMove sessions) moves × (before + length moves ≤ most_moves)

fine-rest : (sessions before line : ℕ) (move : Option Move) (read : Read) (moves : List Move) → ((m : Move) → move ≡ Some m → IsMove sessions m)
    → ((found : List Move) → read ≡ Ok found → Fine sessions (before + 1) found) → with_move line move read ≡ Ok moves → Fine sessions before moves
fine-rest sessions before line None read moves of_move of_rest e = cc
fine-rest sessions before line (Some m) (Err bad) moves of_move of_rest e = cc
fine-rest sessions before line (Some m) (Ok found) moves of_move of_rest e =
    let rest = of_rest found refl in
    let is : m ∷ found ≡ moves = cc in
    let own : Fine sessions before (m ∷ found) = ((of_move m refl, rest.0), omega (arith, rest.1)) in
    subst (Fine sessions before) is own

fine-word : (sessions before : ℕ) (word : NumberedWord) (words : List NumberedWord) (moves : List Move) (room : Bool) → ltb before most_moves ≡ room
    → ((found : List Move) → before + 1 ≤ most_moves → read_words sessions (before + 1) words ≡ Ok found → Fine sessions (before + 1) found)
    → read_words sessions before (word ∷ words) ≡ Ok moves → Fine sessions before moves
fine-word sessions before word words moves true h rest e =
    let room : before + 1 ≤ most_moves = omega (arith, ltb-true before most_moves h) in
    fine-rest sessions before word.0 (move_of sessions word.1) (read_words sessions (before + 1) words) moves (λ m. at_is_move sessions word.1 (position (λ b. eqb b times_sign) word.1) m)
    (λ found. rest found room) (rw h at e)
fine-word sessions before word words moves false h rest e = let bad = rw h at e in cc

fine : (sessions before : ℕ) (words : List NumberedWord) (moves : List Move) → before ≤ most_moves → read_words sessions before words ≡ Ok moves → Fine sessions before moves
fine sessions before [] moves few e = let is : [] ≡ moves = cc in subst (Fine sessions before) is (tt, omega arith)
fine sessions before (word ∷ words) moves few e =
    fine-word sessions before word words moves (ltb before most_moves) refl (λ found room. fine sessions (before + 1) words found room) e

pub read-moves : (sessions : ℕ) (words : List NumberedWord) (moves : List Move) → read_words sessions 0 words ≡ Ok moves → All (IsMove sessions) moves
read-moves sessions words moves e = All-from_recursion (IsMove sessions) moves (fine sessions 0 words moves (omega arith) e).0

pub read-few : (sessions : ℕ) (words : List NumberedWord) (moves : List Move) → read_words sessions 0 words ≡ Ok moves → length moves ≤ most_moves
read-few sessions words moves e = let all = (fine sessions 0 words moves (omega arith) e).1 in omega (arith, all)

-- what the schedule reads as
pub schedule-read : (sessions : ℕ) (bytes : List ℕ) (moves : List Move) → ReadsOn sessions (words_from 1 (lines bytes)) [] moves → read_schedule sessions bytes ≡ Ok moves
unfolding read_schedule
schedule-read sessions bytes moves on = read-whole sessions (words_from 1 (lines bytes)) moves on

pub schedule-bad : (sessions : ℕ) (bytes : List ℕ) (bad : ℕ) → EndsAt sessions (words_from 1 (lines bytes)) [] bad → read_schedule sessions bytes ≡ Err bad
unfolding read_schedule
schedule-bad sessions bytes bad ends = bad-whole sessions (words_from 1 (lines bytes)) bad ends

pub schedule-moves : (sessions : ℕ) (bytes : List ℕ) (moves : List Move) → ReadsOn sessions (words_from 1 (lines bytes)) [] moves → All (IsMove sessions) moves
schedule-moves sessions bytes moves on = read-moves sessions (words_from 1 (lines bytes)) moves (read-whole sessions (words_from 1 (lines bytes)) moves on)

pub schedule-few : (sessions : ℕ) (bytes : List ℕ) (moves : List Move) → ReadsOn sessions (words_from 1 (lines bytes)) [] moves → length moves ≤ most_moves
schedule-few sessions bytes moves on = read-few sessions (words_from 1 (lines bytes)) moves (read-whole sessions (words_from 1 (lines bytes)) moves on)
