-- Schedules: which session takes the next steps. Their form is this project's own.
use Rattle.std.specs.Prelude.{◌≡◌, ℕ, ◌+◌, ◌≤◌, not, ◌&&◌, ◌==◌, nat_lt, nat_le, if◌then◌else◌, Option, Some, None, Result, Ok, Err, List, [], ◌∷◌, ◌++◌, length, map, take, drop, replicate}
use Rattle.std.specs.Option.{option_map, option_and_then}
use Rattle.std.specs.List.{slice_split, position, list_all}
use Rattle.std.specs.Char.{is_ascii_digit}
use Rattle.std.specs.Str.Lines.{lines}
use Rattle.std.specs.Str.Parse.{digits_value}
use Rattle.dw_script.specs.Characters.{number_sign, space, times_sign, digit_zero}
use Rattle.dw_script.specs.declared.schedule.Move.{Move}
use Rattle.dw_script.specs.declared.schedule.ScheduleFault.{ScheduleFault}
use Rattle.dw_script.specs.declared.schedule.ScheduleFault.TheVariants.{Bad, Memory}

-- the words of a line, which single spaces part; an empty line has none, and one that begins with `#` neither
abbrev pub words_in : List ℕ → List (List ℕ)
words_in [] = []
words_in (byte ∷ bytes) = if byte == number_sign then [] else slice_split (λ b. b == space) (byte ∷ bytes)

-- how many moves a schedule may have, and how many steps one move
abbrev pub most_moves : ℕ
most_moves = 10000

abbrev pub most_steps : ℕ
most_steps = 10000

-- a number in decimal from 1 to a limit, without leading zeros
abbrev pub number_up_to : ℕ → List ℕ → Option ℕ
number_up_to limit [] = None
number_up_to limit (digit ∷ digits) =
    let value = digits_value 10 (digit ∷ digits) in
    if not (digit == digit_zero) && list_all is_ascii_digit (digit ∷ digits) && nat_le 1 value && nat_le value limit
    then Some value else None

-- the move of a session and a count of steps
abbrev pub move_by : Option ℕ → Option ℕ → Option Move
move_by session count =
    option_and_then (λ s. option_map (λ k. record { session = s; count = k }) count) session

-- `S`, a session, which takes one step, or `S*K`, by the first `*`: a session and a count of steps
abbrev pub move_at : ℕ → List ℕ → Option ℕ → Option Move
move_at sessions word None = move_by (number_up_to sessions word) (Some 1)
move_at sessions word (Some times) =
    move_by (number_up_to sessions (take times word)) (number_up_to most_steps (drop (times + 1) word))

-- the move that a word says
abbrev pub move_of : ℕ → List ℕ → Option Move
move_of sessions word = move_at sessions word (position (λ b. b == times_sign) word)

-- a word beside the number of its line
abbrev pub NumberedWord : Type 0
NumberedWord = ℕ × List ℕ

-- the words of a line with this number
abbrev pub words_on : ℕ → List ℕ → List NumberedWord
words_on number line = map (λ word. (number, word)) (words_in line)

-- the words of all lines, of which the first has this number
abbrev pub words_from : ℕ → List (List ℕ) → List NumberedWord
words_from number [] = []
words_from number (line ∷ lines) = words_on number line ++ words_from (number + 1) lines

-- what is read: the moves, or the number of the first bad line
abbrev pub Read : Type 0
Read = Result (List Move) ℕ

-- a word's move comes before those that are read after it; a word without one refuses its line
abbrev pub with_move : ℕ → Option Move → Read → Read
with_move line None rest = Err line
with_move line (Some move) (Ok moves) = Ok (move ∷ moves)
with_move line (Some move) (Err bad) = Err bad

-- the moves that the words say, of which so many came before, up to the first that says none or is past the limit
abbrev pub read_words : ℕ → ℕ → List NumberedWord → Read
read_words sessions before [] = Ok []
read_words sessions before (word ∷ words) =
    if nat_lt before most_moves
    then with_move word.0 (move_of sessions word.1) (read_words sessions (before + 1) words) else Err word.0

-- The moves of a schedule for so many sessions, or its first bad line. Lines end with LF or CR LF and are counted from
-- 1; the last one needs no end.
unfoldable pub read_schedule : ℕ → List ℕ → Read
read_schedule sessions bytes = read_words sessions 0 (words_from 1 (lines bytes))

-- the move's session is one of so many, and its count within the limit
abbrev pub IsMove : ℕ → Move → Type 0
IsMove sessions move = (1 ≤ move.session) × (move.session ≤ sessions) × (1 ≤ move.count) × (move.count ≤ most_steps)

-- the session of each step: each move's session as often as it counts
abbrev pub steps_of : List Move → List ℕ
steps_of [] = []
steps_of (move ∷ moves) = replicate move.count move.session ++ steps_of moves

-- Reading these words, wherever they stand, leads from the moves so far to these.
abbrev pub with_front : List Move → Read → Read
with_front front (Ok moves) = Ok (front ++ moves)
with_front front (Err bad) = Err bad

abbrev pub ReadsOn : ℕ → List NumberedWord → List Move → List Move → Type 0
ReadsOn sessions words before after =
    (more : List NumberedWord) → with_front before (read_words sessions (length before) (words ++ more))
    ≡ with_front after (read_words sessions (length after) more)

-- Reading these words after the moves so far ends at this bad line.
abbrev pub EndsAt : ℕ → List NumberedWord → List Move → ℕ → Type 0
EndsAt sessions words before bad =
    (more : List NumberedWord) → read_words sessions (length before) (words ++ more) ≡ Err bad

-- a fact on the bad line, where there is one. Nothing where memory ran out
abbrev pub IfBadLine : ScheduleFault → (ℕ → Type 0) → Type 0
IfBadLine (Bad line) P = P line
IfBadLine Memory P = Unit {0}
