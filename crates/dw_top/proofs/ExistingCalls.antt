-- Whatever the words of a call and the files are, there is a run of their scripts, in which no statement is refused for
-- want of memory.
use Rattle.std.proofs.Common.{◌≡◌, ℕ, zero, suc, List, [], ◌∷◌, ◌++◌, length, map, replicate, refl, sym, ap, subst, ◌∙◌, arith}
use Rattle.std.specs.Prelude.{All, slice_get, Option, Some, None, Result, option_map, unwrap_or}
use Rattle.std.specs.Prelude.{Ok as Had, Err as Foreign}
use Rattle.std.specs.Result.{result_unwrap_or}
use Rattle.std.proofs.lemmas.List.{length-map}
use Rattle.std.proofs.lemmas.List.Elements.{All-head, All-tail}
use Rattle.std.proofs.lemmas.Option.{slice_get-map}
use Rattle.dw_io.specs.Outside.{Held}
use Rattle.dw_lex.specs.declared.token.Token.{Token}
use Rattle.dw_lex.specs.Reading.{read_tokens}
use Rattle.dw_parse.specs.Reading.{read_statement}
use Rattle.dw_script.specs.declared.schedule.Move.{Move as Entry}
use Rattle.dw_script.specs.Schedule.{IsMove, Read, read_schedule, steps_of, words_from}
use Rattle.std.specs.Str.Lines.{lines}
use Rattle.dw_script.specs.Statements.{statements}
use Rattle.dw_script.proofs.Words.{read-moves}
use Rattle.dw_model.specs.declared.refusals.Refusal.TheVariants.{Memory}
use Rattle.dw_model.specs.declared.statements.Statement.{Statement}
use Rattle.dw_model.specs.declared.statements.Statement.TheVariants.{Vacuum}
use Rattle.dw_journal.specs.declared.Given.{Given}
use Rattle.dw_journal.specs.declared.Given.TheVariants.{Refused}
use Rattle.dw_journal.specs.declared.Journal.{Journal}
use Rattle.dw_journal.specs.declared.World.{World}
use Rattle.dw_journal.specs.Driven.{Move, OfSession, WithoutMemory}
use Rattle.dw_journal.specs.History.{events_of}
use Rattle.dw_journal.specs.Shapes.{standard_shape}
use Rattle.dw_journal.specs.Worlds.{IsSession, session_count}
use Rattle.dw_engine.specs.EngineInvariant.{HaveNoVacuum}
use Rattle.dw_input.specs.Files.{bytes_under}
use Rattle.dw_input.specs.Scripts.{given_of, given_of_form, given_of_statement, given_of_tokens, givens_of, world_of, world_under}
use Rattle.dw_input.specs.Words.{names_of}
use Rattle.dw_input.proofs.NoVacuum.{no_vacuum}
use Rattle.dw_top.specs.Existing.{AreSessionMoves, WereRead}
use Rattle.dw_top.specs.Run.{IsRun, moves_in, moves_of, moves_read, moves_under, world_in, world_named}
use Rattle.dw_top.proofs.ExistingRuns.{journal_exists}
use Rattle.dw_top.proofs.Reported.{run_driven}

-- ---- what is read of a script isn't refused for want of memory
form_read : (form : Statement) → given_of_form form ≡ Refused Memory → ⊥
form_read (Vacuum table) is = cc
form_read form is = cc

statement_read : (derived : Option Statement) → given_of_statement derived ≡ Refused Memory → ⊥
statement_read None is = cc
statement_read (Some form) is = form_read form is

tokens_read : (tokens : Result (List Token) ℕ) → given_of_tokens tokens ≡ Refused Memory → ⊥
tokens_read (Had tokens) is = statement_read (read_statement tokens) is
tokens_read (Foreign place) is = cc

inside : (a b : Given) → Some a ≡ Some b → a ≡ b
inside a b is = cc

given_read : (found : Option (List ℕ)) → option_map given_of found ≡ Some (Refused Memory) → ⊥
given_read None is = cc
given_read (Some bytes) is = tokens_read (read_tokens bytes) (inside (given_of bytes) (Refused Memory) is)

script_read : (found : Option (List ℕ)) (place : ℕ) → slice_get (unwrap_or (option_map givens_of found) []) place ≡ Some (Refused Memory) → ⊥
script_read None place is = cc
script_read (Some bytes) place is = given_read (slice_get (statements bytes) place) (sym (slice_get-map given_of (statements bytes) place) ∙ is)

were_read : (files : List (List ℕ)) → WereRead (world_of (map givens_of files))
were_read files session zero is = cc
were_read files zero (suc place) is = cc
were_read files (suc n) (suc place) is =
    script_read (slice_get files n) place
    (ap (λ (found : Option (List Given)). slice_get (unwrap_or found []) place) (sym (slice_get-map givens_of files n)) ∙ is)

-- ---- the moves of a schedule are of its sessions
are_copies : (world : World) (count session : ℕ) (rest : List ℕ) → IsSession world session → AreSessionMoves world (map OfSession rest)
    → AreSessionMoves world (map OfSession (replicate count session ++ rest))
are_copies world zero session rest there are = are
are_copies world (suc count) session rest there are = (there, are_copies world count session rest there are)

are_moves : (world : World) (entries : List Entry) → All (IsMove (session_count world)) entries → AreSessionMoves world (moves_of entries)
are_moves world [] all = tt
are_moves world (entry ∷ entries) all =
    let one = All-head (IsMove (session_count world)) entry entries all in
    are_copies world entry.count entry.session (steps_of entries) (one.0, one.1)
    (are_moves world entries (All-tail (IsMove (session_count world)) entry entries all))

all_read : (sessions : ℕ) (read : Read) → ((entries : List Entry) → read ≡ Had entries → All (IsMove sessions) entries)
    → All (IsMove sessions) (result_unwrap_or read [])
all_read sessions (Had entries) all = all entries refl
all_read sessions (Foreign line) all = λ place entry within. absurd (omega (arith, within))

schedule_read : (sessions : ℕ) (bytes : List ℕ) → All (IsMove sessions) (result_unwrap_or (read_schedule sessions bytes) [])
unfolding read_schedule
schedule_read sessions bytes = all_read sessions (read_schedule sessions bytes) (read-moves sessions (words_from 1 (lines bytes)))

-- ---- the run
abbrev HasRun : World → List Move → Type 0
HasRun world moves = (journal : Journal) × IsRun world moves journal × WithoutMemory (events_of journal)

run_exists : (world : World) (moves : List Move) → HaveNoVacuum world → WereRead world → AreSessionMoves world moves → HasRun world moves
run_exists world moves sweepless read are =
    let found = journal_exists world moves (standard_shape (session_count world)) sweepless are refl in
    (found.0, run_driven world moves found.0 found.1 found.2, found.3 read)

each_read : (held : Held) (names : List (List ℕ)) → map givens_of (map (bytes_under held) names) ≡ map (λ (name : List ℕ). givens_of (bytes_under held name)) names
each_read held [] = refl
each_read held (name ∷ names) = ap (λ (scripts : List (List Given)). givens_of (bytes_under held name) ∷ scripts) (each_read held names)

run_named : (names : Option (List ℕ × List (List ℕ))) (held : Held) → HasRun (world_named names held) (moves_under names held)
run_named None held = run_exists (world_of []) [] (no_vacuum []) (were_read []) tt
run_named (Some names) held =
    let world = world_under names.1 held in
    let same : world_of (map givens_of (map (bytes_under held) names.1)) ≡ world = ap world_of (each_read held names.1) in
    let count : session_count world ≡ length names.1 = length-map names.1 (λ (name : List ℕ). givens_of (bytes_under held name)) in
    run_exists world (moves_read (length names.1) (bytes_under held names.0))
    (subst HaveNoVacuum same (no_vacuum (map (bytes_under held) names.1)))
    (subst WereRead same (were_read (map (bytes_under held) names.1)))
    (are_moves world (result_unwrap_or (read_schedule (length names.1) (bytes_under held names.0)) [])
    (subst (λ (n : ℕ). All (IsMove n) (result_unwrap_or (read_schedule (length names.1) (bytes_under held names.0)) [])) (sym count)
    (schedule_read (length names.1) (bytes_under held names.0))))

pub run_called : (words : List (List ℕ)) (held : Held) → HasRun (world_in words held) (moves_in words held)
run_called words held = run_named (names_of words) held
