use Rattle.std.proofs.Common.{ℕ, ◌≡◌, Err, arith}
use Rattle.std.specs.Str.Lines.{lines, strip_carriage_return}
use Rattle.std.proofs.lemmas.Result.{err_from_is_err_and}
use Rattle.dw_script.specs.Schedule.{words_on, words_from, read_schedule, EndsAt}
use Rattle.dw_script.proofs.Words.{line-more, line-ends, line-last, line-last_ends, bad_further, schedule-read, schedule-bad, schedule-moves, schedule-few}
use Rattle.dw_script.proofs.schedule.read_schedule.Goals as goal

pub returns-in_err-read_line-clause-bad : goal.returns-in_err-read_line-clause-bad
returns-in_err-read_line-clause-bad c =
    let all = words_from 1 (lines c.args.bytes.now) in
    let bad_line = rw c.without_return.ensures at c.in_err-read_line.ensures.bad in
    let p = err_from_is_err_and c.from_residual.result c.from_residual.ensures.1 in
    rw (p.1, p.2) (bad_further c.in_err-read_line.field-0.0
    (λ (bad : ℕ). EndsAt c.args.sessions (words_on c.loop-line.number (strip_carriage_return c.in-Some.line.now)) c.loop-line.moves bad)
    (λ (bad : ℕ). read_schedule c.args.sessions c.args.bytes.now ≡ Err bad)
    (λ bad ends. schedule-bad c.args.sessions c.args.bytes.now bad
    (line-ends c.args.sessions c.loop-line.number all c.loop-line.rest.now c.in-Some.line.now c.in-Some.tail.now c.loop-line.moves bad c.in-Some.ensures.cut c.loop-line.invariant.on ends))
    bad_line)

pub loop-line-preserved : goal.loop-line-preserved
loop-line-preserved c =
    let all = words_from 1 (lines c.args.bytes.now) in
    let line_read = rw c.without_return.ensures at c.in_ok-read_line.ensures.ok in
    record {
      on = line-more c.args.sessions c.loop-line.number all c.loop-line.rest.now c.in-Some.line.now c.in-Some.tail.now c.loop-line.moves c.read_line.new.moves c.in-Some.ensures.cut c.loop-line.invariant.on line_read;
      counted = omega (arith, c.in-Some.ensures.shorter);
    }

pub returns-in_err-read_line-2-clause-bad : goal.returns-in_err-read_line-2-clause-bad
returns-in_err-read_line-2-clause-bad c =
    let all = words_from 1 (lines c.args.bytes.now) in
    let p = err_from_is_err_and c.from_residual-in_err-read_line-2.result c.from_residual-in_err-read_line-2.ensures.1 in
    rw (p.1, p.2) (bad_further c.in_err-read_line-2.field-0.0
    (λ (bad : ℕ). EndsAt c.args.sessions (words_on c.loop-line.number c.loop-line.rest.now) c.loop-line.moves bad)
    (λ (bad : ℕ). read_schedule c.args.sessions c.args.bytes.now ≡ Err bad)
    (λ bad ends. schedule-bad c.args.sessions c.args.bytes.now bad
    (line-last_ends c.args.sessions c.loop-line.number all c.loop-line.rest.now c.loop-line.moves bad c.in_default.ensures.whole c.loop-line.invariant.on ends))
    c.in_err-read_line-2.ensures.bad)

pub returns-clause-read : goal.returns-clause-read
returns-clause-read c =
    schedule-read c.args.sessions c.args.bytes.now c.read_line-2.new.moves
    (line-last c.args.sessions c.loop-line.number (words_from 1 (lines c.args.bytes.now)) c.loop-line.rest.now c.loop-line.moves c.read_line-2.new.moves c.in_default.ensures.whole c.loop-line.invariant.on c.in_ok-read_line-2.ensures.ok)

pub returns-clause-moves : goal.returns-clause-moves
returns-clause-moves c =
    schedule-moves c.args.sessions c.args.bytes.now c.read_line-2.new.moves
    (line-last c.args.sessions c.loop-line.number (words_from 1 (lines c.args.bytes.now)) c.loop-line.rest.now c.loop-line.moves c.read_line-2.new.moves c.in_default.ensures.whole c.loop-line.invariant.on c.in_ok-read_line-2.ensures.ok)

pub returns-clause-few : goal.returns-clause-few
returns-clause-few c =
    schedule-few c.args.sessions c.args.bytes.now c.read_line-2.new.moves
    (line-last c.args.sessions c.loop-line.number (words_from 1 (lines c.args.bytes.now)) c.loop-line.rest.now c.loop-line.moves c.read_line-2.new.moves c.in_default.ensures.whole c.loop-line.invariant.on c.in_ok-read_line-2.ensures.ok)
