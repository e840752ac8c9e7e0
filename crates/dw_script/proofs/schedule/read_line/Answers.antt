use Rattle.std.proofs.Common.{ℕ, [], ◌∷◌}
use Rattle.std.proofs.lemmas.Result.{err_from_is_err_and}
use Rattle.dw_script.specs.Schedule.{words_on, EndsAt}
use Rattle.dw_script.proofs.Words.{word-more, word-ends, word-last, word-last_ends, bad_further}
use Rattle.dw_script.proofs.schedule.read_line.Goals as goal

pub returns-in_err-push_move-clause-bad : goal.returns-in_err-push_move-clause-bad
returns-in_err-push_move-clause-bad c =
    let all = words_on c.args.number c.args.line.now in
    let p = err_from_is_err_and c.from_residual.result c.from_residual.ensures.1 in
    rw (p.1, p.2) (bad_further c.in_err-push_move.field-0.0
    (λ (bad : ℕ). EndsAt c.args.sessions ((c.args.number, c.in-Some.word.now) ∷ []) c.loop-word.moves bad)
    (λ (bad : ℕ). EndsAt c.args.sessions all c.args.moves.now bad)
    (λ bad. word-ends c.args.sessions c.args.number all c.loop-word.rest.now c.in-Some.word.now c.in-Some.tail.now c.args.moves.now c.loop-word.moves bad c.in-Some.ensures.cut c.loop-word.invariant)
    c.in_err-push_move.ensures.bad)

pub loop-word-preserved : goal.loop-word-preserved
loop-word-preserved c =
    word-more c.args.sessions c.args.number (words_on c.args.number c.args.line.now) c.loop-word.rest.now c.in-Some.word.now c.in-Some.tail.now c.args.moves.now c.loop-word.moves c.push_move.new.moves
    c.in-Some.ensures.cut c.loop-word.invariant c.in_ok-push_move.ensures.ok

pub returns-in_err-push_move-2-clause-bad : goal.returns-in_err-push_move-2-clause-bad
returns-in_err-push_move-2-clause-bad c =
    let all = words_on c.args.number c.args.line.now in
    let p = err_from_is_err_and c.from_residual-in_err-push_move-2.result c.from_residual-in_err-push_move-2.ensures.1 in
    rw (p.1, p.2) (bad_further c.in_err-push_move-2.field-0.0
    (λ (bad : ℕ). EndsAt c.args.sessions ((c.args.number, c.loop-word.rest.now) ∷ []) c.loop-word.moves bad)
    (λ (bad : ℕ). EndsAt c.args.sessions all c.args.moves.now bad)
    (λ bad. word-last_ends c.args.sessions c.args.number all c.loop-word.rest.now c.args.moves.now c.loop-word.moves bad c.in_default-cut_at.ensures.whole c.loop-word.invariant)
    c.in_err-push_move-2.ensures.bad)

pub returns-clause-ok : goal.returns-clause-ok
returns-clause-ok c =
    word-last c.args.sessions c.args.number (words_on c.args.number c.args.line.now) c.loop-word.rest.now c.args.moves.now c.loop-word.moves c.push_move-2.new.moves
    c.in_default-cut_at.ensures.whole c.loop-word.invariant c.in_ok-push_move-2.ensures.ok
