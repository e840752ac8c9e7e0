use Rattle.std.proofs.Common.{List, sym, ap, ◌∙◌, arith, [], ◌∷◌}
use Rattle.std.specs.List.{position}
use Rattle.dw_journal.specs.History.{History}
use Rattle.dw_journal.specs.Locks.{sweep_lock}
use Rattle.dw_judge.specs.declared.sessions.Session.{Session}
use Rattle.dw_judge.specs.Verdicts.{history_before}
use Rattle.dw_judge.proofs.Judged.{sweep_blocked, sweep_runs, sweep_tested}
use Rattle.dw_judge.proofs.Locked.{free_decided}
use Rattle.dw_judge.proofs.legal.is_legal_sweep.Goals as goal

pub is_free_to_sweep-requires : goal.is_free_to_sweep-requires
is_free_to_sweep-requires c = omega (arith, c.requires.within, c.requires.stands.number, c.requires.locks.counted)

pub returns-then-not-free : goal.returns-then-not-free
returns-then-not-free c =
    let history : History = history_before c.args.world.now c.args.journal.now c.args.place in
    sweep_blocked c.args.journal.now.events history c.args.summary.now c.requires.stands c.args.session c.args.table.now c.in_ok-free.free
    (free_decided history c.args.locks.now c.requires.locks c.args.session (sweep_lock c.args.table.now ∷ []) c.in_ok-free.free c.in_ok-free.ensures)
    c.if-not-free.true

pub returns-in-Some : goal.returns-in-Some
returns-in-Some c =
    let history : History = history_before c.args.world.now c.args.journal.now c.args.place in
    sweep_runs c.args.journal.now.events history c.args.summary.now c.requires.stands c.args.session c.args.table.now c.in-Some.field-0
    (ap (λ (l : List Session). position (λ (kept : Session). kept.sweeps) l) (sym c.as_slice.ensures.value) ∙ sym c.in-Some.ensures.place)

pub returns-in-None : goal.returns-in-None
returns-in-None c =
    let history : History = history_before c.args.world.now c.args.journal.now c.args.place in
    sweep_tested c.args.journal.now.events history c.args.summary.now c.requires.stands c.args.session c.args.table.now c.has_table.result c.in_ok-free.free c.has_table.ensures
    (free_decided history c.args.locks.now c.requires.locks c.args.session (sweep_lock c.args.table.now ∷ []) c.in_ok-free.free c.in_ok-free.ensures)
    c.if-not-free.false
    (ap (λ (l : List Session). position (λ (kept : Session). kept.sweeps) l) (sym c.as_slice.ensures.value) ∙ sym c.in-None.ensures.place)
