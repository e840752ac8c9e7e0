use Rattle.std.proofs.Common.{◌≡◌, ℕ, suc, ◌-◌, ◌+◌, length, sym, ap, ◌∙◌, arith}
use Rattle.std.specs.List.{find, range_with_len}
use Rattle.dw_locks.specs.LockTable.{entry_of, holds_exclusively}
use Rattle.dw_locks.proofs.TableLemmas.{find_here, find_later, entry_is}
use Rattle.dw_locks.proofs.blockers.exclusive_holder.Goals as goal

-- one more session hasn't it
pub loop-place-preserved : goal.loop-place-preserved
loop-place-preserved c =
    let has = λ (session : ℕ). holds_exclusively c.args.table.now (entry_of c.args.entries.now session) in
    let left : length c.args.entries.now - c.loop-place.place ≡ suc (length c.args.entries.now - (c.loop-place.place + 1)) = omega (arith, c.loop-place-test.true) in
    let entry = entry_is c.args.entries.now c.loop-place.place c.index-entries-place.result c.index-entries-place.is c.loop-place-test.true in
    let told = ap (holds_exclusively c.args.table.now) (sym entry) ∙ sym c.if-holds_exclusively.ensures in
    c.loop-place.invariant ∙ ap (λ count. find has (range_with_len c.loop-place.place count)) left
    ∙ find_later has c.loop-place.place (length c.args.entries.now - (c.loop-place.place + 1)) told

pub returns-then-holds_exclusively : goal.returns-then-holds_exclusively
returns-then-holds_exclusively c =
    let has = λ (session : ℕ). holds_exclusively c.args.table.now (entry_of c.args.entries.now session) in
    let left : length c.args.entries.now - c.loop-place.place ≡ suc (length c.args.entries.now - (c.loop-place.place + 1)) = omega (arith, c.loop-place-test.true) in
    let entry = entry_is c.args.entries.now c.loop-place.place c.index-entries-place.result c.index-entries-place.is c.loop-place-test.true in
    let told = ap (holds_exclusively c.args.table.now) (sym entry) ∙ sym c.if-holds_exclusively.ensures in
    sym (c.loop-place.invariant ∙ ap (λ count. find has (range_with_len c.loop-place.place count)) left
    ∙ find_here has c.loop-place.place (length c.args.entries.now - (c.loop-place.place + 1)) told)
