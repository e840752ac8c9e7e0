use Rattle.std.proofs.Common.{◌∙◌, ◌++◌, ◌∷◌, [], ap}
use Rattle.dw_locks.specs.LockTable.{free_entry}
use Rattle.dw_locks.proofs.TableLemmas.{alike_more}
use Rattle.dw_locks.proofs.locks.Locks.new.Goals as goal

pub loop-preserved : goal.loop-preserved
loop-preserved c =
    alike_more c.loop.counter c.loop.entries.items c.push.new.self.items free_entry
    (c.in_ok-push.ensures.items ∙ ap (λ entry. c.loop.entries.items ++ entry ∷ []) c.free.ensures) c.loop.invariant
