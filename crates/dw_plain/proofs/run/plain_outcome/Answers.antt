-- What each form comes to, for these files.
use Rattle.dw_plain.proofs.run.plain_outcome.Goals as goal

pub returns-in-Drop : goal.returns-in-Drop
returns-in-Drop c = rw c.in-Drop.is (c.drop_outcome.ensures c.args.files.now)

pub returns-in-Lock : goal.returns-in-Lock
returns-in-Lock c = rw c.in-Lock.is (c.lock_outcome.ensures c.args.files.now)

pub returns-in-Insert : goal.returns-in-Insert
returns-in-Insert c = rw c.in-Insert.is (c.insert_outcome.ensures c.args.files.now)

pub returns-in-Select : goal.returns-in-Select
returns-in-Select c = rw c.in-Select.is (c.select_outcome.ensures c.args.files.now)
