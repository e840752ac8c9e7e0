-- No file has bytes.
use Rattle.dw_model.proofs.EntryLemmas.{from_no_entries}
use Rattle.dw_model.proofs.files.FileMap.new.Goals as goal

pub returns : goal.returns
returns c = rw c.new.ensures.items from_no_entries
