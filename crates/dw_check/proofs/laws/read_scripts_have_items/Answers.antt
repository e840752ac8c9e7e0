use Rattle.dw_check.proofs.ItemLemmas.{read_items}
use Rattle.dw_check.proofs.laws.read_scripts_have_items.Goals as goal

pub returns : goal.returns
returns c = read_items
