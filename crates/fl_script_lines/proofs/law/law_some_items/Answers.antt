use Rattle.fl_script_lines.proofs.ItemLemmas.{some_items_is}
use Rattle.fl_script_lines.proofs.law.law_some_items.Goals as goal

pub returns : goal.returns
returns c = record { some = some_items_is }
