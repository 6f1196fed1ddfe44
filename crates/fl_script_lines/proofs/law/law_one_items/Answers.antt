use Rattle.fl_script_lines.proofs.ItemLemmas.{one_items_is}
use Rattle.fl_script_lines.proofs.law.law_one_items.Goals as goal

pub returns : goal.returns
returns c = record { one = one_items_is }
