use Rattle.std.proofs.Common.{◌∙◌}
use Rattle.fl_script_lines.proofs.TableLemmas.{place_found}
use Rattle.fl_script_lines.proofs.table.NameTable.find_by_map.Goals as goal

pub returns : goal.returns
returns c = record { place = c.get_index_of.ensures.index ∙ place_found c.args.name.now c.args.self.now.set.keys }
