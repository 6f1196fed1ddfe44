use Rattle.fl_script_lines.proofs.TableLemmas.{name_added}
use Rattle.fl_script_lines.proofs.table.NameTable.add.Goals as goal

pub returns-clause-added : goal.returns-clause-added
returns-clause-added c =
    name_added c.args.name.now c.args.self.now.set.keys c.insert.new.self.keys c.in_ok-name.name c.requires c.in_ok-name.ensures.items c.in_ok-insert.ensures.keys
