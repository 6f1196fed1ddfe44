use Rattle.std.proofs.Common.{◌≡◌, ◌≤◌, map, take}
use Rattle.std.specs.List.{count_by}
use Rattle.fl_model.specs.Views.{id_of}
use Rattle.fl_script_lines.specs.Names.{is_on}
use Rattle.fl_script_lines.proofs.names.count_on.Given as goal

abbrev pub invariant-loop-id : goal.invariant-loop-id
invariant-loop-id l = (l.count ≡ count_by (is_on l.core) (map id_of (take l.id-index l.ids))) × (l.count ≤ l.id-index)
