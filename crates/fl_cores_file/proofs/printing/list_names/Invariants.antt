use Rattle.std.proofs.Common.{◌≡◌, ◌++◌, map}
use Rattle.fl_script_lines.specs.Tables.{table_of}
use Rattle.fl_cores_file.proofs.printing.list_names.Given as goal

abbrev pub invariant-loop-name : goal.invariant-loop-name
invariant-loop-name l = map (λ n. n.now) l.list.items ++ map (λ n. n.items) l.name-iterator ≡ table_of l.names
