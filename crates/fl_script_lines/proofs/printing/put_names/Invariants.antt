use Rattle.std.proofs.Common.{◌≡◌, ◌++◌, take, map}
use Rattle.fl_script_lines.specs.Commands.{a_name}
use Rattle.fl_script_lines.specs.Grammar.{printed_more}
use Rattle.fl_script_lines.proofs.printing.put_names.Given as goal

abbrev pub invariant-loop-name : goal.invariant-loop-name
invariant-loop-name l = l.out.items ≡ l.fn.out.items ++ printed_more (map (λ n. a_name n.now) (take l.name-index l.names))
