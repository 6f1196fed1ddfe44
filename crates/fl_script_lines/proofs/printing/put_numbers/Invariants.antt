use Rattle.std.proofs.Common.{◌≡◌, ◌++◌, take, map}
use Rattle.fl_script_lines.specs.Commands.{a_number}
use Rattle.fl_script_lines.specs.Grammar.{printed_more}
use Rattle.fl_script_lines.proofs.printing.put_numbers.Given as goal

abbrev pub invariant-loop-number : goal.invariant-loop-number
invariant-loop-number l = l.out.items ≡ l.fn.out.items ++ printed_more (map (λ n. a_number n) (take l.number-index l.numbers))
