use Rattle.std.proofs.Common.{ap, ◌∙◌}
use Rattle.fl_c_operations.specs.After.{is_all}
use Rattle.fl_c_operations.proofs.tapes.holds_arguments.Goals as goal

pub returns-in-Some : goal.returns-in-Some
returns-in-Some c = record { exact = c.is_empty.ensures ∙ ap is_all c.in-Some.ensures.exact }

pub returns-in-None : goal.returns-in-None
returns-in-None c = record { exact = ap is_all c.in-None.ensures.exact }
