use Rattle.std.proofs.Common.{◌∙◌, sym, refl, ap}
use Rattle.fl_interface.specs.Interface.{interface_of}
use Rattle.fl_check.specs.Checks.{checked}
use Rattle.fl_parse.specs.Tree.{tree_of}
use Rattle.fl_check.proofs.TextLemmas.{if_ok_then, check_told}
use Rattle.fl_check.specs.Text.{text_fault}
use Rattle.fl_check.specs.TextOutcome.{outcome_of}
use Rattle.fl_check.proofs.text.read_tree.Goals as goal

pub returns-in-Ok : goal.returns-in-Ok
returns-in-Ok c = record { means = (checked (interface_of c.in-Ok.interface), c.in-Ok.ensures.outcome, refl) }

pub returns-in-Err : goal.returns-in-Err
returns-in-Err c = record {
  means =
      if_ok_then c.fault_read.result _ _
      (λ r h. check_told (tree_of c.args.tree.now) c.in-Err.fault h.0 (outcome_of r) c.in-Err.ensures.outcome (sym c.offset.ensures.offset ∙ h.1) (h.2 ∙ ap (λ n. text_fault n h.0) c.number.ensures.number))
      c.fault_read.ensures.fault;
}
