use Rattle.std.proofs.Common.{◌∙◌}
use Rattle.fl_interface.specs.Interface.{type_of}
use Rattle.fl_c_operations.specs.After.{after_value}
use Rattle.fl_c_operations.proofs.After.{counted_none, counted_some}
use Rattle.fl_c_operations.proofs.tapes.after_sized.Goals as goal

pub returns-in_default : goal.returns-in_default
returns-in_default c = record { exact = counted_none (after_value (type_of c.args.element.now)) c.args.most c.args.tape.now c.in_default.ensures.none }

pub returns : goal.returns
returns c = record {
  exact = c.after_elements.ensures.exact
      ∙ counted_some (after_value (type_of c.args.element.now)) c.args.most c.args.tape.now c.in-Some.count c.in-Some.elements.now c.in-Some.ensures.found;
}
