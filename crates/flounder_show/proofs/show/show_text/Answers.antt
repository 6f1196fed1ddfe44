use Rattle.fl_interface.specs.Interface.{interface_of}
use Rattle.flounder_show.proofs.OutOfMemory.{text_memory}
use Rattle.flounder_show.proofs.show.show_text.Goals as goal

pub returns-in_err-plans-clause-refused : goal.returns-in_err-plans-clause-refused
returns-in_err-plans-clause-refused c =
    text_memory c.args.text.now c.from_residual-in_err-plans.result (interface_of c.in_ok-interface.interface) c.from_residual-in_err-plans.ensures.1
    c.in_ok-interface.ensures.interface

pub returns-in_err-table-clause-refused : goal.returns-in_err-table-clause-refused
returns-in_err-table-clause-refused c =
    text_memory c.args.text.now c.from_residual-in_err-table.result (interface_of c.in_ok-interface.interface) c.from_residual-in_err-table.ensures.1
    c.in_ok-interface.ensures.interface
