use Rattle.fl_interface.specs.Interface.{interface_of}
use Rattle.flounder_show.proofs.OutOfMemory.{text_memory}
use Rattle.flounder_show.proofs.header.header_of_text.Goals as goal

pub returns-in_err-made-clause-refused : goal.returns-in_err-made-clause-refused
returns-in_err-made-clause-refused c =
    text_memory c.args.text.now c.from_residual-in_err-made.result (interface_of c.in_ok-interface.interface) c.from_residual-in_err-made.ensures.1
    c.in_ok-interface.ensures.interface
