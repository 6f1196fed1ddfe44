use Rattle.fl_interface.specs.Interface.{interface_of}
use Rattle.fl_compile.specs.Programs.{program_of}
use Rattle.flounder_show.proofs.TextImages.{header_told}
use Rattle.flounder_show.proofs.OutOfMemory.{image_begins, image_memory}
use Rattle.flounder_show.proofs.header.header_of_image.Goals as goal

pub returns-clause-header : goal.returns-clause-header
returns-clause-header c =
    header_told c.args.bytes.now c.in_ok-made.made.items (program_of c.in_ok-program.program) (interface_of c.interface.result.now) c.plan-number.result
    c.in_ok-program.ensures.program c.interface.ensures.interface c.plan-number.ensures.plan c.in_ok-made.ensures.header

pub returns-in_err-made-clause-refused : goal.returns-in_err-made-clause-refused
returns-in_err-made-clause-refused c =
    image_memory c.args.bytes.now c.from_residual-in_err-made.result c.from_residual-in_err-made.ensures.1
    (image_begins c.args.bytes.now (program_of c.in_ok-program.program).plan (program_of c.in_ok-program.program).interface c.in_ok-program.ensures.program)
