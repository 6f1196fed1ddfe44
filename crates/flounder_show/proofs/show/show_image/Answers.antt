use Rattle.std.proofs.Common.{◌∙◌}
use Rattle.fl_interface.specs.Interface.{interface_of}
use Rattle.fl_compile.specs.Programs.{program_of}
use Rattle.flounder_show.proofs.TextImages.{table_told}
use Rattle.flounder_show.proofs.OutOfMemory.{image_begins, image_memory}
use Rattle.flounder_show.proofs.show.show_image.Goals as goal

pub returns-clause-table : goal.returns-clause-table
returns-clause-table c =
    table_told c.args.bytes.now c.in_ok-table.table.items (program_of c.in_ok-program.program) (interface_of c.in_ok-plans.plans.interface) c.in_ok-plans.plans.plan
    c.in_ok-program.ensures.program (c.in_ok-plans.ensures.interface ∙ c.interface.ensures.interface) (c.in_ok-plans.ensures.plan ∙ c.plan-number.ensures.plan)
    c.in_ok-table.ensures.table

pub returns-in_err-plans-clause-refused : goal.returns-in_err-plans-clause-refused
returns-in_err-plans-clause-refused c =
    image_memory c.args.bytes.now c.from_residual-in_err-plans.result c.from_residual-in_err-plans.ensures.1
    (image_begins c.args.bytes.now (program_of c.in_ok-program.program).plan (program_of c.in_ok-program.program).interface c.in_ok-program.ensures.program)

pub returns-in_err-table-clause-refused : goal.returns-in_err-table-clause-refused
returns-in_err-table-clause-refused c =
    image_memory c.args.bytes.now c.from_residual-in_err-table.result c.from_residual-in_err-table.ensures.1
    (image_begins c.args.bytes.now (program_of c.in_ok-program.program).plan (program_of c.in_ok-program.program).interface c.in_ok-program.ensures.program)
