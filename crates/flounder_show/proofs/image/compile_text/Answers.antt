use Rattle.fl_interface.specs.Interface.{interface_of}
use Rattle.fl_compile.specs.Programs.{program_of}
use Rattle.flounder_show.proofs.TextImages.{text_is_writable, image_told}
use Rattle.flounder_show.proofs.OutOfMemory.{text_memory}
use Rattle.flounder_show.proofs.image.compile_text.Goals as goal

pub write_image-requires : goal.write_image-requires
write_image-requires c = record {
  writable = text_is_writable c.args.text.now (interface_of c.in_ok-interface.interface) (program_of c.in_ok-program.program).interface c.in_ok-interface.ensures.interface c.in_ok-program.ensures.interface;
}

pub returns-clause-image : goal.returns-clause-image
returns-clause-image c =
    image_told c.args.text.now c.in_ok-image.image.items (interface_of c.in_ok-interface.interface) (program_of c.in_ok-program.program)
    c.in_ok-interface.ensures.interface c.in_ok-program.ensures.interface c.in_ok-program.ensures.plan c.in_ok-image.ensures.image

pub returns-in_err-program-clause-refused : goal.returns-in_err-program-clause-refused
returns-in_err-program-clause-refused c =
    text_memory c.args.text.now c.from_residual-in_err-program.result (interface_of c.in_ok-interface.interface) c.from_residual-in_err-program.ensures.1
    c.in_ok-interface.ensures.interface

pub returns-in_err-image-clause-refused : goal.returns-in_err-image-clause-refused
returns-in_err-image-clause-refused c =
    text_memory c.args.text.now c.from_residual-in_err-image.result (interface_of c.in_ok-interface.interface) c.from_residual-in_err-image.ensures.1
    c.in_ok-interface.ensures.interface
