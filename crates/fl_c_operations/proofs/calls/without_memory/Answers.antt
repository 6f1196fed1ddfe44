use Rattle.std.proofs.Common.{refl}
use Rattle.fl_interface.specs.Interface.{interface_of}
use Rattle.fl_compile.specs.Programs.{program_of}
use Rattle.fl_c_operations.proofs.Messages.{tape_there, tape_missing}
use Rattle.fl_c_operations.proofs.calls.without_memory.Goals as goal

pub returns-then-not-is_tape : goal.returns-then-not-is_tape
returns-then-not-is_tape c = record {
  reads = tape_missing (program_of c.args.program.now) c.plan.result (interface_of c.interface.result.now) c.args.message.0 c.args.tape.now c.plan.ensures.plan
      c.interface.ensures.interface c.requires.known (c.if-not-is_tape.ensures.none refl);
}

pub returns : goal.returns
returns c = record {
  reads = tape_there (program_of c.args.program.now) c.plan.result (interface_of c.interface.result.now) c.args.message.0 c.args.tape.now c.plan.ensures.plan
      c.interface.ensures.interface (c.if-not-is_tape.ensures.some refl);
}
