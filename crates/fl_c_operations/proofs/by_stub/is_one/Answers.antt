use Rattle.std.proofs.Common.{arith}
use Rattle.fl_interface.specs.Interface.{interface_of}
use Rattle.fl_compile.specs.Programs.{program_of}
use Rattle.fl_c_operations.proofs.OneFragment.{one_in}
use Rattle.fl_c_operations.proofs.by_stub.is_one.Goals as goal

pub returns : goal.returns
returns c = record {
  one = λ h call fits names. one_in (program_of c.args.program.now) c.plans.result.now.plan (interface_of c.plans.result.now.interface) c.args.msg.0 c.greatest.result
      c.plans.ensures.interface c.plans.ensures.plan c.greatest.ensures.greatest (omega arith) call fits names;
}
