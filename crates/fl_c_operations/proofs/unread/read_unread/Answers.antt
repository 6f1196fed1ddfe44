use Rattle.std.proofs.Common.{refl, ap}
use Rattle.std.specs.Prelude.{Option}
use Rattle.fl_compile.specs.Programs.{program_of}
use Rattle.fl_c_operations.specs.declared.unread.UnreadCall.{UnreadCall}
use Rattle.fl_c_operations.specs.View.{numbers_unread, handled_by}
use Rattle.fl_c_operations.proofs.unread.read_unread.Goals as goal

pub returns-in-Err : goal.returns-in-Err
returns-in-Err c = record {
  reads = λ end side calls. ((numbers_unread (program_of c.args.program.now) c.in-Some.call, ap (λ (o : Option UnreadCall). handled_by c.args.program.now o) c.in-Some.is, c.in-Err.ensures.puts), refl);
}

pub returns-in-Ok : goal.returns-in-Ok
returns-in-Ok c = record {
  reads = λ end side calls. ((numbers_unread (program_of c.args.program.now) c.in-Some.call, ap (λ (o : Option UnreadCall). handled_by c.args.program.now o) c.in-Some.is, c.in-Ok.ensures.puts), refl);
}
