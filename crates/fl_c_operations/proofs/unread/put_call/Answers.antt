use Rattle.fl_compile.specs.Programs.{program_of}
use Rattle.fl_c_operations.proofs.Receives.{puts_numbers}
use Rattle.fl_c_operations.proofs.unread.put_call.Goals as goal

pub returns : goal.returns
returns c = record { puts = puts_numbers (program_of c.args.program.now) c.args.call.now c.args.room.now c.put_numbers.result c.put_numbers.new.room c.put_numbers.ensures.puts }
