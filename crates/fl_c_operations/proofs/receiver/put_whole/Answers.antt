use Rattle.std.proofs.Common.{inr, subst}
use Rattle.fl_compile.specs.declared.program.Program.{Program}
use Rattle.fl_compile.specs.Programs.{program_of}
use Rattle.fl_c_operations.specs.Calls.{PutsCall}
use Rattle.fl_c_operations.proofs.receiver.put_whole.Goals as goal

pub returns : goal.returns
returns c =
    let puts = λ (p : Program). PutsCall (program_of p) c.in-Ok.call c.args.room.now c.put_numbers.result c.put_numbers.new.room in
    record { puts = inr (c.in-Ok.call, c.in-Ok.ensures.means, c.in-Ok.ensures.fits, subst puts c.program.ensures.program c.put_numbers.ensures.puts) }
