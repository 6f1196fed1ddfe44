use Rattle.std.proofs.Common.{◌≡◌, subst}
use Rattle.fl_value_data.specs.Value.{TheCall}
use Rattle.fl_wire.specs.Payload.{frags_of}
use Rattle.fl_stub.specs.declared.op.Column.TheVariants.{Send}
use Rattle.fl_compile.specs.declared.program.Program.{Program}
use Rattle.fl_compile.specs.Programs.{program_of, code_in}
use Rattle.fl_c_operations.specs.Calls.{AreCall}
use Rattle.fl_c_operations.specs.Runs.{left_at}
use Rattle.fl_c_operations.proofs.sender.HeldSender.start.Goals as goal

pub returns-in-Ok : goal.returns-in-Ok
returns-in-Ok c =
    let same : c.self.inside.program ≡ c.args.self.now.program = cc in
    let left = left_at (code_in Send (program_of c.self.inside.program) c.in-Ok.msg.0) c.in-Ok.run' in
    let of = λ (p : Program). (call : TheCall) × AreCall (program_of p) c.args.numbers.now call × (left ≡ frags_of (program_of p).plan (program_of p).interface call) in
    record { starts = (c.has_left.ensures.none c.if-has_left.false, subst of same c.in-Ok.ensures.starts.0, same) }
