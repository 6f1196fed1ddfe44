use Rattle.std.proofs.Common.{take, refl, subst, ◌∙◌}
use Rattle.fl_base.specs.declared.fragment.Frag.{Frag}
use Rattle.fl_compile.specs.Programs.{program_of}
use Rattle.fl_c_operations.specs.Shorts.{IsFragOfTape}
use Rattle.fl_c_operations.proofs.by_stub.taped_call.Goals as goal

pub returns : goal.returns
returns c =
    let x = program_of c.args.program.now in
    let msg = c.in-Some.msg.0 in
    let tape = c.read_tape.new.tape in
    let same = c.if-not-are_same.ensures.same refl ∙ c.bare.ensures.bare in
    record {
      short = subst (λ (f : Frag). IsFragOfTape x 0 msg (take c.in-Some-read_tape.count tape) f) same c.in-Some-tape_frag.ensures.short;
    }
