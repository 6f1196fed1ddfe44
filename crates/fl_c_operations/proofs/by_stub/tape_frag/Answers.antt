use Rattle.std.proofs.Common.{refl, rules}
use Rattle.fl_compile.specs.Programs.{program_of}
use Rattle.fl_c_operations.proofs.OneFragment.{short_of, own_of}
use Rattle.fl_c_operations.proofs.by_stub.tape_frag.Goals as goal

pub returns : goal.returns
returns c =
    let x = program_of c.args.program.now in
    let short = short_of c.law_sends_fragments.ensures.sends x c.plan.result _ c.args.circuit.0 c.args.msg.0
    c.in-Some.code.now c.args.tape.now c.first_frag.result c.interface.ensures.interface c.plan.ensures.plan c.interface.result.now.within c.interface.ensures.words
    (c.if-not-is_tape.ensures.some refl) (c.if-not-is_one.ensures.one refl) c.in-Some.ensures.exact c.first_frag.ensures in
    record { short = short; own = own_of x c.args.circuit.0 c.args.msg.0 c.args.tape.now c.first_frag.result (search rules) (search rules) short }
