use Rattle.fl_compile.specs.Programs.{program_of}
use Rattle.fl_c_operations.proofs.OneFragment.{short_numbers}
use Rattle.fl_c_operations.proofs.by_stub.taped_frag.Goals as goal

pub returns : goal.returns
returns c = record {
  short = short_numbers (program_of c.args.program.now) c.args.circuit.0 c.in-Some-message_at.msg.0 c.in-Some.message c.in-Some.tape.now c.args.numbers.now c.in-Some-tape_frag.frag
      c.in-Some-message_at.ensures.some.0 c.in-Some.ensures.some c.in-Some-tape_frag.ensures.short;
  own = c.in-Some-tape_frag.ensures.own;
}
