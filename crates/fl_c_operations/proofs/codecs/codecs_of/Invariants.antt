use Rattle.fl_compile.specs.Programs.{program_of}
use Rattle.fl_c_operations.specs.Codecs.{AreFirstCodecs}
use Rattle.fl_c_operations.proofs.codecs.codecs_of.Given as goal

abbrev pub invariant-loop-msg : goal.invariant-loop-msg
invariant-loop-msg l = AreFirstCodecs (program_of l.program) l.msg l.codecs.items
