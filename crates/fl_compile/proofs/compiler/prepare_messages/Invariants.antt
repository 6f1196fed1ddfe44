use Rattle.fl_compile.proofs.Prepared.{SoFar}
use Rattle.fl_compile.proofs.compiler.prepare_messages.Given as goal

abbrev pub invariant-loop-message : goal.invariant-loop-message
invariant-loop-message l = SoFar l.messages l.message-index l.prepared.items
