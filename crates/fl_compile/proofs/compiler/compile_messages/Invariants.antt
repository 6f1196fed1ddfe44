use Rattle.std.proofs.Common.{◌≡◌, map, take}
use Rattle.fl_interface.specs.Interface.{message_of}
use Rattle.fl_compile.specs.Codes.{compiled_codes}
use Rattle.fl_compile.proofs.compiler.compile_messages.Given as goal

abbrev pub invariant-loop-message : goal.invariant-loop-message
invariant-loop-message l = l.messages.items ≡ map (compiled_codes l.plan) (map message_of (take l.message-index l.interface.messages.items))
