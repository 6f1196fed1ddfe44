use Rattle.std.proofs.Common.{◌≡◌, map, take}
use Rattle.fl_compile.specs.Programs.{program_of}
use Rattle.fl_cores_parts.proofs.wiring.copies.Given as goal

abbrev pub invariant-loop-program : goal.invariant-loop-program
invariant-loop-program l = map program_of l.all.items ≡ map program_of (take l.program-index l.programs)
