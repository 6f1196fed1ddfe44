-- Working file: a receive run's view and invariant, from what it stores.
use Rattle.fl_compile.specs.Programs.{program_of}
use Rattle.fl_machine.specs.Receiving.{TheReceiving, stored_of, receiving, IsStored}
use Rattle.fl_machine.specs.declared.recv.RecvRun.TheInside.{Inside}

abbrev pub receiving_of : Inside → TheReceiving
receiving_of r = receiving r.program (stored_of r.stored)

abbrev pub IsReceiving : Inside → Type 0
IsReceiving r = IsStored (program_of r.program).plan (program_of r.program).interface (stored_of r.stored)
