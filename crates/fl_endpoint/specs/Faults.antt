-- The numbers of the faults, as transcripts and messages name them.
use Rattle.std.specs.Prelude.{ℕ}
use Rattle.fl_wire.specs.Fault.{number_of}
use Rattle.fl_endpoint.specs.declared.fault.EndFault.{EndFault}
use Rattle.fl_endpoint.specs.declared.fault.EndFault.TheVariants.{Spent, Busy, UnknownMessage, Misfit, NotBound, Failed, Wire, Memory}

-- why an end refuses what is asked of it
abbrev pub fault_number : EndFault → ℕ
fault_number Spent = 33
fault_number Busy = 40
fault_number UnknownMessage = 41
fault_number Misfit = 42
fault_number NotBound = 43
fault_number Failed = 64
fault_number (Wire fault) = number_of fault
fault_number Memory = 99
