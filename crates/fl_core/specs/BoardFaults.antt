-- The numbers of the faults.
use Rattle.std.specs.Prelude.{ℕ}
use Rattle.fl_core.specs.declared.board_fault.BoardFault.{BoardFault}
use Rattle.fl_core.specs.declared.board_fault.BoardFault.TheVariants.{NotBound, Registered, NotRegistered, TooManyEnds, Failed, Memory}

abbrev pub fault_number : BoardFault → ℕ
fault_number NotBound = 43
fault_number Registered = 50
fault_number NotRegistered = 51
fault_number TooManyEnds = 54
fault_number Failed = 64
fault_number Memory = 99
