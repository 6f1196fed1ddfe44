-- The numbers of the faults.
use Rattle.std.specs.Prelude.{ℕ}
use Rattle.fl_waitset.specs.declared.fault.WaitFault.{WaitFault}
use Rattle.fl_waitset.specs.declared.fault.WaitFault.TheVariants.{Registered, NotRegistered, NoEvent, NoChannel, TooMany, Memory}

abbrev pub fault_number : WaitFault → ℕ
fault_number Registered = 50
fault_number NotRegistered = 51
fault_number NoEvent = 52
fault_number NoChannel = 53
fault_number TooMany = 54
fault_number Memory = 99
