-- The numbers of the faults.
use Rattle.std.specs.Prelude.{ℕ}
use Rattle.fl_hop.specs.declared.fault.HopFault.{HopFault}
use Rattle.fl_hop.specs.declared.fault.HopFault.TheVariants.{Marked, Misrouted, NoLink, UsedUp, Limit, Memory}

-- why a call is refused
abbrev pub fault_number : HopFault → ℕ
fault_number Marked = 63
fault_number Misrouted = 67
fault_number NoLink = 73
fault_number UsedUp = 74
fault_number Limit = 94
fault_number Memory = 99
