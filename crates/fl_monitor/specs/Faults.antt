-- The numbers of the faults.
use Rattle.std.specs.Prelude.{ℕ}
use Rattle.fl_monitor.specs.declared.fault.MonitorFault.{MonitorFault}
use Rattle.fl_monitor.specs.declared.fault.MonitorFault.TheVariants.{Misrouted, Differs, NoRoute, UsedUp, OutboxFull, PlansDiffer, Memory}

abbrev pub fault_number : MonitorFault → ℕ
fault_number Misrouted = 67
fault_number Differs = 72
fault_number NoRoute = 73
fault_number UsedUp = 74
fault_number OutboxFull = 75
fault_number PlansDiffer = 76
fault_number Memory = 99
