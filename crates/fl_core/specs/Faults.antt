-- The numbers of the faults.
use Rattle.std.specs.Prelude.{ℕ}
use Rattle.fl_core.specs.BoardFaults.{fault_number as board_number}
use Rattle.fl_monitor.specs.Faults.{fault_number as monitor_number}
use Rattle.fl_wire.specs.Fault.{number_of as wiring_number}
use Rattle.fl_core.specs.declared.fault.OpenFault.{OpenFault}
use Rattle.fl_core.specs.declared.fault.OpenFault.TheVariants as opening
use Rattle.fl_core.specs.declared.fault.LinkReceiveFault.{LinkReceiveFault}
use Rattle.fl_core.specs.declared.fault.LinkReceiveFault.TheVariants as link

abbrev pub open_number : OpenFault → ℕ
open_number (opening.Board fault) = board_number fault
open_number (opening.Monitor fault) = monitor_number fault

abbrev pub link_number : LinkReceiveFault → ℕ
link_number link.Failed = 64
link_number link.Marked = 63
link_number link.Misrouted = 67
link_number (link.Wire fault) = wiring_number fault
link_number link.Memory = 99
