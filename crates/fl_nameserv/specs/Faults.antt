-- The numbers of the faults.
use Rattle.std.specs.Prelude.{ℕ}
use Rattle.fl_nameserv.specs.declared.fault.NameFault.{NameFault}
use Rattle.fl_nameserv.specs.declared.fault.NameFault.TheVariants.{Unknown, Taken, Memory}

abbrev pub fault_number : NameFault → ℕ
fault_number Unknown = 70
fault_number Taken = 71
fault_number Memory = 99
