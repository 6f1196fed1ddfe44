-- The numbers of the faults, as answers show them.
use Rattle.std.specs.Prelude.{ℕ}
use Rattle.fl_wire.specs.Fault.{number_of}
use Rattle.fl_machine.specs.declared.reassembly.TakeFault.{TakeFault}
use Rattle.fl_machine.specs.declared.reassembly.TakeFault.TheVariants.{Wire, Memory}

-- why a fragment isn't taken
abbrev pub take_number : TakeFault → ℕ
take_number (Wire fault) = number_of fault
take_number Memory = 99
