-- The faults' numbers.
use Rattle.std.specs.Prelude.{ℕ}
use Rattle.fl_wire.specs.declared.fault.WireFault.{WireFault}
use Rattle.fl_wire.specs.declared.fault.WireFault.TheVariants.{NotFirst, FirstInside, UnknownMessage, NotZero, OutOfType, TooLong, Memory}

-- the number by which a fault is told; E64 isn't here, since it tells that an end or a link failed before
abbrev pub number_of : WireFault → ℕ
number_of NotFirst = 60
number_of FirstInside = 61
number_of UnknownMessage = 62
number_of NotZero = 63
number_of OutOfType = 65
number_of TooLong = 66
number_of Memory = 99
