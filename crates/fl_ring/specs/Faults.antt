-- The numbers of the faults, as transcripts and messages name them.
use Rattle.std.specs.Prelude.{ℕ}
use Rattle.fl_ring.specs.declared.fault.RingFault.{RingFault}
use Rattle.fl_ring.specs.declared.fault.RingFault.TheVariants.{BadSize, Memory}

-- why no ring was made
abbrev pub ring_number : RingFault → ℕ
ring_number BadSize = 32
ring_number Memory = 99
