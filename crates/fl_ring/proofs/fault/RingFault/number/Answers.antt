use Rattle.fl_ring.proofs.fault.RingFault.number.Goals as goal

pub returns-in-BadSize : goal.returns-in-BadSize
returns-in-BadSize c = record { number = cc }
