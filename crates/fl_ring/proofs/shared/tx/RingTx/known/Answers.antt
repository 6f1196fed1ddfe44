use Rattle.fl_ring.proofs.shared.tx.RingTx.known.Goals as goal

pub returns : goal.returns
returns c = record { known = cc }
