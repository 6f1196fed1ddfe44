use Rattle.fl_stream.proofs.Conserved.{receiver_conserves}
use Rattle.fl_stream.proofs.law.law_stream_receiver_conserves.Goals as goal

pub returns : goal.returns
returns c = record { conserves = receiver_conserves }
