use Rattle.fl_stream.proofs.Conserved.{sender_conserves}
use Rattle.fl_stream.proofs.law.law_stream_sender_conserves.Goals as goal

pub returns : goal.returns
returns c = record { conserves = sender_conserves }
