use Rattle.fl_endpoint.proofs.Streams.{on_stream}
use Rattle.fl_endpoint.proofs.law.law_on_another_circuit.Goals as goal

pub returns : goal.returns
returns c = record { on = on_stream }
