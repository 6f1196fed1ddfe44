use Rattle.fl_interface.specs.Interface.{text}
use Rattle.fl_value_data.specs.Value.{string}
use Rattle.fl_value_data.specs.Taken.{ArgumentAt, BytesAt, TheOne}
use Rattle.fl_value_data.proofs.Turns.{weaker_some, string_one}
use Rattle.fl_value_data.proofs.untape.read_string.Goals as goal

pub returns-clause-found : goal.returns-clause-found
returns-clause-found c =
    weaker_some c.read_bytes.result
    (λ r. BytesAt c.in-Some.count c.in-Some.bytes.now r.0.items r.1.now)
    (λ r. TheOne (ArgumentAt (text c.args.most) c.args.tape.now) (string r.0.items) r.1.now)
    (λ r bytes. string_one c.args.most c.args.tape.now c.in-Some.count c.in-Some.bytes.now r.0.items r.1.now c.in-Some.ensures.found bytes)
    c.read_bytes.ensures.found
