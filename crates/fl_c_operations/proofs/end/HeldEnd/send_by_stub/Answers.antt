use Rattle.std.proofs.Common.{Err, inl, inr, refl}
use Rattle.fl_c_operations.proofs.Pairs.{accepted_as}
use Rattle.fl_c_operations.proofs.end.HeldEnd.send_by_stub.Goals as goal

pub returns-in-Err : goal.returns-in-Err
returns-in-Err c = record { sends = (Err c.in-Err.fault, c.of.ensures.numbers, inl (c.in-Err.fault, refl, c.in-Err.ensures.calls)) }

pub returns-in-Ok : goal.returns-in-Ok
returns-in-Ok c =
    let m = c.call_by_stub.new.self in
    let accepted = accepted_as c.args.self.now m c.args.numbers.now c.in-Ok.field-0 c.in-Ok.ensures.calls in
    record { sends = (c.sent.result, c.of-in-Ok.ensures.numbers, inr (m, c.write.result, accepted, c.write.ensures.writes, c.sent.ensures.told)) }
