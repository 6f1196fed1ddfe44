use Rattle.std.proofs.Common.{Ok, Err, refl, sym}
use Rattle.fl_endpoint.specs.declared.answer.ReceiveAnswer.TheVariants.{HeldBack}
use Rattle.fl_endpoint.specs.declared.fault.EndFault.TheVariants.{Failed}
use Rattle.fl_c_operations.proofs.Sent.{receives_kept}
use Rattle.fl_c_operations.specs.Transmissions.{transmitting_frag}
use Rattle.fl_c_operations.proofs.Transmissions.{sound_waits, place_as, received_at, transmits_after}
use Rattle.fl_c_operations.proofs.transmitting.receive_transmitting.Goals as goal

pub returns-then-is_failed-clause-receives : goal.returns-then-is_failed-clause-receives
returns-then-is_failed-clause-receives g c =
    let s = transmitting_frag c.args.frag.now c.args.end.now in
    receives_kept g.T.TakeSide.takes s c.args.from.now c.args.from.now (Err Failed) c.args.calls.now c.args.place (place_as c.args.end.now s c.args.calls.now c.args.place refl c.requires.place)
    (λ parts. ((c.requires.transmits.bound, sym c.if-is_failed.ensures.failed), refl, refl))

pub returns-then-is_held-clause-receives : goal.returns-then-is_held-clause-receives
returns-then-is_held-clause-receives g c =
    let s = transmitting_frag c.args.frag.now c.args.end.now in
    receives_kept g.T.TakeSide.takes s c.args.from.now c.args.from.now (Ok HeldBack) c.args.calls.now c.args.place (place_as c.args.end.now s c.args.calls.now c.args.place refl c.requires.place)
    (λ parts. ((c.requires.transmits.bound, sym c.if-is_failed.ensures.failed), sym c.if-is_held.ensures.held, refl, refl))

pub returns-clause-receives : goal.returns-clause-receives
returns-clause-receives g c =
    received_at g.T.TakeSide.takes c.args.frag.now c.args.from.now c.receive.new.from c.args.end.now c.receive.new.self c.receive.result
    (sound_waits c.args.end.now c.law_sound.ensures.sound) c.requires.transmits (sym c.if-is_held.ensures.held) c.args.calls.now c.args.place c.receive.new.calls c.receive.ensures.receives

pub returns-clause-transmits : goal.returns-clause-transmits
returns-clause-transmits g c =
    transmits_after g.T.TakeSide.takes c.args.frag.now c.args.from.now c.receive.new.from c.args.end.now c.receive.new.self c.receive.result
    (sound_waits c.args.end.now c.law_sound.ensures.sound) c.requires.transmits (sym c.if-is_held.ensures.held) c.args.calls.now c.args.place c.receive.new.calls c.receive.ensures.receives
