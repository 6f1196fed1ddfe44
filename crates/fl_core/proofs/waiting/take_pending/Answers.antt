use Rattle.std.proofs.Common.{refl}
use Rattle.fl_waitset.specs.declared.waitset.Pick.TheVariants as pick
use Rattle.fl_core.proofs.Picks.{pending_ok}
use Rattle.fl_endpoint.specs.declared.answer.ReceiveAnswer.TheVariants as receive
use Rattle.fl_core.proofs.BoardLooking.{looks_as, looks_refused}
use Rattle.fl_core.proofs.waiting.take_pending.Goals as goal

pub refuse-requires-clause-registered : goal.refuse-requires-clause-registered
refuse-requires-clause-registered g c =
    pending_ok c.args.waitset.now c.args.c c.requires.waitset.apart c.requires.picked

pub settle-requires-clause-registered : goal.settle-requires-clause-registered
settle-requires-clause-registered g c =
    pending_ok c.args.waitset.now c.args.c c.requires.waitset.apart c.requires.picked

pub returns-in-Handle-clause-looks : goal.returns-in-Handle-clause-looks
returns-in-Handle-clause-looks g c =
    looks_as g.T.TakeSide.takes c.args.kind c.args.waitset.now c.settle.new.waitset c.args.end.now c.receive.new.self c.args.from.now c.receive.new.from c.settle.new.from c.args.calls.now c.args.place c.receive.new.calls c.requires.ready
    c.args.c (pick.Pending c.args.c) refl c.in-Ok.answer (receive.Handle c.in-Handle.call) c.in-Handle.is c.in-Ok.ensures.receives c.settle.ensures.settles

pub returns-in-Part-clause-looks : goal.returns-in-Part-clause-looks
returns-in-Part-clause-looks g c =
    looks_as g.T.TakeSide.takes c.args.kind c.args.waitset.now c.settle.new.waitset c.args.end.now c.receive.new.self c.args.from.now c.receive.new.from c.settle.new.from c.args.calls.now c.args.place c.receive.new.calls c.requires.ready
    c.args.c (pick.Pending c.args.c) refl c.in-Ok.answer receive.Part c.in-Part.is c.in-Ok.ensures.receives c.settle.ensures.settles

pub returns-in-Quiet-clause-looks : goal.returns-in-Quiet-clause-looks
returns-in-Quiet-clause-looks g c =
    looks_as g.T.TakeSide.takes c.args.kind c.args.waitset.now c.settle.new.waitset c.args.end.now c.receive.new.self c.args.from.now c.receive.new.from c.settle.new.from c.args.calls.now c.args.place c.receive.new.calls c.requires.ready
    c.args.c (pick.Pending c.args.c) refl c.in-Ok.answer receive.Quiet c.in-Quiet.is c.in-Ok.ensures.receives c.settle.ensures.settles

pub returns-in-Empty-clause-looks : goal.returns-in-Empty-clause-looks
returns-in-Empty-clause-looks g c =
    looks_as g.T.TakeSide.takes c.args.kind c.args.waitset.now c.settle.new.waitset c.args.end.now c.receive.new.self c.args.from.now c.receive.new.from c.settle.new.from c.args.calls.now c.args.place c.receive.new.calls c.requires.ready
    c.args.c (pick.Pending c.args.c) refl c.in-Ok.answer receive.Empty c.in-Empty.is c.in-Ok.ensures.receives c.settle.ensures.settles

pub returns-in-HeldBack-clause-looks : goal.returns-in-HeldBack-clause-looks
returns-in-HeldBack-clause-looks g c =
    looks_as g.T.TakeSide.takes c.args.kind c.args.waitset.now c.settle.new.waitset c.args.end.now c.receive.new.self c.args.from.now c.receive.new.from c.settle.new.from c.args.calls.now c.args.place c.receive.new.calls c.requires.ready
    c.args.c (pick.Pending c.args.c) refl c.in-Ok.answer receive.HeldBack c.in-HeldBack.is c.in-Ok.ensures.receives c.settle.ensures.settles

pub returns-in-Err-clause-looks : goal.returns-in-Err-clause-looks
returns-in-Err-clause-looks g c =
    looks_refused g.T.TakeSide.takes c.args.kind c.args.waitset.now c.refuse.new.waitset c.args.end.now c.receive.new.self c.args.from.now c.receive.new.from c.receive.new.from c.args.calls.now c.args.place c.receive.new.calls c.requires.ready
    c.args.c (pick.Pending c.args.c) refl c.in-Err.fault c.refuse.result c.in-Err.ensures.receives c.refuse.ensures.refused
