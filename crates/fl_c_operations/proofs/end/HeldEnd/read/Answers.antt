use Rattle.std.proofs.Common.{◌≡◌, subst}
use Rattle.fl_compile.specs.declared.program.Program.{Program}
use Rattle.fl_c_operations.specs.View.{TheHeld, handled_by, held_as}
use Rattle.fl_c_operations.specs.Ends.{ReadsBy}
use Rattle.fl_c_operations.proofs.end.HeldEnd.read.Goals as goal

pub returns : goal.returns
returns c =
    let i = c.self.inside in
    let view : TheHeld = record { end = i.end; side = i.side.side; calls = i.calls; handled = handled_by i.end.program i.handled } in
    let after : TheHeld = record { end = i.end; side = i.side.side; calls = i.calls; handled = handled_by i.end.program c.read_unread.new.handled } in
    let same : view ≡ c.args.self.now = cc in
    let room = c.args.room.now in
    let r = c.read_unread.result in
    let written = c.read_unread.new.room in
    let reads = subst (λ (p : Program). ReadsBy (held_as i.end i.side.side i.calls (handled_by p i.handled)) room r (held_as i.end i.side.side i.calls (handled_by p c.read_unread.new.handled)) written)
    c.program.ensures.program (c.read_unread.ensures.reads i.end i.side.side i.calls) in
    record { reads = subst (λ (h : TheHeld). ReadsBy h room r after written) same reads }
