use Rattle.std.proofs.Common.{◌≡◌, ◌-◌, suc, arith}
use Rattle.fl_machine.specs.Cursors.{location_of}
use Rattle.fl_machine.proofs.Pours.{gives_byte}
use Rattle.fl_machine.proofs.cursor.SendCursor.next_byte.Goals as goal

pub returns : goal.returns
returns c =
    let e : c.args.self.now.width ≡ suc (c.args.self.now.width - 1) = omega (arith, c.requires.busy) in
    gives_byte c.args.ops.now (location_of c.args.tape.now c.args.self.now) (c.args.self.now.width - 1) c.requires.location e
