use Rattle.std.proofs.Common.{◌<◌, List, length, arith, ap}
use Rattle.fl_stub.specs.Locations.{TheLoop}
use Rattle.fl_machine.specs.Cursors.{location_of}
use Rattle.fl_machine.proofs.Turns.{loops_pushed}
use Rattle.fl_machine.proofs.cursor.SendCursor.enter.Goals as goal

pub returns : goal.returns
returns c tape =
    let inside : c.args.self.now.depth < length c.args.self.now.loops = omega (arith, c.requires) in
    ap (λ (x : List TheLoop). record (location_of tape c.args.self.now) { place = c.args.start; loops = x })
    (loops_pushed c.args.self.now.loops c.args.self.now.depth (record { start = c.args.start; turns = c.args.turns }) inside)
