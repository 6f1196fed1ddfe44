use Rattle.std.proofs.Common.{◌≡◌, ◌+◌, suc, length, arith}
use Rattle.fl_machine.proofs.Eights.{bytes_on}
use Rattle.fl_machine.proofs.cursor.SendCursor.pass_bytes.Goals as goal

pub returns : goal.returns
returns c =
    let long : length c.args.self.now.loops ≡ 8 = omega arith in
    let is : c.args.others + 1 ≡ suc c.args.others = omega arith in
    let t = bytes_on c.args.others (c.args.others + 1) c.args.ops.now c.args.tape.now c.args.self.now is c.requires.location c.requires.run c.requires.one c.requires.more c.requires.there long in
    record { width = t.width; run = t.run; location = t.location; bytes = t.bytes }
