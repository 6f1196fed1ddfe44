use Rattle.std.proofs.Common.{◌++◌, arith}
use Rattle.fl_machine.specs.Cursors.{location_of}
use Rattle.fl_machine.proofs.Pours.{puts_after, puts_alone}
use Rattle.fl_machine.proofs.send.put_next.Goals as goal

pub returns-then-at-eq56 : goal.returns-then-at-eq56
returns-then-at-eq56 c put long holds =
    let place = c.requires.place in
    let full = c.if-at-eq56.true in
    puts_alone c.args.ops.now (location_of c.args.tape.now c.args.cursor.now) (location_of c.args.tape.now c.put_run-at.new.cursor) put c.put_run-at.new.buffer c.put_run-at.result
    (c.put_run-at.ensures.puts put long holds) c.put_run-at.ensures.location (omega (arith, long, place, full)) c.put_run-at.ensures.place

pub returns : goal.returns
returns c put long holds =
    let p = c.put_run-at.ensures.puts put long holds in
    puts_after c.args.ops.now (location_of c.args.tape.now c.args.cursor.now) (location_of c.args.tape.now c.put_run-at.new.cursor) (location_of c.args.tape.now c.put_last.new.cursor)
    put c.put_run-at.new.buffer c.put_last.new.buffer c.put_run-at.result c.put_last.result p (c.put_last.ensures (put ++ p.more) p.long p.holds)
