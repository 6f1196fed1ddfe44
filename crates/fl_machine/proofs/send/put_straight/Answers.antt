use Rattle.std.proofs.Common.{◌+◌, [], inr, drop, refl, sym, arith}
use Rattle.fl_stub.specs.declared.op.Op.TheVariants.{End}
use Rattle.fl_stub.specs.Locations.{bytes_from}
use Rattle.fl_stub.proofs.Steps.{at_end}
use Rattle.fl_machine.specs.Straight.{straight_location}
use Rattle.fl_machine.proofs.Turns.{at_op}
use Rattle.fl_machine.proofs.Pours.{puts_none, puts_more, fills}
use Rattle.fl_machine.proofs.send.put_straight.Goals as goal

pub loop-number-init : goal.loop-number-init
loop-number-init c = record {
  inside = omega arith;
  long = c.told-buffer;
  location = c.requires.location;
  puts = puts_none c.args.ops.now (straight_location c.args.tape.now 0 0 0) [] _ 0 refl c.requires.none;
}

pub loop-number-preserved : goal.loop-number-preserved
loop-number-preserved c =
    let l = c.loop-number in
    let i = l.invariant in
    let e = c.in-Some.ensures in
    let g = e.given in
    let room = e.room in
    let few = g.few in
    record {
      inside = omega (arith, room, few);
      long = c.put_number.array_long;
      location = g.location;
      puts = puts_more c.args.ops.now (straight_location c.args.tape.now 0 0 0) (straight_location c.args.tape.now l.place l.next l.filled)
          (straight_location c.args.tape.now (l.place + 1) c.in-Some.after (l.filled + c.in-Some.width)) [] l.buffer c.put_number.new.buffer l.filled c.in-Some.number c.in-Some.width
          i.puts i.long e.room g.few g.small g.bytes c.put_number.ensures;
    }

pub returns : goal.returns
returns c =
    let l = c.loop-number in
    let i = l.invariant in
    record {
      bytes = λ whole.
          let s = straight_location c.args.tape.now l.place l.next l.filled in
          let none = at_end c.args.ops.now s (drop (l.place + 1) c.args.ops.now) (at_op c.args.ops.now l.place End (c.is_op.ensures whole)) i.location refl in
          (fills l.buffer i.puts.more (bytes_from c.args.ops.now s) (bytes_from c.args.ops.now (straight_location c.args.tape.now 0 0 0)) l.filled
          i.puts.holds i.puts.long i.inside (sym i.puts.bytes) (inr none)).each;
    }
