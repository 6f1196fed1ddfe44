use Rattle.std.proofs.Common.{◌∙◌, ap, arith}
use Rattle.fl_stub.specs.Meaning.{number_bytes}
use Rattle.fl_machine.proofs.Turns.{width_small}
use Rattle.fl_machine.proofs.Emits.{on_width, wide_number, emit_on}
use Rattle.fl_machine.proofs.send.put_numbers.Goals as goal

pub low_bytes-value-requires : goal.low_bytes-value-requires
low_bytes-value-requires c =
    let l = c.loop-number in
    on_width c.args.ops.now c.args.tape.now c.args.cursor.now l.place l.next l.phase l.value l.width c.in-Some.more c.in-Some.ensures.op l.invariant.location

pub overflow_add-phase : goal.overflow_add-phase
overflow_add-phase c =
    let l = c.loop-number in
    let fits = on_width c.args.ops.now c.args.tape.now c.args.cursor.now l.place l.next l.phase l.value l.width c.in-Some.more c.in-Some.ensures.op l.invariant.location in
    let few = width_small c.in-Some.more fits in
    omega (arith, few)

pub loop-number-preserved : goal.loop-number-preserved
loop-number-preserved c =
    let l = c.loop-number in
    let i = l.invariant in
    let e = c.in-Some.ensures in
    let fits = on_width c.args.ops.now c.args.tape.now c.args.cursor.now l.place l.next l.phase l.value l.width c.in-Some.more e.op i.location in
    let wide = i.location.width in
    let room = e.room in
    let (location, puts) = emit_on c.args.ops.now c.args.tape.now l.buffer c.put_number.new.buffer c.args.cursor.now l.place l.next l.phase l.value l.width l.filled c.in-Some.more c.low_bytes-value.result
    e.op e.there e.room i.long (c.low_bytes-value.ensures.bytes ∙ ap (number_bytes c.in-Some.more) e.number) c.low_bytes-value.ensures.small c.put_number.ensures i.location i.puts in
    record {
      inside = omega (arith, room, wide);
      long = c.put_number.array_long;
      busy = wide_number c.in-Some.more fits;
      location = location;
      puts = puts;
    }
