use Rattle.std.proofs.Common.{◌≡◌, ◌≤◌, length, sym, ◌∙◌, arith}
use Rattle.fl_machine.specs.Cursors.{location_of}
use Rattle.fl_machine.proofs.Turns.{depth_small}
use Rattle.fl_machine.proofs.Pours.{puts_turn}
use Rattle.fl_machine.proofs.send.put_run.Goals as goal

pub is_run-requires : goal.is_run-requires
is_run-requires c = depth_small c.args.ops.now c.args.tape.now c.args.cursor.now c.requires.location

pub turns_left-requires-clause-high : goal.turns_left-requires-clause-high
turns_left-requires-clause-high c = depth_small c.args.ops.now c.args.tape.now c.loop-end.cursor c.loop-end.invariant.0

pub loop-end-init : goal.loop-end-init
loop-end-init c =
    let s = c.put_span-end.ensures in
    (s.location, s.run, s.place, s.width, omega arith, s.puts)

pub loop-end-preserved : goal.loop-end-preserved
loop-end-preserved c =
    let i = c.loop-end.invariant in
    let few : c.loop-end.end ≤ 48 = c.loop-end-test.true in
    let wide = i.0.width in
    let same : c.loop-end.cursor.width ≡ c.width-width.result = i.3 ∙ sym c.width-width.ensures in
    let whole : length c.loop-end.buffer ≡ 56 = i.4 in (
      c.take_turn.ensures.location,
      c.take_turn.ensures.run,
      omega (arith, few, wide, same),
      c.take_turn.ensures.width ∙ i.3,
      c.put_number.array_long,
      λ put long holds.
          puts_turn c.args.ops.now (location_of c.args.tape.now c.args.cursor.now) (location_of c.args.tape.now c.loop-end.cursor) (location_of c.args.tape.now c.take_turn.new.self) put c.loop-end.buffer c.put_number.new.buffer
          c.loop-end.end c.take_turn.result c.width-width.result (i.5 put long holds) whole (omega (arith, few)) same (sym c.take_turn.ensures.number) i.0 c.take_turn.ensures.bytes c.put_number.ensures,
    )
