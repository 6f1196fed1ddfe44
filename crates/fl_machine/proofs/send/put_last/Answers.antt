use Rattle.std.proofs.Common.{◌+◌, ◌≤◌, ℕ, List, ap, sym, subst, ◌∙◌, arith}
use Rattle.fl_machine.specs.Cursors.{location_of}
use Rattle.fl_machine.specs.Filling.{Puts}
use Rattle.fl_machine.proofs.Pours.{puts_number, puts_byte, over_eight}
use Rattle.fl_machine.proofs.send.put_last.Goals as goal

pub returns-then-at-gt48 : goal.returns-then-at-gt48
returns-then-at-gt48 c put long holds =
    puts_byte c.args.ops.now (location_of c.args.tape.now c.args.cursor.now) (location_of c.args.tape.now c.next_byte.new.self) c.args.buffer.now put c.args.at c.next_byte.result
    c.told-buffer long c.requires.place holds c.next_byte.ensures

pub returns : goal.returns
returns c put long holds =
    let old = location_of c.args.tape.now c.args.cursor.now in
    let new = location_of c.args.tape.now c.take_bytes-number.new.self in
    let room : c.args.at + 8 ≤ 56 = omega (arith, c.if-at-gt48.false) in
    let made = puts_number c.args.ops.now old new c.args.buffer.now put c.args.at c.requires.location c.told-buffer long room c.requires.busy holds c.take_bytes-number.ensures.location c.take_bytes-number.ensures.bytes in
    let buffer = c.put_number.ensures ∙ ap (over_eight c.args.buffer.now c.args.at) c.take_bytes-number.ensures.number in
    let wide : Puts c.args.ops.now old new put (over_eight c.args.buffer.now c.args.at c.args.cursor.now.value) (c.args.at + c.take_bytes-number.result.1)
    = subst (λ (w : ℕ). Puts c.args.ops.now old new put (over_eight c.args.buffer.now c.args.at c.args.cursor.now.value) (c.args.at + w)) (sym c.take_bytes-number.ensures.width) made in
    subst (λ (b : List ℕ). Puts c.args.ops.now old new put b (c.args.at + c.take_bytes-number.result.1)) (sym buffer) wide
