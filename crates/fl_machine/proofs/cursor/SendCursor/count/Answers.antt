use Rattle.std.proofs.Common.{◌≡◌, ◌+◌, ◌-◌, suc, ap, arith}
use Rattle.std.proofs.Common.{ℕ}
use Rattle.fl_machine.specs.declared.cursor.SendCursor.{SendCursor}
use Rattle.fl_stub.specs.declared.op.Column.TheVariants.{Send}
use Rattle.fl_machine.proofs.Turns.{length_at, counted_none, counted_turns}
use Rattle.fl_machine.proofs.cursor.SendCursor.count.Goals as goal

pub returns-then-turns-eq0 : goal.returns-then-turns-eq0
returns-then-turns-eq0 c =
    counted_none c.args.ops.now c.args.tape.now c.args.self.now c.take_number-turns.new.self c.args.most c.take_number-turns.result _ c.behind-self.result
    c.requires.op c.requires.location c.requires.idle c.take_number-turns.ensures.number c.take_number-turns.ensures.location c.if-turns-eq0.true
    (ap (λ (x : SendCursor). x.place + 2) c.take_number-turns.ensures.rest) (c.behind-self.ensures.place Send) (c.behind-self.ensures.frames Send)

pub enter-requires : goal.enter-requires
enter-requires c =
    let deep = (length_at c.args.ops.now c.args.tape.now c.args.self.now c.args.most c.requires.op c.requires.location).0 in
    let same : c.take_number-turns.new.self.depth ≡ c.args.self.now.depth = ap SendCursor.depth c.take_number-turns.ensures.rest in
    omega (arith, deep, same)

pub returns : goal.returns
returns c =
    let turns : ℕ = c.take_number-turns.result in
    let more : turns ≡ suc (turns - 1) = omega (arith, c.if-turns-eq0.false) in
    counted_turns c.args.ops.now c.args.tape.now c.args.self.now c.take_number-turns.new.self c.enter.new.self c.args.most turns _ (turns - 1)
    c.requires.op c.requires.location c.requires.idle c.take_number-turns.ensures.number c.take_number-turns.ensures.location more c.take_number-turns.ensures.fits
    (ap (λ (x : SendCursor). x.place + 2) c.take_number-turns.ensures.rest) (c.enter.ensures c.args.tape.now)
