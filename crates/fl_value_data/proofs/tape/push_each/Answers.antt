use Rattle.fl_value_data.proofs.Each.{none_yet, one_byte_more, all_bytes}
use Rattle.std.proofs.Common.{ap, ◌∙◌, ◌++◌, ◌∷◌, [], ℕ}
use Rattle.fl_value_data.proofs.tape.push_each.Goals as goal

pub loop-byte-init : goal.loop-byte-init
loop-byte-init c = none_yet c.args.tape.now.items c.args.bytes.now

pub loop-byte-preserved : goal.loop-byte-preserved
loop-byte-preserved c =
    one_byte_more c.loop-byte.byte-index c.args.tape.now.items c.loop-byte.tape.items c.push.new.self.items c.args.bytes.now c.loop-byte-test.true c.loop-byte.invariant
    (c.in_ok-push.ensures.items ∙ ap (λ (b : ℕ). c.loop-byte.tape.items ++ b ∷ []) c.from.ensures)

pub returns : goal.returns
returns c = record { tape = all_bytes c.loop-byte.byte-index c.args.tape.now.items c.loop-byte.tape.items c.args.bytes.now c.loop-byte-test.false c.loop-byte.invariant }
