use Rattle.std.proofs.Common.{arith, sym, ◌∙◌, ◌%◌, ap}
use Rattle.std.specs.Int.{byte_at}
use Rattle.fl_wire.proofs.OneWord.{same_byte}
use Rattle.fl_wire.proofs.Sites.{text_got, text_wrong, text_short}
use Rattle.fl_wire.proofs.value.read_text_byte.Goals as goal

pub returns-then-at-frags-clause-stop : goal.returns-then-at-frags-clause-stop
returns-then-at-frags-clause-stop c = λ low here agree. text_short c.args.frags.now c.args.at (omega (arith, c.if-at-frags.true)) low here agree

pub returns-then-byte-eq0-clause-stop : goal.returns-then-byte-eq0-clause-stop
returns-then-byte-eq0-clause-stop c = text_wrong c.args.frags.now c.args.at (sym c.if-byte-eq0.true ∙ (c.byte_of-byte.ensures.byte ∙ ap (byte_at (c.args.at % 8)) c.requires.word ∙ same_byte c.args.frags.now c.args.at)) (omega (arith, c.if-at-frags.false))

pub returns-clause-read : goal.returns-clause-read
returns-clause-read c = text_got c.args.frags.now c.args.at c.byte_of-byte.result (c.byte_of-byte.ensures.byte ∙ ap (byte_at (c.args.at % 8)) c.requires.word ∙ same_byte c.args.frags.now c.args.at) c.if-byte-eq0.false
