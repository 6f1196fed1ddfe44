use Rattle.std.proofs.Common.{subst, sym}
use Rattle.fl_value.specs.CallText.{TextBytes}
use Rattle.fl_value.proofs.Once.{bytes_more}
use Rattle.fl_value.proofs.Spans.{left_of_slice, literal_span}
use Rattle.fl_value.proofs.tokens.read_bytes.Goals as goal

pub loop-byte-preserved : goal.loop-byte-preserved
loop-byte-preserved c =
    let more = bytes_more c.loop-byte.text.items c.in-Some.byte c.args.bytes.now c.loop-byte.rest.now c.in-Some.after.now c.loop-byte.invariant c.in-Some.ensures.found in
    subst (λ s. TextBytes s c.args.bytes.now c.in-Some.after.now) (sym c.in_ok-push.ensures.items) more

pub loop-byte-init : goal.loop-byte-init
loop-byte-init c =
    let bytes = c.args.bytes.now in
    let n = c.count_literal-literal.result in
    literal_span bytes c.in_ok-text.text.items _ n c.count_literal-literal.ensures.same c.in_ok-text.ensures.items (left_of_slice bytes n)
