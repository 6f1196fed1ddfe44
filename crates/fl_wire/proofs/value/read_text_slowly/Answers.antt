use Rattle.std.proofs.Common.{arith, ◌≡◌, ◌+◌, ◌/◌, ap, ◌∙◌}
use Rattle.std.proofs.lemmas.Result.{err_from_is_err_and}
use Rattle.fl_wire.specs.Standing.{word_in}
use Rattle.fl_wire.proofs.Parts.{texts_on, texts_stop, texts_end}
use Rattle.fl_wire.proofs.value.read_text_slowly.Goals as goal

pub returns-in_err-byte-clause-stop : goal.returns-in_err-byte-clause-stop
returns-in_err-byte-clause-stop c =
    let p = err_from_is_err_and c.from_residual-in_err-byte.result c.from_residual-in_err-byte.ensures.1 in
    rw (p.1, p.2) (texts_stop c.args.count c.loop-index._index c.args.frags.now c.args.at c.loop-index.end c.loop-index.bytes.items c.in_err-byte.field-0.0 c.loop-index-test.true c.loop-index.invariant.come c.in_err-byte.ensures.stop)

pub loop-index-preserved : goal.loop-index-preserved
loop-index-preserved c = record {
  within = c.in_ok-byte.ensures.within;
  later = omega (arith, c.loop-index.invariant.later);
  known = λ within.
      let same : c.loop-index.end / 8 ≡ (c.loop-index.end + 1) / 8 = omega (arith, within) in
      c.word_around-word.ensures.word ∙ ap (word_in c.args.frags.now) same;
  come = texts_on c.args.count c.loop-index._index c.args.frags.now c.args.at c.loop-index.end c.loop-index.bytes.items c.push.new.self.items c.in_ok-byte.byte c.loop-index-test.true
      c.loop-index.invariant.come c.in_ok-byte.ensures.within c.in_ok-byte.ensures.read c.in_ok-push.ensures.items;
}

pub returns-clause-read : goal.returns-clause-read
returns-clause-read c = texts_end c.args.count c.loop-index._index c.args.frags.now c.args.at c.loop-index.end c.loop-index.bytes.items c.loop-index-test.false c.loop-index.invariant.come
