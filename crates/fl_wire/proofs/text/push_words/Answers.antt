use Rattle.std.proofs.Common.{◌≡◌, ◌*◌, ◌%◌, ◌≤◌, arith}
use Rattle.fl_wire.proofs.Texts.{none_yet, one_word_more, words_done}
use Rattle.fl_wire.proofs.text.push_words.Goals as goal

pub loop-index-init : goal.loop-index-init
loop-index-init c = none_yet c.args.frags.now (8 * c.args.first) (c.args.first % 7) c.args.bytes.now.items

pub loop-index-preserved : goal.loop-index-preserved
loop-index-preserved c =
    one_word_more c.args.frags.now _ c.args.first c.loop-index.index c.args.bytes.now.items c.loop-index.bytes.items c.push_word.new.bytes.items
    (omega (arith, c.requires.some, c.requires.within)) c.loop-index.auto.index (omega (arith, c.loop-index-test.true, c.min-past.ensures)) c.loop-index.invariant c.in_ok-push_word.ensures.bytes

pub returns-clause-put : goal.returns-clause-put
returns-clause-put c =
    let past = c.min-past.result in
    let some : c.args.first % 7 ≤ past = omega (arith, c.requires.some, c.min-past.ensures) in
    let last : c.loop-index.index ≡ past = omega (arith, c.loop-index-test.false, c.loop-index.auto.index-end, some) in
    words_done c.args.frags.now c.args.first past c.loop-index.index c.args.bytes.now.items c.loop-index.bytes.items (omega (arith, last, some)) last c.loop-index.invariant
