use Rattle.std.proofs.Common.{ℕ, length, get_or, subst}
use Rattle.fl_stub.specs.Meaning.{number_bytes}
use Rattle.fl_machine.specs.Taking.{AreSet}
use Rattle.fl_machine.proofs.Texts.{seven, words_set}
use Rattle.fl_machine.proofs.text.has_no_zero.Goals as goal

pub returns : goal.returns
returns c so =
    let words = c.args.words.now in
    let all = c.are_set.ensures so in
    let middle = c.lesser-2.ensures.first all in
    let two = c.lesser.ensures.first middle in
    let three = c.lesser.ensures.second middle in
    let four = c.lesser-2.ensures.second all in
    let one = c.lesser-four.ensures.first four in
    words_set words
    (seven (λ (k : ℕ). AreSet (number_bytes 8 (get_or words k 0)))
    (subst AreSet c.bytes_of.ensures (c.lesser-one.ensures.first one))
    (subst AreSet c.bytes_of-2.ensures (c.lesser-one.ensures.second one))
    (subst AreSet c.bytes_of-3.ensures (c.lesser-two.ensures.first two))
    (subst AreSet c.bytes_of-4.ensures (c.lesser-two.ensures.second two))
    (subst AreSet c.bytes_of-5.ensures (c.lesser-three.ensures.first three))
    (subst AreSet c.bytes_of-6.ensures (c.lesser-three.ensures.second three))
    (subst AreSet c.bytes_of-7.ensures (c.lesser-four.ensures.second four))
    (length words) c.told-words)
