use Rattle.fl_wire.proofs.Bytes.{words_from}
use Rattle.fl_wire.proofs.fragments.fragment.Goals as goal

pub returns : goal.returns
returns c =
    let words = words_from c.args.payload.now c.rest_from.result.now c.args.k c.rest_from.ensures.rest in
    record { frag = cc (words, c.first_words.ensures.words, c.control.ensures.word) }
