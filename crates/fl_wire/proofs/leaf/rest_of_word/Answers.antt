use Rattle.fl_wire.proofs.OneWord.{zeros_there}
use Rattle.fl_wire.proofs.leaf.rest_of_word.Goals as goal

pub returns : goal.returns
returns c = record { zeros = λ none q from below. zeros_there c.args.frags.now c.args.p q c.word_at.result c.word_at.ensures.word none from below }
