use Rattle.fl_wire.proofs.Scalars.{word_read}
use Rattle.fl_wire.proofs.leaf.read_word.Goals as goal

pub returns : goal.returns
returns c = record { read = word_read c.args.frags.now c.args.frag c.args.word c.word_of.result c.requires.inside c.word_of.type_inv c.word_of.ensures.word }
