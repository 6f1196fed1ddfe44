use Rattle.fl_codec.specs.Words.{is_inside}
use Rattle.fl_codec.proofs.Kept.{all_taken}
use Rattle.fl_codec.proofs.Calls.{codec_encodes, codec_encodes_none}
use Rattle.fl_codec.proofs.codec.Codec.encode.Goals as goal

pub filled-requires : goal.filled-requires
filled-requires c = record { inside = all_taken is_inside c.args.self.now.count c.args.self.now.places c.args.self.now.inside }

pub returns-in_default : goal.returns-in_default
returns-in_default c = record { exact = λ plan i msg k. codec_encodes_none plan i msg c.args.self.now k c.args.tape.now c.in_default.ensures.exact }

pub returns : goal.returns
returns c = record { exact = λ plan i msg k. codec_encodes plan i c.args.circuit.0 msg c.control.result c.args.self.now k c.args.tape.now c.in-Some.words c.in-Some.ensures.exact c.control.ensures.word }
