use Rattle.fl_codec.proofs.Calls.{one_tape_one_frag}
use Rattle.fl_codec.proofs.law.law_one_tape_one_frag.Goals as goal

pub returns : goal.returns
returns c = record { one = one_tape_one_frag }
