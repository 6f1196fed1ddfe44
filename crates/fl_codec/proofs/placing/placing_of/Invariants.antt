use Rattle.std.proofs.Common.{map}
use Rattle.fl_interface.specs.Interface.{arg_type_of}
use Rattle.fl_codec.proofs.Kept.{IsRanked}
use Rattle.fl_codec.proofs.placing.placing_of.Given as goal

abbrev pub invariant-loop-rank : goal.invariant-loop-rank
invariant-loop-rank l = IsRanked l.plan (map arg_type_of l.arguments) l.rank l.placing
