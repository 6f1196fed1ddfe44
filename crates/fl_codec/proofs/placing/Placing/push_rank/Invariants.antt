use Rattle.std.proofs.Common.{◌++◌, List}
use Rattle.fl_interface.specs.Interface.{TheArgType}
use Rattle.fl_codec.specs.Placing.{IsPlacing, Places}
use Rattle.fl_codec.proofs.Kept.{left}
use Rattle.fl_codec.proofs.placing.Placing.push_rank.Given as goal

-- what is left of the rank
abbrev pub invariant-loop-argument : goal.invariant-loop-argument
invariant-loop-argument l =
    IsPlacing l.self
    × ((behind : List TheArgType) → Places l.fn.self (left l.plan l.rank l.arguments 0 ++ behind) l.self (left l.plan l.rank l.arguments l.argument-index ++ behind))
