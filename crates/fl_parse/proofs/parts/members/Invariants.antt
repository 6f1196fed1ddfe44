use Rattle.std.proofs.Common.{map, length}
use Rattle.fl_lex.specs.Token.{token_of}
use Rattle.fl_parse.specs.Tree.{name_of}
use Rattle.fl_parse.specs.Reading.{members_at, all_members_at}
use Rattle.fl_parse.proofs.Loops.{Left}
use Rattle.fl_parse.proofs.parts.members.Given as goal

abbrev pub invariant-loop-rest : goal.invariant-loop-rest
invariant-loop-rest l = Left members_at (all_members_at (map token_of l.fn.tokens)) (map name_of l.members.items) (map token_of l.rest)

abbrev pub decreases-loop-rest : goal.decreases-loop-rest
decreases-loop-rest l = length l.rest
