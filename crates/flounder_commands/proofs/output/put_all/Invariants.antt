use Rattle.std.proofs.Common.{length}
use Rattle.flounder_commands.proofs.Doing.{PutSo}
use Rattle.flounder_commands.proofs.output.put_all.Given as goal

abbrev pub invariant-loop-rest : goal.invariant-loop-rest
invariant-loop-rest g l = PutSo (g.W.Write.contents l.fn.writer) (g.W.Write.contents l.writer) l.text l.rest

abbrev pub decreases-loop-rest : goal.decreases-loop-rest
decreases-loop-rest g l = length l.rest
