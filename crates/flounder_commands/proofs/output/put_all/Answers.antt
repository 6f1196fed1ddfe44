use Rattle.std.proofs.lemmas.List.{take_rest}
use Rattle.flounder_commands.proofs.Doing.{more_put}
use Rattle.flounder_commands.proofs.output.put_all.Goals as goal

pub loop-rest-preserved : goal.loop-rest-preserved
loop-rest-preserved g c =
    more_put (g.W.Write.contents c.args.writer.now) (g.W.Write.contents c.loop-rest.writer) (g.W.Write.contents c.write.new.self) c.args.text.now c.loop-rest.rest.now _ c.in_ok-n.n
    (take_rest c.loop-rest.rest.now c.in_ok-n.n) c.loop-rest.invariant c.in_ok-n.ensures.bytes
