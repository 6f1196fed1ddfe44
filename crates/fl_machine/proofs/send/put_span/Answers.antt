use Rattle.fl_machine.proofs.Turns.{depth_small}
use Rattle.fl_machine.proofs.send.put_span.Goals as goal

pub bytes_there-many-requires-clause-high : goal.bytes_there-many-requires-clause-high
bytes_there-many-requires-clause-high c = depth_small c.args.ops.now c.args.tape.now c.args.cursor.now c.requires.location
