use Rattle.fl_core.proofs.Room.{all_ends}
use Rattle.fl_core.proofs.makers.make_room.Goals as goal

pub returns-in-Err-clause-refused : goal.returns-in-Err-clause-refused
returns-in-Err-clause-refused c = all_ends c.args.board.now c.args.dispatcher c.in-Err.fault c.in-Err.ensures.refused
