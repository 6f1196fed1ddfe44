use Rattle.fl_world.proofs.Runs.{starts}
use Rattle.fl_world.proofs.machine.WorldMachine.new.Goals as goal

pub returns : goal.returns
returns c = record { start = starts c.law_fresh_world_shows.ensures.shows c.with_cores.result c.with_cores.ensures.fresh }
