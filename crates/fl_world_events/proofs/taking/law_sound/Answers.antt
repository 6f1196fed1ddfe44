use Rattle.fl_world_events.proofs.Ends.{sound_holds}
use Rattle.fl_world_events.proofs.taking.law_sound.Goals as goal

pub returns : goal.returns
returns c = record { sound = sound_holds c.args.core.now _ c.board.ensures.board c.args.e c.law_end_sound.ensures.sound }
