use Rattle.std.proofs.Common.{subst}
use Rattle.fl_endpoint.specs.Accounts.{Sound}
use Rattle.fl_core.specs.BoardView.{TheBoard}
use Rattle.fl_core.specs.BoardEvents.{Holds}
use Rattle.fl_core_run.specs.Run.{run_by}
use Rattle.fl_core_run.proofs.Sounding.{sound_of}
use Rattle.fl_core_run.proofs.running.law_sound_at.Goals as goal

pub returns : goal.returns
returns g c = record {
  sound = λ name at. sound_of (run_by g.S.CoreSides.states c.args.run.now) name c.args.e at
      (subst (λ (b : TheBoard). Holds b c.args.e (λ seat. Sound seat.end)) c.board.ensures.board c.law_end_sound.ensures.sound);
}
