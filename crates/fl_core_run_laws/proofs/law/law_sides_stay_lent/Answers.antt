use Rattle.fl_core_run.specs.Run.{ways}
use Rattle.fl_core_run_laws.proofs.Lends.{stays_lent, lent_serves}
use Rattle.fl_core_run_laws.proofs.law.law_sides_stay_lent.Goals as goal

pub returns : goal.returns
returns g c = record {
  stay = stays_lent (ways g.S.PutSide.puts g.S.TakeSide.takes g.S.TakeSide.front);
  serve = lent_serves (ways g.S.PutSide.puts g.S.TakeSide.takes g.S.TakeSide.front);
}
