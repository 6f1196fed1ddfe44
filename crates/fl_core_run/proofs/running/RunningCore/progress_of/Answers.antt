use Rattle.std.proofs.Common.{◌≡◌, ◌<◌, length, List, subst}
use Rattle.std.specs.Prelude.{IfSome}
use Rattle.fl_core_run.specs.EndProgress.{TheEndProgress, progress_place}
use Rattle.fl_core_run.proofs.running.RunningCore.progress_of.Goals as goal

pub returns : goal.returns
returns g c = record {
  place = subst (λ (xs : List TheEndProgress). c.find.result ≡ progress_place xs c.args.name) c.deref.ensures.value c.find.ensures.place;
  within = subst (λ (xs : List TheEndProgress). IfSome c.find.result (λ n. n < length xs)) c.deref.ensures.value c.find.ensures.within;
}
