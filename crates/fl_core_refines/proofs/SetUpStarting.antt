-- A world that shows an untouched machine starts fresh.
use Rattle.fl_core_refines.specs.SetUpStart.{UntouchedStartsFresh, SetUpsStartFresh}
use Rattle.fl_model.specs.Worlds.{start_with}
use Rattle.fl_model.specs.Runs.{reached}
use Rattle.fl_core_refines.proofs.Untouching.{set_ups_touch_nothing}
use Rattle.fl_core_refines.proofs.Freshness.{ends_are_fresh, queues_are_new}
use Rattle.fl_core_refines.proofs.Apartness.{side_cores, queue_cores, cores_are_apart, links_are_paired, sides_are_there}
use Rattle.fl_core_refines.proofs.Idling.{cores_are_numbered, cores_are_idle}
use Rattle.fl_core_refines.proofs.Joining.{ends_have_bindings, bindings_are_joined, rings_have_one_binding}

pub untouched_starts_fresh : UntouchedStartsFresh
untouched_starts_fresh w s shows h = record {
  ends = ends_are_fresh w s shows h;
  bindings = ends_have_bindings w s shows;
  apart = cores_are_apart w s shows;
  sides = sides_are_there w s shows;
  queues = queues_are_new w s shows h;
  queue_cores = queue_cores w s shows;
  side_cores = side_cores w s shows;
  links = links_are_paired w s shows;
  numbers = cores_are_numbered w s shows;
  idle = cores_are_idle w s shows h;
  joined = bindings_are_joined w s shows h;
  rings = rings_have_one_binding w s shows;
}

pub set_ups_start_fresh : SetUpsStartFresh
set_ups_start_fresh cores events w makes shows =
    untouched_starts_fresh w (reached (start_with cores) events) shows (set_ups_touch_nothing cores events makes)
