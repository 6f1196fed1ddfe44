-- A reported run whose cores accept openings in whatever order is a run of the machine, under a renaming.
use Rattle.std.proofs.Common.{◌≡◌, sym, ◌∙◌, ap, length}
use Rattle.fl_core_run_laws.specs.Led.{LeadsAtFirst}
use Rattle.fl_core_refines.specs.SetUpStart.{SetUpsStartFresh}
use Rattle.fl_cores.specs.Behind.{joined_in}
use Rattle.fl_cores.specs.OneCore.{begins}
use Rattle.fl_cores_joined.specs.Entries.{none_open, left_open, moments_of, StepsInterleave}
use Rattle.fl_cores_joined.specs.RenamedRuns.{RunsJoinInAnyOrder}
use Rattle.fl_cores_whole.specs.AnyOrder.{is_of_link, ReportsJoinInAnyOrder, StepsJoinInAnyOrder}
use Rattle.fl_cores_whole.specs.Begin.{HandedOutJoin}
use Rattle.fl_cores_whole.specs.Whole.{begun}
use Rattle.fl_cores_whole.proofs.Asking.{open_rightly}
use Rattle.fl_cores_whole.proofs.AtFirst.{are_at_first, are_wired}
use Rattle.fl_cores_whole.proofs.NewNumbers.{numbers_are_new}
use Rattle.fl_cores_whole.proofs.Whole.{shown, they_show, whole_before_looks}

pub reports_join_in_any_order : SetUpsStartFresh → HandedOutJoin → LeadsAtFirst → RunsJoinInAnyOrder → ReportsJoinInAnyOrder
reports_join_in_any_order fresh handed leads runs c jobs limit r w moments ys h still =
    let s = begins c jobs in
    let made = shown fresh c jobs limit r w in
    let count : length s.bindings ≡ length w.ran.parts.bindings.items =
    sym made.shows.showing.bindings.count ∙ ap length made.bindings ∙ sym (ap length w.ran.made.parts.bindings) in
    runs (is_of_link (begun w)) (joined_in w).jobs (begun w) ys moments s s (they_show fresh handed c jobs limit r w)
    (are_at_first fresh handed c jobs limit r w (is_of_link (begun w))) (are_wired fresh handed c jobs limit r w leads) h still
    (open_rightly c jobs limit r w moments s ys h) (numbers_are_new c jobs limit r w (length s.bindings) count moments ys h)

pub steps_join_in_any_order : StepsInterleave → ReportsJoinInAnyOrder → StepsJoinInAnyOrder
steps_join_in_any_order interleave join c jobs limit r w steps ys h still =
    let (ms, moments, before) = interleave (joined_in w).jobs (begun w) ys steps h in
    record {
      cores = ms;
      order = moments;
      before = before;
      runs = join c jobs limit r w (moments_of steps) ms moments (whole_before_looks (joined_in w).jobs (left_open none_open steps) ys ms before still);
    }
