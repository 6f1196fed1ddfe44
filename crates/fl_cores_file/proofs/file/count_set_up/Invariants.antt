use Rattle.std.proofs.Common.{◌≡◌, ◌≤◌, map, take}
use Rattle.fl_cores_file.specs.CoresFile.{which_opened, count_set_up}
use Rattle.fl_cores_file.specs.Views.{bound_of}
use Rattle.fl_cores_file.proofs.file.count_set_up.Given as goal

abbrev pub invariant-loop-binding : goal.invariant-loop-binding
invariant-loop-binding l =
    (l.count ≡ count_set_up (which_opened (map bound_of (take l.binding-index l.bindings)))) × (l.count ≤ l.binding-index)
