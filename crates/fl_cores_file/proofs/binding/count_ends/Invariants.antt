use Rattle.std.proofs.Common.{◌≡◌, ◌≤◌, map, take}
use Rattle.std.specs.List.{count_by}
use Rattle.fl_model.specs.Binding.{same_dispatcher}
use Rattle.fl_model.specs.Views.{id_of}
use Rattle.fl_cores_file.proofs.binding.count_ends.Given as goal

abbrev pub invariant-loop-seat : goal.invariant-loop-seat
invariant-loop-seat l = (l.count ≡ count_by (same_dispatcher (id_of l.dispatcher)) (map id_of (take l.seat-index l.seats))) × (l.count ≤ l.seat-index)
