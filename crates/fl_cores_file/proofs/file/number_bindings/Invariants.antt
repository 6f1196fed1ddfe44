use Rattle.std.proofs.Common.{◌≡◌, ◌≤◌, ◌+◌, ◌++◌, length, map, drop}
use Rattle.fl_cores_file.specs.CoresFile.{which_opened, numbers_from, numbers_of}
use Rattle.fl_cores_file.specs.Views.{bound_of}
use Rattle.fl_cores_file.proofs.file.number_bindings.Given as goal

abbrev pub invariant-loop-binding : goal.invariant-loop-binding
invariant-loop-binding l =
    (l.numbers.items ++ numbers_from l.next_set_up l.next_opened (which_opened (map bound_of (drop l.binding-index l.bindings)))
    ≡ numbers_of (which_opened (map bound_of l.bindings)))
    × (l.next_set_up ≤ l.binding-index) × (l.next_opened ≤ length l.bindings + l.binding-index)
