use Rattle.std.proofs.Common.{map, length}
use Rattle.fl_interface.specs.Interface.{interface_of}
use Rattle.fl_value_data.specs.Value.{call_of}
use Rattle.fl_wire.proofs.Exits.{MeansCalls}
use Rattle.fl_wire.proofs.reader.read_frags.Given as goal

-- the calls so far, before the fragments that are left
abbrev pub invariant-loop-alloc : goal.invariant-loop-alloc
invariant-loop-alloc l = MeansCalls l.plan (interface_of l.interface) l.frags (map call_of l.calls.items) l.left

abbrev pub decreases-loop-alloc : goal.decreases-loop-alloc
decreases-loop-alloc l = length l.left
