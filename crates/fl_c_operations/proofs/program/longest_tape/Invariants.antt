use Rattle.std.proofs.Common.{◌<◌, ◌≤◌, ℕ}
use Rattle.fl_interface.specs.Interface.{interface_of}
use Rattle.fl_value_data.specs.Value.{TheCall}
use Rattle.fl_layout.specs.Layouts.{tape_length, IsCallOf}
use Rattle.fl_c_operations.proofs.program.longest_tape.Given as goal

-- no tape of the messages so far is longer
abbrev pub invariant-loop-msg : goal.invariant-loop-msg
invariant-loop-msg l = (k : ℕ) (c : TheCall) → k < l.msg → IsCallOf (interface_of l.plans.interface) k c → tape_length l.plans.plan (interface_of l.plans.interface) c ≤ l.most
