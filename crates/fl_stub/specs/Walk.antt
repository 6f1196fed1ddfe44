-- Working file: how `verify` walks through code, an instruction at a time, and what it accepts so.
use Rattle.std.specs.Prelude.{ℕ, ◌+◌, ◌-◌, ◌&&◌, ◌==◌, nat_lt, Bool, true, false, if◌then◌else◌, List, [], ◌∷◌, Option, Some, None}
use Rattle.fl_stub.specs.declared.op.Op.{Op}
use Rattle.fl_stub.specs.declared.op.Op.TheVariants.{Length, Times, Each, Back, End, ReadLength, Done}
use Rattle.fl_stub.specs.declared.op.Column.{Column}
use Rattle.fl_stub.specs.declared.op.Column.TheVariants.{Send, Receive}
use Rattle.fl_stub.specs.declared.walk.WalkState.{WalkState}
use Rattle.fl_stub.specs.declared.walk.WalkState.TheVariants.{Inside, AfterLength, Ended}
use Rattle.fl_stub.specs.Structure.{is_step, is_within}

abbrev pub is_send : Column → Bool
is_send Send = true
is_send Receive = false

abbrev pub is_receive : Column → Bool
is_receive Send = false
is_receive Receive = true

abbrev pub if_so : {A : Type 0} → Bool → A → Option A
if_so test x = if test then Some x else None

-- where the walk stands after an instruction inside so many loops; nowhere if the instruction can't stand there
abbrev pub after_inside : Column → ℕ → Op → Option WalkState
after_inside column depth (Times turns) = if_so (is_within 1024 turns && nat_lt depth 8) (Inside (depth + 1))
after_inside column depth (Length most) = if_so (is_send column && is_within 4096 most) (AfterLength depth)
after_inside column depth (ReadLength most) = if_so (is_receive column && is_within 4096 most) (AfterLength depth)
after_inside column depth Back = if_so (nat_lt 0 depth) (Inside (depth - 1))
after_inside column depth End = if_so (is_send column && depth == 0) Ended
after_inside column depth Done = if_so (is_receive column && depth == 0) Ended
after_inside column depth op = if_so (is_step column op) (Inside depth)

-- directly after a length stands the loop that it counts
abbrev pub after_length : ℕ → Op → Option WalkState
after_length depth Each = if_so (nat_lt depth 8) (Inside (depth + 1))
after_length depth op = None

abbrev pub after : Column → WalkState → Op → Option WalkState
after column (Inside depth) op = after_inside column depth op
after column (AfterLength depth) op = after_length depth op
after column Ended op = None

-- whether the walk goes on from there through these instructions and ends with the last
abbrev pub accepts : Column → Option WalkState → List Op → Bool
accepts column None ops = false
accepts column (Some standing) (op ∷ ops) = accepts column (after column standing op) ops
accepts column (Some Ended) [] = true
accepts column (Some standing) [] = false
