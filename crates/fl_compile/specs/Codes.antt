-- The two codes of each message, and its prepared send code.
use Rattle.std.specs.Prelude.{◌≡◌, ℕ, List, length, slice_get, Some}
use Rattle.fl_interface.specs.Interface.{TheMessage}
use Rattle.fl_value_data.specs.declared.value.PlanNo.{PlanNo}
use Rattle.fl_stub.specs.declared.op.Column.{Column}
use Rattle.fl_stub.specs.declared.op.Column.TheVariants.{Send, Receive}
use Rattle.fl_stub.specs.Code.{TheCode}
use Rattle.fl_stub.specs.Frames.{block_of}
use Rattle.fl_stub_steps.specs.declared.step.PreparedCode.{PreparedCode}
use Rattle.fl_stub_steps.specs.Steps.{steps_in, Means}
use Rattle.fl_compile.specs.Compiled.{message_code}
use Rattle.fl_compile.specs.declared.program.MessageCode.{MessageCode}

-- the compiler's code of a message, for a column
abbrev pub compiled_code : Column → PlanNo → TheMessage → TheCode
compiled_code column plan m = record { column = column; ops = message_code column plan m }

-- both
abbrev pub compiled_codes : PlanNo → TheMessage → MessageCode
compiled_codes plan m = record { send = compiled_code Send plan m; receive = compiled_code Receive plan m }

-- prepared code, wherever it stands, means what the send code means that stands there
abbrev pub EachMeans : List MessageCode → List PreparedCode → Type 0
EachMeans codes prepared = (k : ℕ) (code : MessageCode) (p : PreparedCode) → slice_get codes k ≡ Some code → slice_get prepared k ≡ Some p
    → Means (steps_in p) (block_of code.send.ops)

-- prepared send code of each message
abbrev pub ArePrepared : List MessageCode → List PreparedCode → Type 0
ArePrepared codes prepared = (length prepared ≡ length codes) × EachMeans codes prepared
