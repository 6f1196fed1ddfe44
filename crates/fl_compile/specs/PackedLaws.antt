-- Code and packed tapes of calls: laws of every interface that is within the limits and whose numbers fit 32-bit words.
use Rattle.std.specs.Prelude.{◌≡◌, ℕ, true, [], slice_get, Some}
use Rattle.fl_interface.specs.Interface.{TheMessage, TheInterface}
use Rattle.fl_value_data.specs.declared.value.PlanNo.{PlanNo}
use Rattle.fl_value_data.specs.Value.{TheCall}
use Rattle.fl_value_data.specs.Fits.{fits_of}
use Rattle.fl_value_data.specs.Tape.{tape_of}
use Rattle.fl_wire.specs.Payload.{payload_of}
use Rattle.fl_stub.specs.declared.op.Column.{Column}
use Rattle.fl_stub.specs.declared.op.Column.TheVariants.{Send, Receive}
use Rattle.fl_compile.specs.Compiled.{message_block}
use Rattle.fl_compile.specs.Laws.{HasMessage}
use Rattle.fl_compile.specs.Programs.{TheProgram}
use Rattle.fl_value_tape.specs.Packed.{packed_of}
use Rattle.fl_stub_steps.specs.Spreading.{packed_for, Spread, spread_first, block_spread}
use Rattle.fl_stub_steps.specs.Steps.{TheSteps, Means}

-- a fitting call's tape, packed as its message's send code takes it, is the call's packed tape
abbrev pub PacksCalls : Type 0
PacksCalls = (plan : PlanNo) (i : TheInterface) (m : TheMessage) (c : TheCall) → HasMessage i c.msg m → fits_of i c ≡ true
    → packed_for (message_block Send plan m) (tape_of plan i c) ≡ packed_of plan i c

-- and of that the code makes the call's payload
abbrev pub SpreadsCalls : Type 0
SpreadsCalls = (plan : PlanNo) (i : TheInterface) (m : TheMessage) (c : TheCall) → HasMessage i c.msg m → fits_of i c ≡ true
    → block_spread (message_block Send plan m) (spread_first (packed_of plan i c)) ≡ record { given = payload_of plan i c; left = [] }

-- the receive code of a message makes of a packed tape what its send code makes: each number in as many bytes, and the
-- same zeros between
abbrev pub CodesMoveAlike : Type 0
CodesMoveAlike = (plan : PlanNo) (m : TheMessage) (x : Spread)
    → block_spread (message_block Receive plan m) x ≡ block_spread (message_block Send plan m) x

-- steps that mean the code of a program's message for a column, where the program has that message; of another it says
-- nothing
abbrev pub IsPrepared : Column → TheProgram → ℕ → TheSteps → Type 0
IsPrepared column p msg steps = (m : TheMessage) → slice_get p.interface.messages msg ≡ Some m
    → Means steps (message_block column p.plan m)
