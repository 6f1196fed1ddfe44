-- Prepared code and packed tapes of calls that come: laws of every interface that is within the limits and whose numbers fit 32-bit words.
use Rattle.std.specs.Prelude.{◌≡◌, ℕ, ◌+◌, ◌%◌, true, List, ◌++◌, length}
use Rattle.fl_interface.specs.Interface.{TheMessage, TheInterface}
use Rattle.fl_value_data.specs.declared.value.PlanNo.{PlanNo}
use Rattle.fl_value_data.specs.Value.{TheCall}
use Rattle.fl_value_data.specs.Fits.{fits_of}
use Rattle.fl_value_tape.specs.Packed.{packed_of}
use Rattle.fl_wire.specs.Payload.{payload_of}
use Rattle.fl_stub.specs.declared.op.Column.{Column}
use Rattle.fl_stub_steps.specs.Spreading.{spread_first, spread_of}
use Rattle.fl_stub_steps.specs.Steps.{TheSteps, Means}
use Rattle.fl_stub_steps.specs.Taking.{steps_taken}
use Rattle.fl_compile.specs.Compiled.{message_block}
use Rattle.fl_compile.specs.Laws.{HasMessage}
use Rattle.fl_compile.specs.Programs.{TheProgram}

-- from the payload of a fitting call, with bytes behind it up to a multiple of 8, steps that mean its message's code
-- for either column take the call's packed tape, and leave those bytes
abbrev pub TakesPackedCalls : Type 0
TakesPackedCalls = (column : Column) (plan : PlanNo) (i : TheInterface) (m : TheMessage) (c : TheCall) (steps : TheSteps)
    (after : List ℕ)
    → HasMessage i c.msg m → fits_of i c ≡ true
    → Means steps (message_block column plan m) → (length (payload_of plan i c) + length after) % 8 ≡ 0
    → steps_taken steps (spread_first (payload_of plan i c ++ after)) ≡ spread_of (packed_of plan i c) after

-- a fitting call of a message, with whose payload these bytes begin; their number is a multiple of 8
pub record HasPayload (p : TheProgram) (msg : ℕ) (bytes : List ℕ) (c : TheCall) : Type 0 where
  pub message : c.msg ≡ msg
  pub fits : fits_of p.interface c ≡ true
  pub after : List ℕ
  pub prefix : bytes ≡ payload_of p.plan p.interface c ++ after
  pub eights : length bytes % 8 ≡ 0
