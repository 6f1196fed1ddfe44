-- What runs of the compiler's code give: laws of every interface that is within the limits and whose numbers fit 32-bit
-- words, as those of every accepted interface do.
use Rattle.std.specs.Prelude.{◌≡◌, ℕ, ◌^◌, ◌<◌, true, List, map}
use Rattle.fl_base.specs.declared.fragment.Frag.{Frag}
use Rattle.fl_base.specs.Control.{with_circuit}
use Rattle.fl_interface.specs.Interface.{TheMessage, TheInterface}
use Rattle.fl_value_data.specs.Value.{TheCall}
use Rattle.fl_value_data.specs.Fits.{fits_of}
use Rattle.fl_value_data.specs.Tape.{tape_of}
use Rattle.fl_value_data.specs.declared.value.PlanNo.{PlanNo}
use Rattle.fl_wire.specs.Payload.{frags_on}
use Rattle.fl_wire.specs.Reading.{Means}
use Rattle.fl_stub.specs.declared.op.Column.TheVariants.{Send}
use Rattle.fl_stub.specs.Code.{TheCode}
use Rattle.fl_stub.specs.Frames.{block_of}
use Rattle.fl_stub.specs.Given.{bytes_given}
use Rattle.fl_compile.specs.Codes.{compiled_code}
use Rattle.fl_compile.specs.Laws.{HasMessage}
use Rattle.fl_machine.specs.Sending.{frags_holding}

-- send code that is started with the tape of a fitting call gives the call's fragments, on its circuit
abbrev pub SendsFragments : Type 0
SendsFragments = (circuit : ℕ) (plan : PlanNo) (i : TheInterface) (m : TheMessage) (c : TheCall) (code : TheCode)
    → HasMessage i c.msg m → fits_of i c ≡ true → code ≡ compiled_code Send plan m
    → frags_holding true c.msg circuit (bytes_given (block_of code.ops) (tape_of plan i c)) ≡ frags_on circuit plan i c

-- ---- circuits

-- the fragments of a call on a circuit, set to another, are the call's fragments on that one: on 0 those off links
abbrev pub SetsCircuits : Type 0
SetsCircuits = (circuit other : ℕ) (plan : PlanNo) (i : TheInterface) (c : TheCall) → circuit < 2 ^ 16 → c.msg < 2 ^ 16
    → map (with_circuit other) (frags_on circuit plan i c) ≡ frags_on other plan i c

-- and fragments that mean a call on a circuit, whatever their epochs and the counts told, mean it on the other so
abbrev pub KeepsMeanings : Type 0
KeepsMeanings = (circuit other : ℕ) (plan : PlanNo) (i : TheInterface) (c : TheCall) (frags : List Frag)
    → circuit < 2 ^ 16 → other < 2 ^ 16 → c.msg < 2 ^ 16
    → Means plan i frags c circuit → Means plan i (map (with_circuit other) frags) c other
