-- A call as numbers: its message's, and its tape.
use Rattle.std.specs.Prelude.{◌≡◌, ℕ, ◌+◌, ◌<◌, ◌≤◌, ◌⊎◌, List, [], ◌∷◌, ◌++◌, length, drop, slice_get, Option, Some, None, Result, Ok, Err}
use Rattle.fl_interface.specs.Interface.{TheInterface}
use Rattle.fl_value_data.specs.declared.value.Call.{Call}
use Rattle.fl_value_data.specs.Value.{TheCall, call_of}
use Rattle.fl_value_data.specs.Tape.{tape_of}
use Rattle.fl_value_data.specs.Taken.{HasTape}
use Rattle.fl_compile.specs.Programs.{TheProgram}
use Rattle.fl_endpoint.specs.declared.fault.EndFault.TheVariants.{UnknownMessage, Misfit, Memory}
use Rattle.fl_c_operations.specs.declared.answer.UseFault.{UseFault}
use Rattle.fl_c_operations.specs.declared.answer.UseFault.TheVariants.{WrongRoom, ShortRoom, End}

-- the interface has no message of this number
abbrev pub IsNoMessage : TheInterface → ℕ → Type 0
IsNoMessage i msg = (65536 ≤ msg) ⊎ (slice_get i.messages msg ≡ None)

-- these numbers are a fitting call's
abbrev pub AreCall : TheProgram → List ℕ → TheCall → Type 0
AreCall x numbers c = (msg : ℕ) × (tape : List ℕ) × (numbers ≡ msg ∷ tape) × HasTape x.plan x.interface msg tape c

-- why numbers are no call's: there is none; no message has the first (E41); one has, and no fitting call of it the others (E42)
abbrev pub RefusesNumbers : TheProgram → List ℕ → UseFault → Type 0
RefusesNumbers x numbers WrongRoom = numbers ≡ []
RefusesNumbers x numbers (End UnknownMessage) = (msg : ℕ) × (tape : List ℕ) × (numbers ≡ msg ∷ tape) × IsNoMessage x.interface msg
RefusesNumbers x numbers (End Misfit) = (msg : ℕ) × (tape : List ℕ) × (numbers ≡ msg ∷ tape) × (msg < length x.interface.messages)
    × ((c : TheCall) → HasTape x.plan x.interface msg tape c → ⊥)
RefusesNumbers x numbers fault = ⊥

-- why there is no call: numbers are none's, or else memory ran out for theirs (E99)
abbrev pub LacksCall : TheProgram → List ℕ → UseFault → Type 0
LacksCall x numbers (End Memory) = (c : TheCall) × AreCall x numbers c
LacksCall x numbers fault = RefusesNumbers x numbers fault

-- the call of numbers, or none where memory ran out for it; or why they are no call's
abbrev pub ReadsCall : TheProgram → List ℕ → Result (Option Call) UseFault → Type 0
ReadsCall x numbers (Ok (Some call)) = AreCall x numbers (call_of call)
ReadsCall x numbers (Ok None) = (c : TheCall) × AreCall x numbers c
ReadsCall x numbers (Err fault) = RefusesNumbers x numbers fault

-- a call's message and tape stand first in a room, or there is no room for them; or memory ran out, whatever the room
abbrev pub PutsCall : TheProgram → Call → List ℕ → Result ℕ UseFault → List ℕ → Type 0
PutsCall x call room (Ok count) written =
    (count ≡ length (tape_of x.plan x.interface (call_of call)) + 1) × (written ≡ (call.msg.0 ∷ tape_of x.plan x.interface (call_of call)) ++ drop count room)
PutsCall x call room (Err (ShortRoom wanted)) written =
    (wanted ≡ length (tape_of x.plan x.interface (call_of call)) + 1) × (length room < wanted) × (written ≡ room)
PutsCall x call room (Err (End Memory)) written = written ≡ room
PutsCall x call room (Err fault) written = ⊥

-- the numbers of a call: its message's, and its tape
abbrev pub numbers_of_call : TheProgram → TheCall → List ℕ
numbers_of_call x c = c.msg ∷ tape_of x.plan x.interface c

-- these numbers stand first in a room, or there is no room for them; or memory ran out, whatever the room
abbrev pub PutsNumbers : List ℕ → List ℕ → Result ℕ UseFault → List ℕ → Type 0
PutsNumbers numbers room (Ok count) written = (count ≡ length numbers) × (written ≡ numbers ++ drop count room)
PutsNumbers numbers room (Err (ShortRoom wanted)) written = (wanted ≡ length numbers) × (length room < wanted) × (written ≡ room)
PutsNumbers numbers room (Err (End Memory)) written = written ≡ room
PutsNumbers numbers room (Err fault) written = ⊥
