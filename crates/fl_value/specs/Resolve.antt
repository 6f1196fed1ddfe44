-- Which call a name and values are, at an interface.
use Rattle.std.specs.Prelude.{◌≡◌, ℕ, ◌+◌, nat_lt, if◌then◌else◌, Option, Some, None, Result, Ok, Err, List, [], ◌∷◌}
use Rattle.std.specs.Str.{bytes_eq}
use Rattle.fl_interface.specs.Interface.{TheMessage, TheInterface}
use Rattle.fl_value_data.specs.declared.value.Call.{Call}
use Rattle.fl_value.specs.declared.fault.ValueFault.{ValueFault}
use Rattle.fl_value.specs.declared.fault.ValueFault.TheVariants.{NotACall, NoSuchMessage, DoesNotFit, Memory}
use Rattle.fl_value_data.specs.Value.{Datum, TheCall, call_of}
use Rattle.fl_value_data.specs.Fits.{fits_of}
use Rattle.fl_value.specs.CallText.{SpellsCall}

-- the number of the first message of this name, if the first of these messages has the number k
abbrev pub named_from : List ℕ → List TheMessage → ℕ → Option ℕ
named_from name [] k = None
named_from name (m ∷ ms) k = if bytes_eq m.name name then Some k else named_from name ms (k + 1)

abbrev pub where_fitting : TheInterface → TheCall → Result TheCall ValueFault
where_fitting i c = if fits_of i c then Ok c else Err DoesNotFit

-- the call of the message of this number, which is below 65,536, with these arguments
abbrev pub resolved_at : TheInterface → List Datum → Option ℕ → Result TheCall ValueFault
resolved_at i values None = Err NoSuchMessage
resolved_at i values (Some k) = if nat_lt k 65536 then where_fitting i (record { msg = k; args = values }) else Err NoSuchMessage

-- no such message, else arguments that don't fit, else the call
abbrev pub resolved : TheInterface → List ℕ → List Datum → Result TheCall ValueFault
resolved i name values = resolved_at i values (named_from name i.messages 0)

-- a message's number is below 65,536
abbrev pub number_below : Option ℕ → Option ℕ
number_below None = None
number_below (Some k) = if nat_lt k 65536 then Some k else None

-- the number of the first message of this name, as `resolved` finds it
abbrev pub message_number : TheInterface → List ℕ → Option ℕ
message_number i name = number_below (named_from name i.messages 0)

-- what a function returned, with calls as contracts see them
abbrev pub Answers : Result Call ValueFault → Result TheCall ValueFault → Type 0
Answers (Ok c) answer = answer ≡ Ok (call_of c)
Answers (Err e) answer = answer ≡ Err e

-- the bytes spell a name and values that come to this
abbrev pub ComesTo : TheInterface → List ℕ → Result TheCall ValueFault → Type 0
ComesTo i bytes answer = (name : List ℕ) × (values : List Datum) × SpellsCall bytes name values × (resolved i name values ≡ answer)

-- the bytes spell a call of a message of the interface
abbrev pub IsOfMessage : TheInterface → List ℕ → Type 0
IsOfMessage i bytes = (name : List ℕ) × (values : List Datum) × SpellsCall bytes name values × (resolved i name values ≡ Err NoSuchMessage → ⊥)

-- what the bytes are at the interface: the call that they spell, no call's text, or a call that
-- the interface refuses; unless memory runs out
abbrev pub ReadsAs : TheInterface → List ℕ → Result Call ValueFault → Type 0
ReadsAs i bytes (Ok c) = ComesTo i bytes (Ok (call_of c))
ReadsAs i bytes (Err NotACall) = (name : List ℕ) (values : List Datum) → SpellsCall bytes name values → ⊥
ReadsAs i bytes (Err NoSuchMessage) = ComesTo i bytes (Err NoSuchMessage)
ReadsAs i bytes (Err DoesNotFit) = ComesTo i bytes (Err DoesNotFit)
ReadsAs i bytes (Err Memory) = Unit {0}

-- what a function returned is this answer, unless memory ran out
abbrev pub AnswersUnlessMemory : Result Call ValueFault → Result TheCall ValueFault → Type 0
AnswersUnlessMemory (Ok c) answer = answer ≡ Ok (call_of c)
AnswersUnlessMemory (Err NotACall) answer = answer ≡ Err NotACall
AnswersUnlessMemory (Err NoSuchMessage) answer = answer ≡ Err NoSuchMessage
AnswersUnlessMemory (Err DoesNotFit) answer = answer ≡ Err DoesNotFit
AnswersUnlessMemory (Err Memory) answer = Unit {0}
