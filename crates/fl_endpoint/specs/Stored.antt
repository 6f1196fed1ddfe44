-- A working file, on which no public promise rests by itself: what an end stores of the calls that it sends, and the fragments
-- that this stands for.
use Rattle.std.specs.Prelude.{◌≡◌, ℕ, ◌+◌, ◌≤◌, true, false, IsSome, List, [], ◌∷◌, map, drop, length, slice_get, Option, Some, None}
use Rattle.std.specs.Global.{Vec}
use Rattle.fl_base.specs.declared.fragment.Frag.{Frag}
use Rattle.fl_base.specs.Control.{is_ack_only, bare}
use Rattle.fl_interface.specs.Interface.{TheMessage, TheInterface}
use Rattle.fl_value_data.specs.Value.{TheCall}
use Rattle.fl_value_data.specs.Fits.{fits_of}
use Rattle.fl_value_data.specs.declared.value.PlanNo.{PlanNo}
use Rattle.fl_wire.specs.Payload.{frags_on}
use Rattle.fl_stub.specs.declared.op.Column.TheVariants.{Send}
use Rattle.fl_stub.specs.Code.{TheCode}
use Rattle.fl_stub.specs.Frames.{block_of}
use Rattle.fl_stub.specs.Given.{bytes_given}
use Rattle.fl_compile.specs.Codes.{compiled_code}
use Rattle.fl_compile.specs.Programs.{TheProgram}
use Rattle.fl_machine.specs.Sending.{frags_holding}
use Rattle.fl_endpoint.specs.View.{TheOutgoing}
use Rattle.fl_endpoint.specs.Events.{SameTypes}
use Rattle.fl_endpoint.specs.declared.outgoing.CallBody.{CallBody}
use Rattle.fl_endpoint.specs.declared.outgoing.CallBody.TheVariants.{Tape, Payload, Number}
use Rattle.fl_endpoint.specs.declared.outgoing.QueuedCall.{QueuedCall}
use Rattle.fl_endpoint.specs.declared.outgoing.SendingCall.{SendingCall}
use Rattle.fl_endpoint.specs.declared.outgoing.Outgoing.{Outgoing}

-- the send code of a message; none where there is no such message
abbrev pub code_for : PlanNo → Option TheMessage → TheCode
code_for plan None = record { column = Send; ops = [] }
code_for plan (Some m) = compiled_code Send plan m

-- that of the message of this number
abbrev pub code_of : TheProgram → ℕ → TheCode
code_of program msg = code_for program.plan (slice_get program.interface.messages msg)

-- the fragments of a message with this payload, on a circuit
abbrev pub payload_frags : ℕ → ℕ → List ℕ → List Frag
payload_frags circuit msg bytes = frags_holding true msg circuit bytes

-- those of a message with this tape: of the bytes that its code gives
abbrev pub tape_frags : TheProgram → ℕ → ℕ → List ℕ → List Frag
tape_frags program circuit msg tape = payload_frags circuit msg (bytes_given (block_of (code_of program msg).ops) tape)

-- those of a message of which its tape, its payload, or its tape's one number is kept
abbrev pub body_frags : TheProgram → ℕ → ℕ → CallBody → List Frag
body_frags program circuit msg (Tape tape) = tape_frags program circuit msg tape.items
body_frags program circuit msg (Payload payload) = payload_frags circuit msg payload.items
body_frags program circuit msg (Number number) = tape_frags program circuit msg (number ∷ [])

-- those of a call that is to be sent
abbrev pub queued_frags : TheProgram → ℕ → QueuedCall → List Frag
queued_frags program circuit call = body_frags program circuit call.msg.0 call.body

-- those behind the next of the call in transmission; none where no payload is kept
abbrev pub frags_behind : SendingCall → Option (Vec ℕ) → List Frag
frags_behind s None = []
frags_behind s (Some payload) = drop (s.written + 1) (payload_frags s.circuit.0 s.msg.0 payload.items)

-- those of the call in transmission that are to be written
abbrev pub sending_frags : Option SendingCall → Option (Vec ℕ) → List Frag
sending_frags None payload = []
sending_frags (Some s) payload = s.next ∷ frags_behind s payload

-- how many fragments the call in transmission has in all; 0 where there is none
abbrev pub count_in : Option SendingCall → ℕ
count_in None = 0
count_in (Some s) = s.count

-- what an end is to send, by what it stores
abbrev pub outgoing_of : TheProgram → ℕ → Outgoing → TheOutgoing
outgoing_of program circuit out = record {
  unwritten = sending_frags out.sending out.payload;
  count = count_in out.sending;
  waiting = map (queued_frags program circuit) out.waiting.items;
}

-- a link carries it unchanged, and takes it for no acknowledgement
pub record IsOwn (f : Frag) : Type 0 where
  pub bare_is : bare f ≡ f
  pub data_is : is_ack_only f ≡ false

-- each of these fragments is so
abbrev pub AreOwn : List Frag → Type 0
AreOwn [] = Unit {0}
AreOwn (f ∷ frags) = IsOwn f × AreOwn frags

-- ---- what is true of what is stored

-- the message is there, and with this tape it has one fragment
pub record IsShort (program : TheProgram) (msg : ℕ) (tape : List ℕ) : Type 0 where
  pub known : IsSome (slice_get program.interface.messages msg)
  pub one : (circuit : ℕ) → length (tape_frags program circuit msg tape) ≡ 1

-- a tape, or its number, is kept of a call of one fragment alone
abbrev pub IsBody : TheProgram → ℕ → CallBody → Type 0
IsBody program msg (Tape tape) = IsShort program msg tape.items
IsBody program msg (Payload payload) = Unit {0}
IsBody program msg (Number number) = IsShort program msg (number ∷ [])

-- what is kept of a call that waits is so, and of each of these
abbrev pub IsQueued : TheProgram → QueuedCall → Type 0
IsQueued program call = IsBody program call.msg.0 call.body

abbrev pub AreQueued : TheProgram → List QueuedCall → Type 0
AreQueued program [] = Unit {0}
AreQueued program (call ∷ calls) = IsQueued program call × AreQueued program calls

-- a call's arguments under a message
abbrev pub sent_as : ℕ → TheCall → TheCall
sent_as msg c = record { msg = msg; args = c.args }

-- a fitting call, which may be sent as this message too: the arguments' types are the same
pub record SendsAs (i : TheInterface) (c : TheCall) (msg : ℕ) : Type 0 where
  pub fits : fits_of i c ≡ true
  pub fits_so : fits_of i (sent_as msg c) ≡ true
  pub types : SameTypes i c.msg msg

-- the call, as it is queued
pub record Queues (program : TheProgram) (c : TheCall) (call : QueuedCall) : Type 0 where
  pub is : IsQueued program call
  pub frags : (circuit : ℕ) → queued_frags program circuit call ≡ frags_on circuit program.plan program.interface c

-- the reply, as it is queued, where there is one
abbrev pub QueuesReply : TheProgram → Option TheCall → Option QueuedCall → Type 0
QueuesReply program (Some c) (Some call) = Queues program c call
QueuesReply program None None = Unit {0}
QueuesReply program reply call = ⊥

-- it is so many fragments with those that are written, and each of them is a call's
pub record IsSending (s : SendingCall) (payload : Option (Vec ℕ)) : Type 0 where
  pub own : AreOwn (sending_frags (Some s) payload)
  pub counted : s.written + length (sending_frags (Some s) payload) ≡ s.count

-- nothing waits, and no payload is kept, where nothing is in transmission
abbrev pub IsInTransmission : Option SendingCall → Option (Vec ℕ) → List QueuedCall → Type 0
IsInTransmission None payload waiting = (waiting ≡ []) × (payload ≡ None)
IsInTransmission (Some s) payload waiting = IsSending s payload

-- what an end stores of the calls that it sends; at most 16 wait
pub record IsOutgoing (program : TheProgram) (out : Outgoing) : Type 0 where
  pub now : IsInTransmission out.sending out.payload out.waiting.items
  pub waiting : AreQueued program out.waiting.items
  pub few : length out.waiting.items ≤ 16
