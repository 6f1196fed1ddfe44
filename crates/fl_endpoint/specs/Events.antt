-- What each event comes to at one end: by cases on the answer, exactly. A side that fragments are put to or taken from is
-- seen by its own relation alone; it goes from p to q.
use Rattle.std.specs.Prelude.{◌≡◌, ◌≢◌, ℕ, ◌+◌, Bool, true, false, List, [], ◌∷◌, ◌++◌, length, slice_get, Option, Some, None, IsSome, Result, Ok, Err}
use Rattle.fl_base.specs.declared.fragment.Frag.{Frag}
use Rattle.fl_base.specs.declared.identity.Circuit.{Circuit}
use Rattle.fl_interface.specs.Interface.{TheInterface}
use Rattle.fl_value_data.specs.Value.{TheCall, call_of}
use Rattle.fl_value_data.specs.Fits.{fits_of}
use Rattle.fl_value_data.specs.Tape.{types_of}
use Rattle.fl_wire.specs.Payload.{frags_of}
use Rattle.fl_wire.specs.Reading.{IsPart}
use Rattle.fl_machine.specs.Receiving.{IsRefused}
use Rattle.fl_base.specs.Control.{bare, stamped}
use Rattle.fl_link.specs.Looks.{Look, placed, no_room, spent, saw, saw_ack, found, found_ack, missed}
use Rattle.fl_endpoint.specs.declared.fault.EndFault.{EndFault}
use Rattle.fl_endpoint.specs.declared.fault.EndFault.TheVariants.{Spent, Busy, UnknownMessage, Misfit, NotBound, Failed, Wire, Memory}
use Rattle.fl_endpoint.specs.declared.answer.WriteAnswer.{WriteAnswer}
use Rattle.fl_endpoint.specs.declared.answer.WriteAnswer.TheVariants.{Written, Full, Nothing}
use Rattle.fl_endpoint.specs.declared.answer.ReceiveAnswer.{ReceiveAnswer}
use Rattle.fl_endpoint.specs.declared.answer.ReceiveAnswer.TheVariants.{Handle, Part, Quiet, Empty, HeldBack}
use Rattle.fl_endpoint.specs.View.{TheEnd, interface_in, plan_in, holds_back}
use Rattle.fl_endpoint.specs.View.{with_call, with_written, with_part, with_handled, with_failed, with_rule, with_rules_of}

-- ---- what refuses before anything is looked at

-- the interface has the message
abbrev pub IsMessage : TheInterface → ℕ → Type 0
IsMessage i msg = IsSome (slice_get i.messages msg)

-- not bound yet
abbrev pub IsUnbound : TheEnd → Type 0
IsUnbound s = s.circuit ≡ None

-- bound, and failed earlier
abbrev pub HasFailed : TheEnd → Type 0
HasFailed s = IsSome s.circuit × (s.failed ≡ true)

-- bound, and never failed
abbrev pub IsReady : TheEnd → Type 0
IsReady s = IsSome s.circuit × (s.failed ≡ false)

-- ready, and it takes fragments: it has no rule, or fewer than 16 replies wait
abbrev pub IsOpen : TheEnd → Type 0
IsOpen s = IsReady s × (holds_back s ≡ false)

-- the circuit of an end that is ready, or why it isn't
abbrev pub Readies : TheEnd → Result Circuit EndFault → Type 0
Readies s (Ok circuit) = (s.circuit ≡ Some circuit.0) × (s.failed ≡ false)
Readies s (Err NotBound) = IsUnbound s
Readies s (Err Failed) = HasFailed s
Readies s (Err fault) = ⊥

-- ---- a call is made

-- the circuit on which a call of a message may be made, or why it may not, by whether it fits
abbrev pub AdmitsBy : TheEnd → ℕ → Bool → Result Circuit EndFault → Type 0
AdmitsBy s msg fits (Ok circuit) = (fits ≡ true) × (s.circuit ≡ Some circuit.0) × (s.failed ≡ false) × (s.outgoing.unwritten ≡ [])
AdmitsBy s msg fits (Err UnknownMessage) = slice_get (interface_in s).messages msg ≡ None
AdmitsBy s msg fits (Err Misfit) = IsMessage (interface_in s) msg × (fits ≡ false)
AdmitsBy s msg fits (Err NotBound) = (fits ≡ true) × IsUnbound s
AdmitsBy s msg fits (Err Failed) = (fits ≡ true) × HasFailed s
AdmitsBy s msg fits (Err Busy) = (fits ≡ true) × IsReady s × (s.outgoing.unwritten ≢ [])
AdmitsBy s msg fits (Err fault) = ⊥

-- the circuit on which a call may be made, or why it may not
abbrev pub Admits : TheEnd → TheCall → Result Circuit EndFault → Type 0
Admits s c answer = AdmitsBy s c.msg (fits_of (interface_in s) c) answer

-- a call is accepted with all its fragments, or refused: then the end is as it was
abbrev pub Calls : TheEnd → TheCall → Result (Unit {0}) EndFault → TheEnd → Type 0
Calls s c (Ok done) t = (fits_of (interface_in s) c ≡ true) × IsReady s × (s.outgoing.unwritten ≡ []) × (t ≡ with_call s c)
Calls s c (Err UnknownMessage) t = (slice_get (interface_in s).messages c.msg ≡ None) × (t ≡ s)
Calls s c (Err Misfit) t = IsMessage (interface_in s) c.msg × (fits_of (interface_in s) c ≡ false) × (t ≡ s)
Calls s c (Err NotBound) t = (fits_of (interface_in s) c ≡ true) × IsUnbound s × (t ≡ s)
Calls s c (Err Failed) t = (fits_of (interface_in s) c ≡ true) × HasFailed s × (t ≡ s)
Calls s c (Err Busy) t = (fits_of (interface_in s) c ≡ true) × IsReady s × (s.outgoing.unwritten ≢ []) × (t ≡ s)
Calls s c (Err Memory) t = (fits_of (interface_in s) c ≡ true) × IsReady s × (s.outgoing.unwritten ≡ []) × (t ≡ s)
Calls s c (Err fault) t = ⊥

-- ---- a fragment is written

-- where a fragment is put, the answer tells how many of its call's are written then, and how many there are;
-- by every other answer the end is as it was
abbrev pub Writes : {P : Type 0} → (P → Look → P → Type 0) → TheEnd → P → Result WriteAnswer EndFault → TheEnd → P → Type 0
Writes puts s p (Ok (Written number count)) t q =
    IsReady s × ((f : Frag) × (rest : List Frag) × (s.outgoing.unwritten ≡ f ∷ rest) × (count ≡ s.outgoing.count)
    × (number + length rest ≡ count) × puts p (placed f) q × (t ≡ with_written s rest))
Writes puts s p (Ok Full) t q = IsReady s × (s.outgoing.unwritten ≢ []) × puts p no_room q × (t ≡ s)
Writes puts s p (Ok Nothing) t q = IsReady s × (s.outgoing.unwritten ≡ []) × (q ≡ p) × (t ≡ s)
Writes puts s p (Err Spent) t q = IsReady s × (s.outgoing.unwritten ≢ []) × puts p spent q × (t ≡ s)
Writes puts s p (Err NotBound) t q = IsUnbound s × (q ≡ p) × (t ≡ s)
Writes puts s p (Err Failed) t q = HasFailed s × (q ≡ p) × (t ≡ s)
Writes puts s p (Err fault) t q = ⊥

-- the fragment that would be written next, by the side's epoch bit and the number that it would tell
abbrev pub ShowsNext : ℕ → ℕ → TheEnd → Result (Option Frag) EndFault → Type 0
ShowsNext epoch told s (Ok (Some frag)) =
    IsReady s × ((f : Frag) × (rest : List Frag) × (s.outgoing.unwritten ≡ f ∷ rest) × (frag ≡ stamped f epoch told))
ShowsNext epoch told s (Ok None) = IsReady s × (s.outgoing.unwritten ≡ [])
ShowsNext epoch told s (Err NotBound) = IsUnbound s
ShowsNext epoch told s (Err Failed) = HasFailed s
ShowsNext epoch told s (Err fault) = ⊥

-- ---- a fragment is taken

-- these fragments mean the call, and no other
pub record AreCall (s : TheEnd) (frags : List Frag) (c : TheCall) : Type 0 where
  pub fits : fits_of (interface_in s) c ≡ true
  pub mean : frags ≡ frags_of (plan_in s) (interface_in s) c
  pub only : (d : TheCall) → fits_of (interface_in s) d ≡ true → frags ≡ frags_of (plan_in s) (interface_in s) d → d ≡ c

-- a call that is whole is handled, or memory ran out for the reply to it
abbrev pub Handles : TheEnd → TheCall → Result ReceiveAnswer EndFault → TheEnd → Type 0
Handles s c (Ok (Handle call)) t = (call_of call ≡ c) × (t ≡ with_handled s c)
Handles s c (Ok answer) t = ⊥
Handles s c (Err Memory) t = t ≡ s
Handles s c (Err fault) t = ⊥

-- what the end's receive run makes of a fragment, which is bare: epochs and counts told are the side's
abbrev pub TakesIn : TheEnd → Frag → Result ReceiveAnswer EndFault → TheEnd → Type 0
TakesIn s f (Ok Part) t = IsPart (plan_in s) (interface_in s) (s.parts ++ f ∷ []) × (t ≡ with_part s f)
TakesIn s f (Ok (Handle call)) t = AreCall s (s.parts ++ f ∷ []) (call_of call) × (t ≡ with_handled s (call_of call))
TakesIn s f (Ok answer) t = ⊥
TakesIn s f (Err (Wire fault)) t = IsRefused (plan_in s) (interface_in s) s.parts f fault × (t ≡ with_failed s)
TakesIn s f (Err Memory) t = ((c : TheCall) × AreCall s (s.parts ++ f ∷ []) c) × (t ≡ s)
TakesIn s f (Err fault) t = ⊥

-- the fragment that stands first is taken, and with it this is answered
abbrev pub Takes : {T : Type 0} → (T → Look → T → Type 0) → TheEnd → T → ReceiveAnswer → TheEnd → T → Type 0
Takes {T} takes s p answer t q =
    IsOpen s × ((f : Frag) × (m : T) × (bare f ≡ f) × takes p (saw f) m × takes m (found f) q × TakesIn s f (Ok answer) t)

-- it is looked at and left, and with it this is answered
abbrev pub Leaves : {T : Type 0} → (T → Look → T → Type 0) → TheEnd → T → EndFault → TheEnd → T → Type 0
Leaves takes s p fault t q = IsOpen s × ((f : Frag) × (bare f ≡ f) × takes p (saw f) q × TakesIn s f (Err fault) t)

-- a fragment is taken where a call goes on or is handled by it, or where it only acknowledges; one that is
-- wrong, or with which memory runs out, is looked at and left
abbrev pub Receives : {T : Type 0} → (T → Look → T → Type 0) → TheEnd → T → Result ReceiveAnswer EndFault → TheEnd → T → Type 0
Receives takes s p (Ok (Handle call)) t q = Takes takes s p (Handle call) t q
Receives takes s p (Ok Part) t q = Takes takes s p Part t q
Receives {T} takes s p (Ok Quiet) t q = IsOpen s × ((m : T) × takes p saw_ack m × takes m found_ack q) × (t ≡ s)
Receives takes s p (Ok Empty) t q = IsOpen s × takes p missed q × (t ≡ s)
Receives takes s p (Ok HeldBack) t q = IsReady s × (holds_back s ≡ true) × (q ≡ p) × (t ≡ s)
Receives takes s p (Err (Wire fault)) t q = Leaves takes s p (Wire fault) t q
Receives takes s p (Err Memory) t q = Leaves takes s p Memory t q
Receives takes s p (Err NotBound) t q = IsUnbound s × (q ≡ p) × (t ≡ s)
Receives takes s p (Err Failed) t q = HasFailed s × (q ≡ p) × (t ≡ s)
Receives takes s p (Err fault) t q = ⊥

-- ---- a reply rule is set

-- the two messages have the same argument types
abbrev pub SameTypes : TheInterface → ℕ → ℕ → Type 0
SameTypes i msg reply = types_of (slice_get i.messages msg) ≡ types_of (slice_get i.messages reply)

-- both messages are there and have the same argument types, or the end is as it was
abbrev pub SetsRule : TheEnd → ℕ → ℕ → Result (Unit {0}) EndFault → TheEnd → Type 0
SetsRule s msg reply (Ok done) t =
    IsMessage (interface_in s) msg × IsMessage (interface_in s) reply × SameTypes (interface_in s) msg reply × (t ≡ with_rule s msg reply)
SetsRule s msg reply (Err UnknownMessage) t = ((IsMessage (interface_in s) msg × IsMessage (interface_in s) reply) → ⊥) × (t ≡ s)
SetsRule s msg reply (Err Misfit) t =
    IsMessage (interface_in s) msg × IsMessage (interface_in s) reply × (SameTypes (interface_in s) msg reply → ⊥) × (t ≡ s)
SetsRule s msg reply (Err fault) t = ⊥

-- two ends, s and o, exchange their rules, and nothing else
abbrev pub Exchanges : TheEnd → TheEnd → TheEnd → TheEnd → Type 0
Exchanges s o t p = (t ≡ with_rules_of s o) × (p ≡ with_rules_of o s)
