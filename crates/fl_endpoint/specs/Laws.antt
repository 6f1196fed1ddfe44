-- What holds of ends over time, whatever their sides: laws.
use Rattle.std.specs.Prelude.{◌≡◌, ℕ, ◌^◌, ◌<◌, true, List, [], ◌∷◌, ◌++◌, map, length, Option, Result, Ok, Err}
use Rattle.fl_base.specs.declared.fragment.Frag.{Frag}
use Rattle.fl_interface.specs.Limits.{is_within_limits}
use Rattle.fl_value_data.specs.Value.{TheCall, call_of}
use Rattle.fl_layout.specs.Places.{count}
use Rattle.fl_wire.specs.Reading.{AllFit, IsPart, Reads}
use Rattle.fl_wire.specs.declared.fault.WireFault.{WireFault}
use Rattle.fl_machine.specs.Receiving.{IsRefused}
use Rattle.fl_base.specs.Control.{bare, with_circuit}
use Rattle.fl_compile.specs.declared.program.Program.{Program}
use Rattle.fl_compile.specs.Programs.{TheProgram, program_of}
use Rattle.fl_link.specs.Looks.{Look, Looks, puts_of, takes_of}
use Rattle.fl_endpoint.specs.declared.fault.EndFault.{EndFault}
use Rattle.fl_endpoint.specs.declared.answer.WriteAnswer.{WriteAnswer}
use Rattle.fl_endpoint.specs.declared.answer.ReceiveAnswer.{ReceiveAnswer}
use Rattle.fl_endpoint.specs.declared.answer.ReceiveAnswer.TheVariants.{Handle}
use Rattle.fl_endpoint.specs.View.{TheEnd, fresh, interface_in, plan_in, bound, reply_to, with_rules_of}
use Rattle.fl_endpoint.specs.Events.{AreCall, Calls, Writes, Receives, SetsRule}
use Rattle.fl_endpoint.specs.Accounts.{Sound, Accepted, asked, calls_in, replies_in, followed, stream, stream_from, streams_from, EndHistory, no_event, joined}
use Rattle.fl_endpoint.specs.Accounts.{Account, Replies}

-- accounts add up
abbrev pub AddUp : Type 0
AddUp = (s t u : TheEnd) (h g : EndHistory) → Account s h t → Account t g u → Account s (joined h g) u

-- and so do the replies that are due, where the rules stay the same
abbrev pub RepliesAddUp : Type 0
RepliesAddUp = (s t u : TheEnd) (handled handled2 due due2 : List TheCall)
    → Replies s handled due t → Replies t handled2 due2 u → Replies s (handled ++ handled2) (due ++ due2) u

-- ---- what each event adds; the end stays sound

-- the call that was accepted, if one was
abbrev pub accepted_by : TheCall → Result (Unit {0}) EndFault → List Accepted
accepted_by c (Ok done) = asked c ∷ []
accepted_by c (Err fault) = []

-- the call that was handled, if one was
abbrev pub handled_by : Result ReceiveAnswer EndFault → List TheCall
handled_by (Ok (Handle call)) = call_of call ∷ []
handled_by answer = []

-- the reply that is due then
abbrev pub due_by : List (Option ℕ) → Result ReceiveAnswer EndFault → List TheCall
due_by rules (Ok (Handle call)) = followed (reply_to rules (call_of call)) []
due_by rules answer = []

-- nothing is put, taken or handled; accepted is the call, unless it was refused
pub record CallAdds (s : TheEnd) (c : TheCall) (answer : Result (Unit {0}) EndFault) (t : TheEnd) : Type 0 where
  pub sound : Sound t
  pub account : Account s (record no_event { accepted = accepted_by c answer }) t
  pub replies : Replies s [] [] t

-- each call made at a sound end adds that, whatever is answered
abbrev pub CallAccounts : Type 0
CallAccounts = (s t : TheEnd) (c : TheCall) (answer : Result (Unit {0}) EndFault) → Sound s → Calls s c answer t → CallAdds s c answer t

-- what was put is what the side's looks tell; accepted is the reply that waited first, where the last fragment of a call was put
pub record WriteAdds {P : Type 0} (puts : P → Look → P → Type 0) (s : TheEnd) (p : P) (t : TheEnd) (q : P) : Type 0 where
  pub looks : List Look
  pub side : Looks puts p looks q
  pub accepted : List Accepted
  pub sound : Sound t
  pub account : Account s (record no_event { accepted = accepted; put = puts_of looks }) t
  pub replies : Replies s [] [] t

-- each write at a sound end adds that, whatever is answered
abbrev pub WriteAccounts : {P : Type 0} → (P → Look → P → Type 0) → Type 0
WriteAccounts {P} puts = (s t : TheEnd) (p q : P) (answer : Result WriteAnswer EndFault)
    → Sound s → Writes puts s p answer t q → WriteAdds puts s p t q

-- what happens in a receive that is answered so: the fragments taken, the call handled and the reply due, and what is accepted
abbrev pub happens_in_receive : List (Option ℕ) → Result ReceiveAnswer EndFault → List Look → List Accepted → EndHistory
happens_in_receive rules answer looks accepted =
    record { accepted = accepted; put = []; took = takes_of looks; handled = handled_by answer; due = due_by rules answer }

-- accepted is the reply that is due, where the end wasn't busy
pub record ReceiveAdds {T : Type 0} (takes : T → Look → T → Type 0)
    (s : TheEnd) (p : T) (answer : Result ReceiveAnswer EndFault) (t : TheEnd) (q : T) : Type 0 where
  pub looks : List Look
  pub side : Looks takes p looks q
  pub accepted : List Accepted
  pub sound : Sound t
  pub account : Account s (happens_in_receive s.rules answer looks accepted) t
  pub replies : Replies s (handled_by answer) (due_by s.rules answer) t

-- each receive at a sound end adds that, whatever is answered
abbrev pub ReceiveAccounts : {T : Type 0} → (T → Look → T → Type 0) → Type 0
ReceiveAccounts {T} takes = (s t : TheEnd) (p q : T) (answer : Result ReceiveAnswer EndFault)
    → Sound s → Receives takes s p answer t q → ReceiveAdds takes s p answer t q

-- an event by which nothing is accepted, put, taken or handled
pub record AddsNothing (s t : TheEnd) : Type 0 where
  pub sound : Sound t
  pub account : Account s no_event t

-- binding a sound end to a circuit is such an event, and no reply is due by it
abbrev pub BindAccounts : Type 0
BindAccounts = (s : TheEnd) (circuit : ℕ) → circuit < 2 ^ 16 → Sound s → AddsNothing s (bound s circuit) × Replies s [] [] (bound s circuit)

-- so is setting a reply rule, whatever is answered
abbrev pub RuleAccounts : Type 0
RuleAccounts = (s t : TheEnd) (msg reply : ℕ) (answer : Result (Unit {0}) EndFault) → Sound s → SetsRule s msg reply answer t → AddsNothing s t

-- so is getting the rules of another sound end of the same interface
abbrev pub ExchangeAccounts : Type 0
ExchangeAccounts = (s t : TheEnd) → interface_in s ≡ interface_in t → Sound s → Sound t → AddsNothing s (with_rules_of s t)

-- ---- what an end did since it was made

-- what it put is a prefix of its accepted calls' fragments, and the rest is what is still to be written; the replies accepted are a
-- prefix of those due, and the others wait; what it took reads as its handled calls and a rest
pub record Since (h : EndHistory) (t : TheEnd) : Type 0 where
  pub sent : h.put ++ t.outgoing.unwritten ≡ stream_from t (calls_in h.accepted)
  pub wait : streams_from t (replies_in h.accepted) ++ t.outgoing.waiting ≡ streams_from t h.due
  pub read : Reads (plan_in t) (interface_in t) h.took h.handled t.parts

-- this is so of each end that was made with nothing done, whatever happened to it since
abbrev pub SinceMade : Type 0
SinceMade = (program : Program) (circuit : Option ℕ) (t : TheEnd) (h : EndHistory)
    → Sound t → Account (fresh program circuit) h t → Since h t

-- ---- circuits

-- what is sent on a circuit is, once its circuit is set to another, what is sent on that one; with 0 for the other this is what
-- is sent off links: so the other end takes it as the same calls
abbrev pub OnAnotherCircuit : Type 0
OnAnotherCircuit = (program : TheProgram) (circuit other : ℕ) (calls : List TheCall) → circuit < 2 ^ 16
    → is_within_limits program.interface ≡ true → AllFit program.interface calls
    → map (with_circuit other) (stream program circuit calls) ≡ stream program other calls

-- ---- two ends: what one takes is what the other sent

-- of calls whose fragments come off links: those handled are the first; what was taken since is of the next, and not all of it;
-- what is still to be taken goes on with it
pub record TakenOf (program : TheProgram) (calls handled : List TheCall) (parts more : List Frag) : Type 0 where
  pub left : List TheCall
  pub calls_are : calls ≡ handled ++ left
  pub ahead : parts ++ more ≡ stream program 0 left
  pub short : (c : TheCall) (rest : List TheCall) → left ≡ c ∷ rest → length parts < count program.plan program.interface c

-- an end that was made with nothing done, and to which these calls' fragments come in order, has handled
-- a prefix of the calls
abbrev pub HandlesInOrder : Type 0
HandlesInOrder = (program : Program) (circuit : Option ℕ) (t : TheEnd) (h : EndHistory) (calls : List TheCall) (more : List Frag)
    → Sound t → Account (fresh program circuit) h t
    → AllFit (interface_in t) calls → h.took ++ more ≡ stream (program_of t.program) 0 calls
    → TakenOf (program_of t.program) calls h.handled t.parts more

-- the next fragment is never refused; where it is the last of its call that call is handled, and no other
pub record TakesNext (s : TheEnd) (f : Frag) (left : List TheCall) (more : List Frag) : Type 0 where
  pub no_fault : (fault : WireFault) → IsRefused (plan_in s) (interface_in s) s.parts f fault → ⊥
  pub handled_is : (c : TheCall) → AreCall s (s.parts ++ f ∷ []) c
      → (rest : List TheCall) × (left ≡ c ∷ rest) × (more ≡ stream (program_of s.program) 0 rest)
  pub part_is : (c : TheCall) (rest : List TheCall) → IsPart (plan_in s) (interface_in s) (s.parts ++ f ∷ []) → left ≡ c ∷ rest
      → length (s.parts ++ f ∷ []) < count (plan_in s) (interface_in s) c

-- this is so where what was taken, the next fragment and those behind it are these calls' fragments in order
abbrev pub TakesInOrder : Type 0
TakesInOrder = (s : TheEnd) (f : Frag) (more : List Frag) (left : List TheCall) → Sound s → bare f ≡ f → AllFit (interface_in s) left
    → s.parts ++ f ∷ more ≡ stream (program_of s.program) 0 left → TakesNext s f left more
