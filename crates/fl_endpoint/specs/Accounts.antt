-- What happened at one end over a stretch of time: an account, which adds up by joining lists.
use Rattle.std.specs.Prelude.{◌≡◌, ◌⊎◌, ℕ, ◌≤◌, ◌<◌, ◌^◌, true, false, List, [], ◌∷◌, ◌++◌, map, drop, length, Option, Some, None}
use Rattle.std.specs.List.{flat_map}
use Rattle.fl_base.specs.declared.fragment.Frag.{Frag}
use Rattle.fl_interface.specs.Interface.{TheInterface}
use Rattle.fl_interface.specs.Limits.{is_within_limits}
use Rattle.fl_value_data.specs.Value.{TheCall}
use Rattle.fl_wire.specs.Payload.{frags_on}
use Rattle.fl_wire.specs.Reading.{IsPart, AllFit}
use Rattle.fl_wire.specs.Words.{interface_words_fit}
use Rattle.fl_compile.specs.Programs.{TheProgram, program_of}
use Rattle.fl_base.specs.Control.{bare}
use Rattle.fl_endpoint.specs.View.{TheEnd, TheOutgoing, interface_in, plan_in, frags_from, nothing_to_send, number_or_0, rule_at, reply_to}
use Rattle.fl_endpoint.specs.Events.{IsMessage, SameTypes}

-- ---- what is known of an end at any time

-- a rule's two messages are there and have the same argument types
pub record IsRule (i : TheInterface) (msg reply : ℕ) : Type 0 where
  pub from : IsMessage i msg
  pub to : IsMessage i reply
  pub types : SameTypes i msg reply

-- at most one rule for each message
pub record AreRules (i : TheInterface) (rules : List (Option ℕ)) : Type 0 where
  pub places : length rules ≡ length i.messages
  pub each : (msg reply : ℕ) → rule_at rules msg ≡ Some reply → IsRule i msg reply

-- what is to be sent of these calls, where so many fragments of the first are written, and not all
abbrev pub IsLeft : (TheCall → List Frag) → ℕ → List TheCall → TheOutgoing → Type 0
IsLeft frags number [] o = o ≡ nothing_to_send
IsLeft frags number (c ∷ waits) o =
    (number < length (frags c))
    × (o ≡ record { unwritten = drop number (frags c); count = length (frags c); waiting = map frags waits })

-- the call in transmission, if there is one, and the replies that wait
pub record Sends (s : TheEnd) : Type 0 where
  pub calls : List TheCall
  pub fit : AllFit (interface_in s) calls
  pub number : ℕ
  pub left : IsLeft (frags_from s) number calls s.outgoing
  pub few : length s.outgoing.waiting ≤ 16

-- none, or some of the first of a fitting call's
abbrev pub GoesOn : TheEnd → Type 0
GoesOn s = (s.parts ≡ []) ⊎ IsPart (plan_in s) (interface_in s) s.parts

-- an end that nothing was done with yet, but for its rules
pub record IsIdle (s : TheEnd) : Type 0 where
  pub outgoing : s.outgoing ≡ nothing_to_send
  pub parts : s.parts ≡ []
  pub failed : s.failed ≡ false

-- what holds of an end at any time; until it is bound nothing was done with it, but for its rules
pub record Sound (s : TheEnd) : Type 0 where
  pub within : is_within_limits (interface_in s) ≡ true
  pub words : interface_words_fit (interface_in s) ≡ true
  pub rules : AreRules (interface_in s) s.rules
  pub circuit : number_or_0 s.circuit < 2 ^ 16
  pub unbound : s.circuit ≡ None → IsIdle s
  pub sends : Sends s
  pub part : GoesOn s
  -- without epochs and counts told
  pub are_bare : map bare s.parts ≡ s.parts

-- ---- accounts

-- a call that was accepted: one that was asked for, or a reply by rule
pub data Accepted : Type 0 where
  asked : TheCall → Accepted
  by_rule : TheCall → Accepted

abbrev pub call_in : Accepted → TheCall
call_in (asked c) = c
call_in (by_rule c) = c

-- the calls accepted, in order
abbrev pub calls_in : List Accepted → List TheCall
calls_in accepted = map call_in accepted

-- those among them that are replies
abbrev pub replies_in : List Accepted → List TheCall
replies_in [] = []
replies_in (asked c ∷ rest) = replies_in rest
replies_in (by_rule c ∷ rest) = c ∷ replies_in rest

-- the calls one after another in fragments, on a circuit
abbrev pub stream : TheProgram → ℕ → List TheCall → List Frag
stream program circuit calls = flat_map (frags_on circuit program.plan program.interface) calls

-- the same call by call
abbrev pub streams : TheProgram → ℕ → List TheCall → List (List Frag)
streams program circuit calls = map (frags_on circuit program.plan program.interface) calls

-- the accepted calls as the end puts them, one after another, and call by call
abbrev pub stream_from : TheEnd → List TheCall → List Frag
stream_from s calls = stream (program_of s.program) (number_or_0 s.circuit) calls

abbrev pub streams_from : TheEnd → List TheCall → List (List Frag)
streams_from s calls = streams (program_of s.program) (number_or_0 s.circuit) calls

-- what happened at an end over a stretch of time, each in order
pub record EndHistory : Type 0 where
  -- the calls that it accepted
  pub accepted : List Accepted
  -- the fragments that it put, and those that it took
  pub put : List Frag
  pub took : List Frag
  -- the calls that it handled, and the replies to them that were due
  pub handled : List TheCall
  pub due : List TheCall

-- nothing happened
abbrev pub no_event : EndHistory
no_event = record { accepted = []; put = []; took = []; handled = []; due = [] }

-- one stretch, and then another
abbrev pub joined : EndHistory → EndHistory → EndHistory
joined h g = record {
  accepted = h.accepted ++ g.accepted;
  put = h.put ++ g.put;
  took = h.took ++ g.took;
  handled = h.handled ++ g.handled;
  due = h.due ++ g.due;
}

-- by what happened the end went from s to t
pub record Account (s : TheEnd) (h : EndHistory) (t : TheEnd) : Type 0 where
  pub program : t.program ≡ s.program
  pub failed : s.failed ≡ true → t.failed ≡ true
  -- it was bound once at most, and before that nothing was accepted or due
  pub circuit : (c : ℕ) → s.circuit ≡ Some c → t.circuit ≡ Some c
  pub unbound : t.circuit ≡ None → (h.accepted ≡ []) × (h.due ≡ [])
  -- what it put is what it accepted, in order, up to what is still to be written
  pub accepted_fit : AllFit (interface_in t) (calls_in h.accepted)
  pub sends : s.outgoing.unwritten ++ stream_from t (calls_in h.accepted) ≡ h.put ++ t.outgoing.unwritten
  -- the replies that it accepted are those due, in order, up to those that wait
  pub waits : s.outgoing.waiting ++ streams_from t h.due ≡ streams_from t (replies_in h.accepted) ++ t.outgoing.waiting
  -- what it took is what it handled, in order, and a rest
  pub handled_fit : AllFit (interface_in t) h.handled
  pub gives : s.parts ++ h.took ≡ stream (program_of t.program) 0 h.handled ++ t.parts

-- a call, where there is one, and then others
abbrev pub followed : Option TheCall → List TheCall → List TheCall
followed None calls = calls
followed (Some c) calls = c ∷ calls

-- the reply by rule to each call that has one
abbrev pub replies_by : List (Option ℕ) → List TheCall → List TheCall
replies_by rules [] = []
replies_by rules (c ∷ calls) = followed (reply_to rules c) (replies_by rules calls)

-- with the same rules throughout: those due are the replies by rule to the calls handled
pub record Replies (s : TheEnd) (handled due : List TheCall) (t : TheEnd) : Type 0 where
  pub rules : t.rules ≡ s.rules
  pub replies : due ≡ replies_by s.rules handled
