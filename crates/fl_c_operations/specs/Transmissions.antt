-- An end with a call of one fragment in transmission.
use Rattle.std.specs.Prelude.{◌≡◌, ◌≤◌, ◌==◌, ◌&&◌, ℕ, Bool, true, List, [], ◌∷◌, length, Option, Some, None, IsSome, Result, Ok, Err}
use Rattle.fl_base.specs.declared.fragment.Frag.{Frag}
use Rattle.fl_ring.specs.SharedSides.{TheSide, SharedPuts}
use Rattle.fl_value_data.specs.Value.{TheCall}
use Rattle.fl_value_data.specs.Fits.{fits_of}
use Rattle.fl_wire.specs.Words.{interface_words_fit}
use Rattle.fl_compile.specs.Programs.{program_of}
use Rattle.fl_endpoint.specs.declared.fault.EndFault.{EndFault}
use Rattle.fl_endpoint.specs.View.{TheOutgoing, TheEnd, number_or_0, interface_in, begun, goes_on, has_rules, rule_at}
use Rattle.fl_endpoint.specs.declared.fault.EndFault.TheVariants.{Spent}
use Rattle.fl_endpoint.specs.declared.answer.WriteAnswer.{WriteAnswer}
use Rattle.fl_endpoint.specs.declared.answer.WriteAnswer.TheVariants.{Written, Full}
use Rattle.fl_c_operations.specs.declared.transmitting.Sent.{Sent}
use Rattle.fl_c_operations.specs.declared.transmitting.Sent.TheVariants.{PutNow, NoRoom, RingSpent}
use Rattle.fl_endpoint.specs.Events.{Calls, Writes}
use Rattle.fl_endpoint.specs.Stored.{IsOwn}
use Rattle.fl_codec.specs.declared.codec.Codec.{Codec}
use Rattle.fl_c_operations.specs.Codecs.{AreCodecs}
use Rattle.fl_c_operations.specs.Shorts.{IsOfFew, IsOnlyFrag, IsFragOfTape, IsFragOfNumbers}

-- the calls that are to be sent, the one in transmission before those that wait
abbrev pub calls_left : List Frag → List (List Frag) → List (List Frag)
calls_left [] waiting = waiting
calls_left (f ∷ rest) waiting = (f ∷ rest) ∷ waiting

-- the same of what an end is to send
abbrev pub all_of : TheOutgoing → List (List Frag)
all_of o = calls_left o.unwritten o.waiting

-- the end with other calls to be sent
abbrev pub with_outgoing : TheEnd → TheOutgoing → TheEnd
with_outgoing s o = record s { outgoing = o }

-- the end with a call of one fragment in transmission, behind which all that it is to send waits
abbrev pub transmitting_frag : Frag → TheEnd → TheEnd
transmitting_frag f s = with_outgoing s (begun (f ∷ []) (all_of s.outgoing))

-- the end as it is shown: with that call in transmission, if there is one
abbrev pub transmitting : Option Frag → TheEnd → TheEnd
transmitting None s = s
transmitting (Some f) s = transmitting_frag f s

-- a call of this one fragment may be in transmission: no link changes it, the end is bound, no fragment of what waits behind it is
-- written, and at most 16 calls wait there
pub record Transmits (f : Frag) (s : TheEnd) : Type 0 where
  pub own : IsOwn f
  pub bound : IsSome s.circuit
  pub goes : goes_on (all_of s.outgoing) ≡ s.outgoing
  pub few : length (all_of s.outgoing) ≤ 16

-- the same, where there is one
abbrev pub MayTransmit : Option Frag → TheEnd → Type 0
MayTransmit None s = Unit {0}
MayTransmit (Some f) s = Transmits f s

-- the same, and these are the codecs of the end's program
pub record IsTransmitting (p : Option Frag) (s : TheEnd) (codecs : List (Option Codec)) : Type 0 where
  pub transmits : MayTransmit p s
  pub coded : AreCodecs (program_of s.program) codecs

-- each fitting call is refused for this
abbrev pub RefusesFitting : TheEnd → EndFault → Type 0
RefusesFitting s fault = (c : TheCall) → fits_of (interface_in s) c ≡ true → Calls s c (Err fault) s

-- an end with a rule, at which 16 calls wait behind the one in transmission: it takes no fragment
abbrev pub holds_all : TheEnd → Bool
holds_all s = has_rules s.rules && (length (all_of s.outgoing) == 16)

-- these numbers are a fitting call's, which is this fragment as the end puts it
abbrev pub IsFragFrom : TheEnd → List ℕ → Frag → Type 0
IsFragFrom s numbers f = IsFragOfNumbers (program_of s.program) (number_or_0 s.circuit) numbers f

-- a call of the message has this tape, and this is its only fragment; there is no reply to it by rule; and the interface's counts fit
-- words, as the law asks that no fragments are two calls'
pub record IsShortAt (s : TheEnd) (msg : ℕ) (tape : List ℕ) (f : Frag) : Type 0 where
  pub short : IsFragOfTape (program_of s.program) 0 msg tape f
  pub rule : rule_at s.rules msg ≡ None
  pub words : interface_words_fit (interface_in s) ≡ true

-- this is the only fragment, off circuits, of no fitting call of a message of few numbers to which there is no reply by rule
abbrev pub IsNoShortAt : TheEnd → Frag → Type 0
IsNoShortAt s f = (c : TheCall) → fits_of (interface_in s) c ≡ true → IsOfFew (program_of s.program) c → IsOnlyFrag (program_of s.program) 0 c f
    → rule_at s.rules c.msg ≡ None → ⊥

-- what the write of a call's only fragment comes to
abbrev pub first_written : Sent → Result WriteAnswer EndFault
first_written PutNow = Ok (Written 1 1)
first_written NoRoom = Ok Full
first_written RingSpent = Err Spent

-- the call is refused; or it is accepted, and a write comes to this then
abbrev pub SendsOne : TheEnd → TheSide → TheCall → Result Sent EndFault → TheEnd → TheSide → Type 0
SendsOne s p c (Err fault) t q = Calls s c (Err fault) t × (q ≡ p)
SendsOne s p c (Ok sent) t q = (m : TheEnd) × Calls s c (Ok tt) m × Writes SharedPuts m p (first_written sent) t q
