-- The laws of what labels stand for: what monitors say, and calls' fragments from place to place.
use Rattle.std.specs.Prelude.{ℕ, ◌≡◌, ◌≤◌, ◌<◌, ◌^◌, true, slice_get, Some}
use Rattle.fl_base.specs.declared.fragment.Frag.{Frag}
use Rattle.fl_base.specs.declared.identity.EndId.{EndId}
use Rattle.fl_base.specs.Control.{bare, circuit_of, with_circuit}
use Rattle.fl_interface.specs.Limits.{is_within_limits}
use Rattle.fl_ring.specs.Duo.{acknowledgement}
use Rattle.fl_monitor.specs.declared.message.MonitorMessage.{MonitorMessage}
use Rattle.fl_monitor.specs.Intermon.{HasWidths}
use Rattle.fl_monitor.specs.Saying.{Says, IsAlone}
use Rattle.fl_monitor.specs.Outboxes.{IsFragOf}
use Rattle.fl_model.specs.Calls.{Planned}
use Rattle.fl_model.specs.Rings.{MonitorLabel, Label, next_of, says, acknowledges}
use Rattle.fl_model.specs.State.{Route, Binding, State, binding_of, number_between}
use Rattle.fl_model.specs.Forwarding.{route_of}
use Rattle.fl_model.specs.SoundCalls.{CallsFit}
use Rattle.fl_model.specs.Keeping.{KeepsCalls}
use Rattle.fl_model.specs.Standing.{Routed}
use Rattle.fl_world_refines.specs.Fragments.{frag_of, said_frag, message_of, calls_off_links, calls_between}
use Rattle.fl_world_refines.specs.RingLaws.{IsCarried, AllCarried, GoOn}

-- ---- what monitors say

-- the message is written as its fragment, and read from it whatever its epoch and the count that it tells
pub record IsSaid (m : MonitorLabel) : Type 0 where
  pub written : (f : Frag) → IsFragOf f (message_of m) → f ≡ said_frag m
  pub is : IsFragOf (said_frag m) (message_of m)
  pub carried : IsCarried (said_frag m)
  pub read : (f : Frag) → bare f ≡ said_frag m → Says f (message_of m)
  pub only : (f : Frag) (n : MonitorMessage) → bare f ≡ said_frag m → Says f n → n ≡ message_of m
  pub alone : (f : Frag) → bare f ≡ said_frag m → IsAlone f (message_of m)

-- so is each message whose numbers have their widths
abbrev pub MessagesAreSaid : Type 0
MessagesAreSaid = (m : MonitorLabel) → HasWidths (message_of m) → IsSaid m

-- ---- calls' fragments

-- each interface keeps to the limits of interfaces
abbrev pub InterfacesKeepLimits : State → Type 0
InterfacesKeepLimits s = (n : ℕ) (i : Planned) → slice_get s.interfaces n ≡ Some i → is_within_limits i.interface ≡ true

-- a circuit's numbers have 16 bits, and none is 0
abbrev pub NumbersAreSmall : State → Type 0
NumbersAreSmall s = (n : ℕ) (route : Route) (a b c : ℕ) → Routed s n route → number_between a b route ≡ Some c
    → (1 ≤ c) × (c < 2 ^ 16)

-- the fragments of all calls are carried unchanged, off links and on the link between any two cores
pub record CallsAreCarried (s : State) : Type 0 where
  pub off_links : AllCarried (calls_off_links s)
  pub between : (a b : ℕ) → AllCarried (calls_between a b s)

-- so it is where calls fit, interfaces keep to their limits, and circuits' numbers are small
abbrev pub CallsCarried : Type 0
CallsCarried = (s : State) → CallsFit s → InterfacesKeepLimits s → NumbersAreSmall s → CallsAreCarried s

-- off links a call's fragment is on no circuit
abbrev pub OffLinks : State → Type 0
OffLinks s = (e : EndId) (k : ℕ) (f : Frag) → slice_get (calls_off_links s e) k ≡ Some f → circuit_of f.control ≡ 0

-- a fragment of an end's calls, of this number among them
pub record CallFragment : Type 0 where
  pub end : EndId
  pub number : ℕ
  pub frag : Frag

abbrev pub call_fragment : EndId → ℕ → Frag → CallFragment
call_fragment e k f = record { end = e; number = k; frag = f }

-- such a fragment on the link between two cores, which the end's route joins: it carries the circuit's number there; with
-- another link's number it is the fragment of that number on that link, and with none it is that in the other end's queue
pub record GoesFrom (a b : ℕ) (s : State) (x : CallFragment) (route : Route) : Type 0 where
  pub carries : (n : ℕ) → number_between a b route ≡ Some n → circuit_of x.frag.control ≡ n
  pub arrives : slice_get (calls_off_links s x.end) x.number ≡ Some (with_circuit 0 x.frag)
  pub onward : (c d n : ℕ) → number_between c d route ≡ Some n
      → slice_get (calls_between c d s x.end) x.number ≡ Some (with_circuit n x.frag)

-- so goes each call's fragment on the link between any two cores
abbrev pub GoesOn : State → Type 0
GoesOn s = (a b : ℕ) (x : CallFragment) (binding : Binding) (route : Route) → binding_of s x.end ≡ Some binding
    → route_of binding.back ≡ Some route → slice_get (calls_between a b s x.end) x.number ≡ Some x.frag → GoesFrom a b s x route

-- both are so where calls fit, interfaces keep to their limits, and circuits' numbers are small
abbrev pub CallsGoOn : Type 0
CallsGoOn = (s : State) → CallsFit s → InterfacesKeepLimits s → NumbersAreSmall s → OffLinks s × GoesOn s

-- a call's fragment on the link between two cores: the end's binding has a circuit, whose number there it carries
pub record IsOnLink (a b : ℕ) (s : State) (e : EndId) (f : Frag) : Type 0 where
  pub binding : Binding
  pub binding_is : binding_of s e ≡ Some binding
  pub route : Route
  pub route_is : route_of binding.back ≡ Some route
  pub number : ℕ
  pub number_is : number_between a b route ≡ Some number
  pub some : 1 ≤ number
  pub circuit : circuit_of f.control ≡ number

-- a fragment as it stands keeps its circuit, and is the same fragment with another circuit, once its epoch and the count
-- that it tells are set aside
pub record IsSetAside (f : Frag) : Type 0 where
  pub twice : bare (bare f) ≡ bare f
  pub circuit : circuit_of (bare f).control ≡ circuit_of f.control
  pub another : (n : ℕ) → n < 2 ^ 16 → bare (with_circuit n f) ≡ with_circuit n (bare f)

-- so it is with every fragment
abbrev pub SetsAside : Type 0
SetsAside = (f : Frag) → IsSetAside f

-- so by its circuit a fragment on a link is told to be a call's, or what a monitor says
abbrev pub TellsKind : ℕ → ℕ → State → Label → Frag → Type 0
TellsKind a b s (next_of e k) f = IsOnLink a b s e f
TellsKind a b s (says m) f = (f ≡ said_frag m) × (circuit_of f.control ≡ 0)
TellsKind a b s acknowledges f = f ≡ acknowledgement

-- so it is with each label that stands for a fragment on the link between two cores
abbrev pub LinksTell : Type 0
LinksTell = (s : State) → CallsFit s → InterfacesKeepLimits s → NumbersAreSmall s → (a b : ℕ) (label : Label) (f : Frag)
    → frag_of (calls_between a b s) label ≡ Some f → TellsKind a b s label f

-- ---- while the state goes on

-- as each step keeps calls and numbers, each label stands for the same fragment still
pub record SameFragments (s t : State) : Type 0 where
  pub off_links : GoOn (calls_off_links s) (calls_off_links t)
  pub between : (a b : ℕ) → GoOn (calls_between a b s) (calls_between a b t)

-- so it is wherever interfaces, accepted calls and circuits' numbers are kept
abbrev pub LabelsStay : Type 0
LabelsStay = (s t : State) → KeepsCalls s t → SameFragments s t
