-- What fragments say between monitors, and why one is refused.
use Rattle.std.specs.Prelude.{◌≡◌, ◌↔◌, true, false, List, [], ◌∷◌}
use Rattle.fl_base.specs.declared.fragment.Frag.{Frag}
use Rattle.fl_base.specs.Control.{first_of, message_of, circuit_of, is_ack_only, bare}
use Rattle.fl_value_data.specs.Value.{TheCall}
use Rattle.fl_value_data.specs.Fits.{fits_of}
use Rattle.fl_value_data.specs.declared.value.PlanNo.TheVariants.{One}
use Rattle.fl_layout.specs.Places.{count}
use Rattle.fl_wire.specs.Payload.{frags_of}
use Rattle.fl_wire.specs.Reading.{Means, IsPart, IsWrong}
use Rattle.fl_wire.specs.Wrong.{HasFault}
use Rattle.fl_wire.specs.declared.fault.WireFault.{WireFault}
use Rattle.fl_wire.specs.declared.fault.WireFault.TheVariants.{Memory}
use Rattle.fl_monitor.specs.declared.message.MonitorMessage.{MonitorMessage}
use Rattle.fl_monitor.specs.Intermon.{intermon, call_for, HasWidths}

-- the fragment says the message, whatever its epoch and the count that it tells: on circuit 0 it means the message's call
pub record Says (f : Frag) (m : MonitorMessage) : Type 0 where
  pub widths : HasWidths m
  pub means : Means One intermon (f ∷ []) (call_for m) 0

-- why a fragment isn't read: it says no message, and this is its first fault
abbrev pub Refuses : Frag → WireFault → Type 0
Refuses f Memory = ⊥
Refuses f fault = HasFault One intermon [] f fault × IsWrong One intermon (f ∷ [])

-- ---- laws

-- a message's call fits exactly where its numbers have their widths
abbrev pub FitsByWidths : Type 0
FitsByWidths = (m : MonitorMessage) → HasWidths m ↔ (fits_of intermon (call_for m) ≡ true)

-- each call that fits is that of a message
abbrev pub EachCallIsAMessage : Type 0
EachCallIsAMessage = (c : TheCall) → fits_of intermon c ≡ true → (m : MonitorMessage) × HasWidths m × (call_for m ≡ c)

-- no two messages have one call
abbrev pub OneMessageACall : Type 0
OneMessageACall = (m n : MonitorMessage) → call_for m ≡ call_for n → m ≡ n

-- each call has one fragment
abbrev pub EachTakesOneFragment : Type 0
EachTakesOneFragment = (c : TheCall) → fits_of intermon c ≡ true → count One intermon c ≡ 1

-- so no fragment leaves a call under way
abbrev pub NoneIsPart : Type 0
NoneIsPart = (f : Frag) (frags : List Frag) → IsPart One intermon (f ∷ frags) → ⊥

-- no fragment says two messages
abbrev pub SaysNoOther : Type 0
SaysNoOther = (f : Frag) (m n : MonitorMessage) → Says f m → Says f n → m ≡ n

-- a message's fragment says it
abbrev pub SaysWhatIsWritten : Type 0
SaysWhatIsWritten = (f : Frag) (m : MonitorMessage) → HasWidths m → f ∷ [] ≡ frags_of One intermon (call_for m) → Says f m

-- another epoch and another count told change neither what a fragment says nor why it is refused
abbrev pub SaysTheSame : Type 0
SaysTheSame = (f g : Frag) (m : MonitorMessage) → bare g ≡ bare f → Says f m → Says g m

abbrev pub RefusedTheSame : Type 0
RefusedTheSame = (f g : Frag) (fault : WireFault) → bare g ≡ bare f → Refuses f fault → Refuses g fault

-- a fragment that isn't read is refused for one reason
abbrev pub RefusedForOne : Type 0
RefusedForOne = (f : Frag) (one other : WireFault) → Refuses f one → Refuses f other → one ≡ other

-- what the control word of a saying fragment shows: the first of a message, on circuit 0, that doesn't only acknowledge
pub record IsAlone (f : Frag) (m : MonitorMessage) : Type 0 where
  pub first : first_of f.control ≡ true
  pub number : message_of f.control ≡ (call_for m).msg
  pub circuit : circuit_of f.control ≡ 0
  pub no_ack : is_ack_only f ≡ false

abbrev pub SaysAlone : Type 0
SaysAlone = (f : Frag) (m : MonitorMessage) → Says f m → IsAlone f m
