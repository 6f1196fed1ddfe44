-- An outbox: the fragments of the messages that a monitor is to send over one link, the first to be sent first.
use Rattle.std.specs.Prelude.{◌≡◌, ◌<◌, ◌≤◌, List, [], ◌∷◌, ◌++◌, length, Result, Ok, Err}
use Rattle.fl_base.specs.declared.fragment.Frag.{Frag}
use Rattle.fl_value_data.specs.declared.value.PlanNo.TheVariants.{One}
use Rattle.fl_wire.specs.Payload.{frags_of}
use Rattle.fl_monitor.specs.declared.message.MonitorMessage.{MonitorMessage}
use Rattle.fl_monitor.specs.declared.fault.MonitorFault.{MonitorFault}
use Rattle.fl_monitor.specs.declared.fault.MonitorFault.TheVariants.{OutboxFull}
use Rattle.fl_monitor.specs.Intermon.{intermon, call_for, HasWidths}

-- the fragment is that of the message: on circuit 0, with epoch 0 and nothing told
pub record IsFragOf (f : Frag) (m : MonitorMessage) : Type 0 where
  pub widths : HasWidths m
  pub written : f ∷ [] ≡ frags_of One intermon (call_for m)

-- the fragment is that of some message
abbrev pub IsSomeFrag : Frag → Type 0
IsSomeFrag f = (m : MonitorMessage) × IsFragOf f m

-- the fragments are those of the messages, one for one
abbrev pub AreFragsOf : List Frag → List MonitorMessage → Type 0
AreFragsOf [] [] = Unit {0}
AreFragsOf (f ∷ frags) (m ∷ messages) = IsFragOf f m × AreFragsOf frags messages
AreFragsOf frags messages = ⊥

-- what is known of an outbox at any time: at most 64 fragments, each that of a message
pub record IsOutbox (frags : List Frag) : Type 0 where
  pub few : length frags ≤ 64
  pub messages : List MonitorMessage
  pub are : AreFragsOf frags messages

-- a fragment more, the last; it is refused where 64 wait, and nothing changes then
abbrev pub Puts : List Frag → Frag → Result (Unit {0}) MonitorFault → List Frag → Type 0
Puts s f (Ok done) t = (length s < 64) × (t ≡ s ++ f ∷ [])
Puts s f (Err OutboxFull) t = (length s ≡ 64) × (t ≡ s)
Puts s f (Err fault) t = ⊥

-- ---- laws

-- no two lists of messages have these fragments
abbrev pub OneListOfMessages : Type 0
OneListOfMessages = (frags : List Frag) (ms ns : List MonitorMessage) → AreFragsOf frags ms → AreFragsOf frags ns → ms ≡ ns

-- with a fragment more there is its message more
abbrev pub PutIsOneMore : Type 0
PutIsOneMore = (frags : List Frag) (ms : List MonitorMessage) (f : Frag) (m : MonitorMessage)
    → AreFragsOf frags ms → IsFragOf f m → AreFragsOf (frags ++ f ∷ []) (ms ++ m ∷ [])

-- without the first fragment there are the messages without the first
abbrev pub SentIsOneLess : Type 0
SentIsOneLess = (f : Frag) (frags : List Frag) (ms : List MonitorMessage) → AreFragsOf (f ∷ frags) ms
    → (m : MonitorMessage) × (rest : List MonitorMessage) × (ms ≡ m ∷ rest) × IsFragOf f m × AreFragsOf frags rest
