-- The laws of rings and queues: whatever a side of a ring, or a queue, comes to, where it was what is shown of the
-- machine's before, it is what is shown of what the machine makes of that, which finds the same room and the same label.
use Rattle.std.specs.Prelude.{ℕ, ◌≡◌, ◌⊎◌, ◌%◌, Bool, true, false, [], slice_get, Some, None}
use Rattle.fl_base.specs.declared.fragment.Frag.{Frag}
use Rattle.fl_base.specs.declared.identity.EndId.{EndId}
use Rattle.fl_base.specs.Control.{bare, is_ack_only}
use Rattle.fl_link.specs.Cursor.{epoch_at}
use Rattle.fl_link.specs.Looks.{Look, placed, no_room, spent, saw, saw_ack, found, found_ack, missed, told, kept}
use Rattle.fl_link.specs.Queue.{TheQueue, QueuePuts, QueueTakes}
use Rattle.fl_ring.specs.Duo.{TheDuo, DuoPuts, DuoTakes, side_of, got, new_half}
use Rattle.fl_model.specs.Rings.{Label, next_of, says, acknowledges, RingLabel, Ring, RingSide, written_by, read_by}
use Rattle.fl_model.specs.Rings.{first_for, looks, makes_sure, puts, takes, owes}
use Rattle.fl_model.specs.Rings.{Room, room, there_is_room, no_room as none_free, spent as used_up, for_data, for_acknowledgement, fresh_ring}
use Rattle.fl_model.specs.Ends.{Queue, fresh_queue, joined_by, without_first, queue_room}
use Rattle.fl_model.specs.SoundRings.{RingCounts, RingFits}
use Rattle.fl_model.specs.Sending.{epoch_next}
use Rattle.fl_world_refines.specs.Fragments.{Streams, frag_of, MayBeSaid}
use Rattle.fl_world_refines.specs.Queues.{QueueShows}
use Rattle.fl_world_refines.specs.Rings.{which_of, RingShows}

-- ---- calls' fragments

-- a link carries it unchanged, and takes it for no acknowledgement
pub record IsCarried (f : Frag) : Type 0 where
  pub is_bare : bare f ≡ f
  pub no_ack : is_ack_only f ≡ false

-- each fragment of each end's calls is carried so
abbrev pub AllCarried : Streams → Type 0
AllCarried streams = (e : EndId) (k : ℕ) (f : Frag) → slice_get (streams e) k ≡ Some f → IsCarried f

-- whichever fragment a label stands for, it still does, as where more calls were accepted
abbrev pub GoOn : Streams → Streams → Type 0
GoOn streams more = (label : Label) (f : Frag) → frag_of streams label ≡ Some f → frag_of more label ≡ Some f

-- ---- rings

-- the label belongs to a call or to the monitors
abbrev pub is_data : Label → Bool
is_data (next_of e k) = true
is_data (says m) = true
is_data acknowledges = false

-- this label stands first for a side, for this fragment
pub record IsFirst (streams : Streams) (side : RingSide) (r : Ring) (f : Frag) : Type 0 where
  pub first : RingLabel
  pub there : first_for side r ≡ Some first
  pub kind : is_data first.label ≡ true
  pub frag : frag_of streams first.label ≡ Some f
  pub said : MayBeSaid first.label

-- a label that only acknowledges does
pub record IsAcknowledged (side : RingSide) (r : Ring) : Type 0 where
  pub first : RingLabel
  pub there : first_for side r ≡ Some first
  pub acks : first.label ≡ acknowledges

-- the ring once a side has looked, to put a call's or the monitors' label, or an acknowledgement
abbrev pub sure_for_data : RingSide → Ring → Ring
sure_for_data side r = makes_sure for_data side r

abbrev pub sure_to_acknowledge : RingSide → Ring → Ring
sure_to_acknowledge side r = makes_sure for_acknowledgement side r

-- and the room that it finds then
abbrev pub room_for_data : RingSide → Ring → Room
room_for_data side r = room for_data side (sure_for_data side r)

abbrev pub room_to_acknowledge : RingSide → Ring → Room
room_to_acknowledge side r = room for_acknowledgement side (sure_to_acknowledge side r)

-- a put of this label's fragment, by what it came to
abbrev pub PutAgrees : Streams → RingSide → Label → Ring → Look → TheDuo → Type 0
PutAgrees streams side label r (placed f) t =
    (room_for_data side r ≡ there_is_room) × RingShows streams (puts side label (sure_for_data side r)) t
PutAgrees streams side label r no_room t = (room_for_data side r ≡ none_free) × RingShows streams (sure_for_data side r) t
PutAgrees streams side label r spent t = (room_for_data side r ≡ used_up) × RingShows streams (sure_for_data side r) t
PutAgrees streams side label r look t = ⊥

-- the fragment that was placed, if one was, is that for which the label stands
abbrev pub IsPutOf : Streams → Label → Look → Type 0
IsPutOf streams label look = (f : Frag) → look ≡ placed f → frag_of streams label ≡ Some (bare f)

-- so it is at either side of a ring whose counts are in order
abbrev pub RingPuts : Type 0
RingPuts = (streams : Streams) (side : RingSide) (label : Label) (r : Ring) (s t : TheDuo) (look : Look)
    → RingShows streams r s → RingCounts r → RingFits r → MayBeSaid label → IsPutOf streams label look
    → DuoPuts (which_of side) s look t → PutAgrees streams side label r look t

-- a look, a take or a tell, by what it came to; a take knows what a look would have told it
abbrev pub TakeAgrees : Streams → RingSide → Ring → Look → TheDuo → Type 0
TakeAgrees streams side r (saw f) t = IsFirst streams side r f × RingShows streams (looks side r) t
TakeAgrees streams side r saw_ack t = IsAcknowledged side r × RingShows streams (looks side r) t
TakeAgrees streams side r (found f) t = IsFirst streams side r f × RingShows streams (takes side (looks side r)) t
TakeAgrees streams side r found_ack t = IsAcknowledged side r × RingShows streams (takes side (looks side r)) t
TakeAgrees streams side r missed t = (first_for side r ≡ None) × RingShows streams r t
TakeAgrees streams side r told t =
    (owes side r ≡ true) × (room_to_acknowledge side r ≡ there_is_room)
    × RingShows streams (puts side acknowledges (sure_to_acknowledge side r)) t
TakeAgrees streams side r kept t = (owes side r ≡ false) × RingShows streams r t
TakeAgrees streams side r no_room t =
    (owes side r ≡ true) × ((room_to_acknowledge side r ≡ none_free) ⊎ (room_to_acknowledge side r ≡ used_up))
    × RingShows streams (sure_to_acknowledge side r) t
TakeAgrees streams side r look t = ⊥

-- so it is at either side of a ring whose counts are in order, where links carry the calls' fragments
abbrev pub RingTakes : Type 0
RingTakes = (streams : Streams) (side : RingSide) (r : Ring) (s t : TheDuo) (look : Look)
    → RingShows streams r s → RingCounts r → RingFits r → AllCarried streams
    → DuoTakes (which_of side) s look t → TakeAgrees streams side r look t

-- the epoch and the number with which a side would write next
pub record Stamps (side : RingSide) (r : Ring) (s : TheDuo) : Type 0 where
  pub epoch : epoch_next side r ≡ epoch_at s.size (side_of (which_of side) s).sent
  pub number : (read_by side r).read % 65536 ≡ got (side_of (which_of side) s) % 65536

-- so it is at either side of a ring that is what is shown of the machine's
abbrev pub RingStamps : Type 0
RingStamps = (streams : Streams) (side : RingSide) (r : Ring) (s : TheDuo) → RingShows streams r s → Stamps side r s

-- once looked at, a ring isn't changed by another look
abbrev pub LooksOnce : Type 0
LooksOnce = (side : RingSide) (r : Ring) (l : RingLabel) → first_for side r ≡ Some l
    → (written_by side r).known ≡ l.told → looks side r ≡ r

-- ---- queues

-- a put of this label's fragment, by what it came to
abbrev pub QueuePutAgrees : Streams → Label → Queue → Look → TheQueue → Type 0
QueuePutAgrees streams label q (placed f) t = (queue_room q ≡ there_is_room) × QueueShows streams (joined_by label q) t
QueuePutAgrees streams label q no_room t = (queue_room q ≡ none_free) × QueueShows streams q t
QueuePutAgrees streams label q look t = ⊥

-- so it is with each queue that is what is shown of the machine's
abbrev pub QueuePutShows : Type 0
QueuePutShows = (streams : Streams) (label : Label) (q : Queue) (s t : TheQueue) (look : Look)
    → QueueShows streams q s → IsPutOf streams label look
    → QueuePuts s look t → QueuePutAgrees streams label q look t

-- this label stands first, for this fragment
pub record StandsFirst (streams : Streams) (q : Queue) (f : Frag) : Type 0 where
  pub first : Label
  pub there : slice_get q.labels 0 ≡ Some first
  pub kind : is_data first ≡ true
  pub frag : frag_of streams first ≡ Some f

-- labels of calls and of messages stand there, and no acknowledgement
abbrev pub HoldsCalls : Queue → Type 0
HoldsCalls q = (n : ℕ) (label : Label) → slice_get q.labels n ≡ Some label → is_data label ≡ true

-- a look or a take, by what it came to; a queue has nothing to tell, and stays
abbrev pub QueueTakeAgrees : Streams → Queue → Look → TheQueue → Type 0
QueueTakeAgrees streams q (saw f) t = StandsFirst streams q f × QueueShows streams q t
QueueTakeAgrees streams q (found f) t = StandsFirst streams q f × QueueShows streams (without_first q) t
QueueTakeAgrees streams q missed t = (slice_get q.labels 0 ≡ None) × QueueShows streams q t
QueueTakeAgrees streams q kept t = QueueShows streams q t
QueueTakeAgrees streams q look t = ⊥

-- so it is with each queue in which no acknowledgement stands
abbrev pub QueueTakeShows : Type 0
QueueTakeShows = (streams : Streams) (q : Queue) (s t : TheQueue) (look : Look)
    → QueueShows streams q s → AllCarried streams → HoldsCalls q
    → QueueTakes s look t → QueueTakeAgrees streams q look t

-- ---- new rings and queues

-- a new ring and a new queue show the machine's, whatever they will carry
pub record NewShow : Type 0 where
  pub ring : (streams : Streams) (size : ℕ) → RingShows streams (fresh_ring size) (record { size = size; one = new_half; two = new_half })
  pub queue : (streams : Streams) (capacity : ℕ)
      → QueueShows streams (fresh_queue capacity) (record { items = []; unacknowledged = 0; sent = 0; capacity = capacity; acked = false })

-- ---- while calls are accepted

-- what is a what is shown by the fragments of some calls is one by those of more
pub record StillShow (streams more : Streams) : Type 0 where
  pub rings : (r : Ring) (s : TheDuo) → RingShows streams r s → RingShows more r s
  pub queues : (q : Queue) (s : TheQueue) → QueueShows streams q s → QueueShows more q s

-- so it is where each label that stood for a fragment stands for it still
abbrev pub ShowingsGoOn : Type 0
ShowingsGoOn = (streams more : Streams) → GoOn streams more → StillShow streams more
