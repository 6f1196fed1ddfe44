-- Sound states: the waitsets' lists, and what is limited.
use Rattle.std.specs.Prelude.{ℕ, ◌≡◌, ◌≢◌, ◌≤◌, true, [], length, slice_get, Some}
use Rattle.std.specs.Prelude.{IsSome, IsNone}
use Rattle.fl_base.specs.declared.identity.EndId.{EndId}
use Rattle.fl_lists.specs.declared.place.Place.{Place}
use Rattle.fl_lists.specs.declared.place.Place.TheVariants.{Idle, Polled, Pending}
use Rattle.fl_lists.specs.ThreeLists.{list_at, is_in, IsApart}
use Rattle.fl_model.specs.Events.{DispatcherId}
use Rattle.fl_model.specs.Rings.{Label, next_of, RingLabel, RingEnd, Ring, first_for, written_by}
use Rattle.fl_model.specs.Calls.{Planned}
use Rattle.fl_model.specs.Ends.{Queue, End, is_busy}
use Rattle.fl_model.specs.Waits.{Dispatcher, most_ends}
use Rattle.fl_model.specs.Monitors.{Core, Link}
use Rattle.fl_model.specs.State.{Binding, State, core_of, dispatcher_of, interface_of, end_in, end_of}
use Rattle.fl_model.specs.State.{own_ring}

-- no channel twice in a waitset's lists, and each of them an end's
pub record ListsStand (d : Dispatcher) : Type 0 where
  pub size : d.lists.size ≡ most_ends
  pub few : length d.ends ≤ most_ends
  pub apart : IsApart d.lists
  pub ends : (place : Place) (c : ℕ) → is_in c (list_at d.lists place) ≡ true → IsSome (slice_get d.ends c)

abbrev pub WaitsetsStand : State → Type 0
WaitsetsStand s = (d : DispatcherId) (x : Dispatcher) → dispatcher_of s d ≡ Some x → ListsStand x

-- a channel in this list of a dispatcher, with its end
pub record Listed (s : State) (place : Place) (e : EndId) (b : Binding) : Type 0 where
  pub at : DispatcherId
  pub dispatcher : Dispatcher
  pub dispatcher_is : dispatcher_of s at ≡ Some dispatcher
  pub channel : ℕ
  pub listed : is_in channel (list_at dispatcher.lists place) ≡ true
  pub end_is : slice_get dispatcher.ends channel ≡ Some e
  pub binding_is : slice_get s.bindings e.binding ≡ Some b

-- polled are rings' ends alone, and none of these is idle
abbrev pub KindFits : Place → End → Type 0
KindFits Idle x = IsSome x.queue
KindFits Polled x = IsNone x.queue
KindFits Pending x = Unit {0}

-- a registered channel is of a bound end
abbrev pub ListedAreBound : State → Type 0
ListedAreBound s = (place : Place) (e : EndId) (b : Binding) → Listed s place e b
    → IsSome (end_in e.side b).circuit × KindFits place (end_in e.side b)

-- ---- a pending channel has a fragment

-- a fragment of a call, whichever end makes that
abbrev pub IsOfCall : Label → Type 0
IsOfCall label = (e : EndId) × ((k : ℕ) × (label ≡ next_of e k))

-- on a ring it is a call's, and it was looked at: what it tells is known
pub record RingWasLooked (s : State) (at : RingEnd) : Type 0 where
  pub ring : Ring
  pub ring_is : slice_get s.rings at.ring ≡ Some ring
  pub first : RingLabel
  pub first_is : first_for at.side ring ≡ Some first
  pub call : IsOfCall first.label
  pub known : (written_by at.side ring).known ≡ first.told

abbrev pub PendingRingsWereLookedAt : State → Type 0
PendingRingsWereLookedAt s = (e : EndId) (b : Binding) (at : RingEnd) → Listed s Pending e b
    → own_ring e.side b.back ≡ Some at → RingWasLooked s at

-- and in a queue something stands
abbrev pub PendingQueuesHold : State → Type 0
PendingQueuesHold s = (e : EndId) (b : Binding) (q : Queue) → Listed s Pending e b
    → (end_in e.side b).queue ≡ Some q → q.labels ≢ []

-- ---- limits

abbrev pub FewRepliesWait : State → Type 0
FewRepliesWait s = (e : EndId) (x : End) → end_of s e ≡ Some x → length x.out.waiting ≤ 16

-- replies wait only while the end is busy
abbrev pub RepliesWaitWhereBusy : State → Type 0
RepliesWaitWhereBusy s = (e : EndId) (b : Binding) (i : Planned) → slice_get s.bindings e.binding ≡ Some b
    → interface_of s b ≡ Some i → (end_in e.side b).out.waiting ≢ [] → is_busy i (end_in e.side b).out ≡ true

-- no queue holds more than its slots; it may be full
abbrev pub QueuesHaveRoom : State → Type 0
QueuesHaveRoom s = (e : EndId) (x : End) (q : Queue) → end_of s e ≡ Some x → x.queue ≡ Some q
    → length q.labels ≤ q.capacity

-- no outbox holds more than 64 messages; it may be full
abbrev pub OutboxesHaveRoom : State → Type 0
OutboxesHaveRoom s = (n l : ℕ) (k : Core) (link : Link) → core_of s n ≡ Some k
    → slice_get k.links l ≡ Some link → length link.outbox ≤ 64

-- while the number of cores may be set, there is nothing but cores and interfaces
pub record IsBare (s : State) : Type 0 where
  pub rings : s.rings ≡ []
  pub services : s.services ≡ []
  pub bindings : s.bindings ≡ []
  pub links : (n : ℕ) (k : Core) → core_of s n ≡ Some k → k.links ≡ []
  pub dispatchers : (n : ℕ) (k : Core) → core_of s n ≡ Some k → k.dispatchers ≡ []

abbrev pub BareUntilCoresAreSet : State → Type 0
BareUntilCoresAreSet s = s.may_set_cores ≡ true → IsBare s
