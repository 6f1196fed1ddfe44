-- The laws of ends: whatever an end is asked, where it was what is shown of the machine's end before, it is the
-- what is shown of what the machine makes of that, and it answers as the machine does. No event of the machine is
-- refused as out of memory: an end that is stays as it was.
use Rattle.std.specs.Prelude.{ℕ, ◌≡◌, ◌≢◌, ◌≤◌, ◌&&◌, Bool, true, false, length, slice_get, Option, Some, None, Result, Ok, Err}
use Rattle.fl_base.specs.declared.fragment.Frag.{Frag}
use Rattle.fl_base.specs.declared.identity.EndId.{EndId}
use Rattle.fl_base.specs.Control.{bare, stamped}
use Rattle.fl_value_data.specs.Value.{TheCall, call_of}
use Rattle.fl_compile.specs.declared.program.Program.{Program}
use Rattle.fl_link.specs.Looks.{Look, placed, no_room, spent, saw, saw_ack, found, found_ack, missed}
use Rattle.fl_endpoint.specs.declared.fault.EndFault.{EndFault}
use Rattle.fl_endpoint.specs.declared.fault.EndFault.TheVariants.{Spent, NotBound, UnknownMessage, Misfit, Memory}
use Rattle.fl_endpoint.specs.declared.answer.WriteAnswer.{WriteAnswer}
use Rattle.fl_endpoint.specs.declared.answer.WriteAnswer.TheVariants.{Written, Full, Nothing}
use Rattle.fl_endpoint.specs.declared.answer.ReceiveAnswer.{ReceiveAnswer}
use Rattle.fl_endpoint.specs.declared.answer.ReceiveAnswer.TheVariants.{Handle, Part, Quiet, Empty, HeldBack}
use Rattle.fl_endpoint.specs.Faults.{fault_number}
use Rattle.fl_endpoint.specs.View.{TheEnd, fresh, bound}
use Rattle.fl_endpoint.specs.Events.{Calls, Writes, ShowsNext, TakesIn, Receives, SetsRule}
use Rattle.fl_endpoint.specs.Accounts.{Sound}
use Rattle.fl_model.specs.Events.{accepted, full, written, refused}
use Rattle.fl_model.specs.Rings.{Room, there_is_room, no_room as none_free, spent as used_up}
use Rattle.fl_model.specs.Calls.{Planned, total, stream}
use Rattle.fl_model.specs.Ends.{Queue, Direction, last_station, taken_of, is_busy, accepts, passes, writes, End, is_bound}
use Rattle.fl_model.specs.Ends.{accepts_or_waits, fresh_direction, unbound_end, with_rule, holds_back, whole, a_part, takes_one}
use Rattle.fl_model.specs.Ends.{comes_to, replies}
use Rattle.fl_model.specs.State.{State, answers, change_out}
use Rattle.fl_model.specs.Sending.{makes_call, next_fragment}
use Rattle.fl_interface.specs.SameTypes.{same_arguments}
use Rattle.fl_model.specs.Taking.{has_message, arguments_of}
use Rattle.fl_model.specs.SoundLabels.{IsCounted}
use Rattle.fl_model.specs.SoundCalls.{AllFit}
use Rattle.fl_world_refines.specs.Ends.{planned_of, parts_of, EndShows, MachineEnd, ShowsMachineEnd}

-- the end with something done to its direction
abbrev pub with_out : (Direction → Direction) → End → End
with_out f x = record x { out = f x.out }

-- ---- a new end

-- a new end is what is shown of one that isn't bound, before any call is accepted at either end
abbrev pub FreshShows : Type 0
FreshShows = (program : Program) (stations : ℕ) (queue : Option Queue) (i : Planned) → planned_of program ≡ i
    → EndShows i (unbound_end (length i.interface.messages) stations queue) (fresh_direction stations) (fresh program None)

-- an end that isn't bound has nothing to send, whatever its circuit will be
abbrev pub BoundShows : Type 0
BoundShows = (i : Planned) (x : End) (peer : Direction) (s : TheEnd) (circuit : ℕ) → EndShows i x peer s → Sound s
    → x.circuit ≡ None → EndShows i (record x { circuit = Some circuit }) peer (bound s circuit)

-- ---- a call

-- the call is accepted or refused as by the machine; out of memory the end is as it was
abbrev pub CallAgrees : EndId → TheCall → MachineEnd → Result (Unit {0}) EndFault → TheEnd → Type 0
CallAgrees e c m (Ok done) t =
    ((z : State) → makes_call e c m.interface m.end z ≡ answers (change_out e (accepts c) z) accepted)
    × EndShows m.interface (with_out (accepts c) m.end) m.peer t
CallAgrees e c m (Err Memory) t = ShowsMachineEnd m t
CallAgrees e c m (Err fault) t =
    ((z : State) → makes_call e c m.interface m.end z ≡ answers z (refused (fault_number fault))) × ShowsMachineEnd m t

-- so it is with each call that an end is asked to make
abbrev pub CallShows : Type 0
CallShows = (e : EndId) (c : TheCall) (m : MachineEnd) (s t : TheEnd) (answer : Result (Unit {0}) EndFault)
    → ShowsMachineEnd m s → IsCounted m.interface m.end.out → Calls s c answer t → CallAgrees e c m answer t

-- ---- the fragment that would be written next

-- the machine's next fragment, in this epoch and telling this count; none where all is written
abbrev pub NextAgrees : ℕ → ℕ → Planned → End → Result (Option Frag) EndFault → Type 0
NextAgrees epoch told i x (Ok (Some frag)) =
    (is_bound x ≡ true) × ((f : Frag) × (next_fragment i x ≡ Some f) × (frag ≡ stamped f epoch told))
NextAgrees epoch told i x (Ok None) = (is_bound x ≡ true) × (next_fragment i x ≡ None)
NextAgrees epoch told i x (Err NotBound) = is_bound x ≡ false
NextAgrees epoch told i x (Err fault) = ⊥

-- so it is with each end, whatever the epoch and the count
abbrev pub NextShows : Type 0
NextShows = (epoch told : ℕ) (i : Planned) (x : End) (peer : Direction) (s : TheEnd) (answer : Result (Option Frag) EndFault)
    → EndShows i x peer s → ShowsNext epoch told s answer → NextAgrees epoch told i x answer

-- ---- a write

-- bound, and with a fragment to write
abbrev pub HasMore : Planned → End → Type 0
HasMore i x = (is_bound x ≡ true) × (is_busy i x.out ≡ true)

-- what is put is the next fragment of all the end's calls; what is answered, the machine's number of how many
abbrev pub WriteAgrees : {P : Type 0} → (P → Look → P → Type 0) → MachineEnd → P → Result WriteAnswer EndFault → TheEnd → P → Type 0
WriteAgrees puts m p (Ok (Written number count)) t q =
    HasMore m.interface m.end × ((f : Frag) × (next_fragment m.interface m.end ≡ Some f) × puts p (placed f) q)
    × ((writes m.interface m.end.out there_is_room).answer ≡ written number count)
    × EndShows m.interface (with_out (λ d. (writes m.interface d there_is_room).direction) m.end) m.peer t
WriteAgrees puts m p (Ok Full) t q =
    HasMore m.interface m.end × puts p no_room q × ((writes m.interface m.end.out none_free).answer ≡ full) × ShowsMachineEnd m t
WriteAgrees puts m p (Ok Nothing) t q =
    (is_bound m.end ≡ true) × (is_busy m.interface m.end.out ≡ false) × (q ≡ p) × ShowsMachineEnd m t
WriteAgrees puts m p (Err Spent) t q =
    HasMore m.interface m.end × puts p spent q × ((writes m.interface m.end.out used_up).answer ≡ refused (fault_number Spent)) × ShowsMachineEnd m t
WriteAgrees puts m p (Err NotBound) t q = (is_bound m.end ≡ false) × (q ≡ p) × ShowsMachineEnd m t
WriteAgrees puts m p (Err fault) t q = ⊥

-- so it is with each end that writes over a side of this kind
abbrev pub WriteShows : {P : Type 0} → (P → Look → P → Type 0) → Type 0
WriteShows {P} puts = (m : MachineEnd) (p q : P) (s t : TheEnd) (answer : Result WriteAnswer EndFault)
    → ShowsMachineEnd m s → IsCounted m.interface m.end.out → 1 ≤ length m.end.out.passed
    → Writes puts s p answer t q → WriteAgrees puts m p answer t q

-- ---- a fragment is taken

-- by the fragment next in turn of the other end's calls; none is ever a wiring fault
abbrev pub TakeAgrees : Planned → End → Direction → Result ReceiveAnswer EndFault → TheEnd → Type 0
TakeAgrees i x peer (Ok Part) t = (comes_to i peer ≡ a_part) × EndShows i x (takes_one peer) t
TakeAgrees i x peer (Ok (Handle call)) t =
    (comes_to i peer ≡ whole (call_of call)) × EndShows i (replies i (whole (call_of call)) x) (takes_one peer) t
TakeAgrees i x peer (Err Memory) t = EndShows i x peer t
TakeAgrees i x peer answer t = ⊥

-- so it is where the end takes in the fragment next in turn, its epoch and count set aside
abbrev pub TakeShows : Type 0
TakeShows = (i : Planned) (x : End) (peer : Direction) (f : Frag) (s t : TheEnd) (answer : Result ReceiveAnswer EndFault)
    → EndShows i x peer s → Sound s → IsCounted i x.out → AllFit i peer.accepted → 1 ≤ length peer.passed
    → bare f ≡ f → slice_get (stream 0 i peer.accepted) (taken_of peer) ≡ Some f
    → TakesIn s f answer t → TakeAgrees i x peer answer t

-- what stands first at the side from which the end takes, where a fragment of a call does, is the one next in turn
abbrev pub IsNextAt : {T : Type 0} → (T → Look → T → Type 0) → Planned → Direction → T → Type 0
IsNextAt {T} takes i peer p = (f : Frag) (q : T) → takes p (saw f) q → slice_get (stream 0 i peer.accepted) (taken_of peer) ≡ Some f

-- bound, and it takes fragments
abbrev pub TakesFragments : End → Type 0
TakesFragments x = (is_bound x ≡ true) × (holds_back x ≡ false)

-- by what is answered; nothing is taken where the end holds back, isn't bound, or is out of memory
abbrev pub ReceiveAgrees : {T : Type 0} → (T → Look → T → Type 0) → MachineEnd → T → Result ReceiveAnswer EndFault → TheEnd → T → Type 0
ReceiveAgrees {T} takes m p (Ok Part) t q =
    TakesFragments m.end × ((f : Frag) × (looked : T) × takes p (saw f) looked × takes looked (found f) q)
    × TakeAgrees m.interface m.end m.peer (Ok Part) t
ReceiveAgrees {T} takes m p (Ok (Handle call)) t q =
    TakesFragments m.end × ((f : Frag) × (looked : T) × takes p (saw f) looked × takes looked (found f) q)
    × TakeAgrees m.interface m.end m.peer (Ok (Handle call)) t
ReceiveAgrees {T} takes m p (Ok Quiet) t q =
    TakesFragments m.end × ((looked : T) × takes p saw_ack looked × takes looked found_ack q) × ShowsMachineEnd m t
ReceiveAgrees takes m p (Ok Empty) t q = TakesFragments m.end × takes p missed q × ShowsMachineEnd m t
ReceiveAgrees takes m p (Ok HeldBack) t q = (is_bound m.end ≡ true) × (holds_back m.end ≡ true) × (q ≡ p) × ShowsMachineEnd m t
ReceiveAgrees takes m p (Err Memory) t q = TakesFragments m.end × ((f : Frag) × takes p (saw f) q) × ShowsMachineEnd m t
ReceiveAgrees takes m p (Err NotBound) t q = (is_bound m.end ≡ false) × (q ≡ p) × ShowsMachineEnd m t
ReceiveAgrees takes m p (Err fault) t q = ⊥

-- so it is over a side of this kind, where what stands first is the fragment next in turn
abbrev pub ReceiveShows : {T : Type 0} → (T → Look → T → Type 0) → Type 0
ReceiveShows {T} takes = (m : MachineEnd) (p q : T) (s t : TheEnd) (answer : Result ReceiveAnswer EndFault)
    → ShowsMachineEnd m s → Sound s → IsCounted m.interface m.end.out → length m.end.out.waiting ≤ 16
    → AllFit m.interface m.peer.accepted → 1 ≤ length m.peer.passed → IsNextAt takes m.interface m.peer p
    → Receives takes s p answer t q → ReceiveAgrees takes m p answer t q

-- ---- a reply rule

-- both messages are there
abbrev pub are_messages : Planned → ℕ → ℕ → Bool
are_messages i msg reply = has_message msg i && has_message reply i

-- and have the same argument types
abbrev pub have_same_arguments : Planned → ℕ → ℕ → Bool
have_same_arguments i msg reply = same_arguments (arguments_of msg i) (arguments_of reply i)

-- the rule is set, or refused for a message that isn't there or for other argument types
abbrev pub RuleAgrees : ℕ → ℕ → MachineEnd → Result (Unit {0}) EndFault → TheEnd → Type 0
RuleAgrees msg reply m (Ok done) t =
    (are_messages m.interface msg reply ≡ true) × (have_same_arguments m.interface msg reply ≡ true)
    × EndShows m.interface (with_rule msg reply m.end) m.peer t
RuleAgrees msg reply m (Err UnknownMessage) t = (are_messages m.interface msg reply ≡ false) × ShowsMachineEnd m t
RuleAgrees msg reply m (Err Misfit) t =
    (are_messages m.interface msg reply ≡ true) × (have_same_arguments m.interface msg reply ≡ false) × ShowsMachineEnd m t
RuleAgrees msg reply m (Err fault) t = ⊥

-- so it is with each rule, whether the end is bound or not
abbrev pub RuleShows : Type 0
RuleShows = (msg reply : ℕ) (m : MachineEnd) (s t : TheEnd) (answer : Result (Unit {0}) EndFault)
    → ShowsMachineEnd m s → SetsRule s msg reply answer t → RuleAgrees msg reply m answer t

-- ---- the other end

-- what an end has taken of the other's calls doesn't change when the other accepts a call, writes a fragment, or
-- when a fragment passes a station on the way
pub record PartsStay (i : Planned) (d : Direction) : Type 0 where
  pub accepting : (c : TheCall) → parts_of i (accepts c d) ≡ parts_of i d
  pub replying : (c : TheCall) → parts_of i (accepts_or_waits i c d) ≡ parts_of i d
  pub writing : (room : Room) → parts_of i (writes i d room).direction ≡ parts_of i d
  pub passing : (station : ℕ) → station ≢ last_station d → parts_of i (passes station d) ≡ parts_of i d

-- so it is where a way has two stations at least, and no more is taken than the calls have
abbrev pub OthersStay : Type 0
OthersStay = (i : Planned) (d : Direction) → 2 ≤ length d.passed → taken_of d ≤ total i d.accepted → PartsStay i d
