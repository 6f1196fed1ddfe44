-- The laws of the machine, over runs from the start. Each is the contract of a function in a crate above.
use Rattle.std.specs.Prelude.{ℕ, suc, ◌≡◌, ◌≢◌, ◌≤◌, ◌<◌, ◌+◌, ◌%◌, true, if◌then◌else◌, List, [], ◌∷◌, ◌++◌}
use Rattle.std.specs.Prelude.{length}
use Rattle.std.specs.Prelude.{slice_get, slice_index, Option, Some, None}
use Rattle.std.specs.List.{cons_option}
use Rattle.fl_base.specs.declared.identity.EndId.{EndId}
use Rattle.fl_base.specs.Ends.{other, peer}
use Rattle.fl_hop.specs.Later.{Later}
use Rattle.fl_model.specs.Monitors.{Core}
use Rattle.fl_base.specs.Prefix.{IsPrefix}
use Rattle.fl_base.specs.Given.{given}
use Rattle.fl_lists.specs.declared.place.Place.TheVariants.{Pending}
use Rattle.fl_lists.specs.ThreeLists.{IsApart}
use Rattle.fl_value_data.specs.Value.{TheCall}
use Rattle.fl_model.specs.Events.{DispatcherId, Event, turn, forward, Answer, nothing, handle, refused}
use Rattle.fl_model.specs.Calls.{Planned}
use Rattle.fl_model.specs.Rings.{RingSide, RingEnd, Ring, Half, written_by}
use Rattle.fl_model.specs.Ends.{End, Queue, is_busy, rule_at, handled}
use Rattle.fl_model.specs.Waits.{Dispatcher, no_one, due}
use Rattle.fl_model.specs.State.{Binding, State, start, core_of, dispatcher_of, interface_of, end_in}
use Rattle.fl_model.specs.State.{end_of}
use Rattle.fl_model.specs.State.{own_ring}
use Rattle.fl_model.specs.Step.{step}
use Rattle.fl_model.specs.Runs.{run, reached, same_end, calls_accepted, calls_handled}
use Rattle.fl_model.specs.Standing.{on_link}
use Rattle.fl_model.specs.SoundLists.{Listed, RingWasLooked}
use Rattle.fl_model.specs.SoundRoutes.{NumbersAreOnce}
use Rattle.fl_model.specs.Sound.{Sound}

-- ---- states

-- each step of a sound state leads to a sound state; and the start is one
abbrev pub StepsAreSound : Type 0
StepsAreSound = (s : State) (v : Event) → Sound s → Sound (step s v).state

-- so each state that a run from the start reaches is sound
abbrev pub RunsAreSound : Type 0
RunsAreSound = (vs : List Event) → Sound (reached start vs)

-- ---- nothing is misrouted: in a sound state the machine has a case for whatever stands first

-- a forward answers `nothing` only where nothing stands on the link
abbrev pub ForwardsUnderstand : Type 0
ForwardsUnderstand = (s : State) (a b : ℕ) → Sound s → (step s (forward b a)).answer ≡ nothing
    → on_link s a b ≡ []

-- a turn answers `nothing` only where no channel is pending or polled; what it gives to a pending one's end,
-- TurnsGiveTheNext of `Worlds` says
abbrev pub TurnsUnderstand : Type 0
TurnsUnderstand = (s : State) (d : DispatcherId) (x : Dispatcher) → Sound s → dispatcher_of s d ≡ Some x
    → (step s (turn d)).answer ≡ nothing → due x ≡ no_one

-- ---- calls

-- all calls that an end has accepted, its replies by rule among them
abbrev pub accepted_by : State → EndId → List TheCall
accepted_by s e = given (end_of s e) [] λ x. x.out.accepted

-- its replies by rule that aren't accepted yet
abbrev pub waiting_at : State → EndId → List TheCall
waiting_at s e = given (end_of s e) [] λ x. x.out.waiting

-- the calls that an end handled are a prefix of those that were accepted at the other, in order, with equal
-- arguments
abbrev pub HandledIsAPrefix : Type 0
HandledIsAPrefix = (vs : List Event) (e : EndId)
    → IsPrefix (calls_handled e (run start vs)) (accepted_by (reached start vs) (peer e))

-- and they are those that the fragments taken make whole
abbrev pub HandledIsCounted : Type 0
HandledIsCounted = (vs : List Event) (e : EndId) (b : Binding) (i : Planned)
    → slice_get (reached start vs).bindings e.binding ≡ Some b → interface_of (reached start vs) b ≡ Some i
    → calls_handled e (run start vs) ≡ handled i (end_in (other e.side) b).out

-- zs is xs and ys merged, each in its order
pub data Merged : List TheCall → List TheCall → List TheCall → Type 0 where
  neither : Merged [] [] []
  from_first : {c : TheCall} {xs ys zs : List TheCall} → Merged xs ys zs → Merged (c ∷ xs) ys (c ∷ zs)
  from_second : {c : TheCall} {xs ys zs : List TheCall} → Merged xs ys zs → Merged xs (c ∷ ys) (c ∷ zs)

-- the reply by rule to a call that an end handles in some state
abbrev pub reply_in : State → EndId → TheCall → Option TheCall
reply_in s e c =
    given (end_of s e) None λ x.
    given (rule_at x.rules c.msg) None λ msg.
    Some (record { msg = msg; args = c.args })

-- the reply by rule that falls due at this end where an event's answer tells of a call handled there
abbrev pub replied_in : EndId → State → Answer → List TheCall
replied_in e s (handle f c) = if same_end e f then cons_option (reply_in s e c) [] else []
replied_in e s answer = []

-- the replies by rule that fell due at an end over a run, in order
abbrev pub replies_due : EndId → State → List Event → List TheCall
replies_due e s [] = []
replies_due e s (v ∷ vs) = replied_in e s (step s v).answer ++ replies_due e (step s v).state vs

-- what an end accepted is the calls that it was asked for and that were accepted, and replies by rule, merged
-- in order; and these replies, with those that still wait, are all that fell due
pub record AcceptedIsMerged (vs : List Event) (e : EndId) : Type 0 where
  pub replies : List TheCall
  pub merged : Merged (calls_accepted e (run start vs)) replies (accepted_by (reached start vs) e)
  pub all : replies_due e start vs ≡ replies ++ waiting_at (reached start vs) e

abbrev pub AllAccepted : Type 0
AllAccepted = (vs : List Event) (e : EndId) → AcceptedIsMerged vs e

-- replies that wait are at most 16, and wait only while the end is busy
abbrev pub FewWaitAndOnlyWhereBusy : Type 0
FewWaitAndOnlyWhereBusy = (vs : List Event) (e : EndId) (b : Binding) (i : Planned)
    → slice_get (reached start vs).bindings e.binding ≡ Some b → interface_of (reached start vs) b ≡ Some i
    → (length (end_in e.side b).out.waiting ≤ 16)
    × ((end_in e.side b).out.waiting ≢ [] → is_busy i (end_in e.side b).out ≡ true)

-- numbers passed don't rise along a route
abbrev pub PassedFalls : Type 0
PassedFalls = (vs : List Event) (e : EndId) (x : End) (j : ℕ) → end_of (reached start vs) e ≡ Some x
    → suc j < length x.out.passed → slice_index x.out.passed (suc j) ≤ slice_index x.out.passed j

-- ---- waitsets

-- no channel is twice in a waitset's lists
abbrev pub ChannelsAreOnce : Type 0
ChannelsAreOnce = (vs : List Event) (d : DispatcherId) (x : Dispatcher)
    → dispatcher_of (reached start vs) d ≡ Some x → IsApart x.lists

-- a pending channel has a fragment; where that is a ring's, it was looked at
pub record PendingHas (s : State) (e : EndId) (b : Binding) : Type 0 where
  pub queue : (q : Queue) → (end_in e.side b).queue ≡ Some q → q.labels ≢ []
  pub ring : (end_in e.side b).queue ≡ None
      → (at : RingEnd) × (own_ring e.side b.back ≡ Some at) × RingWasLooked s at

abbrev pub PendingHasAFragment : Type 0
PendingHasAFragment = (vs : List Event) (e : EndId) (b : Binding) → Listed (reached start vs) Pending e b
    → PendingHas (reached start vs) e b

-- ---- rings

-- of one direction: known is at most told, told at most sent, and sent at most one ring's size above known
pub record CountsInOrder (size : ℕ) (h : Half) : Type 0 where
  pub known : h.known ≤ h.told
  pub told : h.told ≤ h.sent
  pub room : h.sent ≤ h.known + size
  pub small : size ≤ 1024
  -- so a number of 16 bits names one count from what is known to what was sent
  pub one : (m n : ℕ) → h.known ≤ m → m ≤ h.sent → h.known ≤ n → n ≤ h.sent → m % 65536 ≡ n % 65536 → m ≡ n

abbrev pub RingsCountInOrder : Type 0
RingsCountInOrder = (vs : List Event) (n : ℕ) (r : Ring) (side : RingSide)
    → slice_get (reached start vs).rings n ≡ Some r → CountsInOrder r.size (written_by side r)

-- ---- circuits

-- a circuit's number on a link is given once: where two routes have one number on the link from one core to
-- the next, they are one binding's
abbrev pub NumbersAreGivenOnce : Type 0
NumbersAreGivenOnce = (vs : List Event) → NumbersAreOnce (reached start vs)

-- a core's table keeps what it was given: numbers stay given, and at a number that was given no other entry
-- ever comes
abbrev pub TablesGoOn : Type 0
TablesGoOn = (s : State) (v : Event) (n : ℕ) (k m : Core) → Sound s → core_of s n ≡ Some k
    → core_of (step s v).state n ≡ Some m → Later k.circuits m.circuits

-- ---- refusals

-- an event that is refused changes nothing, in any state
abbrev pub RefusalsChangeNothing : Type 0
RefusalsChangeNothing = (s : State) (v : Event) (fault : ℕ) → (step s v).answer ≡ refused fault
    → (step s v).state ≡ s
