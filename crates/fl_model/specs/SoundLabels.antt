-- Sound states: the labels that stand on links and in queues are the next fragments of the directions that
-- pass there.
use Rattle.std.specs.Prelude.{ℕ, suc, ◌≡◌, ◌≤◌, ◌<◌, ◌+◌, ◌-◌, length, slice_get, slice_index}
use Rattle.std.specs.Prelude.{Some, Contains}
use Rattle.std.specs.List.{range_with_len}
use Rattle.fl_base.specs.declared.identity.EndId.{EndId}
use Rattle.fl_base.specs.Ends.{peer}
use Rattle.fl_model.specs.Calls.{Planned, total, last_count}
use Rattle.fl_model.specs.Rings.{Label, next_of, says, acknowledges}
use Rattle.fl_model.specs.Ends.{Direction, written_of}
use Rattle.fl_model.specs.State.{OpeningVerdict, granted, Route, over_ring}
use Rattle.fl_model.specs.State.{Binding, State, way_of, interface_of, end_in}
use Rattle.fl_model.specs.Standing.{Routed, on_link, queue_of, ring_from, before_by, picked}

-- of an end's direction, no more has passed a station than the one before it, and what has passed that alone
-- stands between the two, in order
pub record StandsBefore (s : State) (e : EndId) (b : Binding) (j : ℕ) : Type 0 where
  pub falls : slice_index (end_in e.side b).out.passed (suc j) ≤ slice_index (end_in e.side b).out.passed j
  pub labels : picked e (before_by s e b.back (suc j))
      ≡ range_with_len (slice_index (end_in e.side b).out.passed (suc j))
      (slice_index (end_in e.side b).out.passed j - slice_index (end_in e.side b).out.passed (suc j))

-- between any two stations of an end's direction of which one follows the other
abbrev pub LabelsFollow : State → Type 0
LabelsFollow s = (e : EndId) (b : Binding) (j : ℕ) → slice_get s.bindings e.binding ≡ Some b
    → suc j < length (end_in e.side b).out.passed → StandsBefore s e b j

-- on the way of an end's fragments core b comes right after core a
pub record GoesOver (s : State) (a b : ℕ) (e : EndId) : Type 0 where
  pub route : Route
  pub routed : Routed s e.binding route
  pub place : ℕ
  pub near : slice_get (way_of e.side route) place ≡ Some a
  pub far : slice_get (way_of e.side route) (suc place) ≡ Some b

-- on the link from a to b: messages, acknowledgements, and fragments of ends whose way goes over it
abbrev pub MayStandOn : State → ℕ → ℕ → Label → Type 0
MayStandOn s a b (next_of e k) = GoesOver s a b e
MayStandOn s a b label = Unit {0}

-- on the ring of a binding, acknowledgements and the end's own fragments; in a queue, the other end's alone
abbrev pub MayStandFrom : EndId → Label → Type 0
MayStandFrom e (next_of f k) = f ≡ e
MayStandFrom e (says m) = ⊥
MayStandFrom e acknowledges = Unit {0}

-- one of the fragments of this end's calls
abbrev pub IsOf : EndId → Label → Type 0
IsOf e label = (k : ℕ) × (label ≡ next_of e k)

-- nothing else stands on a link, on a binding's ring or in a queue
pub record LabelsKeepToTheirWays (s : State) : Type 0 where
  pub links : (a b : ℕ) (label : Label) → Contains (on_link s a b) label → MayStandOn s a b label
  pub rings : (e : EndId) (b : Binding) (n : ℕ) (label : Label) → slice_get s.bindings e.binding ≡ Some b
      → b.back ≡ over_ring n → Contains (ring_from s e n) label → MayStandFrom e label
  pub queues : (e : EndId) (label : Label) → Contains (queue_of s e) label → IsOf (peer e) label

-- nothing was ever written unless the opening was granted: not while it is under way, nor where it was refused
abbrev pub OpensBefore : OpeningVerdict → Direction → Type 0
OpensBefore (granted i) d = Unit {0}
OpensBefore verdict d = written_of d ≡ 0

-- so it is for both ends of each binding that is joined by a circuit
abbrev pub NothingBeforeTheOpening : State → Type 0
NothingBeforeTheOpening s = (n : ℕ) (route : Route) (r : Routed s n route)
    → OpensBefore route.verdict r.binding.client.out × OpensBefore route.verdict r.binding.server.out

-- all calls but the last are written, and no more than the calls have
pub record IsCounted (i : Planned) (d : Direction) : Type 0 where
  pub before : total i d.accepted ≤ written_of d + last_count i d.accepted
  pub most : written_of d ≤ total i d.accepted

abbrev pub WritesAreCounted : State → Type 0
WritesAreCounted s = (e : EndId) (b : Binding) (i : Planned) → slice_get s.bindings e.binding ≡ Some b
    → interface_of s b ≡ Some i → IsCounted i (end_in e.side b).out
