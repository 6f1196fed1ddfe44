-- The fragments that stand in a world mean the accepted calls, and no others.
use Rattle.std.specs.Prelude.{ℕ, suc, ◌≡◌, ◌⊎◌, ◌-◌, List, drop, take, filter_map, slice_get, slice_index}
use Rattle.std.specs.Prelude.{Option, Some, None}
use Rattle.fl_base.specs.declared.fragment.Frag.{Frag}
use Rattle.fl_base.specs.declared.identity.EndId.{EndId}
use Rattle.fl_base.specs.Control.{circuit_of}
use Rattle.fl_base.specs.Ends.{other}
use Rattle.fl_ring.specs.Duo.{acknowledgement}
use Rattle.fl_core.specs.View.{TheCore}
use Rattle.fl_core.specs.declared.wiring.EndWiring.{EndWiring}
use Rattle.fl_model.specs.Calls.{Planned, stream}
use Rattle.fl_model.specs.Rings.{Label, next_of, says, acknowledges}
use Rattle.fl_model.specs.Ends.{Direction, last_station}
use Rattle.fl_model.specs.State.{Route, over_route, Binding, State, binding_of, interface_of, end_in, way_of}
use Rattle.fl_model.specs.State.{number_between}
use Rattle.fl_model.specs.Standing.{on_link}
use Rattle.fl_world_refines.specs.Fragments.{said_frag}
use Rattle.fl_world_refines.specs.View.{TheWorld}
use Rattle.fl_world_refines.specs.ShowsState.{Shows}
use Rattle.fl_world_laws.specs.Places.{on_the_link, IsAt, before_end, aside, on_circuit, of_calls}

-- ---- the next fragments of an end's accepted calls

-- all fragments of the calls that the end accepted, one after another, on this circuit: of these the ones
-- that have passed station j of the calls' way and not the station behind it. Over all stations each fragment
-- that was written, and that the other end hasn't taken, is in one place.
abbrev pub between_stations : ℕ → Planned → Direction → ℕ → List Frag
between_stations circuit i d j =
    let past = slice_index d.passed (suc j) in
    take (slice_index d.passed j - past) (drop past (stream circuit i d.accepted))

-- those that come next at the last station, the other end's take, where no fragment is on a circuit
abbrev pub before_the_take : Planned → Direction → List Frag
before_the_take i d = between_stations 0 i d (last_station d - 1)

-- ---- on links

-- the circuit of an end's binding has this number on the link from core a to core b, over which the end's
-- calls go: core a stands at this place of their way, and core b at the next
pub record CircuitGoesOver (s : State) (a b circuit : ℕ) (e : EndId) : Type 0 where
  pub binding : Binding
  pub binding_is : binding_of s e ≡ Some binding
  pub interface : Planned
  pub interface_is : interface_of s binding ≡ Some interface
  pub route : Route
  pub back : binding.back ≡ over_route route
  pub number : number_between a b route ≡ Some circuit
  pub place : ℕ
  pub near : slice_get (way_of e.side route) place ≡ Some a
  pub far : slice_get (way_of e.side route) (suc place) ≡ Some b

-- what stands on a link beside the fragments of calls: a monitors' message, as the one fragment of the call
-- that says it; and what only acknowledges
abbrev pub beside_calls : Label → Option Frag
beside_calls (next_of e k) = None
beside_calls (says m) = Some (said_frag m)
beside_calls acknowledges = Some acknowledgement

-- on the link from core a to core b, circuit by circuit
pub record LinkMeans (w : TheWorld) (s : State) (a b : ℕ) : Type 0 where
  -- on a circuit the next fragments of the calls that the end accepted whose circuit this is, under the
  -- circuit's number
  pub calls : (circuit : ℕ) (e : EndId) (h : CircuitGoesOver s a b circuit e)
      → on_circuit circuit (aside (on_the_link w a b))
      ≡ between_stations circuit h.interface (end_in e.side h.binding).out h.place
  -- on circuit 0 the messages that the monitor of core a has said there, and what only acknowledges, in order
  pub monitors : on_circuit 0 (aside (on_the_link w a b)) ≡ filter_map beside_calls (on_link s a b)
  -- and no fragment is on any other circuit
  pub only : (n : ℕ) (f : Frag) → slice_get (on_the_link w a b) n ≡ Some f
      → (circuit_of f.control ≡ 0) ⊎ ((e : EndId) × CircuitGoesOver s a b (circuit_of f.control) e)

-- ---- before ends

-- before an end the next fragments of the calls that the other end accepted, on no circuit, and nothing else
pub record EndMeans (w : TheWorld) (s : State) (e : EndId) (c : TheCore) (wiring : EndWiring) : Type 0 where
  pub binding : Binding
  pub binding_is : binding_of s e ≡ Some binding
  pub interface : Planned
  pub interface_is : interface_of s binding ≡ Some interface
  pub calls : of_calls wiring (aside (before_end w c wiring))
      ≡ before_the_take interface (end_in (other e.side) binding).out

-- ---- the whole

-- the fragments on every link, on every binding's ring, in every local queue and in every arrival queue mean
-- the accepted calls and no others
pub record FragmentsMean (w : TheWorld) (s : State) : Type 0 where
  pub links : (a b : ℕ) → LinkMeans w s a b
  pub ends : (e : EndId) (c : TheCore) (wiring : EndWiring) → IsAt w e c wiring → EndMeans w s e c wiring

-- so it is in each world that shows a state of the machine
abbrev pub FragmentsMeanAcceptedCalls : Type 0
FragmentsMeanAcceptedCalls = (w : TheWorld) (s : State) → Shows w s → FragmentsMean w s
