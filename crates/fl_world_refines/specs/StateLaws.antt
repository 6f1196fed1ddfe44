-- The laws that tie the parts of a state: what stands first for an end is the fragment next in turn of the other's
-- calls, and what an end writes next is what its label stands for where it goes.
use Rattle.std.specs.Prelude.{ℕ, ◌≡◌, ◌≤◌, true, slice_get, Some}
use Rattle.fl_base.specs.declared.fragment.Frag.{Frag}
use Rattle.fl_base.specs.declared.identity.EndId.{EndId}
use Rattle.fl_base.specs.Ends.{peer}
use Rattle.fl_model.specs.Calls.{Planned, total, stream}
use Rattle.fl_model.specs.Rings.{next_of, Ring, RingEnd}
use Rattle.fl_model.specs.Ends.{Queue, Direction, written_of, taken_of, End, is_bound}
use Rattle.fl_model.specs.State.{Back, over_route, Binding, State, interface_of, end_in, own_ring, way_of}
use Rattle.fl_model.specs.Sending.{next_fragment}
use Rattle.fl_model.specs.SoundPlaces.{CoresStand, EndsStand}
use Rattle.fl_model.specs.SoundRoutes.{RoutesLead, NumbersGoAlongRoutes, VerdictsFit, EndsAreBound, NumbersWereOpened}
use Rattle.fl_model.specs.SoundLabels.{LabelsFollow, LabelsKeepToTheirWays, WritesAreCounted}
use Rattle.fl_world_refines.specs.Fragments.{frag_of, calls_off_links, calls_between}
use Rattle.fl_world_refines.specs.FragmentLaws.{NumbersAreSmall}
use Rattle.fl_world_refines.specs.RingLaws.{IsFirst, StandsFirst, HoldsCalls}

-- an end of a binding, whose interface is there
pub record EndIn (s : State) (e : EndId) (b : Binding) (i : Planned) : Type 0 where
  pub binding : slice_get s.bindings e.binding ≡ Some b
  pub interface : interface_of s b ≡ Some i

-- the calls that the end takes: those of the other end
abbrev pub taken_by : EndId → Binding → Direction
taken_by e b = (end_in (peer e).side b).out

-- ---- what stands first

-- the fragment next in turn of the calls that an end takes
abbrev pub IsInTurn : Planned → Direction → Frag → Type 0
IsInTurn i d f = slice_get (stream 0 i d.accepted) (taken_of d) ≡ Some f

-- of each end: where data stands first on its ring or in its queue, it is that fragment; its queue holds no
-- acknowledgement, and it has taken no more of the other's fragments than there are
pub record FirstInTurn (s : State) : Type 0 where
  pub rings : (e : EndId) (b : Binding) (i : Planned) (at : RingEnd) (r : Ring) (f : Frag) → EndIn s e b i
      → own_ring e.side b.back ≡ Some at → slice_get s.rings at.ring ≡ Some r
      → IsFirst (calls_off_links s) at.side r f → IsInTurn i (taken_by e b) f
  pub queues : (e : EndId) (b : Binding) (i : Planned) (q : Queue) (f : Frag) → EndIn s e b i
      → (end_in e.side b).queue ≡ Some q
      → StandsFirst (calls_off_links s) q f → IsInTurn i (taken_by e b) f
  pub calls : (e : EndId) (b : Binding) (i : Planned) (q : Queue) → EndIn s e b i → (end_in e.side b).queue ≡ Some q → HoldsCalls q
  pub few : (e : EndId) (b : Binding) (i : Planned) → EndIn s e b i → taken_of (taken_by e b) ≤ total i (taken_by e b).accepted

-- so it is in each state of which these parts of soundness hold
abbrev pub FirstIsInTurn : Type 0
FirstIsInTurn = (s : State) → EndsStand s → RoutesLead s → LabelsFollow s → LabelsKeepToTheirWays s → WritesAreCounted s → FirstInTurn s

-- ---- what is written next

-- the label of the next fragment stands for it: in the other end's queue or on the binding's ring; on the first link of
-- the end's way
abbrev pub StandsFor : State → EndId → Planned → End → Back → Type 0
StandsFor s e i x (over_route route) = (a b : ℕ) → slice_get (way_of e.side route) 0 ≡ Some a → slice_get (way_of e.side route) 1 ≡ Some b
    → frag_of (calls_between a b s) (next_of e (written_of x.out)) ≡ next_fragment i x
StandsFor s e i x back = frag_of (calls_off_links s) (next_of e (written_of x.out)) ≡ next_fragment i x

-- so it is for each end that is bound, where these parts of soundness hold
abbrev pub NextIsWritten : Type 0
NextIsWritten = (s : State) (e : EndId) (b : Binding) (i : Planned) → RoutesLead s → NumbersGoAlongRoutes s → VerdictsFit s → EndsAreBound s
    → EndIn s e b i → is_bound (end_in e.side b) ≡ true → StandsFor s e i (end_in e.side b) b.back

-- ---- numbers

-- a circuit's numbers have 16 bits, since each was opened by a core, which opens at most 1,023 on a link
abbrev pub SmallNumbers : Type 0
SmallNumbers = (s : State) → CoresStand s → NumbersGoAlongRoutes s → NumbersWereOpened s → NumbersAreSmall s
