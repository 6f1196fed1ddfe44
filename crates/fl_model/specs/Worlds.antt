-- Worlds that are booted with 1 to 16 cores, and what holds of every run from there. `Laws` says the same of
-- runs from one core, of which a run may set the number; and some of it less sharply.
use Rattle.std.specs.Prelude.{ℕ, ◌≡◌, ◌≢◌, ◌≤◌, true, false, List, [], map, length, slice_get, Option, Some, None}
use Rattle.std.specs.List.{range_with_len}
use Rattle.fl_base.specs.declared.identity.EndId.{EndId}
use Rattle.fl_base.specs.Ends.{other, peer}
use Rattle.fl_base.specs.Given.{given}
use Rattle.fl_base.specs.Numbered.{most_cores}
use Rattle.fl_lists.specs.declared.place.Place.{Place}
use Rattle.fl_lists.specs.ThreeLists.{is_in, list_at}
use Rattle.fl_model.specs.Events.{DispatcherId, Event, show, write, turn, Answer, nothing, full, handle, part}
use Rattle.fl_model.specs.Calls.{Planned}
use Rattle.fl_model.specs.Rings.{Label, next_of, Ring, RingSide, written_by}
use Rattle.fl_model.specs.Ends.{is_busy, taken_of}
use Rattle.fl_model.specs.Waits.{Dispatcher, pending, due}
use Rattle.fl_model.specs.Monitors.{fresh_core}
use Rattle.fl_model.specs.State.{Binding, State, start, dispatcher_of, binding_of, interface_of, end_in}
use Rattle.fl_model.specs.State.{own_ring, first_on}
use Rattle.fl_model.specs.Step.{step}
use Rattle.fl_model.specs.Runs.{run, reached, calls_accepted}
use Rattle.fl_model.specs.SoundCalls.{AllFit, CallsFit}
use Rattle.fl_model.specs.SoundLimits.{NumbersAreOnceBothWays}
use Rattle.fl_model.specs.Sound.{Sound}
use Rattle.fl_model.specs.Laws.{CountsInOrder}

-- a world that is booted with so many cores, before anything is asked of it; the number may still be set
abbrev pub start_with : ℕ → State
start_with n = record start { cores = map fresh_core (range_with_len 0 n) }

-- it holds of every state that a run reaches from such a world
abbrev pub Ever : (State → Type 0) → Type 0
Ever P = (cores : ℕ) (vs : List Event) → 1 ≤ cores → cores ≤ most_cores → P (reached (start_with cores) vs)

-- such a world is sound before anything is asked of it
abbrev pub WorldsAreSound : Type 0
WorldsAreSound = (cores : ℕ) → 1 ≤ cores → cores ≤ most_cores → Sound (start_with cores)

-- ---- laws of the states of runs

-- on each direction of each ring known, told and sent keep their order
abbrev pub CountsAreInOrder : State → Type 0
CountsAreInOrder s = (n : ℕ) (r : Ring) (side : RingSide) → slice_get s.rings n ≡ Some r
    → CountsInOrder r.size (written_by side r)

-- at most 16 replies wait, and only where the end is busy
abbrev pub FewWaitWhereBusy : State → Type 0
FewWaitWhereBusy s = (e : EndId) (b : Binding) (i : Planned) → binding_of s e ≡ Some b → interface_of s b ≡ Some i
    → (length (end_in e.side b).out.waiting ≤ 16)
    × ((end_in e.side b).out.waiting ≢ [] → is_busy i (end_in e.side b).out ≡ true)

-- these two, and soundness, in every state that a run from a booted world reaches
abbrev pub EverInOrder : Type 0
EverInOrder = Ever CountsAreInOrder

abbrev pub EverFewWait : Type 0
EverFewWait = Ever FewWaitWhereBusy

abbrev pub EverSound : Type 0
EverSound = Ever Sound

-- each call that an end accepted, and each reply that waits there, fits the interface
abbrev pub EverFits : Type 0
EverFits = Ever CallsFit

-- a number on a link is given once, whichever of the two cores gave it
abbrev pub EverOnceBothWays : Type 0
EverOnceBothWays = Ever NumbersAreOnceBothWays

-- a channel that stands in a list has an end, and that a binding
pub record HasEnd (s : State) (d : Dispatcher) (c : ℕ) : Type 0 where
  pub end : EndId
  pub end_is : slice_get d.ends c ≡ Some end
  pub binding : Binding
  pub binding_is : binding_of s end ≡ Some binding

abbrev pub ListedHaveEnds : State → Type 0
ListedHaveEnds s = (d : DispatcherId) (x : Dispatcher) (place : Place) (c : ℕ) → dispatcher_of s d ≡ Some x
    → is_in c (list_at x.lists place) ≡ true → HasEnd s x c

abbrev pub EverHaveEnds : Type 0
EverHaveEnds = Ever ListedHaveEnds

-- ---- laws of one event: where the answer is a default, there was nothing to do

-- a write answers `nothing`, or nothing is shown, only where all of the end's calls is written
abbrev pub WritesUnderstand : Type 0
WritesUnderstand = (s : State) (e : EndId) (b : Binding) (i : Planned) → Sound s → binding_of s e ≡ Some b
    → interface_of s b ≡ Some i → (step s (write e)).answer ≡ nothing → is_busy i (end_in e.side b).out ≡ false

abbrev pub ShowsUnderstand : Type 0
ShowsUnderstand = (s : State) (e : EndId) (b : Binding) (i : Planned) → Sound s → binding_of s e ≡ Some b
    → interface_of s b ≡ Some i → (step s (show e)).answer ≡ nothing → is_busy i (end_in e.side b).out ≡ false

-- the answer of a turn that gave an end a fragment, or held it back
abbrev pub IsGiven : EndId → Answer → Type 0
IsGiven e full = Unit {0}
IsGiven e (handle f c) = f ≡ e
IsGiven e (part f) = f ≡ e
IsGiven e answer = ⊥

-- what an end would take next: from its queue, or else from its binding's ring
abbrev pub first_before : State → EndId → Binding → Option Label
first_before s e b =
    given (end_in e.side b).queue
    (given (own_ring e.side b.back) None λ at. given (first_on at s) None λ l. Some l.label)
    λ q. slice_get q.labels 0

-- the turn gives a pending channel's end the other end's next fragment, unless it holds that back
pub record TurnGives (s : State) (d : DispatcherId) (e : EndId) (b : Binding) : Type 0 where
  pub answer : IsGiven e (step s (turn d)).answer
  pub label : first_before s e b ≡ Some (next_of (peer e) (taken_of (end_in (other e.side) b).out))

-- in a sound state, where the first pending channel is that of this end
abbrev pub TurnsGiveTheNext : Type 0
TurnsGiveTheNext = (s : State) (d : DispatcherId) (x : Dispatcher) (c : ℕ) (e : EndId) (b : Binding) → Sound s
    → dispatcher_of s d ≡ Some x → due x ≡ pending c → slice_get x.ends c ≡ Some e → binding_of s e ≡ Some b
    → TurnGives s d e b

-- ---- what an end was asked for

-- each call that an end was asked to make and that was accepted fits the interface
abbrev pub AskedCallsFit : Type 0
AskedCallsFit = (cores : ℕ) (vs : List Event) (e : EndId) (b : Binding) (i : Planned)
    → binding_of (reached (start_with cores) vs) e ≡ Some b → interface_of (reached (start_with cores) vs) b ≡ Some i
    → AllFit i (calls_accepted e (run (start_with cores) vs))
