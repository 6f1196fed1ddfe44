-- What holds of every run from a world that was booted with 1 to 16 cores: the set-up's events are the first
-- of the run, so it holds from each state on to which a set-up leads.
use Rattle.std.specs.Prelude.{ℕ, suc, ◌≡◌, ◌≤◌, ◌<◌, ◌++◌, List, length, slice_index, Some}
use Rattle.fl_base.specs.declared.identity.EndId.{EndId}
use Rattle.fl_base.specs.Ends.{other, peer}
use Rattle.fl_base.specs.Numbered.{most_cores}
use Rattle.fl_base.specs.Prefix.{IsPrefix}
use Rattle.fl_lists.specs.declared.place.Place.TheVariants.{Pending}
use Rattle.fl_lists.specs.ThreeLists.{IsApart}
use Rattle.fl_value_data.specs.Value.{TheCall}
use Rattle.fl_model.specs.Events.{DispatcherId, Event}
use Rattle.fl_model.specs.Calls.{Planned}
use Rattle.fl_model.specs.Ends.{End, handled}
use Rattle.fl_model.specs.Waits.{Dispatcher}
use Rattle.fl_model.specs.State.{Binding, State, dispatcher_of, binding_of, interface_of, end_in, end_of}
use Rattle.fl_model.specs.Runs.{run, reached, calls_accepted, calls_handled}
use Rattle.fl_model.specs.Worlds.{start_with, Ever}
use Rattle.fl_model.specs.Laws.{accepted_by, waiting_at, replies_due, Merged, PendingHas}
use Rattle.fl_model.specs.SoundPlaces.{LinksArePaired, RingsHaveOneOwner}
use Rattle.fl_model.specs.SoundRoutes.{NumbersAreOnce}
use Rattle.fl_model.specs.SoundOpenings.{OpeningsGoInOrder}
use Rattle.fl_model.specs.SoundLabels.{WritesAreCounted}
use Rattle.fl_model.specs.SoundLists.{Listed}

-- it holds of each run from such a world
abbrev pub EveryRun : (State → List Event → Type 0) → Type 0
EveryRun P = (cores : ℕ) (vs : List Event) → 1 ≤ cores → cores ≤ most_cores → P (start_with cores) vs

-- ---- calls

-- the calls that an end handled over a run from z are a prefix of those that were accepted at the other end,
-- in order, with equal arguments
abbrev pub HandledIsPrefix : State → List Event → Type 0
HandledIsPrefix z vs = (e : EndId)
    → IsPrefix (calls_handled e (run z vs)) (accepted_by (reached z vs) (peer e))

-- and they are those that the fragments taken make whole
abbrev pub HandledIsWhole : State → List Event → Type 0
HandledIsWhole z vs = (e : EndId) (b : Binding) (i : Planned) → binding_of (reached z vs) e ≡ Some b
    → interface_of (reached z vs) b ≡ Some i
    → calls_handled e (run z vs) ≡ handled i (end_in (other e.side) b).out

-- what an end accepted is the calls that it was asked for and that were accepted, and replies by rule, merged
-- in order; these replies, and then those that still wait, are all that fell due
pub record IsMerged (z : State) (vs : List Event) (e : EndId) : Type 0 where
  pub replies : List TheCall
  pub merged : Merged (calls_accepted e (run z vs)) replies (accepted_by (reached z vs) e)
  pub all : replies_due e z vs ≡ replies ++ waiting_at (reached z vs) e

abbrev pub AcceptedIsMerged : State → List Event → Type 0
AcceptedIsMerged z vs = (e : EndId) → IsMerged z vs e

abbrev pub EverHandledIsAPrefix : Type 0
EverHandledIsAPrefix = EveryRun HandledIsPrefix

abbrev pub EverHandledIsCounted : Type 0
EverHandledIsCounted = EveryRun HandledIsWhole

abbrev pub EverAllAccepted : Type 0
EverAllAccepted = EveryRun AcceptedIsMerged

-- ---- states that a run reaches

-- numbers passed don't rise along a route
abbrev pub NumbersFall : State → Type 0
NumbersFall s = (e : EndId) (x : End) (j : ℕ) → end_of s e ≡ Some x → suc j < length x.out.passed
    → slice_index x.out.passed (suc j) ≤ slice_index x.out.passed j

-- no channel is twice in a waitset's lists
abbrev pub ChannelsStandOnce : State → Type 0
ChannelsStandOnce s = (d : DispatcherId) (x : Dispatcher) → dispatcher_of s d ≡ Some x → IsApart x.lists

-- a pending channel has a fragment; where that is a ring's, it was looked at
abbrev pub PendingHaveFragments : State → Type 0
PendingHaveFragments s = (e : EndId) (b : Binding) → Listed s Pending e b → PendingHas s e b

-- a link is there both ways, and each side of a ring has one owner
abbrev pub LinksStand : State → Type 0
LinksStand s = LinksArePaired s × RingsHaveOneOwner s

abbrev pub EverPassedFalls : Type 0
EverPassedFalls = Ever NumbersFall

abbrev pub EverCounted : Type 0
EverCounted = Ever WritesAreCounted

abbrev pub EverOnce : Type 0
EverOnce = Ever ChannelsStandOnce

abbrev pub EverPendingHas : Type 0
EverPendingHas = Ever PendingHaveFragments

abbrev pub EverPaired : Type 0
EverPaired = Ever LinksStand

abbrev pub EverInOrderOpenings : Type 0
EverInOrderOpenings = Ever OpeningsGoInOrder

abbrev pub EverGivenOnce : Type 0
EverGivenOnce = Ever NumbersAreOnce
