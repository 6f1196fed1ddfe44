-- What a world is booted with, and what the machine makes of that.
use Rattle.std.specs.Prelude.{ℕ, ◌≡◌, ◌⊎◌, ◌+◌, ◌||◌, nat_lt, not, Bool, true, false, List, ◌∷◌, ◌++◌, length, map, is_some}
use Rattle.std.specs.List.{list_all}
use Rattle.fl_base.specs.Numbered.{most_cores}
use Rattle.fl_model.specs.Events.{Event, Answer, refused}
use Rattle.fl_model.specs.State.{State, StepOutcome}
use Rattle.fl_model.specs.Step.{step}
use Rattle.fl_model.specs.Runs.{answers_to, reached}
use Rattle.fl_model.specs.Worlds.{start_with}
use Rattle.fl_model.specs.declared.event.Event.{Event as RustEvent}
use Rattle.fl_model.specs.Views.{event_of}
use Rattle.fl_world_refines.specs.View.{TheWorld}
use Rattle.fl_world_refines.specs.ShowsState.{Shows}
use Rattle.fl_world.specs.declared.booting.Config.{Config}
use Rattle.fl_world.specs.declared.booting.BootFault.{BootFault}
use Rattle.fl_world.specs.declared.booting.BootFault.TheVariants.{Refused, Memory}
use Rattle.fl_world.specs.Stepping.{fault_in}

pub record TheConfig : Type 0 where
  -- the number of cores, which the set-up may still set
  pub cores : ℕ
  pub setup : List Event

abbrev pub config_by : ℕ → List RustEvent → TheConfig
config_by cores events = record { cores = cores; setup = map event_of events }

abbrev pub config_of : Config → TheConfig
config_of c = config_by c.cores c.setup.items

-- its number of cores isn't 1 to 16
abbrev pub has_bad_cores : TheConfig → Bool
has_bad_cores c = nat_lt c.cores 1 || nat_lt most_cores c.cores

-- ---- events one after another

abbrev pub passes : Answer → Bool
passes a = not (is_some (fault_in a))

-- the machine refuses none of these events, and the world shows the state that they reach
pub record Passes (s : State) (events : List Event) (w : TheWorld) : Type 0 where
  pub passed : list_all passes (answers_to s events) ≡ true
  pub shown : Shows w (reached s events)

-- it refuses the event behind the first ones, of which it refuses none: the fault's number, and the event's place, from 1
pub record Stops (s : State) (events : List Event) (number place : ℕ) : Type 0 where
  pub before : List Event
  pub event : Event
  pub behind : List Event
  pub events_are : events ≡ before ++ event ∷ behind
  pub passed : list_all passes (answers_to s before) ≡ true
  pub answer : (step (reached s before) event).answer ≡ refused number
  pub place_is : place ≡ length before + 1

-- ---- what a world makes of it

-- the world shows the state that the set-up reaches
abbrev pub Stands : TheConfig → TheWorld → Type 0
Stands c w = (has_bad_cores c ≡ false) × Passes (start_with c.cores) c.setup w

-- so many cores there may be, and the machine refuses none of the events
abbrev pub AcceptsAll : TheConfig → Type 0
AcceptsAll c = (has_bad_cores c ≡ false) × (list_all passes (answers_to (start_with c.cores) c.setup) ≡ true)

-- why there is none: the number of cores, at place 0; the set-up's first refused event; or out of memory, of which the machine knows nothing
abbrev pub IsFaultOf : TheConfig → BootFault → Type 0
IsFaultOf c (Refused number place) =
    ((has_bad_cores c ≡ true) × (number ≡ 94) × (place ≡ 0)) ⊎ ((has_bad_cores c ≡ false) × Stops (start_with c.cores) c.setup number place)
IsFaultOf c Memory = has_bad_cores c ≡ false

-- as answers show it
abbrev pub number_of : BootFault → ℕ
number_of (Refused number place) = number
number_of Memory = 99

-- ---- its set-up

abbrev pub StopsBy : State → List Event → BootFault → Type 0
StopsBy s events (Refused number place) = Stops s events number place
StopsBy s events Memory = Unit {0}

-- the event at this place is refused
abbrev pub StopsAt : ℕ → StepOutcome → BootFault → Type 0
StopsAt at o (Refused number place) = (o.answer ≡ refused number) × (place ≡ at)
StopsAt at o Memory = Unit {0}
