-- The laws of worlds: whatever an event comes to in a world that shows a state, the answer is the machine's, and the world is
-- what is shown of the machine's next state.
use Rattle.std.specs.Prelude.{ℕ, ◌≡◌, ◌≤◌, List}
use Rattle.fl_base.specs.declared.identity.EndId.{EndId}
use Rattle.fl_base.specs.Numbered.{most_cores}
use Rattle.fl_interface.specs.Interface.{TheInterface}
use Rattle.fl_value_data.specs.Value.{TheCall}
use Rattle.fl_value_data.specs.declared.value.PlanNo.{PlanNo}
use Rattle.fl_model.specs.Events.{DispatcherId, Kind, Event, Answer}
use Rattle.fl_model.specs.State.{State, StepOutcome}
use Rattle.fl_model.specs.Making.{adds_interface, sets_cores, adds_link, adds_dispatcher, exports}
use Rattle.fl_model.specs.Binding.{binds}
use Rattle.fl_model.specs.Sending.{calls, shows, writes_fragment}
use Rattle.fl_model.specs.Taking.{turns, acknowledges_end, registers_channel, deregisters_channel, sets_rule}
use Rattle.fl_model.specs.Forwarding.{monitor_writes, monitor_acknowledges, forwards}
use Rattle.fl_model.specs.Step.{step}
use Rattle.fl_model.specs.Worlds.{start_with}
use Rattle.fl_world_refines.specs.View.{TheWorld}
use Rattle.fl_world_refines.specs.ShowsState.{ShowsState, Shows}
use Rattle.fl_world_refines.specs.Making.{AddsInterface, SetsCores, AddsLink, AddsDispatcher, Exports}
use Rattle.fl_world_refines.specs.Binding.{named_request, Binds}
use Rattle.fl_world_refines.specs.Sending.{MakesCall, Previews, WritesFragment}
use Rattle.fl_world_refines.specs.Taking.{HasTurn, Acknowledges, RegistersChannel, DeregistersChannel, SetsReply}
use Rattle.fl_world_refines.specs.Linking.{WritesMessage, AcksLink, Forwards}
use Rattle.fl_world_refines.specs.Step.{Steps, fresh_world}

-- the answer is the machine's, and so is the state that the world shows
pub record Agrees (o : StepOutcome) (a : Answer) (w : TheWorld) : Type 0 where
  pub answer : o.answer ≡ a
  pub showing : ShowsState w o.state

-- what the event comes to in a world agrees with what it comes to in the machine
abbrev pub Agree : (TheWorld → Answer → TheWorld → Type 0) → (State → StepOutcome) → Type 0
Agree Event event = (w w2 : TheWorld) (s : State) (a : Answer) → Shows w s → Event w a w2 → Agrees (event s) a w2

-- ---- what is made

-- for any interface under any plan, and so each law below for any event of its kind
abbrev pub InterfacesAgree : Type 0
InterfacesAgree = (i : TheInterface) (plan : PlanNo) → Agree (AddsInterface i plan) (adds_interface i plan)

abbrev pub CoresAgree : Type 0
CoresAgree = (n : ℕ) → Agree (SetsCores n) (sets_cores n)

abbrev pub LinksAgree : Type 0
LinksAgree = (x y size : ℕ) → Agree (AddsLink x y size) (adds_link x y size)

abbrev pub DispatchersAgree : Type 0
DispatchersAgree = (core : ℕ) → Agree (AddsDispatcher core) (adds_dispatcher core)

abbrev pub ExportsAgree : Type 0
ExportsAgree = (name : List ℕ) (d : DispatcherId) (i : ℕ) → Agree (Exports name d i) (exports name d i)

-- by queues, by a ring and by a circuit
abbrev pub BindsAgree : Type 0
BindsAgree = (client : DispatcherId) (i : ℕ) (name : List ℕ) (kind : Kind) → Agree (Binds (named_request client i name kind)) (binds client i name kind)

-- ---- what ends do

abbrev pub CallsAgree : Type 0
CallsAgree = (e : EndId) (c : TheCall) → Agree (MakesCall e c) (calls e c)

abbrev pub PreviewsAgree : Type 0
PreviewsAgree = (e : EndId) → Agree (Previews e) (shows e)

abbrev pub WritesAgree : Type 0
WritesAgree = (e : EndId) → Agree (WritesFragment e) (writes_fragment e)

abbrev pub TurnsAgree : Type 0
TurnsAgree = (d : DispatcherId) → Agree (HasTurn d) (turns d)

abbrev pub AcknowledgesAgree : Type 0
AcknowledgesAgree = (e : EndId) → Agree (Acknowledges e) (acknowledges_end e)

abbrev pub RegistersAgree : Type 0
RegistersAgree = (e : EndId) → Agree (RegistersChannel e) (registers_channel e)

abbrev pub DeregistersAgree : Type 0
DeregistersAgree = (e : EndId) → Agree (DeregistersChannel e) (deregisters_channel e)

abbrev pub RepliesAgree : Type 0
RepliesAgree = (e : EndId) (msg answer : ℕ) → Agree (SetsReply e msg answer) (sets_rule e msg answer)

-- ---- what happens on links

abbrev pub MonitorWritesAgree : Type 0
MonitorWritesAgree = (core neighbour : ℕ) → Agree (WritesMessage core neighbour) (monitor_writes core neighbour)

abbrev pub MonitorAcksAgree : Type 0
MonitorAcksAgree = (core neighbour : ℕ) → Agree (AcksLink core neighbour) (monitor_acknowledges core neighbour)

-- whatever stands first on the link
abbrev pub ForwardsAgree : Type 0
ForwardsAgree = (core neighbour : ℕ) → Agree (Forwards core neighbour) (forwards core neighbour)

-- ---- the whole

-- each event: the answer is the machine's, and the world shows the machine's next state
pub record StepAgrees (event : Event) (s : State) (a : Answer) (w : TheWorld) : Type 0 where
  pub answer : (step s event).answer ≡ a
  pub shows : Shows w (step s event).state

-- so it is for every event in every world that shows a state
abbrev pub StepsAgree : Type 0
StepsAgree = (event : Event) (w w2 : TheWorld) (s : State) (a : Answer) → Shows w s → Steps event w a w2 → StepAgrees event s a w2

-- a fresh world shows the machine's start
abbrev pub FreshShows : Type 0
FreshShows = (n : ℕ) → 1 ≤ n → n ≤ most_cores → Shows (fresh_world n) (start_with n)
