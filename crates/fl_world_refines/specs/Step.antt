-- What an event comes to in a world, and a world before any event.
use Rattle.std.specs.Prelude.{ℕ, ◌≡◌, false, true, []}
use Rattle.fl_model.specs.Events.{Event, add_interface, set_cores, add_link, add_dispatcher, export, bind, call, show, write}
use Rattle.fl_model.specs.Events.{turn, ack, register, deregister, reply, monitor_write, forward, monitor_ack, Answer, refused}
use Rattle.fl_world_refines.specs.View.{TheWorld}
use Rattle.fl_world_refines.specs.Making.{fresh_cores, AddsInterface, SetsCores, AddsLink, AddsDispatcher, Exports}
use Rattle.fl_world_refines.specs.Binding.{named_request, Binds}
use Rattle.fl_world_refines.specs.Sending.{MakesCall, Previews, WritesFragment}
use Rattle.fl_world_refines.specs.Taking.{HasTurn, Acknowledges, RegistersChannel, DeregistersChannel, SetsReply}
use Rattle.fl_world_refines.specs.Linking.{WritesMessage, AcksLink, Forwards}

-- what the event itself comes to: this answer, and this world, but for whether cores may still be set
abbrev pub Does : Event → TheWorld → Answer → TheWorld → Type 0
Does (add_interface i plan) w a w2 = AddsInterface i plan w a w2
Does (set_cores n) w a w2 = SetsCores n w a w2
Does (add_link x y size) w a w2 = AddsLink x y size w a w2
Does (add_dispatcher core) w a w2 = AddsDispatcher core w a w2
Does (export name d i) w a w2 = Exports name d i w a w2
Does (bind client i name kind) w a w2 = Binds (named_request client i name kind) w a w2
Does (call e c) w a w2 = MakesCall e c w a w2
Does (show e) w a w2 = Previews e w a w2
Does (write e) w a w2 = WritesFragment e w a w2
Does (turn d) w a w2 = HasTurn d w a w2
Does (ack e) w a w2 = Acknowledges e w a w2
Does (register e) w a w2 = RegistersChannel e w a w2
Does (deregister e) w a w2 = DeregistersChannel e w a w2
Does (reply e msg answer) w a w2 = SetsReply e msg answer w a w2
Does (monitor_write core neighbour) w a w2 = WritesMessage core neighbour w a w2
Does (forward core neighbour) w a w2 = Forwards core neighbour w a w2
Does (monitor_ack core neighbour) w a w2 = AcksLink core neighbour w a w2

-- after any answer but a refusal the number of cores stands
abbrev pub settled_by : Answer → TheWorld → TheWorld
settled_by (refused fault) w = w
settled_by answer w = record w { may_set_cores = false }

-- but interfaces may be added before it is set
abbrev pub settled : Event → Answer → TheWorld → TheWorld
settled (add_interface i plan) a w = w
settled event a w = settled_by a w

-- one whole event: what it comes to itself, and then whether the number of cores may still be set
pub record Steps (event : Event) (w : TheWorld) (a : Answer) (w2 : TheWorld) : Type 0 where
  pub made : TheWorld
  pub does : Does event w a made
  pub rest : w2 ≡ settled event a made

-- a world of so many cores before any event
abbrev pub fresh_world : ℕ → TheWorld
fresh_world n = record {
  may_set_cores = true;
  cores = fresh_cores n;
  dispatchers = 0;
  rings = [];
  queues = [];
  programs = [];
  names = [];
  bindings = [];
}
