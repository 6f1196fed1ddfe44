-- One event of the machine: the state after it, and the answer.
--
-- Calls' labels have no contents, so no fragment can be a wrong one: no event has a case for the faults of received
-- fragments (60 to 66, of which 64 is what failed earlier), or of circuits without an entry and messages out
-- of place (67). In a state that no run reaches something may be missing that an event needs: each event then
-- has some answer (`nothing`, `quiet`, `full`, `done`, or the refusal nearest to it), and at most moves a
-- channel, or looks.
use Rattle.std.specs.Prelude.{false}
use Rattle.fl_model.specs.Events.{Event, add_interface, set_cores, add_link, add_dispatcher, export, bind}
use Rattle.fl_model.specs.Events.{call, show, write, turn, ack, register, deregister, reply}
use Rattle.fl_model.specs.Events.{monitor_write, forward, monitor_ack, Answer, refused}
use Rattle.fl_model.specs.State.{State, StepOutcome}
use Rattle.fl_model.specs.Making.{adds_interface, sets_cores, adds_link, adds_dispatcher, exports}
use Rattle.fl_model.specs.Binding.{binds}
use Rattle.fl_model.specs.Sending.{calls, shows, writes_fragment}
use Rattle.fl_model.specs.Taking.{turns, acknowledges_end, registers_channel, deregisters_channel, sets_rule}
use Rattle.fl_model.specs.Forwarding.{monitor_writes, monitor_acknowledges, forwards}

-- what the event does
abbrev pub does : Event → State → StepOutcome
does (add_interface i plan) s = adds_interface i plan s
does (set_cores n) s = sets_cores n s
does (add_link a b size) s = adds_link a b size s
does (add_dispatcher core) s = adds_dispatcher core s
does (export name d i) s = exports name d i s
does (bind client i name kind) s = binds client i name kind s
does (call e c) s = calls e c s
does (show e) s = shows e s
does (write e) s = writes_fragment e s
does (turn d) s = turns d s
does (ack e) s = acknowledges_end e s
does (register e) s = registers_channel e s
does (deregister e) s = deregisters_channel e s
does (reply e msg answer) s = sets_rule e msg answer s
does (monitor_write core neighbour) s = monitor_writes core neighbour s
does (forward core neighbour) s = forwards core neighbour s
does (monitor_ack core neighbour) s = monitor_acknowledges core neighbour s

-- after any answer but a refusal the number of cores stands
abbrev pub settles_by : Answer → State → State
settles_by (refused fault) s = s
settles_by answer s = record s { may_set_cores = false }

-- but interfaces may be added before it is set
abbrev pub settles : Event → StepOutcome → StepOutcome
settles (add_interface i plan) o = o
settles event o = record { state = settles_by o.answer o.state; answer = o.answer }

-- what the event does, and whether the number of cores may still be set after it
abbrev pub step : State → Event → StepOutcome
step s event = settles event (does event s)
