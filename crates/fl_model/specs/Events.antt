-- What may be asked of the machine, and what it answers. Everything is named by its place in a list, from 0:
-- the names of dispatchers and bindings are the script's alone. The two names that the world itself looks
-- things up by are here: a service's stands in the table of names, and an interface has its own.
use Rattle.std.specs.Prelude.{ℕ, Bool, true, false, List, take}
use Rattle.fl_base.specs.declared.fragment.Frag.{Frag}
use Rattle.fl_base.specs.declared.identity.EndId.{EndId}
use Rattle.fl_interface.specs.Interface.{TheInterface}
use Rattle.fl_value_data.specs.Value.{TheCall}
use Rattle.fl_value_data.specs.declared.value.PlanNo.{PlanNo}

-- a dispatcher: its core, and its place there
pub record DispatcherId : Type 0 where
  pub core : ℕ
  pub place : ℕ

-- how a binding's two ends are to be joined
pub data Kind : Type 0 where
  -- on one core, by a queue of so many slots each way
  by_queues : ℕ → Kind
  -- on two cores, by a ring of so many slots each way
  by_ring : ℕ → Kind
  -- by a circuit over these cores, the client's first
  by_route : List ℕ → Kind

-- as much of a route as is asked with: no circuit goes over more than 16 cores, and one core more tells that a route is too long
abbrev pub asked_route : List ℕ → List ℕ
asked_route cores = take 17 cores

pub data Event : Type 0 where
  -- an interface under a plan
  add_interface : TheInterface → PlanNo → Event
  -- the number of cores
  set_cores : ℕ → Event
  -- a link between two cores, a ring of so many slots each way
  add_link : ℕ → ℕ → ℕ → Event
  -- a dispatcher on a core
  add_dispatcher : ℕ → Event
  -- a service: its name, its dispatcher and its interface
  export : List ℕ → DispatcherId → ℕ → Event
  -- a binding: the client's dispatcher, the interface, the service's name, and how the ends are joined
  bind : DispatcherId → ℕ → List ℕ → Kind → Event
  -- an end makes a call
  call : EndId → TheCall → Event
  -- what would an end write next?
  show : EndId → Event
  -- an end writes one fragment
  write : EndId → Event
  -- one turn of a dispatcher's waitset
  turn : DispatcherId → Event
  -- an end of a ring acknowledges what it has read
  ack : EndId → Event
  -- an end's channel comes to a list of its waitset, or leaves the one that it is in
  register : EndId → Event
  deregister : EndId → Event
  -- a reply rule: where the end handles the first message, it makes the call of the second
  reply : EndId → ℕ → ℕ → Event
  -- the monitor of the first core writes its next message onto the link to the second
  monitor_write : ℕ → ℕ → Event
  -- the first core forwards what stands first on the link from the second
  forward : ℕ → ℕ → Event
  -- the first core acknowledges what it has read on the link from the second
  monitor_ack : ℕ → ℕ → Event

pub data Answer : Type 0 where
  -- it is done, and there is no more to tell: the `ok` of scripts
  done : Answer
  accepted : Answer
  -- there is nothing to do; what is needed has no room, or an end holds back
  nothing : Answer
  full : Answer
  -- fragment k of n was written
  written : ℕ → ℕ → Answer
  -- what a turn came to: a call handled at an end; a fragment that makes no call whole; a polled channel at
  -- which a call's fragment stands; one at which none stands, or one that only acknowledges and was taken
  handle : EndId → TheCall → Answer
  part : EndId → Answer
  ready : EndId → Answer
  quiet : EndId → Answer
  -- a call's fragment has left a link, for the next one or for the arrival queue of the end that takes it
  forwarded : Answer
  -- an end of a circuit is bound
  opened : EndId → Answer
  -- the opening of a circuit was refused, with the fault's number; the client's end stays unbound
  opening_refused : ℕ → EndId → Answer
  -- the fragment that would be written next
  words : Frag → Answer
  -- the event is refused, with the fault's number
  refused : ℕ → Answer

-- the answer that is written `ok`
abbrev pub is_done : Answer → Bool
is_done done = true
is_done answer = false
