-- Worked rows of the machine: each is a run from the start, an event and its answer a line.
use Rattle.std.specs.Prelude.{◌≡◌, ℕ, zero, suc, ◌+◌, pos, List, [], ◌∷◌, ◌++◌, map, replicate, codes}
use Rattle.fl_base.specs.declared.identity.Side.TheVariants.{Client, Server}
use Rattle.fl_base.specs.declared.identity.EndId.{EndId}
use Rattle.fl_base.specs.declared.fragment.Frag.{Frag}
use Rattle.fl_interface.specs.declared.interface.Scalar.TheVariants.{Uint32}
use Rattle.fl_interface.specs.Interface.{TheInterface, scalar, fixed, text}
use Rattle.fl_value_data.specs.Value.{number, string, TheCall}
use Rattle.fl_value_data.specs.declared.value.PlanNo.TheVariants.{Two}
use Rattle.fl_model.specs.Events.{DispatcherId, by_queues, by_ring, by_route, Event, Answer}
use Rattle.fl_model.specs.Events.{add_interface, set_cores, add_link, add_dispatcher, export, bind, call}
use Rattle.fl_model.specs.Events.{show, write, turn}
use Rattle.fl_model.specs.Events.{ack, register, deregister, reply, monitor_write, forward}
use Rattle.fl_model.specs.Events.{monitor_ack}
use Rattle.fl_model.specs.Events.{done, accepted, nothing, full, written, handle, part, ready, quiet}
use Rattle.fl_model.specs.Events.{forwarded, opened}
use Rattle.fl_model.specs.Events.{opening_refused, words, refused}
use Rattle.fl_model.specs.State.{start}
use Rattle.fl_model.specs.Runs.{Exchange, run}

-- an event and its answer
infix 20 ◌⇒◌
abbrev pub ◌⇒◌ : Event → Answer → Exchange
event ⇒ answer = record { event = event; answer = answer }

-- these events, in this order, get these answers
abbrev pub IsRow : List Exchange → Type 0
IsRow row = run start (map (λ (x : Exchange). x.event) row) ≡ row

-- ---- what the rows are made of

-- interface i { message ping(uint32 v); }
abbrev pub pings : TheInterface
pings = record {
  name = codes "i";
  messages = record { name = codes "ping"; args = fixed (scalar Uint32) ∷ [] } ∷ [];
}

-- interface i { message blob(string s); }
abbrev pub blobs : TheInterface
blobs = record { name = codes "i"; messages = record { name = codes "blob"; args = text 2047 ∷ [] } ∷ [] }

-- interface i { rpc echo(in uint32 x, out uint32 y); }
abbrev pub echoes : TheInterface
echoes = record {
  name = codes "i";
  messages =
      record { name = codes "echo_call"; args = fixed (scalar Uint32) ∷ [] }
      ∷ record { name = codes "echo_response"; args = fixed (scalar Uint32) ∷ [] } ∷ [];
}

abbrev pub ping : ℕ → TheCall
ping v = record { msg = 0; args = number (pos v) ∷ [] }

abbrev pub response : ℕ → TheCall
response v = record { msg = 1; args = number (pos v) ∷ [] }

-- a text of 49 times one letter
abbrev pub blob : ℕ → TheCall
blob letter = record { msg = 0; args = string (replicate 49 letter) ∷ [] }

-- the two ends of binding p
abbrev pub client : ℕ → EndId
client p = record { binding = p; side = Client }

abbrev pub server : ℕ → EndId
server p = record { binding = p; side = Server }

abbrev pub on : ℕ → ℕ → DispatcherId
on core place = record { core = core; place = place }

abbrev pub service : List ℕ
service = codes "s"

-- a fragment of a first word and zeros
abbrev pub shown : ℕ → ℕ → Frag
shown word control = record { words = word ∷ 0 ∷ 0 ∷ 0 ∷ 0 ∷ 0 ∷ 0 ∷ []; control = control }

-- ---- one core

-- binding 0 joins dispatcher 0 of the core with dispatcher 1, which offers the service
abbrev pub local_frame : TheInterface → ℕ → List Exchange
local_frame i slots =
    (add_interface i Two ⇒ done)
    ∷ (add_dispatcher 0 ⇒ done)
    ∷ (add_dispatcher 0 ⇒ done)
    ∷ (export service (on 0 1) 0 ⇒ done)
    ∷ (bind (on 0 0) 0 service (by_queues slots) ⇒ done)
    ∷ []

abbrev pub one_call : List Exchange
one_call = local_frame pings 4 ++
    (call (client 0) (ping 7) ⇒ accepted)
    ∷ (show (client 0) ⇒ words (shown 7 3))
    ∷ (write (client 0) ⇒ written 1 1)
    ∷ (turn (on 0 1) ⇒ handle (server 0) (ping 7))
    ∷ (turn (on 0 1) ⇒ nothing)
    ∷ []

-- a call of two fragments; a second call waits until the first is written
abbrev pub two_fragments : List Exchange
two_fragments = local_frame blobs 1 ++
    (call (client 0) (blob 97) ⇒ accepted)
    ∷ (write (client 0) ⇒ written 1 2)
    ∷ (write (client 0) ⇒ full)
    ∷ (call (client 0) (blob 98) ⇒ refused 40)
    ∷ (turn (on 0 1) ⇒ part (server 0))
    ∷ (write (client 0) ⇒ written 2 2)
    ∷ (call (client 0) (blob 98) ⇒ accepted)
    ∷ (turn (on 0 1) ⇒ handle (server 0) (blob 97))
    ∷ []

-- refusals of calls, in order
abbrev pub refused_calls : List Exchange
refused_calls = local_frame pings 1 ++
    (call (client 0) (ping 4294967296) ⇒ refused 42)
    ∷ (call (client 0) (record { msg = 1; args = [] }) ⇒ refused 41)
    ∷ (call (client 1) (ping 1) ⇒ refused 92)
    ∷ (write (client 0) ⇒ nothing)
    ∷ (set_cores 2 ⇒ refused 93)
    ∷ (forward 1 0 ⇒ refused 73)
    ∷ []

-- a reply by rule
abbrev pub one_reply : List Exchange
one_reply = local_frame echoes 4 ++
    (reply (server 0) 0 1 ⇒ done)
    ∷ (reply (server 0) 0 2 ⇒ refused 41)
    ∷ (call (client 0) (ping 9) ⇒ accepted)
    ∷ (write (client 0) ⇒ written 1 1)
    ∷ (turn (on 0 1) ⇒ handle (server 0) (ping 9))
    ∷ (show (server 0) ⇒ words (shown 9 65539))
    ∷ (write (server 0) ⇒ written 1 1)
    ∷ (turn (on 0 0) ⇒ handle (client 0) (response 9))
    ∷ []

-- so many calls, from number v on, each written
abbrev pub calls_from : ℕ → ℕ → List Exchange
calls_from v zero = []
calls_from v (suc n) =
    (call (client 0) (ping v) ⇒ accepted) ∷ (write (client 0) ⇒ written 1 1) ∷ calls_from (v + 1) n

-- so many turns of the server's dispatcher, each of which handles a call, from number v on
abbrev pub handles_from : ℕ → ℕ → List Exchange
handles_from v zero = []
handles_from v (suc n) = (turn (on 0 1) ⇒ handle (server 0) (ping v)) ∷ handles_from (v + 1) n

-- 18 calls to an end with a rule: the first reply is accepted, 16 wait, and the last call is left until one
-- is written
abbrev pub sixteen_wait : List Exchange
sixteen_wait = local_frame echoes 32 ++
    ((reply (server 0) 0 1 ⇒ done) ∷ calls_from 1 18 ++ handles_from 1 17 ++
    (turn (on 0 1) ⇒ full)
    ∷ (turn (on 0 1) ⇒ full)
    ∷ (write (server 0) ⇒ written 1 1)
    ∷ (turn (on 0 1) ⇒ handle (server 0) (ping 18))
    ∷ [])

-- ---- rings

-- binding 0 joins the dispatchers of two cores by a ring
abbrev pub ring_frame : ℕ → List Exchange
ring_frame size =
    (add_interface pings Two ⇒ done)
    ∷ (set_cores 2 ⇒ done)
    ∷ (add_dispatcher 0 ⇒ done)
    ∷ (add_dispatcher 1 ⇒ done)
    ∷ (export service (on 1 0) 0 ⇒ done)
    ∷ (bind (on 0 0) 0 service (by_ring size) ⇒ done)
    ∷ []

-- a ring that fills and is acknowledged
abbrev pub ring_fills : List Exchange
ring_fills = ring_frame 4 ++ calls_from 1 3 ++
    (call (client 0) (ping 4) ⇒ accepted)
    ∷ (write (client 0) ⇒ full)
    ∷ (turn (on 1 0) ⇒ ready (server 0))
    ∷ (turn (on 1 0) ⇒ handle (server 0) (ping 1))
    ∷ (ack (server 0) ⇒ nothing)
    ∷ (write (client 0) ⇒ full)
    ∷ (turn (on 1 0) ⇒ ready (server 0))
    ∷ (turn (on 1 0) ⇒ handle (server 0) (ping 2))
    ∷ (ack (server 0) ⇒ done)
    ∷ (write (client 0) ⇒ written 1 1)
    ∷ (turn (on 0 0) ⇒ quiet (client 0))
    ∷ (turn (on 0 0) ⇒ quiet (client 0))
    ∷ (call (client 0) (ping 5) ⇒ accepted)
    ∷ (show (client 0) ⇒ words (shown 5 0x0001000000000002))
    ∷ (write (client 0) ⇒ written 1 1)
    ∷ []

-- one call in a ring: call, show, write, two turns of the server's dispatcher, acknowledge
abbrev pub ring_call : ℕ → ℕ → Answer → List Exchange
ring_call v control acknowledged =
    (call (client 0) (ping v) ⇒ accepted)
    ∷ (show (client 0) ⇒ words (shown v control))
    ∷ (write (client 0) ⇒ written 1 1)
    ∷ (turn (on 1 0) ⇒ ready (server 0))
    ∷ (turn (on 1 0) ⇒ handle (server 0) (ping v))
    ∷ (ack (server 0) ⇒ acknowledged)
    ∷ []

-- epochs go round; a polled turn that finds an acknowledgement makes room
abbrev pub ring_goes_round : List Exchange
ring_goes_round = ring_frame 4 ++ ring_call 1 3 nothing ++ ring_call 2 3 done ++ ring_call 3 3 nothing
    ++ ring_call 4 3 done
    ++ ring_call 5 2 nothing ++
    (call (client 0) (ping 6) ⇒ accepted)
    ∷ (write (client 0) ⇒ full)
    ∷ (turn (on 0 0) ⇒ quiet (client 0))
    ∷ (write (client 0) ⇒ written 1 1)
    ∷ []

-- ---- waitsets

-- two rings and a queue at one dispatcher: pending comes before polled, and a channel that left hears of
-- nothing
abbrev pub waitset : List Exchange
waitset =
    (add_interface pings Two ⇒ done)
    ∷ (set_cores 2 ⇒ done)
    ∷ (add_dispatcher 0 ⇒ done)
    ∷ (add_dispatcher 0 ⇒ done)
    ∷ (add_dispatcher 1 ⇒ done)
    ∷ (export service (on 0 0) 0 ⇒ done)
    ∷ (bind (on 1 0) 0 service (by_ring 4) ⇒ done)
    ∷ (bind (on 1 0) 0 service (by_ring 4) ⇒ done)
    ∷ (bind (on 0 1) 0 service (by_queues 4) ⇒ done)
    ∷ (call (client 2) (ping 1) ⇒ accepted)
    ∷ (write (client 2) ⇒ written 1 1)
    ∷ (call (client 2) (ping 2) ⇒ accepted)
    ∷ (write (client 2) ⇒ written 1 1)
    ∷ (turn (on 0 0) ⇒ handle (server 2) (ping 1))
    ∷ (turn (on 0 0) ⇒ handle (server 2) (ping 2))
    ∷ (turn (on 0 0) ⇒ quiet (server 0))
    ∷ (turn (on 0 0) ⇒ quiet (server 1))
    ∷ (turn (on 0 0) ⇒ quiet (server 0))
    ∷ (register (server 2) ⇒ refused 50)
    ∷ (deregister (server 2) ⇒ done)
    ∷ (deregister (server 2) ⇒ refused 51)
    ∷ (call (client 2) (ping 3) ⇒ accepted)
    ∷ (write (client 2) ⇒ written 1 1)
    ∷ (turn (on 0 0) ⇒ quiet (server 1))
    ∷ (register (server 2) ⇒ done)
    ∷ (turn (on 0 0) ⇒ handle (server 2) (ping 3))
    ∷ []

-- ---- circuits

-- a service on core 2, a client on core 0, and a route over core 1, begun
abbrev pub route_frame : List Exchange → List Exchange
route_frame second_link =
    (add_interface pings Two ⇒ done)
    ∷ (set_cores 3 ⇒ done)
    ∷ (add_link 0 1 4 ⇒ done)
    ∷ second_link ++ (add_dispatcher 0 ⇒ done)
    ∷ (add_dispatcher 2 ⇒ done)
    ∷ (export service (on 2 0) 0 ⇒ done)
    ∷ (bind (on 0 0) 0 service (by_route (0 ∷ 1 ∷ 2 ∷ [])) ⇒ done)
    ∷ []

-- three cores in a line: the circuit is opened, and used until it is full
abbrev pub three_cores : List Exchange
three_cores = route_frame ((add_link 1 2 4 ⇒ done) ∷ []) ++
    (monitor_write 0 1 ⇒ written 1 1)
    ∷ (forward 1 0 ⇒ done)
    ∷ (monitor_write 1 2 ⇒ written 1 1)
    ∷ (forward 2 1 ⇒ opened (server 0))
    ∷ (monitor_ack 2 1 ⇒ nothing)
    ∷ (monitor_write 2 1 ⇒ written 1 1)
    ∷ (forward 1 2 ⇒ done)
    ∷ (monitor_write 1 0 ⇒ written 1 1)
    ∷ (forward 0 1 ⇒ opened (client 0))
    ∷ calls_from 1 3 ++
    (forward 1 0 ⇒ forwarded)
    ∷ (forward 1 0 ⇒ forwarded)
    ∷ (forward 1 0 ⇒ forwarded)
    ∷ (monitor_ack 1 0 ⇒ done)
    ∷ calls_from 4 1 ++
    (forward 1 0 ⇒ full)
    ∷ (forward 2 1 ⇒ forwarded)
    ∷ (forward 2 1 ⇒ forwarded)
    ∷ (monitor_ack 2 1 ⇒ done)
    ∷ (forward 1 0 ⇒ forwarded)
    ∷ (forward 1 2 ⇒ done)
    ∷ []

-- no link to the next core: the opening is refused there, and the client's end stays unbound
abbrev pub refused_route : List Exchange
refused_route = route_frame [] ++
    (monitor_write 0 1 ⇒ written 1 1)
    ∷ (forward 1 0 ⇒ done)
    ∷ (monitor_write 1 0 ⇒ written 1 1)
    ∷ (forward 0 1 ⇒ opening_refused 73 (client 0))
    ∷ (call (client 0) (ping 1) ⇒ refused 43)
    ∷ (reply (client 0) 0 0 ⇒ done)
    ∷ []

-- two circuits over one link: each is put together by its own number
abbrev pub two_circuits : List Exchange
two_circuits =
    (add_interface blobs Two ⇒ done)
    ∷ (set_cores 2 ⇒ done)
    ∷ (add_link 0 1 8 ⇒ done)
    ∷ (add_dispatcher 0 ⇒ done)
    ∷ (add_dispatcher 1 ⇒ done)
    ∷ (export service (on 1 0) 0 ⇒ done)
    ∷ (bind (on 0 0) 0 service (by_route (0 ∷ 1 ∷ [])) ⇒ done)
    ∷ (bind (on 0 0) 0 service (by_route (0 ∷ 1 ∷ [])) ⇒ done)
    ∷ (monitor_write 0 1 ⇒ written 1 1)
    ∷ (monitor_write 0 1 ⇒ written 1 1)
    ∷ (forward 1 0 ⇒ opened (server 0))
    ∷ (forward 1 0 ⇒ opened (server 1))
    ∷ (monitor_write 1 0 ⇒ written 1 1)
    ∷ (monitor_write 1 0 ⇒ written 1 1)
    ∷ (forward 0 1 ⇒ opened (client 0))
    ∷ (forward 0 1 ⇒ opened (client 1))
    ∷ (call (client 0) (blob 97) ⇒ accepted)
    ∷ (call (client 1) (blob 98) ⇒ accepted)
    ∷ (show (client 0) ⇒ words (record {
      words = 0x31 ∷ 0x6161616161616161 ∷ 0x6161616161616161 ∷ 0x6161616161616161 ∷ 0x6161616161616161
          ∷ 0x6161616161616161 ∷ 0x6161616161616161 ∷ [];
      control = 0x0002000100000003;
    }))
    ∷ (show (client 1) ⇒ words (record {
      words = 0x31 ∷ 0x6262626262626262 ∷ 0x6262626262626262 ∷ 0x6262626262626262 ∷ 0x6262626262626262
          ∷ 0x6262626262626262 ∷ 0x6262626262626262 ∷ [];
      control = 0x0002000300000003;
    }))
    ∷ (write (client 0) ⇒ written 1 2)
    ∷ (write (client 1) ⇒ written 1 2)
    ∷ (write (client 0) ⇒ written 2 2)
    ∷ (write (client 1) ⇒ written 2 2)
    ∷ (forward 1 0 ⇒ forwarded)
    ∷ (forward 1 0 ⇒ forwarded)
    ∷ (forward 1 0 ⇒ forwarded)
    ∷ (forward 1 0 ⇒ forwarded)
    ∷ (turn (on 1 0) ⇒ part (server 0))
    ∷ (turn (on 1 0) ⇒ part (server 1))
    ∷ (turn (on 1 0) ⇒ handle (server 0) (blob 97))
    ∷ (turn (on 1 0) ⇒ handle (server 1) (blob 98))
    ∷ (turn (on 1 0) ⇒ nothing)
    ∷ []
