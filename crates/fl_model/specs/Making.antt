-- Events that make things: interfaces, cores, links, dispatchers and services. In each the refusals stand in
-- the order in which they are answered, and change nothing.
use Rattle.std.specs.Prelude.{ℕ, ◌^◌, ◌==◌, ◌||◌, ◌&&◌, nat_le, nat_lt, not, Bool, false, if◌then◌else◌, List}
use Rattle.std.specs.Prelude.{[]}
use Rattle.std.specs.Prelude.{◌∷◌, ◌++◌, length, map, sum, slice_get, is_some, bytes_eq}
use Rattle.std.specs.List.{list_any, range_with_len}
use Rattle.fl_base.specs.Given.{given}
use Rattle.fl_base.specs.Numbered.{most_cores}
use Rattle.fl_interface.specs.Interface.{TheInterface}
use Rattle.fl_value_data.specs.declared.value.PlanNo.{PlanNo}
use Rattle.fl_hop.specs.Table.{with_link}
use Rattle.fl_model.specs.Events.{DispatcherId, done, refused}
use Rattle.fl_model.specs.Calls.{Planned}
use Rattle.fl_model.specs.Rings.{RingSide, first_side, second_side, fresh_ring}
use Rattle.fl_model.specs.Waits.{fresh_dispatcher}
use Rattle.fl_model.specs.Monitors.{Core, fresh_core, Service, link_to}
use Rattle.fl_model.specs.State.{State, StepOutcome, answers, core_of, dispatcher_of, change_core}

-- ---- limits

abbrev pub most_interfaces : ℕ
most_interfaces = 64

-- dispatchers and services of a world
abbrev pub most_dispatchers : ℕ
most_dispatchers = 256

abbrev pub most_services : ℕ
most_services = 256

-- a ring has a power of two from 4 to 1,024 as its size
abbrev pub is_ring_size : ℕ → Bool
is_ring_size n = list_any (λ k. n == 2 ^ k) (range_with_len 2 9)

-- ---- an interface under a plan

-- no two interfaces of a world have one name
abbrev pub has_interface : List ℕ → State → Bool
has_interface name s = list_any (λ (i : Planned). bytes_eq name i.interface.name) s.interfaces

abbrev pub with_interface : Planned → State → State
with_interface i s = record s { interfaces = s.interfaces ++ i ∷ [] }

-- E92: its name is taken; E94: there are 64
abbrev pub adds_interface : TheInterface → PlanNo → State → StepOutcome
adds_interface i plan s =
    if has_interface i.name s then answers s (refused 92)
    else if nat_le most_interfaces (length s.interfaces) then answers s (refused 94)
    else answers (with_interface (record { interface = i; plan = plan }) s) done

-- ---- the number of cores

-- the cores are made anew; E93: they were set, or anything but interfaces was made; E94: not 1 to 16
abbrev pub sets_cores : ℕ → State → StepOutcome
sets_cores n s =
    if not s.may_set_cores then answers s (refused 93)
    else if nat_lt n 1 || nat_lt most_cores n then answers s (refused 94)
    else answers (record s { cores = map fresh_core (range_with_len 0 n) }) done

-- ---- a link: one ring, the first core on its first side

abbrev pub is_core : ℕ → State → Bool
is_core core s = nat_lt core (length s.cores)

abbrev pub has_link : ℕ → ℕ → State → Bool
has_link core neighbour s = given (core_of s core) false λ k. is_some (link_to neighbour k)

-- the core with one more link, to this neighbour, over a side of a ring
abbrev pub linked : ℕ → ℕ → RingSide → Core → Core
linked neighbour ring side k = record k {
  circuits = with_link k.circuits (record { 0 = neighbour });
  links = k.links ++ record { ring = record { ring = ring; side = side }; outbox = [] } ∷ [];
}

abbrev pub with_new_link : ℕ → ℕ → ℕ → State → State
with_new_link a b size s =
    let n = length s.rings in
    change_core b (linked a n second_side) (change_core a (linked b n first_side)
    (record s { rings = s.rings ++ fresh_ring size ∷ [] }))

-- E73: a core isn't there, both are one, or they are linked already; E32: a ring can't have this size
abbrev pub adds_link : ℕ → ℕ → ℕ → State → StepOutcome
adds_link a b size s =
    if not (is_core a s && is_core b s) || (a == b) || has_link a b s then answers s (refused 73)
    else if not (is_ring_size size) then answers s (refused 32)
    else answers (with_new_link a b size s) done

-- ---- a dispatcher on a core

-- on all cores together
abbrev pub count_dispatchers : State → ℕ
count_dispatchers s = sum (map (λ (k : Core). length k.dispatchers) s.cores)

abbrev pub with_dispatcher : Core → Core
with_dispatcher k = record k { dispatchers = k.dispatchers ++ fresh_dispatcher ∷ [] }

-- E94: the world has 256; E73: there is no such core
abbrev pub adds_dispatcher : ℕ → State → StepOutcome
adds_dispatcher core s =
    if nat_le most_dispatchers (count_dispatchers s) then answers s (refused 94)
    else if not (is_core core s) then answers s (refused 73)
    else answers (change_core core with_dispatcher s) done

-- ---- a service

-- no two services of a world have one name
abbrev pub has_service : List ℕ → State → Bool
has_service name s = list_any (λ (x : Service). bytes_eq name x.name) s.services

-- at the end of the table of names, so its interface reference is how many stand there then
abbrev pub with_service : Service → State → State
with_service x s = record s { services = s.services ++ x ∷ [] }

-- E92: the dispatcher or the interface isn't there; E71: the name is taken; E94: the world has 256
abbrev pub exports : List ℕ → DispatcherId → ℕ → State → StepOutcome
exports name d i s =
    given (dispatcher_of s d) (answers s (refused 92)) λ x.
    given (slice_get s.interfaces i) (answers s (refused 92)) λ y.
    if has_service name s then answers s (refused 71)
    else if nat_le most_services (length s.services) then answers s (refused 94)
    else answers (with_service (record { name = name; dispatcher = d; interface = i }) s) done
