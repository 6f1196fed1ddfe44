-- What the events come to by which an interface, cores, a link, a dispatcher and a service are made.
use Rattle.std.specs.Prelude.{ℕ, ◌≡◌, ◌⊎◌, ◌+◌, ◌*◌, ◌==◌, ◌||◌, ◌&&◌, nat_le, nat_lt}
use Rattle.std.specs.Prelude.{not, Bool, true, false, List, [], ◌∷◌, ◌++◌, length, map}
use Rattle.std.specs.Prelude.{slice_get, slice_set, Some, is_some, bytes_eq}
use Rattle.std.specs.List.{list_any, range_with_len}
use Rattle.fl_base.specs.Given.{given}
use Rattle.fl_base.specs.Numbered.{core_id}
use Rattle.fl_interface.specs.Interface.{TheInterface}
use Rattle.fl_interface.specs.Limits.{is_within_limits}
use Rattle.fl_compile.specs.declared.program.Program.{Program}
use Rattle.fl_compile.specs.Programs.{program_of}
use Rattle.fl_value_data.specs.declared.value.PlanNo.{PlanNo}
use Rattle.fl_hop.specs.Table.{link_of}
use Rattle.fl_ring.specs.Duo.{TheDuo, new_half, MayHaveSlots}
use Rattle.fl_nameserv.specs.declared.registration.Service.{Service}
use Rattle.fl_nameserv.specs.Registrations.{by_name, with_registered}
use Rattle.fl_core.specs.BoardView.{with_dispatcher}
use Rattle.fl_core.specs.View.{TheCore, fresh_core, with_board}
use Rattle.fl_core.specs.Making.{linked}
use Rattle.fl_model.specs.Events.{DispatcherId, Answer, done}
use Rattle.fl_model.specs.Calls.{Planned}
use Rattle.fl_world_refines.specs.Ends.{planned_of}
use Rattle.fl_world_refines.specs.View.{Given, If, TheWorld, has_dispatcher, IsWhole}
use Rattle.fl_world_refines.specs.Lending.{Refuses}

-- ---- an interface under a plan

-- no two interfaces of a world have one name
abbrev pub has_program : List ℕ → TheWorld → Bool
has_program name w = list_any (λ (p : Program). bytes_eq name (program_of p).interface.name) w.programs

-- its program stands behind the others
pub record WithProgram (i : Planned) (w : TheWorld) (a : Answer) (w2 : TheWorld) : Type 0 where
  pub answer : a ≡ done
  pub program : Program
  pub planned : planned_of program ≡ i
  pub limits : is_within_limits i.interface ≡ true
  pub rest : w2 ≡ record w { programs = w.programs ++ program ∷ [] }

-- refused where its name is taken, then where 64 interfaces are there
abbrev pub AddsInterface : TheInterface → PlanNo → TheWorld → Answer → TheWorld → Type 0
AddsInterface i plan w a w2 =
    If (has_program i.name w) (Refuses 92 w a w2)
    (If (nat_le 64 (length w.programs)) (Refuses 94 w a w2)
    (WithProgram (record { interface = i; plan = plan }) w a w2))

-- ---- the number of cores

-- cores 0 to n - 1, without links, dispatchers and ends
abbrev pub fresh_cores : ℕ → List TheCore
fresh_cores n = map fresh_core (range_with_len 0 n)

-- refused where the number stands already, then where it isn't 1 to 16; all cores are new
abbrev pub SetsCores : ℕ → TheWorld → Answer → TheWorld → Type 0
SetsCores n w a w2 =
    If (not w.may_set_cores) (Refuses 93 w a w2)
    (If (nat_lt n 1 || nat_lt 16 n) (Refuses 94 w a w2)
    ((a ≡ done) × (w2 ≡ record w { cores = fresh_cores n })))

-- ---- a link

abbrev pub is_core : ℕ → TheWorld → Bool
is_core n w = nat_lt n (length w.cores)

-- core a has a link to core b, by its own table
abbrev pub has_link : ℕ → ℕ → TheWorld → Bool
has_link a b w = given (slice_get w.cores a) false λ k. is_some (link_of k.monitor.circuits b)

-- a new ring: so many slots each way, and nothing was put on it
abbrev pub new_duo : ℕ → TheDuo
new_duo size = record { size = size; one = new_half; two = new_half }

-- each of the two cores has a link more, over its side of a new ring
pub record IsLinked (a b size : ℕ) (w w2 : TheWorld) : Type 0 where
  pub slots : MayHaveSlots size
  pub first : TheCore
  pub first_is : slice_get w.cores a ≡ Some first
  pub first_whole : IsWhole first
  pub second : TheCore
  pub second_is : slice_get w.cores b ≡ Some second
  pub second_whole : IsWhole second
  pub rest : w2 ≡ record w {
    cores = slice_set (slice_set w.cores a (linked first (core_id b) (2 * length w.rings))) b
        (linked second (core_id a) (2 * length w.rings + 1));
    rings = w.rings ++ new_duo size ∷ [];
  }

-- refused unless it joins two different cores that aren't linked yet, then for slots that are no power of two from 4 to 1,024
abbrev pub AddsLink : ℕ → ℕ → ℕ → TheWorld → Answer → TheWorld → Type 0
AddsLink a b size w answer w2 =
    If (not (is_core a w && is_core b w) || (a == b) || has_link a b w) (Refuses 73 w answer w2)
    (((MayHaveSlots size → ⊥) × Refuses 32 w answer w2) ⊎ ((answer ≡ done) × IsLinked a b size w w2))

-- ---- a dispatcher

-- refused where the world has 256, at all cores together, then where there is no such core
abbrev pub AddsDispatcher : ℕ → TheWorld → Answer → TheWorld → Type 0
AddsDispatcher n w a w2 =
    If (nat_le 256 w.dispatchers) (Refuses 94 w a w2)
    (Given (slice_get w.cores n) (Refuses 73 w a w2) λ k.
    (a ≡ done) × (w2 ≡ record w { cores = slice_set w.cores n (with_board k (with_dispatcher k.board)); dispatchers = w.dispatchers + 1 }))

-- ---- a service

-- a service as it is registered: its dispatcher, and the place of its interface
abbrev pub service : DispatcherId → ℕ → Service
service d i = record { core = core_id d.core; dispatcher = d.place; interface = i }

-- refused where dispatcher or interface isn't there, then where the name is taken, then where 256 stand
abbrev pub Exports : List ℕ → DispatcherId → ℕ → TheWorld → Answer → TheWorld → Type 0
Exports name d i w a w2 =
    If (not (has_dispatcher w d) || nat_le (length w.programs) i) (Refuses 92 w a w2)
    (If (is_some (by_name name w.names)) (Refuses 71 w a w2)
    (If (nat_le 256 (length w.names)) (Refuses 94 w a w2)
    ((a ≡ done) × (w2 ≡ record w { names = with_registered w.names name (service d i) }))))
