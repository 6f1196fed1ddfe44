-- What an opening comes to at a core that hears it.
use Rattle.std.specs.Prelude.{ℕ, ◌≡◌, ◌==◌, ◌&&◌, nat_lt, not, Bool, false, if◌then◌else◌, List, slice_get, Some}
use Rattle.fl_base.specs.declared.identity.CoreId.{CoreId}
use Rattle.fl_base.specs.Given.{given}
use Rattle.fl_base.specs.Numbered.{link_id, circuit_id, most_bindings}
use Rattle.fl_hop.specs.Table.{TheCircuits, link_of, stands}
use Rattle.fl_hop.specs.Numbers.{next_own, next_due}
use Rattle.fl_hop.specs.Openings.{is_next}
use Rattle.fl_nameserv.specs.Registrations.{TheRegistration, by_iref}
use Rattle.fl_monitor.specs.declared.opening.Opening.{Opening}
use Rattle.fl_monitor.specs.declared.decision.OpeningFacts.{OpeningFacts}
use Rattle.fl_monitor.specs.declared.decision.OpeningDecision.{OpeningDecision}
use Rattle.fl_monitor.specs.declared.decision.OpeningDecision.TheVariants.{GoesOn, EndsAt, Fails}
use Rattle.fl_monitor.specs.Routing.{next_on, is_on_route}

-- what a core knows beside its circuits: the services, whether an end of the binding is made here, and whether the service's
-- dispatcher has a place for one more
pub record Known : Type 0 where
  pub names : List TheRegistration
  pub here : OpeningFacts

-- ---- what an opening comes to

-- at the last core: there must be such a service, and a place at its dispatcher
abbrev pub arrival : Known → ℕ → OpeningDecision
arrival k iref =
    given (by_iref iref k.names) (Fails 70) λ r.
    if k.here.has_place then EndsAt r.service.dispatcher else Fails 54

-- over link m: there must be a number left
abbrev pub onward : TheCircuits → ℕ → OpeningDecision
onward t m = given (next_own t m) (Fails 74) λ n. GoesOn (link_id m) (circuit_id n)

-- elsewhere: there must be a link to the next core, and not the one on which the opening came
abbrev pub passage : TheCircuits → ℕ → ℕ → OpeningDecision
passage t l next = given (link_of t next) (Fails 73) λ m. if l == m then Fails 73 else onward t m

-- an opening that came on link l
abbrev pub fate : Known → TheCircuits → ℕ → Opening → OpeningDecision
fate k t l o = given (next_on o.path t.core) (arrival k o.service.0) λ next. passage t l next.0

-- where it goes on it has the link's next number
abbrev pub HasNext : TheCircuits → OpeningDecision → Type 0
HasNext t (GoesOn m n) = next_own t m.0 ≡ Some n.0
HasNext t fate = Unit {0}

-- ---- an opening in its place

-- the service is known, and another core's
abbrev pub is_offered_elsewhere : List TheRegistration → ℕ → ℕ → Bool
is_offered_elsewhere names core iref = given (by_iref iref names) false λ r. not (r.service.core.0 == core)

-- the route ends here, at such a service
abbrev pub is_for_another : List TheRegistration → TheCircuits → Opening → Bool
is_for_another names t o =
    given (next_on o.path t.core) (is_offered_elsewhere names t.core o.service.0) λ next. false

-- the core on link l's other side stands on the route directly before this one, which it names just once
abbrev pub comes_along : TheCircuits → ℕ → List CoreId → Bool
comes_along t l path = given (slice_get t.links l) false λ link. is_on_route path link.neighbour.0 t.core

-- its number is the neighbour's next on link l; its binding has neither an end nor an entry here; its route leads here
abbrev pub is_in_place : Known → TheCircuits → ℕ → ℕ → Opening → Bool
is_in_place k t l c o =
    is_next (next_due t l) c
    && nat_lt o.binding most_bindings && not k.here.has_end && not (stands t o.binding)
    && comes_along t l o.path && not (is_for_another k.names t o)
