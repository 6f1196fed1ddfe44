-- The law of a binding that is asked for.
use Rattle.std.proofs.Common.{◌≡◌, refl, sym, ◌∙◌, ap, subst, ℕ, ◌+◌, ◌-◌, ◌==◌, nat_le, not, Bool, true, false, if◌then◌else◌, List, length, slice_get, Option, Some, None, arith}
use Rattle.std.specs.Prelude.{is_some, bytes_eq}
use Rattle.std.proofs.lemmas.Bool.{eqb-true}
use Rattle.fl_base.specs.Given.{given}
use Rattle.fl_hop.proofs.Lists.{at_within}
use Rattle.fl_compile.specs.declared.program.Program.{Program}
use Rattle.fl_nameserv.specs.Registrations.{TheRegistration, by_name}
use Rattle.fl_model.specs.Events.{DispatcherId, Kind, by_queues, by_ring, by_route, Answer, refused}
use Rattle.fl_model.specs.Calls.{Planned}
use Rattle.fl_model.specs.Monitors.{Service, service_of}
use Rattle.fl_model.specs.State.{State, StepOutcome, answers, dispatcher_of}
use Rattle.fl_model.specs.Binding.{binds_by, place_of_service, binds}
use Rattle.fl_world_refines.specs.Ends.{planned_of}
use Rattle.fl_world_refines.specs.CoreLaws.{registration_of}
use Rattle.fl_world_refines.proofs.Names.{names_agree}
use Rattle.fl_world_refines.proofs.Tests.{lt_true}
use Rattle.fl_model_laws.proofs.Small.{is_not}
use Rattle.fl_world_refines.specs.View.{Given, If, TheWorld, has_dispatcher}
use Rattle.fl_world_refines.specs.Lending.{Refuses}
use Rattle.fl_world_refines.specs.Binding.{BindsBy, wanted_from, named_request, Binds}
use Rattle.fl_world_refines.specs.ShowsState.{Shows}
use Rattle.fl_world_refines.specs.Laws.{Agrees, BindsAgree}
use Rattle.fl_world_refines.proofs.MakingBase.{refuses, by_if, by_both, map_some, at_map, same_found}
use Rattle.fl_world_refines.proofs.MakingNames.{same_dispatcher}
use Rattle.fl_world_refines.proofs.JoiningQueues.{wanted}
use Rattle.fl_world_refines.proofs.JoiningLaws.{queues_agree, ring_agrees}
use Rattle.fl_world_refines.proofs.JoiningOpens.{route_agrees}
use Rattle.fl_world_refines.proofs.JoiningRoutes.{place_within}

by_found : {X : Type 0} (b : Bool) (o : Option X) (T E : Type 0) (x : StepOutcome) (f : X → StepOutcome) (a : Answer) (w : TheWorld) → b ≡ is_some o → (T → Agrees x a w)
    → ((v : X) → o ≡ Some v → E → Agrees (f v) a w) → If (not b) T E → Agrees (given o x f) a w
by_found true (Some v) T E x f a w q k l h = l v refl h
by_found false None T E x f a w q k l h = k h
by_found true None T E x f a w q k l h = absurd (cc)
by_found false (Some v) T E x f a w q k l h = absurd (cc)

service_there : (xs : List Service) (place : ℕ) (x : Service) → slice_get xs place ≡ Some x → service_of xs (place + 1) ≡ Some x
service_there xs place x q =
    let back : place + 1 - 1 ≡ place = omega arith in
    ap (λ b. if b then slice_get xs (place + 1 - 1) else None) (lt_true 0 (place + 1) (omega arith)) ∙ ap (slice_get xs) back ∙ q

module _ (client : DispatcherId) (i : ℕ) (name : List ℕ) (kind : Kind) (w w2 : TheWorld) (s : State) (a : Answer) (h : Shows w s) where
  module _ (p : Program) (planned : Planned) (interface_is : slice_get s.interfaces i ≡ Some planned) (program_is : planned_of p ≡ planned) where
    bound_by : (kind : Kind) (service : Service) (iref : ℕ) → service_of s.services iref ≡ Some service → service.interface ≡ i
        → BindsBy (wanted_from client i p (registration_of iref service)) kind w a w2 → Agrees (binds_by (wanted client i planned service iref) kind s) a w2
    bound_by (by_queues slots) service iref q r e = queues_agree client i p planned service iref w w2 s a h interface_is program_is slots e
    bound_by (by_ring size) service iref q r e = ring_agrees client i p planned service iref w w2 s a h interface_is program_is size e
    bound_by (by_route cores) service iref q r e = route_agrees client i p planned service iref cores w w2 s a h interface_is program_is q r e

    offered : (service : Service) (place : ℕ) → slice_get s.services place ≡ Some service
        → If (not (service.interface == i)) (Refuses 72 w a w2) (BindsBy (wanted_from client i p (registration_of (place + 1) service)) kind w a w2)
        → Agrees (if not (service.interface == i) then answers s (refused 72) else binds_by (wanted client i planned service (place + 1)) kind s) a w2
    offered service place q e =
        by_if (not (service.interface == i)) (not (service.interface == i)) _ _ _ _ a w2 refl (refuses 72 w w2 s a h.showing)
        (λ r. bound_by kind service (place + 1) (service_there s.services place service q) (eqb-true service.interface i (is_not (service.interface == i) r))) e

    abbrev Then : TheRegistration → Type 0
    Then r = If (not (r.service.interface == i)) (Refuses 72 w a w2) (BindsBy (wanted_from client i p r) kind w a w2)

    abbrev goes_on : ℕ → Service → StepOutcome
    goes_on place service =
        if not (service.interface == i) then answers s (refused 72) else binds_by (wanted client i planned service (place + 1)) kind s

    named : Given (by_name name w.names) (Refuses 70 w a w2) Then
        → Agrees (given (place_of_service name s.services) (answers s (refused 70)) (λ place. given (slice_get s.services place) (answers s (refused 70)) (goes_on place))) a w2
    named e = by (place_of_service name s.services) refl
      where
        at_place : (place : ℕ) → place_of_service name s.services ≡ Some place → (o : Option Service) → slice_get s.services place ≡ o
            → Agrees (given o (answers s (refused 70)) (goes_on place)) a w2
        at_place place q None r =
            (let there = at_within s.services place (place_within (λ (x : Service). bytes_eq name x.name) s.services place q) in
            absurd (let none : None ≡ Some there.0 = sym r ∙ there.1 in cc))
        at_place place q (Some service) r =
            offered service place r
            (subst (λ o. Given o (Refuses 70 w a w2) Then) ((names_agree s.services w.names h.showing.names).named name place service q r) e)

        by : (o : Option ℕ) → place_of_service name s.services ≡ o
            → Agrees (given o (answers s (refused 70)) (λ place. given (slice_get s.services place) (answers s (refused 70)) (goes_on place))) a w2
        by None q = refuses 70 w w2 s a h.showing
            (subst (λ o. Given o (Refuses 70 w a w2) Then) ((names_agree s.services w.names h.showing.names).unnamed name q) e)
        by (Some place) q = at_place place q (slice_get s.services place) refl

  pub bind_agrees : Binds (named_request client i name kind) w a w2 → Agrees (binds client i name kind s) a w2
  bind_agrees e =
      by_found (has_dispatcher w client) (dispatcher_of s client) _ _ _ _ a w2 (same_dispatcher w s client h.showing) (refuses 92 w w2 s a h.showing)
      (λ d q. by_both (slice_get w.programs i) (slice_get s.interfaces i) _ _ _ _ a w2
      (map_some planned_of w.programs i ∙ ap (λ is. is_some (slice_get is i)) h.showing.programs) (refuses 92 w w2 s a h.showing)
      (λ p planned r t. by_if (nat_le 1024 (length w.bindings)) (nat_le 1024 (length s.bindings)) _ _ _ _ a w2 (ap (nat_le 1024) h.showing.bindings.count)
      (refuses 94 w w2 s a h.showing)
      (λ u. named p planned t (same_found (slice_get s.interfaces i) (planned_of p) planned
      (ap (λ is. slice_get is i) (sym h.showing.programs) ∙ at_map planned_of w.programs i p r) t)))) e

pub binds_agree : BindsAgree
binds_agree client i name kind w w2 s a h e = bind_agrees client i name kind w w2 s a h e
