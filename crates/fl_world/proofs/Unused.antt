-- Rings on which nothing was put stay so while things are made.
use Rattle.std.proofs.Common.{◌≡◌, ◌∙◌, ◌⊎◌, inl, inr, refl, sym, ap, subst, ℕ, zero, suc, ◌+◌, ◌<◌, ◌≤◌, ◌&&◌, Bool, true, false, Option, Some, None, List, [], ◌∷◌, ◌++◌, length, map, take, get_or, slice_get}
use Rattle.std.specs.Prelude.{◌==◌, ◌||◌, not, nat_le, nat_lt, is_some}
use Rattle.std.specs.List.{list_all}
use Rattle.std.proofs.lemmas.List.{take_all}
use Rattle.std.proofs.lemmas.List.Folds.{list_all-append}
use Rattle.fl_interface.specs.Interface.{TheInterface}
use Rattle.fl_value_data.specs.declared.value.PlanNo.{PlanNo}
use Rattle.fl_ring.specs.Duo.{TheDuo}
use Rattle.fl_nameserv.specs.Registrations.{by_name}
use Rattle.fl_model.specs.Events.{DispatcherId, Kind, by_queues, by_ring, by_route, Event, add_interface, set_cores, add_link, add_dispatcher, export, bind, call, show, write}
use Rattle.fl_model.specs.Events.{turn, ack, register, deregister, reply, monitor_write, forward, monitor_ack, Answer}
use Rattle.fl_model.specs.Views.{event_of}
use Rattle.fl_model.specs.declared.event.Event.{Event as RustEvent}
use Rattle.fl_world_refines.specs.View.{TheWorld, If, Given, has_dispatcher}
use Rattle.fl_world_refines.specs.Lending.{Refuses, DoesNothing}
use Rattle.fl_world_refines.specs.Making.{new_duo, has_program, is_core, has_link, AddsInterface, SetsCores, AddsLink, AddsDispatcher, Exports}
use Rattle.fl_world_refines.specs.Binding.{BindingRequest, has_both_places, wanted_from, named_request, Binds, BindsBy, BindsByQueues, BindsByRing}
use Rattle.fl_world_refines.specs.Step.{Does, Steps, settled, fresh_world}
use Rattle.fl_world.specs.Stepping.{leaves_cores_open}
use Rattle.fl_world_refines.specs.Apart.{AllUnused, is_making, KeepsUnused}
use Rattle.fl_world_events.proofs.Lifts.{one_value}
use Rattle.fl_world.proofs.Runs.{stays_open, closes, mapped_more}

-- ---- one ring more, or none

pub unused_more : (xs : List TheDuo) (size : ℕ) → AllUnused xs → AllUnused (xs ++ new_duo size ∷ [])
unused_more [] size h zero r is = subst (λ (x : TheDuo). x ≡ new_duo x.size) (one_value (new_duo size) r is) refl
unused_more [] size h (suc n) r is = absurd (cc)
unused_more (x ∷ xs) size h zero r is = h 0 r is
unused_more (x ∷ xs) size h (suc n) r is = unused_more xs size (λ k. h (suc k)) n r is

abbrev Grows : TheWorld → TheWorld → Type 0
Grows w w2 = (w2.rings ≡ w.rings) ⊎ ((size : ℕ) × (w2.rings ≡ w.rings ++ new_duo size ∷ []))

unused_after : (w w2 : TheWorld) → Grows w w2 → AllUnused w.rings → AllUnused w2.rings
unused_after w w2 (inl same) h = subst AllUnused (sym same) h
unused_after w w2 (inr more) h = subst AllUnused (sym more.1) (unused_more w.rings more.0 h)

abbrev rings_of : TheWorld → List TheDuo
rings_of w = w.rings

-- ---- by cases

by_if : {X Y P : Type 0} (b : Bool) → If b X Y → (X → P) → (Y → P) → P
by_if true h f g = f h
by_if false h f g = g h

by_given : {A X P : Type 0} {B : A → Type 0} (o : Option A) → Given o X B → (X → P) → ((x : A) → B x → P) → P
by_given None h f g = f h
by_given (Some x) h f g = g x h

by_sum : {X Y P : Type 0} → X ⊎ Y → (X → P) → (Y → P) → P
by_sum (inl x) f g = f x
by_sum (inr y) f g = g y

-- ---- each event

module _ (w : TheWorld) (a : Answer) (w2 : TheWorld) where
  refuses : (n : ℕ) → Refuses n w a w2 → Grows w w2
  refuses n h = inl (ap rings_of h.1)

  nothing_done : DoesNothing w a w2 → Grows w w2
  nothing_done h = inl (ap rings_of h.1)

  joins_queues : (want : BindingRequest) (slots : ℕ) → BindsByQueues want slots w a w2 → Grows w w2
  joins_queues want slots h =
      by_if (not (want.client.core == want.server.core)) h (refuses 73) λ h1.
      by_if (nat_lt slots 1 || nat_lt 1024 slots) h1 (refuses 32) λ h2.
      by_if (not (has_both_places want w)) h2 (refuses 54) λ h3.
      by_sum h3 (λ j. inl (ap rings_of j.1.rest)) (λ n. nothing_done n.1)

  joins_ring : (want : BindingRequest) (size : ℕ) → BindsByRing want size w a w2 → Grows w w2
  joins_ring want size h =
      by_if (want.client.core == want.server.core) h (refuses 73) λ h1.
      by_sum h1 (λ r. refuses 32 r.1) λ h2.
      by_if (not (has_both_places want w)) h2.1 (refuses 54) λ h3.
      by_sum h3 (λ j. inr (size, ap rings_of j.1.rest)) (λ n. nothing_done n.1)

  binds_kind : (want : BindingRequest) (client : DispatcherId) (i : ℕ) (name : List ℕ) (kind : Kind) → is_making (bind client i name kind) ≡ true
      → BindsBy want kind w a w2 → Grows w w2
  binds_kind want client i name (by_queues slots) makes h = joins_queues want slots h
  binds_kind want client i name (by_ring slots) makes h = joins_ring want slots h
  binds_kind want client i name (by_route cores) makes h = absurd (cc)

  binds_grows : (client : DispatcherId) (i : ℕ) (name : List ℕ) (kind : Kind) → is_making (bind client i name kind) ≡ true
      → Binds (named_request client i name kind) w a w2 → Grows w w2
  binds_grows client i name kind makes h =
      by_if (not (has_dispatcher w client)) h (refuses 92) λ h1.
      by_given (slice_get w.programs i) h1 (refuses 92) λ p h2.
      by_if (nat_le 1024 (length w.bindings)) h2 (refuses 94) λ h3.
      by_given (by_name name w.names) h3 (refuses 70) λ r h4.
      by_if (not (r.service.interface == i)) h4 (refuses 72) λ h5.
      binds_kind (wanted_from client i p r) client i name kind makes h5

  interface_grows : (i : TheInterface) (plan : PlanNo) → AddsInterface i plan w a w2 → Grows w w2
  interface_grows i plan h =
      by_if (has_program i.name w) h (refuses 92) λ h1.
      by_if (nat_le 64 (length w.programs)) h1 (refuses 94) λ p.
      inl (ap rings_of p.rest)

  cores_grow : (n : ℕ) → SetsCores n w a w2 → Grows w w2
  cores_grow n h =
      by_if (not w.may_set_cores) h (refuses 93) λ h1.
      by_if (nat_lt n 1 || nat_lt 16 n) h1 (refuses 94) λ p.
      inl (ap rings_of p.1)

  links_grow : (x y size : ℕ) → AddsLink x y size w a w2 → Grows w w2
  links_grow x y size h =
      by_if (not (is_core x w && is_core y w) || (x == y) || has_link x y w) h (refuses 73) λ h1.
      by_sum h1 (λ r. refuses 32 r.1) λ p.
      inr (size, ap rings_of p.1.rest)

  dispatchers_grow : (core : ℕ) → AddsDispatcher core w a w2 → Grows w w2
  dispatchers_grow core h =
      by_if (nat_le 256 w.dispatchers) h (refuses 94) λ h1.
      by_given (slice_get w.cores core) h1 (refuses 73) λ k p.
      inl (ap rings_of p.1)

  exports_grow : (name : List ℕ) (d : DispatcherId) (i : ℕ) → Exports name d i w a w2 → Grows w w2
  exports_grow name d i h =
      by_if (not (has_dispatcher w d) || nat_le (length w.programs) i) h (refuses 92) λ h1.
      by_if (is_some (by_name name w.names)) h1 (refuses 71) λ h2.
      by_if (nat_le 256 (length w.names)) h2 (refuses 94) λ p.
      inl (ap rings_of p.1)

  grows : (v : Event) → is_making v ≡ true → Does v w a w2 → Grows w w2
  grows (add_interface i plan) makes h = interface_grows i plan h
  grows (set_cores n) makes h = cores_grow n h
  grows (add_link x y size) makes h = links_grow x y size h
  grows (add_dispatcher core) makes h = dispatchers_grow core h
  grows (export name d i) makes h = exports_grow name d i h
  grows (bind client i name kind) makes h = binds_grows client i name kind makes h
  grows (call e c) makes h = absurd (cc)
  grows (show e) makes h = absurd (cc)
  grows (write e) makes h = absurd (cc)
  grows (turn d) makes h = absurd (cc)
  grows (ack e) makes h = absurd (cc)
  grows (register e) makes h = absurd (cc)
  grows (deregister e) makes h = absurd (cc)
  grows (reply e msg answer) makes h = absurd (cc)
  grows (monitor_write core neighbour) makes h = absurd (cc)
  grows (forward core neighbour) makes h = absurd (cc)
  grows (monitor_ack core neighbour) makes h = absurd (cc)

-- ---- one event, and many

settled_rings : (v : Event) (a : Answer) (w : TheWorld) → (settled v a w).rings ≡ w.rings
settled_rings v a w = by (leaves_cores_open v a) refl
  where
    by : (b : Bool) → leaves_cores_open v a ≡ b → (settled v a w).rings ≡ w.rings
    by true is = ap rings_of (stays_open v a w is)
    by false is = ap rings_of (closes v a w is)

both_of : (x y : Bool) → (x && y) ≡ true → (x ≡ true) × (y ≡ true)
both_of true y h = (refl, h)
both_of false y h = absurd (cc)

pub step_unused : (v : Event) (a : Answer) (w w2 : TheWorld) → Steps v w a w2 → KeepsUnused (v ∷ []) w w2
step_unused v a w w2 h makes unused =
    subst AllUnused (sym (ap rings_of h.rest ∙ settled_rings v a h.made))
    (unused_after w h.made (grows w a h.made v (both_of (is_making v) true makes).0 h.does) unused)

pub unused_begins : (xs : List RustEvent) (w : TheWorld) → KeepsUnused (map event_of (take 0 xs)) w w
unused_begins xs w makes unused = unused

-- a turn of the loop over events
pub unused_turn : (xs : List RustEvent) (k : ℕ) (x d : RustEvent) (w0 w w2 : TheWorld) → k < length xs → x ≡ get_or xs k d
    → KeepsUnused (map event_of (take k xs)) w0 w → KeepsUnused (event_of x ∷ []) w w2 → KeepsUnused (map event_of (take (k + 1) xs)) w0 w2
unused_turn xs k x d w0 w w2 below is h one makes unused =
    let all = both_of (list_all is_making (map event_of (take k xs))) (list_all is_making (event_of x ∷ []))
    (sym (ap (list_all is_making) (mapped_more event_of xs k x d below is) ∙ list_all-append is_making (map event_of (take k xs)) (event_of x ∷ [])) ∙ makes) in
    one all.1 (h all.0 unused)

pub unused_ends : (xs : List RustEvent) (k : ℕ) (w w2 : TheWorld) → length xs ≤ k → KeepsUnused (map event_of (take k xs)) w w2
    → KeepsUnused (map event_of xs) w w2
unused_ends xs k w w2 past h = subst (λ (l : List RustEvent). KeepsUnused (map event_of l) w w2) (take_all k xs past) h

-- a fresh world has no rings
pub fresh_unused : (n : ℕ) (vs ws : List Event) (w w2 : TheWorld) → w ≡ fresh_world n → vs ≡ ws → KeepsUnused vs w w2
    → list_all is_making ws ≡ true → AllUnused w2.rings
fresh_unused n vs ws w w2 fresh same h makes =
    h (ap (list_all is_making) same ∙ makes) (subst (λ (x : TheWorld). AllUnused x.rings) (sym fresh) (λ k r is. absurd (cc)))
