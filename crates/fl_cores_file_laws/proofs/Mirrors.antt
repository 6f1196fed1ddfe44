-- A draft of a cores file beside the machine's state behind what it sets up: what the refusals of the one look at is what those of the other do.
use Rattle.std.proofs.Common.{◌≡◌, refl, sym, ◌∙◌, ap, ℕ, ◌+◌, ◌≤◌, ◌==◌, nat_lt, nat_le, true, false, List, [], ◌∷◌, length, map, slice_get, position, sum, is_some, Option, Some, None, option_map, bytes_eq}
use Rattle.std.specs.List.{list_any, count_by}
use Rattle.std.proofs.lemmas.List.{length-map}
use Rattle.std.proofs.lemmas.Option.{slice_get-map}
use Rattle.fl_base.specs.Given.{given}
use Rattle.fl_model.specs.Binding.{same_dispatcher, place_of_service, has_places_for}
use Rattle.fl_model.specs.Events.{DispatcherId}
use Rattle.fl_model.specs.Making.{is_core as is_core_there, has_link as has_link_there, has_service, count_dispatchers}
use Rattle.fl_model.specs.Monitors.{Core, Service}
use Rattle.fl_model.specs.State.{State, dispatcher_of}
use Rattle.fl_model.specs.Waits.{Dispatcher}
use Rattle.fl_model_laws.proofs.Cases.{Each}
use Rattle.fl_model_laws.proofs.Views.{given_map}
use Rattle.fl_script_lines.specs.Asked.{is_taken}
use Rattle.fl_cores_file.specs.Draft.{Draft, Offer, has_link, is_core, is_dispatcher, has_places, offer_of}
use Rattle.fl_cores_file_laws.proofs.Views.{View, view_of, table_of, count_of, counts_of, ends_at, ends_are}
use Rattle.fl_cores_file_laws.proofs.Counts.{found_any, any_seen, place_seen, within, links_to, sizes, size_at, many_at}

abbrev pub name_of : Service → List ℕ
name_of x = x.name

abbrev pub offer_by : Service → Offer
offer_by x = record { dispatcher = x.dispatcher; interface = x.interface }

abbrev pub IsThere : View → Service → Type 0
IsThere v x = is_some (ends_at v.ends x.dispatcher) ≡ true

pub record Mirrors (d : Draft) (v : View) : Type 0 where
  pub interfaces : v.interfaces ≡ d.interfaces
  pub cores : length v.tables ≡ d.cores
  pub even : length v.ends ≡ d.cores
  pub links : (x y : ℕ) → links_to v.tables x y ≡ has_link x y d
  pub many : (core : ℕ) → size_at v.ends core ≡ count_by (λ one. one == core) d.dispatchers
  pub total : sum (sizes v.ends) ≡ length d.dispatchers
  pub seats : (x : DispatcherId) → many_at v.ends x ≡ count_by (same_dispatcher x) d.seats
  pub names : map name_of v.services ≡ d.services
  pub offers : map offer_by v.services ≡ d.offers
  pub offered : Each (IsThere v) v.services
  pub few : v.bindings ≤ length d.bindings

module _ (d : Draft) (s : State) (h : Mirrors d (view_of s)) where
  pub core_same : (core : ℕ) → is_core_there core s ≡ is_core core d
  core_same core = ap (nat_lt core) (sym (length-map s.cores table_of) ∙ h.cores)

  pub link_same : (a b : ℕ) → has_link_there a b s ≡ has_link a b d
  link_same a b = sym (given_map table_of false _ s.cores a) ∙ h.links a b

  pub table_there : (core : ℕ) → is_core core d ≡ true → is_some (slice_get (view_of s).tables core) ≡ true
  table_there core q = sym (within (view_of s).tables core) ∙ ap (nat_lt core) h.cores ∙ q

  pub size_there : (core : ℕ) → is_core core d ≡ true → is_some (slice_get (sizes (view_of s).ends) core) ≡ true
  size_there core q = sym (within (sizes (view_of s).ends) core) ∙ ap (nat_lt core) (length-map (view_of s).ends _ ∙ h.even) ∙ q

  pub total_same : count_dispatchers s ≡ length d.dispatchers
  total_same = ap sum (both s.cores) ∙ h.total
    where
      both : (ks : List Core) → map (λ (k : Core). length k.dispatchers) ks ≡ sizes (map counts_of ks)
      both [] = refl
      both (k ∷ ks) =
          ap (λ n. n ∷ map (λ (x : Core). length x.dispatchers) ks) (sym (length-map k.dispatchers count_of)) ∙ ap (λ ns. length (counts_of k) ∷ ns) (both ks)

  -- a dispatcher is there
  pub there_same : (x : DispatcherId) → is_some (dispatcher_of s x) ≡ is_dispatcher x d
  there_same x =
      some_same (dispatcher_of s x) ∙ sym (ap is_some (ends_are s x)) ∙ sym (by (slice_get (view_of s).ends x.core))
      ∙ ap (λ (o : Option ℕ). nat_lt x.place (given o 0 λ n. n)) (sym (slice_get-map _ (view_of s).ends x.core)) ∙ ap (nat_lt x.place) (h.many x.core)
    where
      some_same : (o : Option Dispatcher) → is_some o ≡ is_some (option_map count_of o)
      some_same None = refl
      some_same (Some y) = refl

      by : (o : Option (List ℕ)) → nat_lt x.place (given (option_map (λ (ns : List ℕ). length ns) o) 0 λ n. n) ≡ is_some (given o None λ ns. slice_get ns x.place)
      by None = none x.place
        where
          none : (n : ℕ) → nat_lt n 0 ≡ false
          none n = within {X = ℕ} [] n
      by (Some ns) = within ns x.place

  pub interface_same : (i : ℕ) → is_some (slice_get s.interfaces i) ≡ nat_lt i (length d.interfaces)
  interface_same i = sym (within s.interfaces i) ∙ ap (λ is. nat_lt i (length is)) h.interfaces

  pub service_same : (name : List ℕ) → has_service name s ≡ is_taken name d.services
  service_same name =
      any_seen (bytes_eq name) name_of s.services ∙ ap (list_any (bytes_eq name)) h.names ∙ sym (found_any (bytes_eq name) d.services)

  pub services_same : length s.services ≡ length d.offers
  services_same = sym (length-map s.services offer_by) ∙ ap (λ os. length os) h.offers

  -- the service of a name
  pub offer_same : (name : List ℕ)
      → offer_of name d ≡ given (place_of_service name s.services) None λ place. option_map offer_by (slice_get s.services place)
  offer_same name =
      sym (ap (λ (o : Option ℕ). given o None λ place. slice_get d.offers place) (place_seen (bytes_eq name) name_of s.services ∙ ap (position (bytes_eq name)) h.names))
      ∙ by (place_of_service name s.services)
    where
      by : (o : Option ℕ) → given o None (λ place. slice_get d.offers place) ≡ given o None (λ place. option_map offer_by (slice_get s.services place))
      by None = refl
      by (Some place) = ap (λ os. slice_get os place) (sym h.offers) ∙ slice_get-map offer_by s.services place

  -- a dispatcher that is there has so many places left
  pub places_same : (x : DispatcherId) (n : ℕ) → is_some (ends_at (view_of s).ends x) ≡ true → has_places_for x n s ≡ has_places n x d
  places_same x n there =
      by (dispatcher_of s x) (sym (ap is_some (ends_are s x)) ∙ there) ∙ ap (λ (o : Option ℕ). nat_le ((given o 0 λ k. k) + n) 1024) (sym (ends_are s x))
      ∙ ap (λ k. nat_le (k + n) 1024) (h.seats x)
    where
      by : (o : Option Dispatcher) → is_some (option_map count_of o) ≡ true
          → given o false (λ y. nat_le (length y.ends + n) 1024) ≡ nat_le ((given (option_map count_of o) 0 λ k. k) + n) 1024
      by None q = absurd (cc)
      by (Some y) q = refl

-- it is there in the machine
pub found : (s : State) (x : DispatcherId) → is_some (ends_at (view_of s).ends x) ≡ true → (y : Dispatcher) × (dispatcher_of s x ≡ Some y)
found s x there = by (dispatcher_of s x) (sym (ap is_some (ends_are s x)) ∙ there)
  where
    by : (o : Option Dispatcher) → is_some (option_map count_of o) ≡ true → (y : Dispatcher) × (o ≡ Some y)
    by None q = absurd (cc)
    by (Some y) q = (y, refl)

pub present : (s : State) (x : DispatcherId) (y : Dispatcher) → dispatcher_of s x ≡ Some y → is_some (ends_at (view_of s).ends x) ≡ true
present s x y q = ap is_some (ends_are s x) ∙ ap (λ (o : Option Dispatcher). is_some (option_map count_of o)) q
