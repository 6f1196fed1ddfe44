-- By what a circuit was asked for that a job opens: its client, its service, its route. All of that is there as further lines are accepted.
use Rattle.std.proofs.Common.{◌≡◌, ◌⊎◌, inl, inr, refl, sym, ◌∙◌, ap, subst, ℕ, ◌<◌, ◌+◌, ◌-◌, ◌==◌, ◌&&◌, ◌||◌, nat_lt, nat_le, not, cond, Bool, true, false, List, [], ◌∷◌, ◌++◌, length, slice_get, slice_index, position, Option, Some, None, bytes_eq, arith}
use Rattle.std.specs.List.{list_any, list_all, count_by, position_from}
use Rattle.std.proofs.lemmas.Bool.{lt-ltb, ltb-true, not-false}
use Rattle.std.proofs.lemmas.Iterator.Adapters.{position_from-zero}
use Rattle.std.proofs.lemmas.List.Folds.{list_any-append}
use Rattle.fl_base.specs.Given.{given}
use Rattle.fl_base.specs.Numbered.{most_cores, most_bindings}
use Rattle.fl_model.specs.Binding.{all_differ}
use Rattle.fl_model.specs.Events.{DispatcherId, Event, Kind, by_queues, by_ring, by_route, add_interface, set_cores, add_link, add_dispatcher, export, bind}
use Rattle.fl_model.specs.Events as event
use Rattle.fl_model.specs.Making.{most_interfaces, most_dispatchers, most_services, is_ring_size}
use Rattle.fl_model_laws.proofs.Cases.{either, by_given}
use Rattle.fl_model_laws.proofs.Small.{both_are}
use Rattle.fl_script_lines.specs.Asked.{is_taken}
use Rattle.fl_script_lines.specs.Names.{place_of}
use Rattle.fl_cores_file.specs.Draft.{Draft, Joint, Offer, TheDraftRequest, joins, has_link, is_core, has_interface, is_dispatcher, is_interface, has_both_places, is_route, offer_of, with_binding, with_job, binds_by, takes}
use Rattle.fl_cores_file.specs.Draft.{fault_at, call_fault, rule_fault}
use Rattle.fl_cores_file.specs.Jobs.{TheCircuitRequest, Job, opens, replies, calls}
use Rattle.fl_cores_file.specs.Verdicts.{LineVerdict, stops, goes_on}
use Rattle.fl_cores_file_laws.specs.SetUps.{ComeTo}
use Rattle.fl_cores_file_laws.proofs.Counts.{counted_more}
use Rattle.fl_cores_file_laws.proofs.Lists.{got, kept, none_at}

-- ---- what a circuit is asked for by

-- 2 to 16 of so many cores, the client's first, the service's last, and none twice
abbrev pub is_path_of : TheCircuitRequest → Offer → ℕ → Bool
is_path_of w offer cores =
    nat_le 2 (length w.route) && nat_le (length w.route) 16 && list_all (λ core. nat_lt core cores) w.route
    && (slice_index w.route 0 == w.client.core) && (slice_index w.route (length w.route - 1) == offer.dispatcher.core)
    && all_differ w.route

pub record IsAskedBy (w : TheCircuitRequest) (d : Draft) : Type 0 where
  pub settled : d.settled ≡ true
  pub client : is_dispatcher w.client d ≡ true
  pub offer : Offer
  pub offer_is : offer_of w.service d ≡ Some offer
  pub interface : (offer.interface == w.interface) ≡ true
  pub path : is_path_of w offer d.cores ≡ true
  pub link : has_link (slice_index w.route 0) (slice_index w.route 1) d ≡ true

-- ---- what was there is there still, and a new circuit is rightly asked for

record Stays (c d : Draft) : Type 0 where
  settled : c.settled ≡ true → d.settled ≡ true
  cores : c.settled ≡ true → d.cores ≡ c.cores
  dispatchers : (x : DispatcherId) → is_dispatcher x c ≡ true → is_dispatcher x d ≡ true
  links : (a b : ℕ) → has_link a b c ≡ true → has_link a b d ≡ true
  offers : (name : List ℕ) (offer : Offer) → offer_of name c ≡ Some offer → offer_of name d ≡ Some offer
  openings : (n : ℕ) (w : TheCircuitRequest) → slice_get d.jobs n ≡ Some (opens w) → (slice_get c.jobs n ≡ Some (opens w)) ⊎ IsAskedBy w d

abbrev OldOrAsked : Draft → Draft → Type 0
OldOrAsked c d = (n : ℕ) (w : TheCircuitRequest) → slice_get d.jobs n ≡ Some (opens w) → (slice_get c.jobs n ≡ Some (opens w)) ⊎ IsAskedBy w d

same_stays : (c d : Draft) → d.settled ≡ true → d.cores ≡ c.cores → d.dispatchers ≡ c.dispatchers → d.links ≡ c.links → d.services ≡ c.services
    → d.offers ≡ c.offers
    → OldOrAsked c d → Stays c d
same_stays c d settled cores dispatchers links services offers openings = record {
  settled = λ s. settled;
  cores = λ s. cores;
  dispatchers = λ x h. ap (λ (ds : List ℕ). nat_lt x.place (count_by (λ core. core == x.core) ds)) dispatchers ∙ h;
  links = λ a b h. ap (λ (ls : List Joint). list_any (joins a b) ls) links ∙ h;
  offers = λ name offer h.
      ap (λ (ns : List (List ℕ)). given (place_of name ns) None λ place. slice_get d.offers place) services
      ∙ ap (λ (os : List Offer). given (place_of name c.services) None λ place. slice_get os place) offers ∙ h;
  openings = openings;
}

-- ---- one more

one_more : (p : ℕ → Bool) (xs : List ℕ) (x k : ℕ) → nat_lt k (count_by p xs) ≡ true → nat_lt k (count_by p (xs ++ x ∷ [])) ≡ true
one_more p xs x k h =
    let below : k < count_by p xs = ltb-true k (count_by p xs) h in
    let more = counted_more p xs x in
    lt-ltb k (count_by p (xs ++ x ∷ [])) (omega (arith, below, more))

any_more : {X : Type 0} (p : X → Bool) (xs ys : List X) → list_any p xs ≡ true → list_any p (xs ++ ys) ≡ true
any_more p xs ys h = list_any-append p xs ys ∙ ap (λ b. b || list_any p ys) h

from_more : {X : Type 0} (p : X → Bool) (xs ys : List X) (i k : ℕ) → position_from p i xs ≡ Some k → position_from p i (xs ++ ys) ≡ Some k
from_more p [] ys i k h = absurd (cc)
from_more {X} p (x ∷ xs) ys i k h = by (p x) h (from_more p xs ys (i + 1) k)
  where
    by : (b : Bool) → cond b (Some i) (position_from p (i + 1) xs) ≡ Some k
        → (position_from p (i + 1) xs ≡ Some k → position_from p (i + 1) (xs ++ ys) ≡ Some k) → cond b (Some i) (position_from p (i + 1) (xs ++ ys)) ≡ Some k
    by true q further = q
    by false q further = further q

place_more : {X : Type 0} (p : X → Bool) (xs ys : List X) (k : ℕ) → position p xs ≡ Some k → position p (xs ++ ys) ≡ Some k
place_more p xs ys k h = position_from-zero p (xs ++ ys) ∙ from_more p xs ys 0 k (sym (position_from-zero p xs) ∙ h)

offer_more : (name : List ℕ) (offer : Offer) (c : Draft) (other : List ℕ) (one : Offer) → offer_of name c ≡ Some offer
    → given (place_of name (c.services ++ other ∷ [])) None (λ place. slice_get (c.offers ++ one ∷ []) place) ≡ Some offer
offer_more name offer c other one h = by (place_of name c.services) refl h
  where
    by : (o : Option ℕ) → place_of name c.services ≡ o → given o None (λ place. slice_get c.offers place) ≡ Some offer
        → given (place_of name (c.services ++ other ∷ [])) None (λ place. slice_get (c.offers ++ one ∷ []) place) ≡ Some offer
    by None at r = absurd (cc)
    by (Some k) at r =
        ap (λ (o : Option ℕ). given o None λ place. slice_get (c.offers ++ one ∷ []) place) (place_more (bytes_eq name) c.services (other ∷ []) k at)
        ∙ kept c.offers (one ∷ []) offer k r

abbrev is_opening : Job → Bool
is_opening (opens w) = true
is_opening job = false

-- a job that opens no circuit
not_new : {T : Type 0} (jobs : List Job) (job : Job) (w : TheCircuitRequest) (n : ℕ) → is_opening job ≡ false → slice_get (jobs ++ job ∷ []) n ≡ Some (opens w)
    → (slice_get jobs n ≡ Some (opens w)) ⊎ T
not_new {T} jobs job w n none at = by (got jobs job (opens w) n at)
  where
    by : (slice_get jobs n ≡ Some (opens w)) ⊎ ((n ≡ length jobs) × (job ≡ opens w)) → (slice_get jobs n ≡ Some (opens w)) ⊎ T
    by (inl old) = inl old
    by (inr new) = absurd (let no : false ≡ true = sym none ∙ ap is_opening new.1 in cc)

-- ---- a line

abbrev Leads : (Draft → Type 0) → LineVerdict Draft → Type 0
Leads P (stops fault) = Unit {0}
Leads P (goes_on d) = P d

request_same : (v w : TheCircuitRequest) → opens v ≡ opens w → v ≡ w
request_same v w h = cc

module _ (client : DispatcherId) (i : ℕ) (name : List ℕ) (offer : Offer) (c : Draft) (there : is_dispatcher client c ≡ true)
    (found : offer_of name c ≡ Some offer)
    (same : (offer.interface == i) ≡ true) where
  abbrev want : TheDraftRequest
  want = record { client = client; server = offer.dispatcher; interface = i; service = name }

  abbrev request : List ℕ → TheCircuitRequest
  request route = record { client = client; interface = i; service = name; route = route }

  abbrev behind_route : List ℕ → Draft
  behind_route route = with_job (opens (request route)) (with_binding true i c)

  asked_now : (route : List ℕ) → is_route want route c ≡ true → IsAskedBy (request route) (behind_route route)
  asked_now route leads =
      let r = both_are (is_path_of (request route) offer c.cores) (has_link (slice_index route 0) (slice_index route 1) c) leads in
      record { settled = refl; client = there; offer = offer; offer_is = found; interface = same; path = r.0; link = r.1 }

  route_stays : (route : List ℕ) → is_route want route c ≡ true → OldOrAsked c (behind_route route)
  route_stays route leads n w h = by (got c.jobs (opens (request route)) (opens w) n h)
    where
      by : (slice_get c.jobs n ≡ Some (opens w)) ⊎ ((n ≡ length c.jobs) × (opens (request route) ≡ opens w))
          → (slice_get c.jobs n ≡ Some (opens w)) ⊎ IsAskedBy w (behind_route route)
      by (inl old) = inl old
      by (inr new) = inr (subst (λ (x : TheCircuitRequest). IsAskedBy x (behind_route route)) (request_same (request route) w new.1) (asked_now route leads))

  bound_stays : (kind : Kind) → Leads (Stays c) (binds_by want kind c)
  bound_stays (by_queues slots) =
      either (Leads (Stays c)) (not (client.core == offer.dispatcher.core)) _ _ (λ q. tt)
      (λ q. either (Leads (Stays c)) (nat_lt slots 1 || nat_lt 1024 slots) _ _ (λ r. tt)
      (λ r. either (Leads (Stays c)) (not (has_both_places want c)) _ _ (λ s. tt) (λ s. same_stays c _ refl refl refl refl refl refl (λ n w h. inl h))))
  bound_stays (by_ring size) =
      either (Leads (Stays c)) (client.core == offer.dispatcher.core) _ _ (λ q. tt)
      (λ q. either (Leads (Stays c)) (not (is_ring_size size)) _ _ (λ r. tt)
      (λ r. either (Leads (Stays c)) (not (has_both_places want c)) _ _ (λ s. tt) (λ s. same_stays c _ refl refl refl refl refl refl (λ n w h. inl h))))
  bound_stays (by_route route) =
      either (Leads (Stays c)) (not (is_route want route c)) _ _ (λ q. tt)
      (λ q. same_stays c (behind_route route) refl refl refl refl refl refl (route_stays route (not-false (is_route want route c) q)))

line_stays : (v : Event) (c : Draft) → Leads (Stays c) (takes v c)
line_stays (add_interface i plan) c =
    either (Leads (Stays c)) (has_interface i.name c) _ _ (λ q. tt)
    (λ q. either (Leads (Stays c)) (nat_le most_interfaces (length c.interfaces)) _ _ (λ r. tt)
    (λ r. record { settled = λ s. s; cores = λ s. refl; dispatchers = λ x h. h; links = λ a b h. h; offers = λ name offer h. h; openings = λ n w h. inl h }))
line_stays (set_cores n) c =
    either (Leads (Stays c)) c.settled _ _ (λ q. tt)
    (λ q. either (Leads (Stays c)) (nat_lt n 1 || nat_lt most_cores n) _ _ (λ r. tt)
    (λ r. record {
      settled = λ s. refl;
      cores = λ s. absurd (let no : false ≡ true = sym q ∙ s in cc);
      dispatchers = λ x h. h;
      links = λ a b h. h;
      offers = λ name offer h. h;
      openings = λ k w h. inl h;
    }))
line_stays (add_link a b size) c =
    let one : Joint = record { first = a; second = b } in
    either (Leads (Stays c)) (not (is_core a c && is_core b c) || (a == b) || has_link a b c) _ _ (λ q. tt)
    (λ q. either (Leads (Stays c)) (not (is_ring_size size)) _ _ (λ r. tt)
    (λ r. record {
      settled = λ s. refl;
      cores = λ s. refl;
      dispatchers = λ x h. h;
      links = λ x y h. any_more (joins x y) c.links (one ∷ []) h;
      offers = λ name offer h. h;
      openings = λ k w h. inl h;
    }))
line_stays (add_dispatcher core) c =
    either (Leads (Stays c)) (nat_le most_dispatchers (length c.dispatchers)) _ _ (λ q. tt)
    (λ q. either (Leads (Stays c)) (not (is_core core c)) _ _ (λ r. tt)
    (λ r. record {
      settled = λ s. refl;
      cores = λ s. refl;
      dispatchers = λ x h. one_more (λ one. one == x.core) c.dispatchers core x.place h;
      links = λ a b h. h;
      offers = λ name offer h. h;
      openings = λ k w h. inl h;
    }))
line_stays (export name d i) c =
    let one : Offer = record { dispatcher = d; interface = i } in
    either (Leads (Stays c)) (not (is_dispatcher d c && is_interface i c)) _ _ (λ q. tt)
    (λ q. either (Leads (Stays c)) (is_taken name c.services) _ _ (λ r. tt)
    (λ r. either (Leads (Stays c)) (nat_le most_services (length c.offers)) _ _ (λ t. tt)
    (λ t. record {
      settled = λ s. refl;
      cores = λ s. refl;
      dispatchers = λ x h. h;
      links = λ a b h. h;
      offers = λ other offer h. offer_more other offer c name one h;
      openings = λ k w h. inl h;
    })))
line_stays (bind client i name kind) c =
    either (Leads (Stays c)) (not (is_dispatcher client c && is_interface i c)) _ _ (λ q. tt)
    (λ q. either (Leads (Stays c)) (nat_le most_bindings (length c.bindings)) _ _ (λ r. tt)
    (λ r. by_given (Leads (Stays c)) (offer_of name c) _ _ tt
    (λ offer t. either (Leads (Stays c)) (not (offer.interface == i)) _ _ (λ u. tt)
    (λ u.
    let names = both_are (is_dispatcher client c) (is_interface i c) (not-false (is_dispatcher client c && is_interface i c) q) in
    bound_stays client i name offer c names.0 t (not-false (offer.interface == i) u) kind))))
line_stays (event.call e x) c =
    by_given (Leads (Stays c)) (fault_at e (call_fault e.side x) c) _ _
    (same_stays c _ refl refl refl refl refl refl (λ n w h. not_new c.jobs (calls e x) w n refl h)) (λ n q. tt)
line_stays (event.reply e msg answer) c =
    by_given (Leads (Stays c)) (fault_at e (rule_fault e.side msg answer) c) _ _
    (same_stays c _ refl refl refl refl refl refl (λ n w h. not_new c.jobs (replies e msg answer) w n refl h)) (λ n q. tt)
line_stays v c = tt

-- ---- lines

asked_still : (w : TheCircuitRequest) (c d : Draft) → Stays c d → IsAskedBy w c → IsAskedBy w d
asked_still w c d s h = record {
  settled = s.settled h.settled;
  client = s.dispatchers w.client h.client;
  offer = h.offer;
  offer_is = s.offers w.service h.offer h.offer_is;
  interface = h.interface;
  path = ap (is_path_of w h.offer) (s.cores h.settled) ∙ h.path;
  link = s.links (slice_index w.route 0) (slice_index w.route 1) h.link;
}

asked_on : (c d : Draft) → Stays c d → ((n : ℕ) (w : TheCircuitRequest) → slice_get c.jobs n ≡ Some (opens w) → IsAskedBy w c)
    → (n : ℕ) (w : TheCircuitRequest) → slice_get d.jobs n ≡ Some (opens w) → IsAskedBy w d
asked_on c d stays before n w at = by (stays.openings n w at)
  where
    by : (slice_get c.jobs n ≡ Some (opens w)) ⊎ IsAskedBy w d → IsAskedBy w d
    by (inl old) = asked_still w c d stays (before n w old)
    by (inr new) = new

pub asked_by : (lines : List Event) (d : Draft) → ComeTo lines d → (n : ℕ) (w : TheCircuitRequest) → slice_get d.jobs n ≡ Some (opens w) → IsAskedBy w d
asked_by [] d is n w at = absurd (none_at n (opens w) (ap (λ (x : Draft). slice_get x.jobs n) (sym is) ∙ at))
asked_by (v ∷ lines) d (c, come, e) n w at = asked_on c d (subst (Leads (Stays c)) e (line_stays v c)) (asked_by lines c come) n w at
