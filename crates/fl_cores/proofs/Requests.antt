-- What is asked for, by the jobs as cores do them: routes that may be asked for, services that are exported, and none with one core.
use Rattle.std.proofs.Common.{◌≡◌, refl, sym, ap, ◌∙◌, subst, ℕ, zero, suc, ◌+◌, ◌<◌, ◌≤◌, ◌==◌, ◌&&◌, ◌||◌, not, nat_lt, nat_le, if◌then◌else◌, Bool, true, false}
use Rattle.std.proofs.Common.{List, [], ◌∷◌, ◌++◌, map, length, position, slice_get, Option, Some, None, IsSome, arith}
use Rattle.std.specs.List.{flat_map, list_all, list_any}
use Rattle.std.proofs.lemmas.Bool.Decides.{nat_tests}
use Rattle.std.proofs.lemmas.List.{length-append, length-map}
use Rattle.std.proofs.lemmas.List.Quantifiers.{position-Some}
use Rattle.std.proofs.lemmas.Option.{same_Some}
use Rattle.fl_base.specs.declared.identity.CoreId.{CoreId}
use Rattle.fl_base.specs.Given.{given}
use Rattle.fl_nameserv.specs.Registrations.{TheRegistration, by_name}
use Rattle.fl_hop.specs.Table.{TheCircuits, link_of}
use Rattle.fl_monitor.specs.Routing.{is_core, is_route, begins_at, ends_at_core, all_differ}
use Rattle.fl_core.proofs.Numbering.{goes_to}
use Rattle.fl_model_laws.proofs.Small.{both_are}
use Rattle.fl_model.specs.Binding.{place_of_service}
use Rattle.fl_model.specs.Monitors.{Service}
use Rattle.fl_world_refines.specs.Cores.{offer_of, NamesShow}
use Rattle.fl_world_refines.specs.CoreLaws.{registration_of, NamesAreShown}
use Rattle.fl_cores_file.specs.Jobs.{TheCircuitRequest, Job}
use Rattle.fl_world_refines.specs.declared.binding.Binding.{Binding}
use Rattle.fl_cores_jobs.specs.State.{TheJoinedJobs, AreJoined}
use Rattle.fl_cores_jobs.specs.Whole.{About, about, bound_of, request_in, AreBound}
use Rattle.fl_cores_jobs.specs.Requested.{cores_on, BeginsOn, AreRequested}
use Rattle.fl_core.specs.View.{TheCore}
use Rattle.fl_cores.specs.Reasons.{Step}
use Rattle.fl_cores.proofs.Runs.{is_there}

-- ---- lists

pub position_below : {X : Type 0} (p : X → Bool) (xs : List X) (n : ℕ) → position p xs ≡ Some n → n < length xs
position_below p [] n is = absurd (cc)
position_below p (x ∷ xs) n is = (position-Some p (x ∷ xs) n x is).0

pub some_below : {X : Type 0} (xs : List X) (n : ℕ) → IsSome (slice_get xs n) → n < length xs
some_below [] n some = absurd (cc)
some_below (x ∷ xs) zero some = omega arith
some_below (x ∷ xs) (suc n) some = let h = some_below xs n some in omega (arith, h)

-- ---- routes

-- two neighbours on a route, by their numbers
abbrev pub step_of : (path : List CoreId) (route : List ℕ) → cores_on path ≡ route → (place : ℕ) (here next : CoreId) → slice_get path place ≡ Some here
    → slice_get path (place + 1) ≡ Some next → Step route
step_of path route same place here next here_is next_is = record {
  place = place;
  core = here.0;
  core_is = ap (λ (cs : List ℕ). slice_get cs place) (sym same) ∙ goes_to (λ (c : CoreId). c.0) path place here here_is;
  next = next.0;
  next_is = ap (λ (cs : List ℕ). slice_get cs (place + 1)) (sym same) ∙ goes_to (λ (c : CoreId). c.0) path (place + 1) next next_is;
}

-- one that may be asked for begins at its core, over this link to the next one, and names none twice
pub record MayGo (t : TheCircuits) (path : List CoreId) (link : ℕ) : Type 0 where
  pub apart : all_differ path ≡ true
  pub here : CoreId
  pub here_is : slice_get path 0 ≡ Some here
  pub same : here.0 ≡ t.core
  pub next : CoreId
  pub next_is : slice_get path 1 ≡ Some next
  pub link_is : link_of t next.0 ≡ Some link

goes_by : (t : TheCircuits) (path : List CoreId) (link : ℕ) (o p : Option CoreId) → slice_get path 0 ≡ o → slice_get path 1 ≡ p → all_differ path ≡ true
    → given o false (is_core t.core) ≡ true → given p None (λ (c : CoreId). link_of t c.0) ≡ Some link → MayGo t path link
goes_by t path link None p first second apart begins leads = absurd (cc)
goes_by t path link (Some x) None first second apart begins leads = absurd (cc)
goes_by t path link (Some x) (Some y) first second apart begins leads =
    let test : (x.0 == t.core) ≡ true = begins in
    record { apart = apart; here = x; here_is = first; same = grind (arith, nat_tests, test); next = y; next_is = second; link_is = leads }

if_some : (b : Bool) (o : Option ℕ) (l : ℕ) → (if b then o else None) ≡ Some l → (b ≡ true) × (o ≡ Some l)
if_some true o l h = (refl, h)
if_some false o l h = absurd (cc)

-- what is told of such a route
record IsRoute (path : List CoreId) (client server cores : ℕ) : Type 0 where
  long : nat_le 2 (length path) ≡ true
  within : list_all (λ (c : CoreId). nat_lt c.0 cores) path ≡ true
  begins : begins_at path client ≡ true
  apart : all_differ path ≡ true

route_tells : (path : List CoreId) (client server cores : ℕ) → is_route path client server cores ≡ true → IsRoute path client server cores
route_tells path client server cores is =
    let a = both_are _ (all_differ path) is in
    let b = both_are _ (ends_at_core path server) a.0 in
    let c = both_are _ (begins_at path client) b.0 in
    let d = both_are _ (list_all (λ (x : CoreId). nat_lt x.0 cores) path) c.0 in
    let e = both_are (nat_le 2 (length path)) (nat_le (length path) 16) d.0 in
    record { long = e.0; within = d.1; begins = c.1; apart = a.1 }

pub may_go : (t : TheCircuits) (path : List CoreId) (server cores link : ℕ) → BeginsOn t path server cores link → MayGo t path link
may_go t path server cores link h =
    let (is, leads) = if_some (is_route path t.core server cores) (given (slice_get path 1) None (λ (c : CoreId). link_of t c.0)) link h in
    let told = route_tells path t.core server cores is in
    goes_by t path link (slice_get path 0) (slice_get path 1) refl refl told.apart told.begins leads

-- ---- one core

below_one : (n : ℕ) → nat_lt n 1 ≡ true → n ≡ 0
below_one n h = grind (arith, nat_tests, h)

is_two : (n : ℕ) → nat_le 2 n ≡ true → 2 ≤ n
is_two n h = grind (arith, nat_tests, h)

-- a route has two cores at least
one_core : (path : List CoreId) → nat_le 2 (length path) ≡ true → list_all (λ (c : CoreId). nat_lt c.0 1) path ≡ true → all_differ path ≡ true → ⊥
one_core [] long within apart = absurd (let two = is_two 0 long in omega (arith, two))
one_core (x ∷ []) long within apart = absurd (let two = is_two 1 long in omega (arith, two))
one_core (x ∷ y ∷ rest) long within apart =
    let first = both_are (nat_lt x.0 1) (list_all (λ (c : CoreId). nat_lt c.0 1) (y ∷ rest)) within in
    let second = both_are (nat_lt y.0 1) (list_all (λ (c : CoreId). nat_lt c.0 1) rest) first.1 in
    let one = below_one x.0 first.0 in
    let two = below_one y.0 second.0 in
    let same : (y.0 == x.0) ≡ true = grind (arith, nat_tests, one, two) in
    let clash : (not (true || list_any (is_core x.0) rest) && all_differ (y ∷ rest)) ≡ true =
    subst (λ (b : Bool). (not (b || list_any (is_core x.0) rest) && all_differ (y ∷ rest)) ≡ true) same apart in
    absurd (cc)

nowhere : (t : TheCircuits) (path : List CoreId) (server link : ℕ) → BeginsOn t path server 1 link → ⊥
nowhere t path server link h =
    let (is, leads) = if_some (is_route path t.core server 1) (given (slice_get path 1) None (λ (c : CoreId). link_of t c.0)) link h in
    let told = route_tells path t.core server 1 is in
    one_core path told.long told.within told.apart

-- as many bindings are there as the set-up makes and jobs ask for
pub many_bound : (set_up : List Binding) (jobs : List Job) (j : TheJoinedJobs) → AreBound set_up jobs j
    → length j.bindings ≡ length set_up + length (flat_map request_in jobs)
many_bound set_up jobs j bound =
    let first : List About = map (λ (x : Binding). about (bound_of x)) set_up in
    let others : List About = map (λ (w : TheCircuitRequest). let a : About = record { interface = w.interface; client = w.client.core } in a) (flat_map request_in jobs) in
    let all : length j.bindings ≡ length (first ++ others) = sym (length-map j.bindings about) ∙ ap length bound.bound in
    let l = length-append first others in
    let m : length first ≡ length set_up = length-map set_up (λ (x : Binding). about (bound_of x)) in
    let n : length others ≡ length (flat_map request_in jobs) =
    length-map (flat_map request_in jobs) (λ (w : TheCircuitRequest). let a : About = record { interface = w.interface; client = w.client.core } in a) in
    omega (arith, all, l, m, n)

-- so none is asked for with one core
module _ (names : List TheRegistration) (cores : List TheCore) (set_up : List Binding) (jobs : List Job) (j : TheJoinedJobs) (joined : AreJoined (length cores) jobs j)
    (bound : AreBound set_up jobs j) (requested : AreRequested names cores (length set_up) jobs j) (one : length cores ≡ 1) where
  first_request : (w : TheCircuitRequest) (rest : List TheCircuitRequest) → flat_map request_in jobs ≡ w ∷ rest → ⊥
  first_request w rest is =
      let many = many_bound set_up jobs j bound in
      let some : length (flat_map request_in jobs) ≡ suc (length rest) = ap length is in
      let (b, b_is) = is_there j.bindings (length set_up) (omega (arith, many, some)) in
      let (number, opened) = bound.opened (length set_up) b b_is (omega arith) in
      let opener = joined.opened (length set_up) b number b_is opened in
      let i = requested opener.place opener.request opener.place_is in
      nowhere i.asks.begins.core.monitor.circuits opener.request.opening.path i.bound.server opener.request.link.0
      (subst (λ (n : ℕ). BeginsOn i.asks.begins.core.monitor.circuits opener.request.opening.path i.bound.server n opener.request.link.0) one i.asks.begins.begins)

  none_by : (ws : List TheCircuitRequest) → flat_map request_in jobs ≡ ws → flat_map request_in jobs ≡ []
  none_by [] is = is
  none_by (w ∷ rest) is = absurd (first_request w rest is)

  pub none_requested : flat_map request_in jobs ≡ []
  none_requested = none_by (flat_map request_in jobs) refl

-- ---- services

-- a registration is that of the service of this name
pub record IsService (services : List Service) (name : List ℕ) (g : TheRegistration) : Type 0 where
  pub place : ℕ
  pub place_is : place_of_service name services ≡ Some place
  pub service : Service
  pub service_is : slice_get services place ≡ Some service
  pub offer : g.service ≡ offer_of service

module _ (law : NamesAreShown) (services : List Service) (names : List TheRegistration) (shows : NamesShow services names) (name : List ℕ) (g : TheRegistration)
    (found : by_name name names ≡ Some g) where
  service_by : (o : Option ℕ) → place_of_service name services ≡ o → IsService services name g
  service_by None is = absurd (let none = (law services names shows).unnamed name is in cc (found, none))
  service_by (Some place) is =
      let (x, x_is) = is_there services place (position_below _ services place is) in
      let same : registration_of (place + 1) x ≡ g =
      same_Some (registration_of (place + 1) x) g (sym ((law services names shows).named name place x is x_is) ∙ found) in
      record { place = place; place_is = is; service = x; service_is = x_is; offer = ap (λ (r : TheRegistration). r.service) (sym same) }

  pub its_service : IsService services name g
  its_service = service_by (place_of_service name services) refl
