-- What is looked at before a binding is made, from the facts of the code; and what is asked for, from the names.
use Rattle.std.proofs.Common.{◌≡◌, arith, nat_lt, ◌≢◌, ◌≤◌, ◌<◌, ◌+◌, ◌&&◌, ◌||◌, ◌==◌, not, nat_le, refl, sym, ap, ap₂, ◌∙◌, subst, ℕ, Bool, true, false, if◌then◌else◌, List, length, slice_get, slice_index_or, Option, Some, None, is_some, Ok, Err}
use Rattle.std.proofs.lemmas.Bool.{eqb-true, ne_eqb, eq-eqb, le-leb, lt-leb, or_cases, and_parts}
use Rattle.std.proofs.lemmas.Option.{slice_get_within, slice_get_past, same_Some}
use Rattle.fl_base.specs.Given.{given}
use Rattle.fl_endpoint.specs.View.{TheEnd}
use Rattle.fl_compile.specs.declared.program.Program.{Program}
use Rattle.fl_compile.specs.Programs.{program_of}
use Rattle.fl_nameserv.specs.declared.registration.Registration.{Registration}
use Rattle.fl_nameserv.specs.Lent.{registration_of}
use Rattle.fl_nameserv.specs.Registrations.{TheRegistration, by_name}
use Rattle.fl_core.specs.BoardView.{TheDispatcher, TheBoard}
use Rattle.fl_core.specs.View.{TheCore, place_of, client_of, server_of}
use Rattle.fl_model.specs.Events.{DispatcherId}
use Rattle.fl_model.specs.Binding.{same_dispatcher}
use Rattle.fl_model.specs.declared.event.DispatcherId.{DispatcherId as RustDispatcherId}
use Rattle.fl_model.specs.Views.{id_of}
use Rattle.fl_world_refines.specs.declared.binding.Binding.{Binding}
use Rattle.fl_world_refines.specs.View.{Given, If, TheWorld, has_dispatcher}
use Rattle.fl_world_refines.specs.Binding.{BindingRequest, HasEndOf, has_places, BindsBy, wanted_from}
use Rattle.fl_world.specs.declared.binding.BindRequest.{BindRequest}
use Rattle.fl_core.specs.Making.{has_places as has_places_on}
use Rattle.fl_core.specs.Hearing.{has_end}
use Rattle.fl_world_events.specs.Requests.{HasDispatcher}
use Rattle.fl_world_events.specs.Requests.{IsNewEndOf}
use Rattle.fl_world.specs.Requests.{request, IsRequest, IsOnly, has_end_of, IsNewAt, both_places, IsCopyOf, IsNewEnd}
use Rattle.fl_world_events.proofs.Lifts.{stands}
use Rattle.fl_core.proofs.Room.{at_place}

-- ---- tests

or_false : (a b : Bool) → (a || b) ≡ false → (a ≡ false) × (b ≡ false)
or_false true b h = absurd (cc)
or_false false b h = (refl, h)

is_none : {X : Type 0} (o : Option X) → is_some o ≡ false → o ≡ None
is_none None h = refl
is_none (Some x) h = absurd (cc)

pub if_true : (Then Else : Type 0) (b : Bool) → b ≡ true → Then → If b Then Else
if_true Then Else true h t = t
if_true Then Else false h t = absurd (cc)

pub if_false : (Then Else : Type 0) (b : Bool) → b ≡ false → Else → If b Then Else
if_false Then Else true h t = absurd (cc)
if_false Then Else false h t = t

pub given_none : {X : Type 0} (Otherwise : Type 0) (Then : X → Type 0) (o : Option X) → o ≡ None → Otherwise → Given o Otherwise Then
given_none Otherwise Then None h t = t
given_none Otherwise Then (Some x) h t = absurd (cc)

pub given_some : {X : Type 0} (Otherwise : Type 0) (Then : X → Type 0) (o : Option X) (x : X) → o ≡ Some x → Then x → Given o Otherwise Then
given_some Otherwise Then None x h t = absurd (cc)
given_some Otherwise Then (Some y) x h t = subst Then (sym (same_Some y x h)) t

-- ---- ends that are there

pub end_there : (n core : ℕ) (w : TheWorld) → has_end_of n core w ≡ true → HasEndOf n core w
end_there n core w h = by (slice_get w.cores core) refl h
  where
    by : (o : Option TheCore) → slice_get w.cores core ≡ o → given o false (λ k. has_end k n) ≡ true → HasEndOf n core w
    by None is e = absurd (cc)
    by (Some k) is e = (k, is, or_cases (is_some (place_of k (client_of n))) (is_some (place_of k (server_of n))) e)

pub none_there : (n core : ℕ) (w : TheWorld) → has_end_of n core w ≡ false → IsNewAt n core w
none_there n core w h k is =
    let here : has_end k n ≡ false = subst (λ (o : Option TheCore). given o false (λ k. has_end k n) ≡ false) is h in
    let both = or_false (is_some (place_of k (client_of n))) (is_some (place_of k (server_of n))) here in
    record { client = is_none (place_of k (client_of n)) both.0; server = is_none (place_of k (server_of n)) both.1 }

-- ---- places at dispatchers

pub no_places : (b : TheBoard) (n more : ℕ) → length b.dispatchers ≤ n → false ≡ has_places_on more b n
no_places b n more past = sym (ap (λ (o : Option TheDispatcher). given o false (λ d. nat_le (length d.ends + more) 1024)) (slice_get_past b.dispatchers n past))

-- a dispatcher that has places is there
pub with_places : (d : DispatcherId) (n : ℕ) (w : TheWorld) → has_places d n w ≡ true → HasDispatcher w.cores d
with_places d n w h = by (slice_get w.cores d.core) refl h
  where
    on_board : (k : TheCore) → slice_get w.cores d.core ≡ Some k → (o : Option TheDispatcher) → slice_get k.board.dispatchers d.place ≡ o
        → given o false (λ x. nat_le (length x.ends + n) 1024) ≡ true → HasDispatcher w.cores d
    on_board k is None at e = absurd (cc)
    on_board k is (Some x) at e = record { core = k; core_is = is; there = slice_get_within k.board.dispatchers d.place x at }

    by : (o : Option TheCore) → slice_get w.cores d.core ≡ o → given o false (λ k. has_places_on n k.board d.place) ≡ true → HasDispatcher w.cores d
    by None is e = absurd (cc)
    by (Some k) is e = on_board k is (slice_get k.board.dispatchers d.place) refl e

same_of : (c d : DispatcherId) → same_dispatcher c d ≡ true → c ≡ d
same_of c d h =
    let both = and_parts (c.core == d.core) (c.place == d.place) h in
    ap₂ (λ (x y : ℕ). the_id x y) (eqb-true c.core d.core both.0) (eqb-true c.place d.place both.1)
  where
    the_id : ℕ → ℕ → DispatcherId
    the_id x y = record { core = x; place = y }

module _ (client server : DispatcherId) (w : TheWorld) where
  both_there : both_places client server w ≡ true → HasDispatcher w.cores client × HasDispatcher w.cores server
  both_there h = by (same_dispatcher client server) refl h
    where
      by : (b : Bool) → same_dispatcher client server ≡ b
          → (if b then has_places client 2 w else has_places client 1 w && has_places server 1 w) ≡ true
          → HasDispatcher w.cores client × HasDispatcher w.cores server
      by true same e =
          let it = with_places client 2 w e in
          (it, subst (λ (d : DispatcherId). HasDispatcher w.cores d) (same_of client server same) it)
      by false other e =
          let both = and_parts (has_places client 1 w) (has_places server 1 w) e in
          (with_places client 1 w both.0, with_places server 1 w both.1)

  pub client_there : both_places client server w ≡ true → HasDispatcher w.cores client
  client_there h = (both_there h).0

  pub server_there : both_places client server w ≡ true → HasDispatcher w.cores server
  server_there h = (both_there h).1

-- ---- a copy

pub copied : (w base : TheWorld) → base ≡ w → (n : ℕ) → n < length w.programs → (read copy : Program) → read ≡ slice_index_or base.programs n read
    → program_of copy ≡ program_of read → IsCopyOf n w copy
copied w base same n below read copy value equal p is =
    let there : slice_get base.programs n ≡ Some read
    = stands base.programs n read read (subst (λ (x : TheWorld). n < length x.programs) (sym same) below) value refl in
    let one : read ≡ p = same_Some read p (sym there ∙ subst (λ (x : TheWorld). slice_get x.programs n ≡ Some p) (sym same) is) in
    equal ∙ ap program_of one

pub copied_end : (w base : TheWorld) → base ≡ w → (n : ℕ) → n < length w.programs → (read : Program) → read ≡ slice_index_or base.programs n read
    → (s : TheEnd) → IsNewEndOf read s → IsNewEnd n w s
copied_end w base same n below read value s h =
    record { program = h.copy; copy = copied w base same n below read h.copy value h.copy_is; end = h.end }

-- lists that were lent
module _ (w base : TheWorld) (same : base ≡ w) where
  pub within : {X : Type 0} (list : TheWorld → List X) (xs : List X) → xs ≡ list base → (n : ℕ) → n < length xs → n < length (list w)
  within {X} list xs lent n h = subst (λ (x : TheWorld). n < length (list x)) same (subst (λ (ys : List X). n < length ys) lent h)

  pub still_few : (bs : List Binding) → bs ≡ base.bindings → length bs < 1024 → length w.bindings < 1024
  still_few bs lent h = subst (λ (x : TheWorld). length x.bindings < 1024) same (subst (λ (cs : List Binding). length cs < 1024) lent h)

  pub all_taken : (bs : List Binding) → bs ≡ base.bindings → 1024 ≤ length bs → 1024 ≤ length w.bindings
  all_taken bs lent h = subst (λ (x : TheWorld). 1024 ≤ length x.bindings) same (subst (λ (cs : List Binding). 1024 ≤ length cs) lent h)

-- a dispatcher that is there is on one of few cores
pub core_small : (w base : TheWorld) → base ≡ w → (d : DispatcherId) → has_dispatcher w d ≡ true → length base.cores ≤ 16 → d.core < 256
core_small w base same d has few = by (slice_get w.cores d.core) refl where
  by : (o : Option TheCore) → slice_get w.cores d.core ≡ o → d.core < 256
  by None is =
      let none : has_dispatcher w d ≡ false = ap (λ (o : Option TheCore). given o false (λ k. nat_lt d.place (length k.board.dispatchers))) is in
      absurd (cc)
  by (Some k) is =
      let below : d.core < length w.cores = slice_get_within w.cores d.core k is in
      let fewer : length w.cores ≤ 16 = subst (λ (x : TheWorld). length x.cores ≤ 16) same few in
      omega (arith, below, fewer)

-- ---- what is asked for

module _ (client : DispatcherId) (i : ℕ) (name : List ℕ) (w : TheWorld) where
  pub no_client : has_dispatcher w client ≡ false → IsRequest client i name w (Err 92)
  no_client e kind a w2 r = if_true _ _ _ (ap not e) r

  module _ (there : has_dispatcher w client ≡ true) where
    pub no_program : length w.programs ≤ i → IsRequest client i name w (Err 92)
    no_program past kind a w2 r = if_false _ _ _ (ap not there) (given_none _ _ _ (slice_get_past w.programs i past) r)

    module _ (below : i < length w.programs) where
      pub too_many : 1024 ≤ length w.bindings → IsRequest client i name w (Err 94)
      too_many many kind a w2 r =
          let it = at_place w.programs i below in
          if_false _ _ _ (ap not there) (given_some _ _ _ it.0 it.1 (if_true _ _ _ (le-leb 1024 (length w.bindings) many) r))

      module _ (few : length w.bindings < 1024) where
        pub no_service : by_name name w.names ≡ None → IsRequest client i name w (Err 70)
        no_service none kind a w2 r =
            let it = at_place w.programs i below in
            if_false _ _ _ (ap not there) (given_some _ _ _ it.0 it.1 (if_false _ _ _ (lt-leb 1024 (length w.bindings) few) (given_none _ _ _ none r)))

        module _ (s : TheRegistration) (found : by_name name w.names ≡ Some s) where
          pub other_interface : s.service.interface ≢ i → IsRequest client i name w (Err 72)
          other_interface other kind a w2 r =
              let it = at_place w.programs i below in
              if_false _ _ _ (ap not there) (given_some _ _ _ it.0 it.1
              (if_false _ _ _ (lt-leb 1024 (length w.bindings) few) (given_some _ _ _ s found (if_true _ _ _ (ap not (ne_eqb s.service.interface i other)) r))))

          -- the request x is what these names come to
          pub requested : s.service.interface ≡ i → (x : BindRequest) → x.interface ≡ i
              → ((p : Program) → wanted_from client i p s ≡ request x p) → IsRequest client i name w (Ok x)
          requested one x here asks kind a w2 h =
              let it = at_place w.programs i below in
              let joins : BindsBy (wanted_from client i it.0 s) kind w a w2
              = subst (λ (r : BindingRequest). BindsBy r kind w a w2) (sym (asks it.0)) (h it.0 (subst (λ (n : ℕ). slice_get w.programs n ≡ Some it.0) (sym here) it.1)) in
              if_false _ _ _ (ap not there) (given_some _ _ _ it.0 it.1
              (if_false _ _ _ (lt-leb 1024 (length w.bindings) few) (given_some _ _ _ s found (if_false _ _ _ (ap not (eq-eqb s.service.interface i one)) joins))))

-- and the other way
given_one : {X : Type 0} (Otherwise : Type 0) (Then : X → Type 0) (o : Option X) (x : X) → o ≡ Some x → Given o Otherwise Then → Then x
given_one Otherwise Then None x e h = absurd (cc)
given_one Otherwise Then (Some y) x e h = subst Then (same_Some y x e) h

if_other : (Then Else : Type 0) (b : Bool) → b ≡ false → If b Then Else → Else
if_other Then Else true e h = absurd (cc)
if_other Then Else false e h = h

pub only_requested : (client : DispatcherId) (i : ℕ) (name : List ℕ) (w : TheWorld) → has_dispatcher w client ≡ true → i < length w.programs → length w.bindings < 1024
    → (s : TheRegistration) → by_name name w.names ≡ Some s → s.service.interface ≡ i → (x : BindRequest) → x.interface ≡ i
    → ((p : Program) → wanted_from client i p s ≡ request x p) → IsOnly client i name w x
only_requested client i name w there below few s found one x here asks kind a w2 h =
    let it = at_place w.programs i below in
    let joins : BindsBy (wanted_from client i it.0 s) kind w a w2
    = if_other _ _ _ (ap not (eq-eqb s.service.interface i one)) (given_one _ _ _ s found (if_other _ _ _ (lt-leb 1024 (length w.bindings) few)
    (given_one _ _ _ it.0 it.1 (if_other _ _ _ (ap not there) h)))) in
    (it.0, subst (λ (n : ℕ). slice_get w.programs n ≡ Some it.0) (sym here) it.1, subst (λ (r : BindingRequest). BindsBy r kind w a w2) (asks it.0) joins)

-- the same from the facts of the code, once a service of this name is found
module _ (w base : TheWorld) (same : base ≡ w) (c : RustDispatcherId) (i : ℕ) (name : List ℕ) (there : has_dispatcher w (id_of c) ≡ true)
    (ps : List Program) (all : ps ≡ base.programs) (below : i < length ps) (bs : List Binding) (known : bs ≡ base.bindings) (few : length bs < 1024)
    (found : Registration) (is : by_name name base.names ≡ Some (registration_of found)) where
  below_then : i < length w.programs
  below_then = subst (λ (x : TheWorld). i < length x.programs) same (subst (λ (qs : List Program). i < length qs) all below)

  few_then : length w.bindings < 1024
  few_then = subst (λ (x : TheWorld). length x.bindings < 1024) same (subst (λ (cs : List Binding). length cs < 1024) known few)

  named : by_name name w.names ≡ Some (registration_of found)
  named = subst (λ (x : TheWorld). by_name name x.names ≡ Some (registration_of found)) same is

  abbrev request_at : ℕ → BindRequest
  request_at n = record { client = c; interface = i; server = record { core = n; place = found.service.dispatcher }; iref = found.iref }

  pub not_offered : found.service.interface ≢ i → IsRequest (id_of c) i name w (Err 72)
  not_offered other = other_interface (id_of c) i name w there below_then few_then (registration_of found) named other

  pub is_requested : found.service.interface ≡ i → (core : ℕ) → core ≡ found.service.core.0
      → IsRequest (id_of c) i name w (Ok (record { client = c; interface = i; server = record { core = core; place = found.service.dispatcher }; iref = found.iref }))
  is_requested one core here =
      requested (id_of c) i name w there below_then few_then (registration_of found) named one (request_at core) refl
      (λ p. ap (λ (n : ℕ). request (request_at n) p) (sym here))

  pub is_only : found.service.interface ≡ i → (core : ℕ) → core ≡ found.service.core.0
      → IsOnly (id_of c) i name w (record { client = c; interface = i; server = record { core = core; place = found.service.dispatcher }; iref = found.iref })
  is_only one core here =
      only_requested (id_of c) i name w there below_then few_then (registration_of found) named one (request_at core) refl
      (λ p. ap (λ (n : ℕ). request (request_at n) p) (sym here))
