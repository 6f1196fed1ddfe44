-- What a step makes of a binding's route and of its ends: it leaves them, or turns one binding's, in few ways.
use Rattle.std.proofs.Common.{◌≡◌, ◌≢◌, refl, sym, ◌∙◌, ap, subst, ℕ, zero, suc, ◌+◌, ◌-◌, ◌<◌, ◌≤◌, true, inr, ◌⊎◌}
use Rattle.std.proofs.Common.{List, [], ◌∷◌, ◌++◌, length, slice_get, Some, None, option_map, arith}
use Rattle.std.specs.Prelude.{IsSome, Contains}
use Rattle.fl_hop.specs.declared.links.LinkState.{LinkState}
use Rattle.fl_hop.specs.Numbers.{number}
use Rattle.fl_model.specs.Ends.{Seat}
use Rattle.fl_model.specs.Monitors.{Service, service_of}
use Rattle.fl_model.specs.State.{OpeningVerdict, undecided, granted, denied, Route, over_route, Binding}
use Rattle.fl_model.specs.Binding.{all_differ}
use Rattle.fl_model.specs.Forwarding.{with_number, grants, denies, passes_word, route_of}
use Rattle.fl_model.specs.Standing.{core_at, number_at}
use Rattle.fl_model.specs.SoundRoutes.{NoneBound, BoundWhere}
use Rattle.fl_model.specs.Given.{changed_at}
use Rattle.fl_model_laws.proofs.Places.{changed_other, changed_same}
use Rattle.fl_model_laws.proofs.Ready.{get_last}
use Rattle.fl_model_laws.proofs.Faces.{same_face, Look, counts_at, linked_at, SameEnds, SameFace, CoresGrow, ServicesStay, Stays, counts_grown, linked_grown}

-- ---- what is known of a new number

-- the number is core a's next on its link to b, and is counted afterwards
pub record IsNew (x y : Look) (a b d : ℕ) : Type 0 where
  pub was : LinkState
  pub was_is : counts_at x.cores a b ≡ Some was
  pub number_is : d ≡ number a b was.opened
  pub now : LinkState
  pub now_is : counts_at y.cores a b ≡ Some now
  pub more : was.opened < now.opened
  pub linked : IsSome (linked_at y.cores a b)

-- ---- a binding that was there

pub record Turns (x : Look) (n : ℕ) (route now : Route) (b c : Binding) : Type 0 where
  pub there : slice_get x.bindings n ≡ Some b
  pub was : b.back ≡ over_route route
  pub is : c.back ≡ over_route now

-- the last core has made the server's end
pub record Arrives (x : Look) (route : Route) (b c : Binding) : Type 0 where
  pub undecided_is : route.verdict ≡ undecided
  pub last : length route.numbers + 1 ≡ length route.cores
  pub client_seat : c.client.seat ≡ b.client.seat
  pub client_circuit : c.client.circuit ≡ b.client.circuit
  pub seat : Seat
  pub seat_is : c.server.seat ≡ Some seat
  pub service : Service
  pub service_is : service_of x.services route.service ≡ Some service
  pub at : seat.dispatcher ≡ service.dispatcher
  pub circuit : c.server.circuit ≡ Some (number_at route (length route.numbers - 1))

-- the opening has gone on, over a link to the next core
pub record Goes (x y : Look) (route : Route) (d : ℕ) (b c : Binding) : Type 0 where
  pub undecided_is : route.verdict ≡ undecided
  pub ends : SameEnds b c
  pub more : length route.numbers + 2 ≤ length route.cores
  pub number : IsNew x y (core_at route (length route.numbers)) (core_at route (length route.numbers + 1)) d

-- the answer has gone on, but not to the client's end as a word that it's open
abbrev pub HasFurther : OpeningVerdict → Type 0
HasFurther undecided = ⊥
HasFurther (granted zero) = ⊥
HasFurther (granted (suc zero)) = ⊥
HasFurther (granted (suc (suc i))) = Unit {0}
HasFurther (denied i fault) = Unit {0}

-- the client's end is on the circuit
pub record Opens (route : Route) (b c : Binding) : Type 0 where
  pub granted_is : route.verdict ≡ granted 1
  pub client_seat : c.client.seat ≡ b.client.seat
  pub client_circuit : c.client.circuit ≡ Some (number_at route 0)
  pub server_seat : c.server.seat ≡ b.server.seat
  pub server_circuit : c.server.circuit ≡ b.server.circuit

-- ---- a new binding

pub record Begins (x y : Look) (route : Route) (d : ℕ) (c : Binding) : Type 0 where
  pub back : c.back ≡ over_route route
  pub undecided_is : route.verdict ≡ undecided
  pub numbers : route.numbers ≡ d ∷ []
  pub number : IsNew x y (core_at route 0) (core_at route 1) d
  pub some : 2 ≤ length route.cores
  pub few : length route.cores ≤ 16
  pub differ : all_differ route.cores ≡ true
  pub within : (core : ℕ) → Contains route.cores core → core < length x.cores
  pub none : NoneBound c
  pub client : Seat
  pub client_is : c.client.seat ≡ Some client
  pub first : client.dispatcher.core ≡ core_at route 0
  pub service : Service
  pub service_is : service_of x.services route.service ≡ Some service
  pub last : service.dispatcher.core ≡ core_at route (length route.cores - 1)

-- ---- what a step makes of binding n

pub data Turned (x y : Look) (n : ℕ) (c : Binding) : Type 0 where
  stays : (b : Binding) → slice_get x.bindings n ≡ Some b → SameFace b c → Turned x y n c
  joins : route_of c.back ≡ None → BoundWhere c.back c → Turned x y n c
  begins : (route : Route) (d : ℕ) → Begins x y route d c → Turned x y n c
  goes : (route : Route) (d : ℕ) (b : Binding) → Turns x n route (with_number d route) b c → Goes x y route d b c → Turned x y n c
  arrives : (route : Route) (b : Binding) → Turns x n route (grants route) b c → Arrives x route b c → Turned x y n c
  fails : (route : Route) (fault : ℕ) (b : Binding) → Turns x n route (denies fault route) b c → route.verdict ≡ undecided → SameEnds b c → Turned x y n c
  passes : (route : Route) (b : Binding) → Turns x n route (passes_word route) b c → HasFurther route.verdict → SameEnds b c → Turned x y n c
  opens : (route : Route) (b : Binding) → Turns x n route (passes_word route) b c → Opens route b c → Turned x y n c

-- all but one binding stay
pub record OneTurns (x y : Look) : Type 0 where
  pub place : ℕ
  pub cores : CoresGrow x.cores y.cores
  pub services : ServicesStay x.services y.services
  pub others : (m : ℕ) (c : Binding) → m ≢ place → slice_get y.bindings m ≡ Some c → (b : Binding) × (slice_get x.bindings m ≡ Some b) × SameFace b c
  pub one : (c : Binding) → slice_get y.bindings place ≡ Some c → Turned x y place c

-- what a step makes of all
abbrev pub Comes : Look → Look → Type 0
Comes x y = (y.bindings ≡ []) ⊎ OneTurns x y

pub comes_stays : (x y : Look) → Stays x y → Comes x y
comes_stays x y h = inr (record {
  place = 0;
  cores = h.cores;
  services = h.services;
  others = λ m c d q. h.bindings m c q;
  one = λ c q. let (b, there, f) = h.bindings 0 c q in stays b there f;
})

-- ---- a binding of which nothing else has changed since

pub new_on : (x y z : Look) (a b d : ℕ) → CoresGrow y.cores z.cores → IsNew x y a b d → IsNew x z a b d
new_on x y z a b d g h =
    let (now, is, more) = counts_grown y.cores z.cores a b h.now g h.now_is in
    let before : h.was.opened < h.now.opened = h.more in
    record {
      was = h.was;
      was_is = h.was_is;
      number_is = h.number_is;
      now = now;
      now_is = is;
      more = omega arith;
      linked = linked_grown y.cores z.cores a b g h.linked;
    }

-- ---- one binding changed, or added

-- in a list of bindings one place alone is another, and this stands there
pub record OnlyAt (bs cs : List Binding) (n : ℕ) (c : Binding) : Type 0 where
  pub others : (m : ℕ) → m ≢ n → slice_get cs m ≡ slice_get bs m
  pub there : slice_get cs n ≡ Some c

pub only_on : (bs cs ds : List Binding) (n : ℕ) (c e : Binding) → OnlyAt bs cs n c → OnlyAt cs ds n e → OnlyAt bs ds n e
only_on bs cs ds n c e h k = record { others = λ m d. k.others m d ∙ h.others m d; there = k.there }

pub only_changed : (bs : List Binding) (n : ℕ) (f : Binding → Binding) (b : Binding) → slice_get bs n ≡ Some b → OnlyAt bs (changed_at n f bs) n (f b)
only_changed bs n f b q = record {
  others = λ m d. changed_other bs n m f d;
  there = changed_same bs n f ∙ ap (option_map f) q;
}

push_other : (bs : List Binding) (b : Binding) (m : ℕ) → m ≢ length bs → slice_get (bs ++ b ∷ []) m ≡ slice_get bs m
push_other [] b zero d = absurd (d refl)
push_other [] b (suc m) d = refl
push_other (x ∷ bs) b zero d = refl
push_other (x ∷ bs) b (suc m) d = push_other bs b m (λ e. d (let f : m ≡ length bs = e in omega arith))

pub only_pushed : (bs : List Binding) (b : Binding) → OnlyAt bs (bs ++ b ∷ []) (length bs) b
only_pushed bs b = record { others = λ m d. push_other bs b m d; there = get_last bs b }

pub comes_at : (x y : Look) (n : ℕ) (c : Binding) → CoresGrow x.cores y.cores → ServicesStay x.services y.services → OnlyAt x.bindings y.bindings n c
    → Turned x y n c → Comes x y
comes_at x y n c cores services only turned = inr (record {
  place = n;
  cores = cores;
  services = services;
  others = λ m e d q. (e, sym (only.others m d) ∙ q, same_face e);
  one = λ e q. subst (Turned x y n) (let u : Some c ≡ Some e = sym only.there ∙ q in cc) turned;
})
