-- Which ends are bound after a step: by what the step makes of each binding.
use Rattle.std.proofs.Common.{◌≡◌, sym, ◌∙◌, ap, subst, ℕ, zero, suc, ◌+◌, ◌-◌, ◌≤◌, inl, inr}
use Rattle.std.proofs.Common.{List, length, slice_get, Option, Some, None, arith}
use Rattle.std.specs.Prelude.{IsSome, is_some}
use Rattle.fl_model.specs.State.{OpeningVerdict, undecided, granted, denied, Route, Back, local, over_ring, over_route, Binding, State}
use Rattle.fl_model.specs.Forwarding.{with_number, grants, denies, passes_word, word_passes}
use Rattle.fl_model.specs.SoundRoutes.{NumbersGo, NumbersGoAlongRoutes, ClientBoundAfter, NoneBound, BothBound, BoundBy, BoundWhere, EndsAreBound}
use Rattle.fl_model_laws.proofs.Faces.{Look, look, SameEnds}
use Rattle.fl_model_laws.proofs.Turned.{Turns, Arrives, HasFurther, Opens, Turned, stays, joins, begins, goes, arrives, fails, passes, opens, Comes}
use Rattle.fl_model_laws.proofs.Routed.{turned_at}

-- ---- ends that stay

some_stays : {X : Type 0} (a b : Option X) → b ≡ a → IsSome a → IsSome b
some_stays a b e h = ap is_some e ∙ h

none_stays : (b c : Binding) → SameEnds b c → NoneBound b → NoneBound c
none_stays b c f h = (f.client_circuit ∙ h.0, f.server_circuit ∙ h.1, f.server_seat ∙ h.2)

both_stay : (b c : Binding) → SameEnds b c → BothBound b → BothBound c
both_stay b c f h = (
  f.client_circuit ∙ h.0,
  f.server_circuit ∙ h.1,
  some_stays b.client.seat c.client.seat f.client_seat h.2,
  some_stays b.server.seat c.server.seat f.server_seat h.3,
)

client_stays : (route : Route) (i : ℕ) (b c : Binding) → c.client.circuit ≡ b.client.circuit → ClientBoundAfter route i b → ClientBoundAfter route i c
client_stays route zero b c e h = e ∙ h
client_stays route (suc i) b c e h = e ∙ h

by_stays : (route : Route) (v : OpeningVerdict) (b c : Binding) → SameEnds b c → BoundBy route v b → BoundBy route v c
by_stays route undecided b c f h = none_stays b c f h
by_stays route (denied i fault) b c f h = none_stays b c f h
by_stays route (granted i) b c f h = (
  client_stays route i b c f.client_circuit h.0,
  f.server_circuit ∙ h.1,
  some_stays b.server.seat c.server.seat f.server_seat h.2,
)

where_stays : (back : Back) (b c : Binding) → SameEnds b c → BoundWhere back b → BoundWhere back c
where_stays local b c f h = both_stay b c f h
where_stays (over_ring n) b c f h = both_stay b c f h
where_stays (over_route route) b c f h = by_stays route route.verdict b c f h

-- ---- ends that turn

-- of the route that was there
was_bound : (s : State) (n : ℕ) (route now : Route) (b c : Binding) → EndsAreBound s → Turns (look s) n route now b c → BoundBy route route.verdict b
was_bound s n route now b c h turns = subst (λ (a : Back). BoundWhere a b) turns.was (h n b turns.there)

is_bound : (x : Look) (n : ℕ) (route now : Route) (b c : Binding) → Turns x n route now b c → BoundBy now now.verdict c → BoundWhere c.back c
is_bound x n route now b c turns h = subst (λ (a : Back). BoundWhere a c) (sym turns.is) h

undecided_bound : (route : Route) (b c : Binding) → route.verdict ≡ undecided → SameEnds b c → BoundBy route route.verdict b → NoneBound c
undecided_bound route b c u f h = none_stays b c f (subst (λ (v : OpeningVerdict). BoundBy route v b) u h)

-- a word that doesn't reach the client's end
word_bound : (route : Route) (v : OpeningVerdict) (b : Binding) → HasFurther v → BoundBy route v b → BoundBy (passes_word route) (word_passes v) b
word_bound route undecided b u h = absurd u
word_bound route (granted zero) b u h = absurd u
word_bound route (granted (suc zero)) b u h = absurd u
word_bound route (granted (suc (suc i))) b u h =
    let less : suc i ≡ suc (suc i) - 1 = omega arith in
    (subst (λ (k : ℕ). ClientBoundAfter (passes_word route) k b) less h.0, h.1, h.2)
word_bound route (denied i fault) b u h = h

-- the answer to an opening that arrived is yet to come to the client
arrived_bound : (x : Look) (route : Route) (b c : Binding) → Arrives x route b c → 1 ≤ length route.numbers → BoundBy route route.verdict b
    → BoundBy (grants route) (granted (length route.cores - 1)) c
arrived_bound x route b c g some h =
    let none : NoneBound b = subst (λ (v : OpeningVerdict). BoundBy route v b) g.undecided_is h in
    let last : length route.numbers + 1 ≡ length route.cores = g.last in
    (waits (length route.cores - 1) (omega arith) (g.client_circuit ∙ none.0), g.circuit, ap is_some g.seat_is)
  where
    waits : (i : ℕ) → 1 ≤ i → c.client.circuit ≡ None → ClientBoundAfter (grants route) i c
    waits zero k q = absurd (omega arith)
    waits (suc i) k q = q

opened_bound : (route : Route) (b c : Binding) → Opens route b c → BoundBy route route.verdict b → BoundBy (passes_word route) (word_passes route.verdict) c
opened_bound route b c g h =
    let was : BoundBy route (granted 1) b = subst (λ (v : OpeningVerdict). BoundBy route v b) g.granted_is h in
    subst (λ (v : OpeningVerdict). BoundBy (passes_word route) (word_passes v) c) (sym g.granted_is)
    (g.client_circuit, g.server_circuit ∙ was.1, some_stays b.server.seat c.server.seat g.server_seat was.2)

bound_by : (s t : State) (n : ℕ) (c : Binding) → EndsAreBound s → NumbersGoAlongRoutes s → Turned (look s) (look t) n c → BoundWhere c.back c
bound_by s t n c h go (stays b there f) = subst (λ (a : Back). BoundWhere a c) (sym f.back) (where_stays b.back b c f.ends (h n b there))
bound_by s t n c h go (joins none bound) = bound
bound_by s t n c h go (begins p d g) =
    subst (λ (a : Back). BoundWhere a c) (sym g.back) (subst (λ (v : OpeningVerdict). BoundBy p v c) (sym g.undecided_is) g.none)
bound_by s t n c h go (goes p d b turns g) =
    is_bound (look s) n p (with_number d p) b c turns
    (subst (λ (v : OpeningVerdict). BoundBy (with_number d p) v c) (sym g.undecided_is)
    (undecided_bound p b c g.undecided_is g.ends (was_bound s n p (with_number d p) b c h turns)))
bound_by s t n c h go (arrives p b turns g) =
    let numbers : NumbersGo s p = go n p (record { binding = b; there = turns.there; back = turns.was }) in
    is_bound (look s) n p (grants p) b c turns
    (arrived_bound (look s) p b c g numbers.some (was_bound s n p (grants p) b c h turns))
bound_by s t n c h go (fails p fault b turns u ends) =
    is_bound (look s) n p (denies fault p) b c turns (undecided_bound p b c u ends (was_bound s n p (denies fault p) b c h turns))
bound_by s t n c h go (passes p b turns u ends) =
    is_bound (look s) n p (passes_word p) b c turns
    (by_stays (passes_word p) (word_passes p.verdict) b c ends (word_bound p p.verdict b u (was_bound s n p (passes_word p) b c h turns)))
bound_by s t n c h go (opens p b turns g) =
    is_bound (look s) n p (passes_word p) b c turns (opened_bound p b c g (was_bound s n p (passes_word p) b c h turns))

pub ends_bound : (s t : State) → EndsAreBound s → NumbersGoAlongRoutes s → Comes (look s) (look t) → EndsAreBound t
ends_bound s t h go (inl none) n b q = absurd (let e : None ≡ Some b = ap (λ (bs : List Binding). slice_get bs n) (sym none) ∙ q in cc)
ends_bound s t h go (inr k) n b q = bound_by s t n b h go (turned_at s t n b k q)
