-- The circuits' numbers after a step: each was given by the core whose it is, and once.
use Rattle.std.proofs.Common.{◌≡◌, ◌≢◌, refl, sym, ◌∙◌, ap, subst, ℕ, zero, suc, ◌+◌, ◌<◌, ◌≤◌, true, not, inl, inr, ◌⊎◌}
use Rattle.std.proofs.Common.{List, [], ◌∷◌, length, slice_index, Some, None, arith}
use Rattle.std.specs.Prelude.{Contains}
use Rattle.std.specs.List.{push}
use Rattle.std.proofs.lemmas.Bool.{false≢true, and_parts}
use Rattle.fl_lists.specs.ThreeLists.{is_in}
use Rattle.fl_model.specs.Binding.{all_differ}
use Rattle.fl_hop.specs.declared.links.LinkState.{LinkState}
use Rattle.fl_hop.specs.Numbers.{number, IsAmong}
use Rattle.fl_hop.proofs.Entering.{same_or}
use Rattle.fl_hop.proofs.Numbering.{number_once, number_apart}
use Rattle.fl_model.specs.State.{Route, over_route, Binding, State}
use Rattle.fl_model.specs.Forwarding.{with_number, grants, denies, passes_word, route_of}
use Rattle.fl_model.specs.Standing.{Routed, core_at, number_at}
use Rattle.fl_model.specs.SoundRoutes.{RoutesLead, NumbersGo, NumbersGoAlongRoutes, NumbersWereOpened, OneNumber, NumbersAreOnce}
use Rattle.fl_model.specs.SoundLimits.{RoutesKeepToCores, NumbersAreOnceBothWays}
use Rattle.fl_model_laws.proofs.PlacesStep.{length_push}
use Rattle.fl_model_laws.proofs.Arriving.{in_at, not_true}
use Rattle.fl_model_laws.proofs.Faces.{look, counts_at, counts_grown, counted_at, more_cores}
use Rattle.fl_model_laws.proofs.Turned.{IsNew, Turns, Goes, Begins, Turned, stays, joins, begins, goes, arrives, fails, passes, opens, OneTurns, Comes}
use Rattle.fl_model_laws.proofs.Routed.{same_route, no_binding, turned_at}
use Rattle.fl_model_laws.proofs.Small.{some_same}

-- ---- where a number comes from

-- it was the number of the same binding on the same link
pub record WasThere (s : State) (n : ℕ) (route : Route) (j : ℕ) : Type 0 where
  pub before : Route
  pub routed : Routed s n before
  pub within : j < length before.numbers
  pub from : core_at route j ≡ core_at before j
  pub to : core_at route (j + 1) ≡ core_at before (j + 1)
  pub number : number_at route j ≡ number_at before j

-- or it is new
abbrev pub ComesFrom : State → State → ℕ → Route → ℕ → Type 0
ComesFrom s t n route j = WasThere s n route j ⊎ IsNew (look s) (look t) (core_at route j) (core_at route (j + 1)) (number_at route j)

push_before : (xs : List ℕ) (j d : ℕ) → j < length xs → slice_index (push xs d) j ≡ slice_index xs j
push_before [] j d h = absurd (omega arith)
push_before (x ∷ xs) zero d h = refl
push_before (x ∷ xs) (suc j) d h = push_before xs j d (omega arith)

push_last : (xs : List ℕ) (d : ℕ) → slice_index (push xs d) (length xs) ≡ d
push_last [] d = refl
push_last (x ∷ xs) d = push_last xs d

turned_from : (s t : State) (n : ℕ) (route now after : Route) (b c : Binding) (j : ℕ) → Turns (look s) n route now b c → c.back ≡ over_route after → j < length after.numbers
    → now.cores ≡ route.cores → now.numbers ≡ route.numbers → ComesFrom s t n after j
turned_from s t n route now after b c j turns back less cores numbers =
    let same : now ≡ after = same_route now after (sym turns.is ∙ back) in
    let all : after.cores ≡ route.cores = ap (λ (p : Route). p.cores) (sym same) ∙ cores in
    let given : after.numbers ≡ route.numbers = ap (λ (p : Route). p.numbers) (sym same) ∙ numbers in
    inl (record {
      before = route;
      routed = record { binding = b; there = turns.there; back = turns.was };
      within = subst (λ (xs : List ℕ). j < length xs) given less;
      from = ap (λ (xs : List ℕ). slice_index xs j) all;
      to = ap (λ (xs : List ℕ). slice_index xs (j + 1)) all;
      number = ap (λ (xs : List ℕ). slice_index xs j) given;
    })

begun_from : (s t : State) (n : ℕ) (route : Route) (d : ℕ) (c : Binding) (j : ℕ) → Begins (look s) (look t) route d c → j < length route.numbers → ComesFrom s t n route j
begun_from s t n route d c zero g less =
    inr (subst (λ (e : ℕ). IsNew (look s) (look t) (core_at route 0) (core_at route 1) e) (sym (ap (λ (xs : List ℕ). slice_index xs 0) g.numbers)) g.number)
begun_from s t n route d c (suc j) g less = let one : length route.numbers ≡ 1 = ap length g.numbers in absurd (omega arith)

went_from : (s t : State) (n : ℕ) (route : Route) (d : ℕ) (b c : Binding) (j : ℕ) → Turns (look s) n route (with_number d route) b c
    → Goes (look s) (look t) route d b c → j < length (push route.numbers d) → ComesFrom s t n (with_number d route) j
went_from s t n route d b c j turns g less = elim (same_or j (length route.numbers)) [
  | inl e ↦ inr (subst (λ (i : ℕ). IsNew (look s) (look t) (core_at route i) (core_at route (i + 1)) (slice_index (push route.numbers d) i)) (sym e)
      (subst (IsNew (look s) (look t) (core_at route (length route.numbers)) (core_at route (length route.numbers + 1))) (sym (push_last route.numbers d)) g.number))
  | inr u ↦
      let longer : length (push route.numbers d) ≡ length route.numbers + 1 = length_push route.numbers d in
      let within : j < length route.numbers = omega arith in
      inl (record {
        before = route;
        routed = record { binding = b; there = turns.there; back = turns.was };
        within = within;
        from = refl;
        to = refl;
        number = push_before route.numbers j d within;
      })
]

comes_by : (s t : State) (n : ℕ) (c : Binding) (route : Route) (j : ℕ) → Turned (look s) (look t) n c → c.back ≡ over_route route → j < length route.numbers
    → ComesFrom s t n route j
comes_by s t n c route j (stays b there f) back less = inl (record {
  before = route;
  routed = record { binding = b; there = there; back = sym f.back ∙ back };
  within = less;
  from = refl;
  to = refl;
  number = refl;
})
comes_by s t n c route j (joins none bound) back less = absurd (let e : None ≡ Some route = sym none ∙ ap route_of back in cc)
comes_by s t n c route j (begins p d g) back less =
    let same : p ≡ route = same_route p route (sym g.back ∙ back) in
    subst (λ (q : Route). ComesFrom s t n q j) same (begun_from s t n p d c j g (subst (λ (q : Route). j < length q.numbers) (sym same) less))
comes_by s t n c route j (goes p d b turns g) back less =
    let same : with_number d p ≡ route = same_route (with_number d p) route (sym turns.is ∙ back) in
    subst (λ (q : Route). ComesFrom s t n q j) same (went_from s t n p d b c j turns g (subst (λ (q : Route). j < length q.numbers) (sym same) less))
comes_by s t n c route j (arrives p b turns g) back less = turned_from s t n p (grants p) route b c j turns back less refl refl
comes_by s t n c route j (fails p fault b turns u ends) back less = turned_from s t n p (denies fault p) route b c j turns back less refl refl
comes_by s t n c route j (passes p b turns u ends) back less = turned_from s t n p (passes_word p) route b c j turns back less refl refl
comes_by s t n c route j (opens p b turns g) back less = turned_from s t n p (passes_word p) route b c j turns back less refl refl

-- only the binding that turned may have a new number
numbers_from : (s t : State) (k : OneTurns (look s) (look t)) (n : ℕ) (route : Route) (j : ℕ) → Routed t n route → j < length route.numbers
    → WasThere s n route j ⊎ ((n ≡ k.place) × IsNew (look s) (look t) (core_at route j) (core_at route (j + 1)) (number_at route j))
numbers_from s t k n route j r less = elim (same_or n k.place) [
  | inr d ↦
      let was = k.others n r.binding d r.there in
      inl (record {
        before = route;
        routed = record { binding = was.0; there = was.1; back = sym was.2.back ∙ r.back };
        within = less;
        from = refl;
        to = refl;
        number = refl;
      })
  | inl e ↦ elim (comes_by s t n r.binding route j (turned_at s t n r.binding k r.there) r.back less) [
    | inl was ↦ inl was
    | inr new ↦ inr (e, new)
  ]
]

-- ---- numbers were opened

-- a number that was there is one of those that its core had opened before
was_among : (s : State) (n : ℕ) (route : Route) (j : ℕ) → NumbersGoAlongRoutes s → NumbersWereOpened s → WasThere s n route j
    → (x : LinkState) × (counts_at s.cores (core_at route j) (core_at route (j + 1)) ≡ Some x)
    × IsAmong (core_at route j) (core_at route (j + 1)) x.opened (number_at route j)
was_among s n route j go h w =
    let before : Route = w.before in
    let goes : NumbersGo s before = go n before w.routed in
    let (x, there) = counted_at s.cores (core_at before j) (core_at before (j + 1)) (goes.linked j w.within) in
    let (i, less, is) = h n before j x w.routed w.within there in (
      x,
      ap (λ (a : ℕ). counts_at s.cores a (core_at route (j + 1))) w.from ∙ ap (counts_at s.cores (core_at before j)) w.to ∙ there,
      (i, less, w.number ∙ is ∙ ap (λ (a : ℕ). number a (core_at before (j + 1)) i) (sym w.from) ∙ ap (λ (b : ℕ). number (core_at route j) b i) (sym w.to)),
    )

opened_by : (s t : State) (k : OneTurns (look s) (look t)) (n : ℕ) (route : Route) (j : ℕ) (here : LinkState) → NumbersGoAlongRoutes s → NumbersWereOpened s
    → Routed t n route → j < length route.numbers → counts_at t.cores (core_at route j) (core_at route (j + 1)) ≡ Some here
    → IsAmong (core_at route j) (core_at route (j + 1)) here.opened (number_at route j)
opened_by s t k n route j here go h r less at = elim (numbers_from s t k n route j r less) [
  | inl w ↦
      let (x, there, among) = was_among s n route j go h w in
      let (now, is, more) = counts_grown s.cores t.cores (core_at route j) (core_at route (j + 1)) x k.cores there in
      let one : now.opened ≡ here.opened = ap (λ (y : LinkState). y.opened) (some_same now here (sym is ∙ at)) in
      let (i, under, number_is) = among in
      (i, omega arith, number_is)
  | inr new ↦
      let one : new.1.now.opened ≡ here.opened = ap (λ (y : LinkState). y.opened) (some_same new.1.now here (sym new.1.now_is ∙ at)) in
      let more : new.1.was.opened < new.1.now.opened = new.1.more in
      (new.1.was.opened, omega arith, new.1.number_is)
]

pub numbers_opened : (s t : State) → NumbersGoAlongRoutes s → NumbersWereOpened s → Comes (look s) (look t) → NumbersWereOpened t
numbers_opened s t go h (inl none) n route j here r less at = absurd (no_binding t n route none r)
numbers_opened s t go h (inr k) n route j here r less at = opened_by s t k n route j here go h r less at

-- ---- numbers are given once

-- a new number is none that was there
new_apart : (s t : State) (m : ℕ) (p q : Route) (i j : ℕ) → NumbersGoAlongRoutes s → NumbersWereOpened s → WasThere s m p i
    → IsNew (look s) (look t) (core_at q j) (core_at q (j + 1)) (number_at q j)
    → core_at p i ≡ core_at q j → core_at p (i + 1) ≡ core_at q (j + 1) → number_at p i ≡ number_at q j → ⊥
new_apart s t m p q i j go h w new from to number_is =
    let (x, there, among) = was_among s m p i go h w in
    let (k, less, is) = among in
    let same : x ≡ new.was =
    some_same x new.was (sym there ∙ ap (λ (a : ℕ). counts_at s.cores a (core_at p (i + 1))) from ∙ ap (counts_at s.cores (core_at q j)) to ∙ new.was_is) in
    let one : k ≡ new.was.opened = number_once (core_at q j) (core_at q (j + 1)) k new.was.opened
    (ap (λ (a : ℕ). number a (core_at q (j + 1)) k) (sym from) ∙ ap (λ (b : ℕ). number (core_at p i) b k) (sym to) ∙ sym is ∙ number_is ∙ new.number_is) in
    let count : x.opened ≡ new.was.opened = ap (λ (y : LinkState). y.opened) same in
    omega arith

once_by : (s t : State) (k : OneTurns (look s) (look t)) (m n : ℕ) (p q : Route) (i j : ℕ) → NumbersGoAlongRoutes s → NumbersWereOpened s → NumbersAreOnce s
    → Routed t m p → Routed t n q → OneNumber p q i j → m ≡ n
once_by s t k m n p q i j go opened h a b one = elim (numbers_from s t k m p i a one.first) [
  | inl v ↦ elim (numbers_from s t k n q j b one.second) [
    | inl w ↦ h m n v.before w.before i j v.routed w.routed (record {
      first = v.within;
      second = w.within;
      from = sym v.from ∙ one.from ∙ w.from;
      to = sym v.to ∙ one.to ∙ w.to;
      number = sym v.number ∙ one.number ∙ w.number;
    })
    | inr new ↦ absurd (new_apart s t m p q i j go opened v new.1 one.from one.to one.number)
  ]
  | inr new ↦ elim (numbers_from s t k n q j b one.second) [
    | inl w ↦ absurd (new_apart s t n q p j i go opened w new.1 (sym one.from) (sym one.to) (sym one.number))
    | inr other ↦ new.0 ∙ sym other.0
  ]
]

pub numbers_once : (s t : State) → NumbersGoAlongRoutes s → NumbersWereOpened s → NumbersAreOnce s → Comes (look s) (look t) → NumbersAreOnce t
numbers_once s t go opened h (inl none) m n p q i j a b one = absurd (no_binding t m p none a)
numbers_once s t go opened h (inr k) m n p q i j a b one = once_by s t k m n p q i j go opened h a b one

-- ---- and mean the same in both directions

-- two cores of a route, one behind the other, differ
next_differs : (xs : List ℕ) (j : ℕ) → j + 1 < length xs → all_differ xs ≡ true → slice_index xs j ≢ slice_index xs (j + 1)
next_differs [] j h d e = omega arith
next_differs (x ∷ xs) zero h d e =
    let both = and_parts (not (is_in x xs)) (all_differ xs) d in
    false≢true (sym (not_true (is_in x xs) both.0) ∙ in_at xs 0 x (omega arith) (sym e))
next_differs (x ∷ xs) (suc j) h d e =
    let both = and_parts (not (is_in x xs)) (all_differ xs) d in
    let later : suc j + 1 ≡ suc (j + 1) = omega arith in
    next_differs xs j (omega arith) both.1 (e ∙ ap (slice_index (x ∷ xs)) later)

pub numbers_once_back : (t : State) → RoutesLead t → NumbersGoAlongRoutes t → NumbersWereOpened t → NumbersAreOnceBothWays t
numbers_once_back t lead go opened m n p q i j a b one =
    let goes : NumbersGo t p = go m p a in
    let comes : NumbersGo t q = go n q b in
    let (x, there) = counted_at t.cores (core_at p i) (core_at p (i + 1)) (goes.linked i one.first) in
    let (y, back) = counted_at t.cores (core_at q j) (core_at q (j + 1)) (comes.linked j one.second) in
    let (k, less, is) = opened m p i x a one.first there in
    let (l, under, also) = opened n q j y b one.second back in
    let few : length p.numbers + 1 ≤ length p.cores = goes.few in
    let first : i < length p.numbers = one.first in
    let apart : core_at p i ≢ core_at p (i + 1) = next_differs p.cores i (omega arith) (lead m p a).differ in
    let same : number (core_at p i) (core_at p (i + 1)) k ≡ number (core_at p (i + 1)) (core_at p i) l =
    sym is ∙ one.number ∙ also ∙ ap (λ (c : ℕ). number c (core_at q (j + 1)) l) (sym one.to) ∙ ap (λ (c : ℕ). number (core_at p (i + 1)) c l) (sym one.from) in
    absurd (number_apart (core_at p i) (core_at p (i + 1)) k l apart same)

-- ---- routes keep to the world's cores

keeps_turns : (s t : State) (n : ℕ) (route now after : Route) (b c : Binding) (core : ℕ) → RoutesKeepToCores s → c.back ≡ over_route after
    → Turns (look s) n route now b c → now.cores ≡ route.cores → Contains after.cores core → core < length s.cores
keeps_turns s t n route now after b c core h back turns cores has =
    let same : now ≡ after = same_route now after (sym turns.is ∙ back) in
    let all : after.cores ≡ route.cores = ap (λ (p : Route). p.cores) (sym same) ∙ cores in
    h n route core (record { binding = b; there = turns.there; back = turns.was }) (subst (λ (xs : List ℕ). Contains xs core) all has)

keeps_by : (s t : State) (n : ℕ) (c : Binding) (route : Route) (core : ℕ) → RoutesKeepToCores s → c.back ≡ over_route route → Turned (look s) (look t) n c
    → Contains route.cores core → core < length s.cores
keeps_by s t n c route core h back (stays b there f) has = h n route core (record { binding = b; there = there; back = sym f.back ∙ back }) has
keeps_by s t n c route core h back (joins none bound) has = absurd (let e : None ≡ Some route = sym none ∙ ap route_of back in cc)
keeps_by s t n c route core h back (begins p d g) has =
    g.within core (subst (λ (q : Route). Contains q.cores core) (sym (same_route p route (sym g.back ∙ back))) has)
keeps_by s t n c route core h back (goes p d b turns g) has = keeps_turns s t n p (with_number d p) route b c core h back turns refl has
keeps_by s t n c route core h back (arrives p b turns g) has = keeps_turns s t n p (grants p) route b c core h back turns refl has
keeps_by s t n c route core h back (fails p fault b turns u ends) has = keeps_turns s t n p (denies fault p) route b c core h back turns refl has
keeps_by s t n c route core h back (passes p b turns u ends) has = keeps_turns s t n p (passes_word p) route b c core h back turns refl has
keeps_by s t n c route core h back (opens p b turns g) has = keeps_turns s t n p (passes_word p) route b c core h back turns refl has

pub routes_keep : (s t : State) → RoutesKeepToCores s → Comes (look s) (look t) → RoutesKeepToCores t
routes_keep s t h (inl none) n route core r has = absurd (no_binding t n route none r)
routes_keep s t h (inr k) n route core r has =
    more_cores s.cores t.cores core k.cores (keeps_by s t n r.binding route core h r.back (turned_at s t n r.binding k r.there) has)
