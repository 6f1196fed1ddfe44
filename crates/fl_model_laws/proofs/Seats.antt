-- An end's channel is its dispatcher's channel for it, and no other's: as the seats that ends have, and the ends that dispatchers have.
use Rattle.std.proofs.Common.{◌≡◌, refl, sym, ◌∙◌, ap, subst, ℕ, zero, suc, ◌⊎◌, inl, inr}
use Rattle.std.proofs.Common.{List, [], ◌∷◌, ◌++◌, length, slice_get, slice_set, Option, Some, None, arith}
use Rattle.fl_base.specs.declared.identity.EndId.{EndId}
use Rattle.fl_base.specs.declared.identity.Side.{Side}
use Rattle.fl_base.specs.declared.identity.Side.TheVariants.{Client, Server}
use Rattle.fl_base.specs.Given.{given}
use Rattle.fl_model.specs.Given.{changed_at}
use Rattle.fl_model.specs.Events.{DispatcherId}
use Rattle.fl_model.specs.Ends.{End, Seat, Queue, unbound_end}
use Rattle.fl_model.specs.Waits.{Dispatcher, with_end, fresh_dispatcher}
use Rattle.fl_model.specs.Monitors.{Core}
use Rattle.fl_model.specs.State.{Route, Back, Binding, State, core_of, dispatcher_of, end_of, end_in, with_end_in, in_route, change_core, change_dispatcher, change_end, change_route, change_channel, seats, binds_end}
use Rattle.fl_model.specs.Making.{with_dispatcher}
use Rattle.fl_model.specs.Binding.{BindByNames, end_id, with_new_binding}
use Rattle.fl_model.specs.SoundPlaces.{SeatsAgree}
use Rattle.fl_model_laws.proofs.Cases.{by_given}
use Rattle.fl_model_laws.proofs.BindingWalk.{given_there, end_there}
use Rattle.fl_model_laws.proofs.Ready.{get_last}
use Rattle.fl_model_laws.proofs.Seating.{changed_was, dispatcher_here, dispatcher_was}
use Rattle.fl_model_laws.proofs.Small.{get_push, some_same, changed_here}

-- ---- views of one element

view_set : {X Y : Type 0} (xs : List X) (n m : ℕ) (g : X → Y) (none : Y) (x y : X) → slice_get xs n ≡ Some x → g y ≡ g x
    → given (slice_get (slice_set xs n y) m) none g ≡ given (slice_get xs m) none g
view_set [] n m g none x y q e = refl
view_set (z ∷ xs) zero zero g none x y q e = let same : z ≡ x = cc in e ∙ ap g (sym same)
view_set (z ∷ xs) zero (suc m) g none x y q e = refl
view_set (z ∷ xs) (suc n) zero g none x y q e = refl
view_set (z ∷ xs) (suc n) (suc m) g none x y q e = view_set xs n m g none x y q e

pub view_same : {X Y : Type 0} (xs : List X) (n m : ℕ) (f : X → X) (g : X → Y) (none : Y) → ((x : X) → slice_get xs n ≡ Some x → g (f x) ≡ g x)
    → given (slice_get (changed_at n f xs) m) none g ≡ given (slice_get xs m) none g
view_same {X} xs n m f g none k =
    by_given (λ (ys : List X). given (slice_get ys m) none g ≡ given (slice_get xs m) none g) (slice_get xs n) xs (λ x. slice_set xs n (f x)) refl
    (λ x q. view_set xs n m g none x (f x) q (k x q))

pub view_push : {X Y : Type 0} (xs : List X) (m : ℕ) (g : X → Y) (none : Y) (y : X) → g y ≡ none
    → given (slice_get (xs ++ y ∷ []) m) none g ≡ given (slice_get xs m) none g
view_push [] zero g none y e = e
view_push [] (suc m) g none y e = refl
view_push (x ∷ xs) zero g none y e = refl
view_push (x ∷ xs) (suc m) g none y e = view_push xs m g none y e

-- ---- seats

abbrev pub seat_of : State → EndId → Option Seat
seat_of s e = given (slice_get s.bindings e.binding) None (λ b. (end_in e.side b).seat)

abbrev pub ends_in : List Dispatcher → ℕ → List EndId
ends_in ds place = given (slice_get ds place) [] (λ y. y.ends)

abbrev pub ends_of : List Core → DispatcherId → List EndId
ends_of cores d = given (slice_get cores d.core) [] (λ k. ends_in k.dispatchers d.place)

abbrev pub at_channel : DispatcherId → ℕ → Seat
at_channel d c = record { dispatcher = d; channel = c }

abbrev pub Seated : List Core → State → Type 0
Seated cores s = (e : EndId) (d : DispatcherId) (c : ℕ) → seat_of s e ≡ Some (at_channel d c) → slice_get (ends_of cores d) c ≡ Some e

abbrev pub ListedHere : List Core → State → Type 0
ListedHere cores s = (e : EndId) (d : DispatcherId) (c : ℕ) → slice_get (ends_of cores d) c ≡ Some e → seat_of s e ≡ Some (at_channel d c)

abbrev pub Agree : State → Type 0
Agree s = Seated s.cores s × ListedHere s.cores s

pub seats_same : (s t : State) → ((e : EndId) → seat_of t e ≡ seat_of s e) → ((d : DispatcherId) → ends_of t.cores d ≡ ends_of s.cores d) → Agree s → Agree t
seats_same s t k l h = (
  (λ e d c q. ap (λ es. slice_get es c) (l d) ∙ h.0 e d c (sym (k e) ∙ q)),
  (λ e d c q. k e ∙ h.1 e d c (ap (λ es. slice_get es c) (sym (l d)) ∙ q)),
)

side_seat : (side by : Side) (f : End → End) (b : Binding) → ((x : End) → (f x).seat ≡ x.seat) → (end_in side (with_end_in by f b)).seat ≡ (end_in side b).seat
side_seat Client Client f b k = k b.client
side_seat Client Server f b k = refl
side_seat Server Client f b k = refl
side_seat Server Server f b k = k b.server

pub end_kept : (e : EndId) (f : End → End) (s : State) → ((x : End) → (f x).seat ≡ x.seat) → Agree s → Agree (change_end e f s)
end_kept e f s k h =
    seats_same s (change_end e f s)
    (λ g. view_same s.bindings e.binding g.binding (with_end_in e.side f) (λ b. (end_in g.side b).seat) None (λ b q. side_seat g.side e.side f b k))
    (λ d. refl) h

route_seat : (side : Side) (f : Route → Route) (b : Binding) → (end_in side (record b { back = in_route f b.back })).seat ≡ (end_in side b).seat
route_seat Client f b = refl
route_seat Server f b = refl

pub route_kept : (n : ℕ) (f : Route → Route) (s : State) → Agree s → Agree (change_route n f s)
route_kept n f s h =
    seats_same s (change_route n f s)
    (λ g. view_same s.bindings n g.binding (λ b. record b { back = in_route f b.back }) (λ b. (end_in g.side b).seat) None (λ b q. route_seat g.side f b))
    (λ d. refl) h

pub core_kept : (n : ℕ) (f : Core → Core) (s : State)
    → ((k : Core) → core_of s n ≡ Some k → (place : ℕ) → ends_in (f k).dispatchers place ≡ ends_in k.dispatchers place) → Agree s → Agree (change_core n f s)
core_kept n f s k h =
    seats_same s (change_core n f s) (λ e. refl)
    (λ d. view_same s.cores n d.core f (λ j. ends_in j.dispatchers d.place) [] (λ j q. k j q d.place)) h

pub dispatcher_kept : (d : DispatcherId) (f : Dispatcher → Dispatcher) (s : State) → ((y : Dispatcher) → (f y).ends ≡ y.ends) → Agree s
    → Agree (change_dispatcher d f s)
dispatcher_kept d f s k h =
    core_kept d.core (λ j. record j { dispatchers = changed_at d.place f j.dispatchers }) s
    (λ j q place. view_same j.dispatchers d.place place f (λ (y : Dispatcher). y.ends) [] (λ y r. k y)) h

pub channel_kept : (e : EndId) (f : ℕ → End → Dispatcher → Dispatcher) (s : State) → ((c : ℕ) (x : End) (y : Dispatcher) → (f c x y).ends ≡ y.ends) → Agree s
    → Agree (change_channel e f s)
channel_kept e f s k h =
    by_given Agree (end_of s e) _ _ h
    (λ x q. by_given Agree x.seat _ _ h (λ seat r. dispatcher_kept seat.dispatcher (f seat.channel x) s (k seat.channel x) h))

pub bound_kept : (e : EndId) (circuit : ℕ) (s : State) → Agree s → Agree (binds_end e circuit s)
bound_kept e circuit s h =
    channel_kept e _ (change_end e (λ x. record x { circuit = Some circuit }) s) (λ c x y. refl)
    (end_kept e (λ x. record x { circuit = Some circuit }) s (λ x. refl) h)

fresh_seat : (side : Side) (interface messages stations : ℕ) (back : Back) (q : Option Queue)
    → (end_in side (record { interface = interface; back = back; client = unbound_end messages stations q; server = unbound_end messages stations q })).seat ≡ None
fresh_seat Client interface messages stations back q = refl
fresh_seat Server interface messages stations back q = refl

pub new_kept : (w : BindByNames) (back : Back) (stations : ℕ) (q : Option Queue) (s : State) → Agree s → Agree (with_new_binding w back stations q s)
new_kept w back stations q s h =
    seats_same s (with_new_binding w back stations q s)
    (λ e. view_push s.bindings e.binding (λ b. (end_in e.side b).seat) None _ (fresh_seat e.side w.interface w.messages stations back q)) (λ d. refl) h

pub added_kept : (core : ℕ) (s : State) → Agree s → Agree (change_core core with_dispatcher s)
added_kept core s h =
    core_kept core with_dispatcher s (λ k q place. view_push k.dispatchers place (λ (y : Dispatcher). y.ends) [] fresh_dispatcher refl) h

-- ---- an end is seated

abbrev pub Unseated : EndId → State → Type 0
Unseated e s = (b : Binding) × (slice_get s.bindings e.binding ≡ Some b) × ((end_in e.side b).seat ≡ None)

pub given_elem : {X Y : Type 0} (o : Option X) (f : X → List Y) (c : ℕ) (y : Y) → slice_get (given o [] f) c ≡ Some y
    → (x : X) × (o ≡ Some x) × (slice_get (f x) c ≡ Some y)
given_elem None f c y h = absurd (cc)
given_elem (Some x) f c y h = (x, refl, h)

-- what stood at a place stands there after a change, changed or not
abbrev pub Now : {X : Type 0} → List X → ℕ → (X → X) → ℕ → X → Type 0
Now {X} xs n f m z = (slice_get (changed_at n f xs) m ≡ Some z) ⊎ ((m ≡ n) × (slice_get (changed_at n f xs) m ≡ Some (f z)))

set_now : {X : Type 0} (xs : List X) (n : ℕ) (y : X) (m : ℕ) (z : X) → slice_get xs m ≡ Some z
    → (slice_get (slice_set xs n y) m ≡ Some z) ⊎ ((m ≡ n) × (slice_get (slice_set xs n y) m ≡ Some y))
set_now [] n y m z q = absurd (cc)
set_now (x ∷ xs) zero y zero z q = inr (refl, refl)
set_now (x ∷ xs) zero y (suc m) z q = inl q
set_now (x ∷ xs) (suc n) y zero z q = inl q
set_now (x ∷ xs) (suc n) y (suc m) z q = elim (set_now xs n y m z q) [ inl a ↦ inl a | inr b ↦ inr (ap suc b.0, b.1) ]

pub changed_now : {X : Type 0} (xs : List X) (n : ℕ) (f : X → X) (m : ℕ) (z : X) → slice_get xs m ≡ Some z → Now xs n f m z
changed_now {X} xs n f m z h =
    by_given (λ (ys : List X). (slice_get ys m ≡ Some z) ⊎ ((m ≡ n) × (slice_get ys m ≡ Some (f z)))) (slice_get xs n) xs (λ x. slice_set xs n (f x)) (inl h)
    (λ x q. elim (set_now xs n (f x) m z h) [
      | inl a ↦ inl a
      | inr b ↦ inr (b.0, b.1 ∙ ap (λ (y : X). Some (f y)) (some_same x z (sym q ∙ ap (slice_get xs) (sym b.0) ∙ h)))
    ])

pub push_was : {X : Type 0} (xs : List X) (y : X) (c : ℕ) (z : X) → slice_get (xs ++ y ∷ []) c ≡ Some z → (slice_get xs c ≡ Some z) ⊎ ((c ≡ length xs) × (z ≡ y))
push_was [] y zero z q = inr (refl, sym (some_same y z q))
push_was [] y (suc c) z q = absurd (cc)
push_was (x ∷ xs) y zero z q = inl q
push_was (x ∷ xs) y (suc c) z q = elim (push_was xs y c z q) [ inl a ↦ inl a | inr b ↦ inr (let e : c ≡ length xs = b.0 in omega arith, b.1) ]

-- one side, or the other
sides : (side by : Side) (f : End → End) → (side ≡ by) ⊎ ((b : Binding) → end_in side (with_end_in by f b) ≡ end_in side b)
sides Client Client f = inl refl
sides Client Server f = inr (λ b. refl)
sides Server Client f = inr (λ b. refl)
sides Server Server f = inl refl

this_side : (side : Side) (f : End → End) (b : Binding) → end_in side (with_end_in side f b) ≡ f (end_in side b)
this_side Client f b = refl
this_side Server f b = refl

same_end_id : (g e : EndId) → g.binding ≡ e.binding → g.side ≡ e.side → g ≡ e
same_end_id g e p q = ap (λ (n : ℕ). end_id n g.side) p ∙ ap (end_id e.binding) q

pub ends_at : (s : State) (d : DispatcherId) (y : Dispatcher) → dispatcher_of s d ≡ Some y → ends_of s.cores d ≡ y.ends
ends_at s d y q =
    let (k, at, is) = given_there (core_of s d.core) (λ k. slice_get k.dispatchers d.place) y q in
    ap (λ (o : Option Core). given o [] (λ j. ends_in j.dispatchers d.place)) at ∙ ap (λ (o : Option Dispatcher). given o [] (λ z. z.ends)) is

pub ends_from : (s : State) (d : DispatcherId) (c : ℕ) (e : EndId) → slice_get (ends_of s.cores d) c ≡ Some e
    → (y : Dispatcher) × (dispatcher_of s d ≡ Some y) × (slice_get y.ends c ≡ Some e)
ends_from s d c e q =
    let (k, at, is) = given_elem (slice_get s.cores d.core) (λ j. ends_in j.dispatchers d.place) c e q in
    let (y, there, its) = given_elem (slice_get k.dispatchers d.place) (λ (z : Dispatcher). z.ends) c e is in
    (y, ap (λ (o : Option Core). given o None (λ j. slice_get j.dispatchers d.place)) at ∙ there, its)

module _ (d : DispatcherId) (e : EndId) (s : State) (x : Dispatcher) (there : dispatcher_of s d ≡ Some x) (free : Unseated e s) (h : Agree s) where
  abbrev place_it : End → End
  place_it y = record y { seat = Some (at_channel d (length x.ends)) }

  abbrev after : State
  after = change_dispatcher d (with_end e) (change_end e place_it s)

  its_seat : seat_of after e ≡ Some (at_channel d (length x.ends))
  its_seat =
      ap (λ (o : Option Binding). given o None (λ b. (end_in e.side b).seat)) (changed_here s.bindings e.binding (with_end_in e.side place_it) free.0 free.1)
      ∙ ap (λ (y : End). y.seat) (this_side e.side place_it free.0)

  seat_was : (g : EndId) (w : Seat) → seat_of after g ≡ Some w → (seat_of s g ≡ Some w) ⊎ ((g ≡ e) × (w ≡ at_channel d (length x.ends)))
  seat_was g w q =
      let (b, at, is) = given_there (slice_get after.bindings g.binding) (λ b. (end_in g.side b).seat) w q in
      elim (changed_was s.bindings e.binding (with_end_in e.side place_it) g.binding b at) [
        | inl a ↦ inl (ap (λ (o : Option Binding). given o None (λ a. (end_in g.side a).seat)) a ∙ is)
        | inr c ↦ elim (sides g.side e.side place_it) [
          | inl r ↦ inr (
            same_end_id g e c.0 r,
            some_same w (at_channel d (length x.ends))
                (sym (subst (λ (i : EndId). seat_of after i ≡ Some w) (same_end_id g e c.0 r) q) ∙ its_seat),
          )
          | inr r ↦ inl (ap (λ (o : Option Binding). given o None (λ a. (end_in g.side a).seat)) (ap (slice_get s.bindings) c.0 ∙ c.1.1)
              ∙ sym (ap (λ (y : End). y.seat) (ap (end_in g.side) c.1.2 ∙ r c.1.0)) ∙ is)
        ]
      ]

  seat_now : (g : EndId) (w : Seat) → seat_of s g ≡ Some w → seat_of after g ≡ Some w
  seat_now g w q =
      let (b, at, is) = given_there (slice_get s.bindings g.binding) (λ b. (end_in g.side b).seat) w q in
      elim (changed_now s.bindings e.binding (with_end_in e.side place_it) g.binding b at) [
        | inl a ↦ ap (λ (o : Option Binding). given o None (λ a. (end_in g.side a).seat)) a ∙ is
        | inr c ↦ elim (sides g.side e.side place_it) [
          | inl r ↦ absurd (unseated (same_end_id g e c.0 r))
          | inr r ↦ ap (λ (o : Option Binding). given o None (λ a. (end_in g.side a).seat)) c.1 ∙ ap (λ (y : End). y.seat) (r b) ∙ is
        ]
      ]
    where
      unseated : g ≡ e → ⊥
      unseated same =
          let none : seat_of s e ≡ None = ap (λ (o : Option Binding). given o None (λ a. (end_in e.side a).seat)) free.1 ∙ free.2 in
          let some : None ≡ Some w = sym none ∙ ap (seat_of s) (sym same) ∙ q in
          absurd (cc)

  end_was : (g : DispatcherId) (c : ℕ) (i : EndId) → slice_get (ends_of after.cores g) c ≡ Some i
      → (slice_get (ends_of s.cores g) c ≡ Some i) ⊎ ((g ≡ d) × (c ≡ length x.ends) × (i ≡ e))
  end_was g c i q =
      let (y, at, its) = ends_from after g c i q in
      elim (dispatcher_was d (with_end e) (change_end e place_it s) g y at) [
        | inl a ↦ inl (ap (λ es. slice_get es c) (ends_at s g y a) ∙ its)
        | inr b ↦ pushed b.0 b.1.0 b.1.1 (ap (λ (z : Dispatcher). slice_get z.ends c) (sym b.1.2) ∙ its)
      ]
    where
      pushed : g ≡ d → (z : Dispatcher) → dispatcher_of s d ≡ Some z → slice_get (z.ends ++ e ∷ []) c ≡ Some i
          → (slice_get (ends_of s.cores g) c ≡ Some i) ⊎ ((g ≡ d) × (c ≡ length x.ends) × (i ≡ e))
      pushed same z at its =
          elim (push_was z.ends e c i its) [
            | inl a ↦ inl (ap (λ (m : DispatcherId). slice_get (ends_of s.cores m) c) same ∙ ap (λ es. slice_get es c) (ends_at s d z at) ∙ a)
            | inr b ↦ inr (same, b.0 ∙ ap (λ (v : Dispatcher). length v.ends) (some_same z x (sym at ∙ there)), b.1)
          ]

  its_end : slice_get (ends_of after.cores d) (length x.ends) ≡ Some e
  its_end =
      ap (λ es. slice_get es (length x.ends)) (ends_at after d (with_end e x) (dispatcher_here d (with_end e) (change_end e place_it s) x there))
      ∙ get_last x.ends e

  end_now : (g : DispatcherId) (c : ℕ) (i : EndId) → slice_get (ends_of s.cores g) c ≡ Some i → slice_get (ends_of after.cores g) c ≡ Some i
  end_now g c i q =
      let (k, at, is) = given_elem (slice_get s.cores g.core) (λ j. ends_in j.dispatchers g.place) c i q in
      let (y, got, its) = given_elem (slice_get k.dispatchers g.place) (λ (z : Dispatcher). z.ends) c i is in
      elim (changed_now s.cores d.core (λ j. record j { dispatchers = changed_at d.place (with_end e) j.dispatchers }) g.core k at) [
        | inl a ↦ ap (λ (o : Option Core). slice_get (given o [] (λ j. ends_in j.dispatchers g.place)) c) a ∙ is
        | inr b ↦ ap (λ (o : Option Core). slice_get (given o [] (λ j. ends_in j.dispatchers g.place)) c) b.1 ∙ in_core k y got its
      ]
    where
      in_core : (k : Core) (y : Dispatcher) → slice_get k.dispatchers g.place ≡ Some y → slice_get y.ends c ≡ Some i
          → slice_get (ends_in (changed_at d.place (with_end e) k.dispatchers) g.place) c ≡ Some i
      in_core k y got its =
          elim (changed_now k.dispatchers d.place (with_end e) g.place y got) [
            | inl a ↦ ap (λ (o : Option Dispatcher). slice_get (given o [] (λ z. z.ends)) c) a ∙ its
            | inr b ↦ ap (λ (o : Option Dispatcher). slice_get (given o [] (λ z. z.ends)) c) b.1 ∙ get_push y.ends c i e its
          ]

  pub seated_agree : Agree after
  seated_agree = (
    (λ i g c q. elim (seat_was i (at_channel g c) q) [
      | inl a ↦ end_now g c i (h.0 i g c a)
      | inr b ↦ ap (λ (w : Seat). slice_get (ends_of after.cores w.dispatcher) w.channel) b.1 ∙ its_end ∙ ap (λ (j : EndId). Some j) (sym b.0)
    ]),
    (λ i g c q. elim (end_was g c i q) [
      | inl a ↦ seat_now i (at_channel g c) (h.1 i g c a)
      | inr b ↦ ap (seat_of after) b.2 ∙ its_seat ∙ ap (λ (m : DispatcherId). Some (at_channel m (length x.ends))) (sym b.0)
          ∙ ap (λ (n : ℕ). Some (at_channel g n)) (sym b.1)
    ]),
  )

pub seating_kept : (d : DispatcherId) (e : EndId) (s : State) → Unseated e s → Agree s → Agree (seats d e s)
seating_kept d e s u h = by_given Agree (dispatcher_of s d) _ _ h (λ x q. seated_agree d e s x q u h)

-- ---- as the sound states say it

pub agree_of : (s : State) → SeatsAgree s → Agree s
agree_of s h = (
  (λ e d c q.
      let (b, at, is) = given_there (slice_get s.bindings e.binding) (λ b. (end_in e.side b).seat) (at_channel d c) q in
      let (y, there, its) = h.seated e d c (end_in e.side b, ap (λ (o : Option Binding). given o None (λ a. Some (end_in e.side a))) at, is) in
      ap (λ es. slice_get es c) (ends_at s d y there) ∙ its),
  (λ e d c q.
      let (y, there, its) = ends_from s d c e q in
      let (x, at, is) = h.listed d y c e there its in
      let (b, got, same) = end_there s e x at in
      ap (λ (o : Option Binding). given o None (λ a. (end_in e.side a).seat)) got ∙ ap (λ (z : End). z.seat) same ∙ is),
)

pub seats_of : (s : State) → Agree s → SeatsAgree s
seats_of s h = record {
  seated = λ e d c k.
      let (b, got, same) = end_there s e k.0 k.1 in
      ends_from s d c e (h.0 e d c (ap (λ (o : Option Binding). given o None (λ a. (end_in e.side a).seat)) got ∙ ap (λ (z : End). z.seat) same ∙ k.2));
  listed = λ d y c e there its.
      let (b, at, is) = given_there (slice_get s.bindings e.binding) (λ b. (end_in e.side b).seat) (at_channel d c) (h.1 e d c (ap (λ es. slice_get es c) (ends_at s d y there) ∙ its)) in
      (end_in e.side b, ap (λ (o : Option Binding). given o None (λ a. Some (end_in e.side a))) at, is);
}
