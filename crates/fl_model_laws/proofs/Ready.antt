-- An end that is seated may be registered, and so may it still after what others do.
use Rattle.std.proofs.Common.{◌≡◌, refl, sym, ◌∙◌, ap, subst, ℕ, ◌⊎◌, inl, inr}
use Rattle.std.proofs.Common.{List, [], ◌∷◌, ◌++◌, length, slice_get, slice_set, Option, Some, None}
use Rattle.fl_base.specs.declared.identity.EndId.{EndId}
use Rattle.fl_base.specs.declared.identity.Side.{Side}
use Rattle.fl_base.specs.declared.identity.Side.TheVariants.{Client, Server}
use Rattle.fl_base.specs.Given.{given}
use Rattle.fl_model.specs.Given.{changed_at}
use Rattle.fl_model.specs.Events.{DispatcherId}
use Rattle.fl_model.specs.Ends.{End, Seat}
use Rattle.fl_model.specs.Waits.{Dispatcher, with_end}
use Rattle.fl_model.specs.State.{Route, Binding, State, dispatcher_of, binding_of, end_of, end_in, with_end_in, in_route, change_dispatcher, change_end, change_route, seats}
use Rattle.fl_model_laws.proofs.BindingWalk.{end_there}
use Rattle.fl_model_laws.proofs.Waitsets.{next_free}
use Rattle.fl_model_laws.proofs.Seating.{changed_was, dispatcher_here, dispatcher_was, AllStand, stands_at, IsReady, Ready}
use Rattle.fl_model_laws.proofs.Small.{changed_here}

-- ---- ends after a change

side_was : (side by : Side) (f : End → End) (b : Binding)
    → (end_in side (with_end_in by f b) ≡ end_in side b) ⊎ (end_in side (with_end_in by f b) ≡ f (end_in side b))
side_was Client Client f b = inr refl
side_was Client Server f b = inl refl
side_was Server Client f b = inl refl
side_was Server Server f b = inr refl

same_side : (side : Side) (f : End → End) (b : Binding) → end_in side (with_end_in side f b) ≡ f (end_in side b)
same_side Client f b = refl
same_side Server f b = refl

end_at : (s : State) (e : EndId) (b : Binding) → binding_of s e ≡ Some b → end_of s e ≡ Some (end_in e.side b)
end_at s e b q = ap (λ (o : Option Binding). given o None (λ x. Some (end_in e.side x))) q

abbrev EndWas : (End → End) → State → EndId → End → Type 0
EndWas f s g x = (end_of s g ≡ Some x) ⊎ ((y : End) × (end_of s g ≡ Some y) × (x ≡ f y))

pub end_was : (e : EndId) (f : End → End) (s : State) (g : EndId) (x : End) → end_of (change_end e f s) g ≡ Some x → EndWas f s g x
end_was e f s g x q =
    let (b, at, is) = end_there (change_end e f s) g x q in
    elim (changed_was s.bindings e.binding (with_end_in e.side f) g.binding b at) [
      | inl a ↦ inl (end_at s g b a ∙ ap (λ (y : End). Some y) is)
      | inr c ↦ in_binding e f s g x b is (ap (slice_get s.bindings) c.0 ∙ c.1.1) c.1.2
    ]
  where
    in_binding : (e : EndId) (f : End → End) (s : State) (g : EndId) (x : End) (b : Binding) → end_in g.side b ≡ x → {a : Binding}
        → binding_of s g ≡ Some a → b ≡ with_end_in e.side f a → EndWas f s g x
    in_binding e f s g x b is {a} there made =
        elim (side_was g.side e.side f a) [
          | inl r ↦ inl (end_at s g a there ∙ ap (λ (y : End). Some y) (sym r ∙ ap (end_in g.side) (sym made) ∙ is))
          | inr r ↦ inr (end_in g.side a, end_at s g a there, sym is ∙ ap (end_in g.side) made ∙ r)
        ]

pub end_done : (e : EndId) (f : End → End) (s : State) (P : End → Type 0) → ((y : End) → P (f y)) → (x : End)
    → end_of (change_end e f s) e ≡ Some x → P x
end_done e f s P k x q =
    let (b, at, is) = end_there (change_end e f s) e x q in
    by_old e f s P k x b at is (binding_of s e) refl
  where
    by_old : (e : EndId) (f : End → End) (s : State) (P : End → Type 0) → ((y : End) → P (f y)) → (x : End) (b : Binding)
        → slice_get (changed_at e.binding (with_end_in e.side f) s.bindings) e.binding ≡ Some b → end_in e.side b ≡ x
        → (o : Option Binding) → slice_get s.bindings e.binding ≡ o → P x
    by_old e f s P k x b at is None there =
        let same : changed_at e.binding (with_end_in e.side f) s.bindings ≡ s.bindings =
        ap (λ (o : Option Binding). given o s.bindings (λ y. slice_set s.bindings e.binding (with_end_in e.side f y))) there in
        let gone : None ≡ Some b = sym there ∙ ap (λ (bs : List Binding). slice_get bs e.binding) (sym same) ∙ at in
        absurd (cc)
    by_old e f s P k x b at is (Some a) there =
        let here = changed_here s.bindings e.binding (with_end_in e.side f) a there in
        let made : with_end_in e.side f a ≡ b = let u : Some (with_end_in e.side f a) ≡ Some b = sym here ∙ at in cc in
        subst P (sym (same_side e.side f a) ∙ ap (end_in e.side) made ∙ is) (k (end_in e.side a))

-- ---- what leaves an end ready

pub ready_end : (e g : EndId) (f : End → End) (s : State) → ((y : End) → (f y).seat ≡ y.seat) → Ready e s → Ready e (change_end g f s)
ready_end e g f s same h x seat q r y u =
    elim (end_was g f s e x q) [
      | inl a ↦ h x seat a r y u
      | inr b ↦ h b.0 seat b.1 (sym (same b.0) ∙ ap (λ (z : End). z.seat) (sym b.2) ∙ r) y u
    ]

pub ready_dispatcher : (e : EndId) (d : DispatcherId) (f : Dispatcher → Dispatcher) (s : State)
    → ((y : Dispatcher) → dispatcher_of s d ≡ Some y → (c : ℕ) → IsReady e c y → IsReady e c (f y)) → Ready e s → Ready e (change_dispatcher d f s)
ready_dispatcher e d f s k h x seat q r y u =
    elim (dispatcher_was d f s seat.dispatcher y u) [
      | inl a ↦ h x seat q r y a
      | inr b ↦ subst (IsReady e seat.channel) (sym b.1.2)
          (k b.1.0 b.1.1 seat.channel (h x seat q r b.1.0 (ap (dispatcher_of s) b.0 ∙ b.1.1)))
    ]

route_end : (side : Side) (f : Route → Route) (b : Binding) → end_in side (record b { back = in_route f b.back }) ≡ end_in side b
route_end Client f b = refl
route_end Server f b = refl

pub ready_route : (e : EndId) (n : ℕ) (f : Route → Route) (s : State) → Ready e s → Ready e (change_route n f s)
ready_route e n f s h x seat q r y u =
    let (b, at, is) = end_there (change_route n f s) e x q in
    elim (changed_was s.bindings n (λ a. record a { back = in_route f a.back }) e.binding b at) [
      | inl a ↦ h x seat (end_at s e b a ∙ ap (λ (z : End). Some z) is) r y u
      | inr c ↦ h x seat (end_at s e c.1.0 (ap (slice_get s.bindings) c.0 ∙ c.1.1)
          ∙ ap (λ (z : End). Some z) (sym (route_end e.side f c.1.0) ∙ ap (end_in e.side) (sym c.1.2) ∙ is)) r y u
    ]

pub get_last : {X : Type 0} (xs : List X) (y : X) → slice_get (xs ++ y ∷ []) (length xs) ≡ Some y
get_last [] y = refl
get_last (x ∷ xs) y = get_last xs y

-- the next channel of a dispatcher, and an end there
abbrev next_seat : DispatcherId → Dispatcher → Seat
next_seat d x = record { dispatcher = d; channel = length x.ends }

abbrev seated_at : DispatcherId → Dispatcher → End → End
seated_at d x z = record z { seat = Some (next_seat d x) }

abbrev seated : DispatcherId → EndId → Dispatcher → State → State
seated d e x s = change_dispatcher d (with_end e) (change_end e (seated_at d x) s)

ready_there : (d : DispatcherId) (e : EndId) (s : State) (x : Dispatcher) → dispatcher_of s d ≡ Some x → AllStand s.cores → Ready e (seated d e x s)
ready_there d e s x q all z seat there its y u =
    let told : z.seat ≡ Some (next_seat d x) = end_done e (seated_at d x) s (λ w. w.seat ≡ Some (next_seat d x)) (λ w. refl) z there in
    let same : next_seat d x ≡ seat = (let v : Some (next_seat d x) ≡ Some seat = sym told ∙ its in cc) in
    let here : dispatcher_of (seated d e x s) d ≡ Some (with_end e x) = dispatcher_here d (with_end e) (change_end e (seated_at d x) s) x q in
    let at_seat : dispatcher_of (seated d e x s) d ≡ Some y = ap (λ (w : Seat). dispatcher_of (seated d e x s) w.dispatcher) same ∙ u in
    let made : with_end e x ≡ y = (let v : Some (with_end e x) ≡ Some y = sym here ∙ at_seat in cc) in
    subst (λ (w : Seat). IsReady e w.channel y) same (subst (IsReady e (length x.ends)) made
    (record { free = next_free x (stands_at s d x all q); its = get_last x.ends e }))

-- an end that was just seated
pub ready_seated : (d : DispatcherId) (e : EndId) (s : State) (x : Dispatcher) → dispatcher_of s d ≡ Some x → AllStand s.cores → Ready e (seats d e s)
ready_seated d e s x q all =
    subst (λ (o : Option Dispatcher). Ready e (given o s (λ y. seated d e y s))) (sym q) (ready_there d e s x q all)
