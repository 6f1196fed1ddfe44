-- Where ends and dispatchers are after a change, and an end whose channel may be registered: its dispatcher has it for this
-- end, in no list.
use Rattle.std.proofs.Common.{◌≡◌, refl, sym, ◌∙◌, ap, ℕ, zero, suc, ◌+◌, ◌≤◌, ◌⊎◌, inl, inr}
use Rattle.std.proofs.Common.{List, [], ◌∷◌, length, slice_get, slice_set, Option, Some, None}
use Rattle.std.specs.Prelude.{is_some}
use Rattle.fl_base.specs.declared.identity.EndId.{EndId}
use Rattle.fl_base.specs.Given.{given}
use Rattle.fl_model.specs.Given.{changed_at}
use Rattle.fl_model.specs.Events.{DispatcherId}
use Rattle.fl_model.specs.Ends.{End, Seat}
use Rattle.fl_model.specs.Waits.{Dispatcher, most_ends, waits_in, with_end, registers, deregisters, triggers}
use Rattle.fl_model.specs.Monitors.{Core}
use Rattle.fl_model.specs.State.{State, core_of, dispatcher_of, end_of, change_dispatcher, change_channel, seats, registers_end}
use Rattle.fl_model.specs.SoundLists.{ListsStand, WaitsetsStand}
use Rattle.fl_model_laws.proofs.Cases.{by_given, Each, each_changed}
use Rattle.fl_model_laws.proofs.BindingWalk.{given_there}
use Rattle.fl_model_laws.proofs.Waitsets.{IsFree, registers_stands, deregisters_stands, triggers_stands, with_end_stands}
use Rattle.fl_model_laws.proofs.Small.{changed_here}

-- ---- one element changed

-- what stands at a place after a change stood there, or is what was changed
abbrev Was : {X : Type 0} → List X → ℕ → (X → X) → ℕ → X → Type 0
Was {X} xs n f m z = (slice_get xs m ≡ Some z) ⊎ ((m ≡ n) × ((x : X) × (slice_get xs n ≡ Some x) × (z ≡ f x)))

set_was : {X : Type 0} (xs : List X) (n : ℕ) (y : X) (m : ℕ) (z : X) → slice_get (slice_set xs n y) m ≡ Some z
    → (slice_get xs m ≡ Some z) ⊎ ((m ≡ n) × (z ≡ y))
set_was [] n y m z q = inl q
set_was (x ∷ xs) zero y zero z q = inr (refl, let e : y ≡ z = cc in sym e)
set_was (x ∷ xs) zero y (suc m) z q = inl q
set_was (x ∷ xs) (suc n) y zero z q = inl q
set_was (x ∷ xs) (suc n) y (suc m) z q = elim (set_was xs n y m z q) [ inl a ↦ inl a | inr b ↦ inr (ap suc b.0, b.1) ]

pub changed_was : {X : Type 0} (xs : List X) (n : ℕ) (f : X → X) (m : ℕ) (z : X) → slice_get (changed_at n f xs) m ≡ Some z → Was xs n f m z
changed_was {X} xs n f m z =
    by_given (λ (ys : List X). slice_get ys m ≡ Some z → Was xs n f m z) (slice_get xs n) xs (λ x. slice_set xs n (f x)) (λ h. inl h)
    (λ x q h. elim (set_was xs n (f x) m z h) [ inl a ↦ inl a | inr b ↦ inr (b.0, (x, q, b.1)) ])

-- ---- dispatchers

abbrev at_place : ℕ → ℕ → DispatcherId
at_place core place = record { core = core; place = place }

pub dispatcher_here : (d : DispatcherId) (f : Dispatcher → Dispatcher) (s : State) (x : Dispatcher) → dispatcher_of s d ≡ Some x
    → dispatcher_of (change_dispatcher d f s) d ≡ Some (f x)
dispatcher_here d f s x q =
    let (k, at, is) = given_there (core_of s d.core) (λ k. slice_get k.dispatchers d.place) x q in
    let there = changed_here s.cores d.core (λ k. record k { dispatchers = changed_at d.place f k.dispatchers }) k at in
    ap (λ (o : Option Core). given o None (λ j. slice_get j.dispatchers d.place)) there ∙ changed_here k.dispatchers d.place f x is

abbrev pub WasAt : DispatcherId → (Dispatcher → Dispatcher) → State → DispatcherId → Dispatcher → Type 0
WasAt d f s e y = (dispatcher_of s e ≡ Some y) ⊎ ((e ≡ d) × ((x : Dispatcher) × (dispatcher_of s d ≡ Some x) × (y ≡ f x)))

pub dispatcher_was : (d : DispatcherId) (f : Dispatcher → Dispatcher) (s : State) (e : DispatcherId) (y : Dispatcher)
    → dispatcher_of (change_dispatcher d f s) e ≡ Some y → WasAt d f s e y
dispatcher_was d f s e y q =
    let (k, at, is) = given_there (core_of (change_dispatcher d f s) e.core) (λ k. slice_get k.dispatchers e.place) y q in
    elim (changed_was s.cores d.core (λ j. record j { dispatchers = changed_at d.place f j.dispatchers }) e.core k at) [
      | inl a ↦ inl (ap (λ (o : Option Core). given o None (λ j. slice_get j.dispatchers e.place)) a ∙ is)
      | inr b ↦ in_core d f s e y k is b.0 b.1.0 b.1.1 b.1.2
    ]
  where
    in_core : (d : DispatcherId) (f : Dispatcher → Dispatcher) (s : State) (e : DispatcherId) (y : Dispatcher) (k : Core)
        → slice_get k.dispatchers e.place ≡ Some y → e.core ≡ d.core → (j : Core) → slice_get s.cores d.core ≡ Some j
        → k ≡ record j { dispatchers = changed_at d.place f j.dispatchers } → WasAt d f s e y
    in_core d f s e y k is same j there made =
        let changed : slice_get (changed_at d.place f j.dispatchers) e.place ≡ Some y =
        ap (λ (i : Core). slice_get i.dispatchers e.place) (sym made) ∙ is in
        elim (changed_was j.dispatchers d.place f e.place y changed) [
          | inl a ↦ inl (ap (λ (o : Option Core). given o None (λ i. slice_get i.dispatchers e.place)) (ap (slice_get s.cores) same ∙ there) ∙ a)
          | inr b ↦ inr (
            ap (λ (c : ℕ). at_place c e.place) same ∙ ap (at_place d.core) b.0,
            (b.1.0, ap (λ (o : Option Core). given o None (λ i. slice_get i.dispatchers d.place)) there ∙ b.1.1, b.1.2),
          )
        ]

-- ---- all waitsets

abbrev pub AllStand : List Core → Type 0
AllStand cores = Each (λ (k : Core). Each ListsStand k.dispatchers) cores

pub all_of : (s : State) → WaitsetsStand s → AllStand s.cores
all_of s h n k q c x r = h (record { core = n; place = c }) x (ap (λ (o : Option Core). given o None (λ j. slice_get j.dispatchers c)) q ∙ r)

pub waitsets_of : (s : State) → AllStand s.cores → WaitsetsStand s
waitsets_of s all d x q =
    let (k, at, is) = given_there (core_of s d.core) (λ k. slice_get k.dispatchers d.place) x q in all d.core k at d.place x is

pub stands_at : (s : State) (d : DispatcherId) (x : Dispatcher) → AllStand s.cores → dispatcher_of s d ≡ Some x → ListsStand x
stands_at s d x all q = waitsets_of s all d x q

pub one_changed : (d : DispatcherId) (f : Dispatcher → Dispatcher) (s : State) → AllStand s.cores
    → ((x : Dispatcher) → dispatcher_of s d ≡ Some x → ListsStand x → ListsStand (f x)) → AllStand (change_dispatcher d f s).cores
one_changed d f s h g =
    each_changed (λ (k : Core). Each ListsStand k.dispatchers) s.cores d.core (λ k. record k { dispatchers = changed_at d.place f k.dispatchers }) h
    (λ k q a. each_changed ListsStand k.dispatchers d.place f a
    (λ x r b. g x (ap (λ (o : Option Core). given o None (λ j. slice_get j.dispatchers d.place)) q ∙ r) b))

-- ---- an end whose channel may be registered

pub record IsReady (e : EndId) (c : ℕ) (y : Dispatcher) : Type 0 where
  pub free : IsFree c y.lists
  pub its : slice_get y.ends c ≡ Some e

abbrev pub Ready : EndId → State → Type 0
Ready e s = (x : End) (seat : Seat) → end_of s e ≡ Some x → x.seat ≡ Some seat → (y : Dispatcher) → dispatcher_of s seat.dispatcher ≡ Some y
    → IsReady e seat.channel y

abbrev AfterChannel : State → Type 0
AfterChannel t = AllStand t.cores

pub registered_kept : (e : EndId) (s : State) → Ready e s → AllStand s.cores → AllStand (registers_end e s).cores
registered_kept e s ready h =
    by_given AfterChannel (end_of s e) _ _ h
    (λ x q. by_given AfterChannel x.seat _ _ h
    (λ seat r. one_changed seat.dispatcher (registers seat.channel (waits_in x.queue)) s h
    (λ y u b. let k : IsReady e seat.channel y = ready x seat q r y u in
    registers_stands seat.channel (waits_in x.queue) y k.free (ap is_some k.its) b)))

pub triggered_kept : (e : EndId) (s : State) → AllStand s.cores → AllStand (change_channel e (λ c x. triggers c) s).cores
triggered_kept e s h =
    by_given AfterChannel (end_of s e) _ _ h
    (λ x q. by_given AfterChannel x.seat _ _ h
    (λ seat r. one_changed seat.dispatcher (triggers seat.channel) s h (λ y u b. triggers_stands seat.channel y b)))

pub deregistered_kept : (e : EndId) (s : State) → AllStand s.cores → AllStand (change_channel e (λ c x. deregisters c) s).cores
deregistered_kept e s h =
    by_given AfterChannel (end_of s e) _ _ h
    (λ x q. by_given AfterChannel x.seat _ _ h
    (λ seat r. one_changed seat.dispatcher (deregisters seat.channel) s h (λ y u b. deregisters_stands seat.channel y b)))

pub seat_kept : (d : DispatcherId) (e : EndId) (s : State) → ((x : Dispatcher) → dispatcher_of s d ≡ Some x → length x.ends + 1 ≤ most_ends)
    → AllStand s.cores → AllStand (seats d e s).cores
seat_kept d e s room h =
    by_given AfterChannel (dispatcher_of s d) _ _ h
    (λ x q. one_changed d (with_end e) s h (λ y r b. with_end_stands e y (room y r) b))
