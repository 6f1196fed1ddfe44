-- Where a set-up makes one core there is no link and no ring.
use Rattle.std.proofs.Common.{◌≡◌, refl, sym, ◌∙◌, ap, subst, ℕ, zero, suc, ◌<◌, ◌==◌, ◌||◌, ◌&&◌, ◌+◌, ◌-◌, ◌%◌, nat_lt, nat_le, not, Bool, true, false, if◌then◌else◌, List}
use Rattle.std.proofs.Common.{[], ◌∷◌, ◌++◌, length, slice_get, Option, Some, None, arith}
use Rattle.std.specs.List.{list_all}
use Rattle.fl_base.specs.declared.identity.Side.TheVariants.{Client}
use Rattle.fl_base.specs.Given.{given}
use Rattle.fl_base.specs.Numbered.{most_cores, most_bindings}
use Rattle.fl_interface.specs.Interface.{TheInterface}
use Rattle.fl_value_data.specs.declared.value.PlanNo.{PlanNo}
use Rattle.fl_hop.proofs.Lists.{within}
use Rattle.fl_hop.specs.Table.{link_of}
use Rattle.fl_core.specs.declared.wiring.LinkSide.{LinkSide}
use Rattle.fl_core.specs.View.{TheCore, side_of_link}
use Rattle.fl_model.specs.Given.{changed_at}
use Rattle.fl_model.specs.Events.{DispatcherId, Kind, by_queues, by_ring, by_route, Event, add_interface, set_cores, add_link, add_dispatcher, export, bind, call, show, write}
use Rattle.fl_model.specs.Events.{turn, ack, register, deregister, reply, monitor_write, forward, monitor_ack, Answer, refused}
use Rattle.fl_model.specs.Ends.{Queue, fresh_queue}
use Rattle.fl_model.specs.Waits.{Dispatcher, with_end}
use Rattle.fl_model.specs.Rings.{fresh_ring}
use Rattle.fl_model.specs.Monitors.{Core}
use Rattle.fl_model.specs.Sound.{Sound}
use Rattle.fl_model.specs.State.{Back, local, over_ring, State, StepOutcome, answers, dispatcher_of, change_dispatcher, change_end}
use Rattle.fl_model.specs.Making.{most_interfaces, most_dispatchers, most_services, is_ring_size, has_interface, adds_interface, sets_cores, is_core, has_link, adds_link}
use Rattle.fl_model.specs.Making.{count_dispatchers, adds_dispatcher, has_service, exports}
use Rattle.fl_model.specs.Binding.{BindByNames, with_new_binding, binds_both, has_both_places, binds_by_queues, binds_by_ring, binds_by, place_of_service, binds}
use Rattle.fl_model.specs.Step.{does, settles_by, settles, step}
use Rattle.fl_model.specs.Runs.{reached}
use Rattle.fl_model_laws.proofs.Cases.{either, by_given}
use Rattle.fl_model_laws.proofs.Replies.{length_changed}
use Rattle.fl_model_laws.proofs.Small.{is_not, both_are}
use Rattle.fl_model_laws.proofs.SoundSteps.{steps_are_sound}
use Rattle.fl_model_laws.proofs.WaitsetsStep.{places, seated_there}
use Rattle.fl_world_refines.proofs.Tests.{true_lt}
use Rattle.fl_world_refines.specs.View.{TheWorld}
use Rattle.fl_world_refines.proofs.FramesBase.{same_some}
use Rattle.fl_world_refines.proofs.JoiningStages.{at_dispatcher, dispatcher_in, next_end, sat, both_stage}
use Rattle.fl_world_refines.specs.Apart.{is_making}
use Rattle.fl_core_refines.specs.SetUpStart.{across, LinksArePaired}

-- ---- no ring: each is between two cores

-- where there is one core
abbrev pub NoRings : State → Type 0
NoRings s = length s.cores ≡ 1 → s.rings ≡ []

-- as many cores, and no ring where there is one
record Goes (s : State) (o : StepOutcome) : Type 0 where
  pub cores : length o.state.cores ≡ length s.cores
  pub rings : NoRings s → NoRings o.state

stays : (s : State) (a : Answer) → Goes s (answers s a)
stays s a = record { cores = refl; rings = λ h. h }

never : {P : Type 0} (a b : ℕ) → (a == b) ≡ false → a < 1 → b < 1 → P
never {P} a b q h k =
    let x : a ≡ 0 = omega (arith, h) in
    let y : b ≡ 0 = omega (arith, k) in
    let e : true ≡ false = sym (ap (λ i. i == b) x ∙ ap (λ i. 0 == i) y) ∙ q in
    absurd (cc)

core_within : (s : State) (d : DispatcherId) (x : Dispatcher) → dispatcher_of s d ≡ Some x → d.core < length s.cores
core_within s d x q = by (slice_get s.cores d.core) refl
  where
    by : (o : Option Core) → slice_get s.cores d.core ≡ o → d.core < length s.cores
    by None r =
        let none : None ≡ Some x = sym (ap (λ o. given o None λ (k : Core). slice_get k.dispatchers d.place) r) ∙ q in
        absurd (cc)
    by (Some k) r = within s.cores d.core k r

long_at : (d : DispatcherId) (f : Dispatcher → Dispatcher) (ks : List Core) → length (at_dispatcher d f ks) ≡ length ks
long_at d f ks = length_changed ks d.core (λ k. record k { dispatchers = changed_at d.place f k.dispatchers })

-- the server's dispatcher is still there once the client's end has its seat
server_there : (s : State) (m : BindByNames) (x y : Dispatcher) → dispatcher_of s m.client ≡ Some x → dispatcher_of s m.service.dispatcher ≡ Some y
    → (z : Dispatcher) × (dispatcher_in (at_dispatcher m.client (with_end (next_end s Client)) s.cores) m.service.dispatcher ≡ Some z)
server_there s m x y p q =
    let e = next_end s Client in
    let there = seated_there m.client e s m.service.dispatcher y q in (
      there.0,
      sym (ap (λ (o : Option Dispatcher). dispatcher_of (given o s (λ z. change_dispatcher m.client (with_end e) (change_end e (sat m.client z) s))) m.service.dispatcher) p)
          ∙ there.1,
    )

-- both ends of a new binding are seated: cores and rings stay
record Joins (s t : State) : Type 0 where
  pub cores : length t.cores ≡ length s.cores
  pub rings : t.rings ≡ s.rings

joined : (s : State) (m : BindByNames) (back : Back) (queue : Option Queue) (x y : Dispatcher) → dispatcher_of s m.client ≡ Some x
    → dispatcher_of s m.service.dispatcher ≡ Some y → Joins s (binds_both (length s.bindings) m (with_new_binding m back 2 queue s))
joined s m back queue x y p q =
    let (z, there) = server_there s m x y p q in
    subst (Joins s) (sym (both_stage s m back 2 queue x z p there)) (record {
      cores = long_at m.service.dispatcher _ _ ∙ long_at m.client _ _ ∙ long_at m.service.dispatcher _ _ ∙ long_at m.client _ s.cores;
      rings = refl;
    })

queues_after : (m : BindByNames) (slots : ℕ) (s : State) (d : Dispatcher) → dispatcher_of s m.client ≡ Some d → Goes s (binds_by_queues m slots s)
queues_after m slots s d there =
    either (Goes s) (not (m.client.core == m.service.dispatcher.core)) _ _ (λ q. stays s _)
    (λ q. either (Goes s) (nat_lt slots 1 || nat_lt 1024 slots) _ _ (λ r. stays s _)
    (λ r. either (Goes s) (not (has_both_places m s)) _ _ (λ t. stays s _)
    (λ t.
    let both = places m s t in
    let j = joined s m local (Some (fresh_queue slots)) d both.server there both.there in
    record { cores = j.cores; rings = λ h one. j.rings ∙ h (sym j.cores ∙ one) })))

ring_after : (m : BindByNames) (size : ℕ) (s : State) (d : Dispatcher) → dispatcher_of s m.client ≡ Some d → Goes s (binds_by_ring m size s)
ring_after m size s d there =
    either (Goes s) (m.client.core == m.service.dispatcher.core) _ _ (λ q. stays s _)
    (λ q. either (Goes s) (not (is_ring_size size)) _ _ (λ r. stays s _)
    (λ r. either (Goes s) (not (has_both_places m s)) _ _ (λ t. stays s _)
    (λ t.
    let both = places m s t in
    let client = core_within s m.client d there in
    let server = core_within s m.service.dispatcher both.server both.there in
    let j = joined (record s { rings = s.rings ++ fresh_ring size ∷ [] }) m (over_ring (length s.rings)) None d both.server there both.there in
    record {
      cores = j.cores;
      rings = λ h one.
          let many : length s.cores ≡ 1 = sym j.cores ∙ one in
          never m.client.core m.service.dispatcher.core q (omega (arith, many, client)) (omega (arith, many, server));
    })))

kind_after : (m : BindByNames) (kind : Kind) (s : State) (d : Dispatcher) (client : DispatcherId) (i : ℕ) (name : List ℕ) → is_making (bind client i name kind) ≡ true
    → dispatcher_of s m.client ≡ Some d → Goes s (binds_by m kind s)
kind_after m (by_queues slots) s d client i name makes there = queues_after m slots s d there
kind_after m (by_ring size) s d client i name makes there = ring_after m size s d there
kind_after m (by_route cores) s d client i name makes there = absurd (cc)

bind_after : (client : DispatcherId) (i : ℕ) (name : List ℕ) (kind : Kind) (s : State) → is_making (bind client i name kind) ≡ true
    → Goes s (binds client i name kind s)
bind_after client i name kind s makes =
    by_given (Goes s) (dispatcher_of s client) _ _ (stays s _)
    (λ d q. by_given (Goes s) (slice_get s.interfaces i) _ _ (stays s _)
    (λ planned r. either (Goes s) (nat_le most_bindings (length s.bindings)) _ _ (λ t. stays s _)
    (λ t. by_given (Goes s) (place_of_service name s.services) _ _ (stays s _)
    (λ place u. by_given (Goes s) (slice_get s.services place) _ _ (stays s _)
    (λ service v. either (Goes s) (not (service.interface == i)) _ _ (λ x. stays s _)
    (λ x. kind_after (record { client = client; interface = i; messages = length planned.interface.messages; service = service; iref = place + 1 })
    kind s d client i name makes q))))))

interface_after : (i : TheInterface) (plan : PlanNo) (s : State) → Goes s (adds_interface i plan s)
interface_after i plan s =
    either (Goes s) (has_interface i.name s) _ _ (λ q. stays s _) (λ q. either (Goes s) (nat_le most_interfaces (length s.interfaces)) _ _ (λ r. stays s _)
    (λ r. record { cores = refl; rings = λ h. h }))

first_two : (x y z : Bool) → (x || y || z) ≡ false → (x ≡ false) × (y ≡ false)
first_two false false z h = (refl, refl)
first_two true y z h = absurd (cc)
first_two false true z h = absurd (cc)

link_after : (a b size : ℕ) (s : State) → Goes s (adds_link a b size s)
link_after a b size s =
    either (Goes s) (not (is_core a s && is_core b s) || (a == b) || has_link a b s) _ _ (λ q. stays s _)
    (λ q. either (Goes s) (not (is_ring_size size)) _ _ (λ r. stays s _) (λ r.
    let parts = first_two (not (is_core a s && is_core b s)) (a == b) (has_link a b s) q in
    let both = both_are (is_core a s) (is_core b s) (is_not (is_core a s && is_core b s) parts.0) in
    let first = true_lt a (length s.cores) both.0 in
    let second = true_lt b (length s.cores) both.1 in
    let many = length_changed (changed_at a _ s.cores) b _ ∙ length_changed s.cores a _ in
    record {
      cores = many;
      rings = λ h one.
          let single : length s.cores ≡ 1 = sym many ∙ one in
          never a b parts.1 (omega (arith, single, first)) (omega (arith, single, second));
    }))

dispatcher_after : (core : ℕ) (s : State) → Goes s (adds_dispatcher core s)
dispatcher_after core s =
    either (Goes s) (nat_le most_dispatchers (count_dispatchers s)) _ _ (λ q. stays s _)
    (λ q. either (Goes s) (not (is_core core s)) _ _ (λ r. stays s _)
    (λ r. record { cores = length_changed s.cores core _; rings = λ h one. h (sym (length_changed s.cores core _) ∙ one) }))

export_after : (name : List ℕ) (d : DispatcherId) (i : ℕ) (s : State) → Goes s (exports name d i s)
export_after name d i s =
    by_given (Goes s) (dispatcher_of s d) _ _ (stays s _)
    (λ x q. by_given (Goes s) (slice_get s.interfaces i) _ _ (stays s _)
    (λ y r. either (Goes s) (has_service name s) _ _ (λ t. stays s _)
    (λ t. either (Goes s) (nat_le most_services (length s.services)) _ _ (λ u. stays s _) (λ u. record { cores = refl; rings = λ h. h }))))

-- the event doesn't set the number of cores
abbrev pub leaves_cores : Event → Bool
leaves_cores (set_cores n) = false
leaves_cores v = true

does_after : (v : Event) (s : State) → is_making v ≡ true → leaves_cores v ≡ true → Goes s (does v s)
does_after (add_interface i plan) s makes leaves = interface_after i plan s
does_after (set_cores n) s makes leaves = absurd (cc)
does_after (add_link a b size) s makes leaves = link_after a b size s
does_after (add_dispatcher core) s makes leaves = dispatcher_after core s
does_after (export name d i) s makes leaves = export_after name d i s
does_after (bind client i name kind) s makes leaves = bind_after client i name kind s makes
does_after (call e c) s makes leaves = absurd (cc)
does_after (show e) s makes leaves = absurd (cc)
does_after (write e) s makes leaves = absurd (cc)
does_after (turn d) s makes leaves = absurd (cc)
does_after (ack e) s makes leaves = absurd (cc)
does_after (register e) s makes leaves = absurd (cc)
does_after (deregister e) s makes leaves = absurd (cc)
does_after (reply e msg answer) s makes leaves = absurd (cc)
does_after (monitor_write core neighbour) s makes leaves = absurd (cc)
does_after (forward core neighbour) s makes leaves = absurd (cc)
does_after (monitor_ack core neighbour) s makes leaves = absurd (cc)

settled_by : (s : State) (a : Answer) (t : State) → Goes s (answers t a) → Goes s (answers (settles_by a t) a)
settled_by s (refused n) t h = h
settled_by s a t h = record { cores = h.cores; rings = h.rings }

settled : (s : State) (v : Event) (o : StepOutcome) → Goes s o → Goes s (settles v o)
settled s (add_interface i plan) o h = h
settled s v o h = settled_by s o.answer o.state h

-- but before any other: then nothing was made
cores_after : (n : ℕ) (s : State) → Sound s → NoRings s → NoRings (step s (set_cores n)).state
cores_after n s sound h = by_answer (sets_cores n s) (either (λ (o : StepOutcome). NoRings o.state) (not s.may_set_cores) _ _ (λ q. h)
    (λ q. either (λ (o : StepOutcome). NoRings o.state) (nat_lt n 1 || nat_lt most_cores n) _ _ (λ r. h) (λ r one. (sound.bare (is_not s.may_set_cores q)).rings)))
  where
    by : (a : Answer) (t : State) → NoRings t → NoRings (settles_by a t)
    by (refused m) t k = k
    by a t k = k

    by_answer : (o : StepOutcome) → NoRings o.state → NoRings (settles (set_cores n) o).state
    by_answer o k = by o.answer o.state k

step_after : (v : Event) (s : State) (b : Bool) → leaves_cores v ≡ b → is_making v ≡ true → Sound s → NoRings s → NoRings (step s v).state
step_after v s true q makes sound h = (settled s v (does v s) (does_after v s makes q)).rings h
step_after (set_cores n) s false q makes sound h = cores_after n s sound h
step_after v s false q makes sound h = absurd (cc)

pub no_rings : (vs : List Event) (s : State) → list_all is_making vs ≡ true → Sound s → NoRings s → NoRings (reached s vs)
no_rings [] s makes sound h = h
no_rings (v ∷ vs) s makes sound h =
    let both = both_are (is_making v) (list_all is_making vs) makes in
    no_rings vs (step s v).state both.1 (steps_are_sound s v sound) (step_after v s (leaves_cores v) refl both.0 sound h)

-- ---- no link: each leads to another core, and back

pub one_of : {X : Type 0} (xs : List X) → length xs ≡ 1 → (x : X) × (xs ≡ x ∷ [])
one_of [] q = absurd (omega (arith, q))
one_of (x ∷ []) q = (x, refl)
one_of (x ∷ y ∷ xs) q = absurd (omega (arith, q))

pub none_in : {X : Type 0} (xs : List X) → length xs ≡ 0 → xs ≡ []
none_in [] q = refl
none_in (x ∷ xs) q = absurd (omega (arith, q))

pub the_one : {X : Type 0} (x y : X) (n : ℕ) → slice_get (x ∷ []) n ≡ Some y → (n ≡ 0) × (y ≡ x)
the_one x y zero q = (refl, same_some (Some x) y x q refl)
the_one x y (suc n) q = absurd (cc)

-- no side is the other side of its own ring
across_differs : {P : Type 0} (side : ℕ) → across side ≡ side → P
across_differs {P} side q = by (side % 2 == 0) refl
  where
    by : (b : Bool) → (side % 2 == 0) ≡ b → P
    by true r =
        let next : side + 1 ≡ side = sym (ap (λ b. if b then side + 1 else side - 1) r) ∙ q in
        absurd (omega (arith, next))
    by false r =
        let before : side - 1 ≡ side = sym (ap (λ b. if b then side + 1 else side - 1) r) ∙ q in
        let none : side ≡ 0 = omega (arith, before) in
        let e : true ≡ false = sym (ap (λ i. i % 2 == 0) none) ∙ r in
        absurd (cc)

pub no_link_sides : (w : TheWorld) (c : TheCore) → w.cores ≡ c ∷ [] → LinksArePaired w → c.link_sides ≡ []
no_link_sides w c one paired = by c.link_sides refl
  where
    there : slice_get w.cores 0 ≡ Some c
    there = ap (λ ks. slice_get ks 0) one

    -- the core at the other side of a link is this one
    same : (n : ℕ) (d : TheCore) → slice_get w.cores n ≡ Some d → d ≡ c
    same n d q = (the_one c d n (ap (λ ks. slice_get ks n) (sym one) ∙ q)).1

    by : (link_sides : List LinkSide) → c.link_sides ≡ link_sides → c.link_sides ≡ []
    by [] q = q
    by (link_side ∷ link_sides) q =
        let side = link_side.side in
        let first = paired 0 0 side c there (ap (λ ls. side_of_link ls 0) q) in
        let core = same first.link.neighbour.0 first.core first.core_is in
        let back : side_of_link c.link_sides first.back ≡ Some (across side) = ap (λ (d : TheCore). side_of_link d.link_sides first.back) (sym core) ∙ first.side_is in
        let second = paired 0 first.back (across side) c there back in
        let core2 = same second.link.neighbour.0 second.core second.core_is in
        let one_back : second.back ≡ first.back
        = same_some (link_of c.monitor.circuits 0) second.back first.back
        (ap (λ (d : TheCore). link_of d.monitor.circuits 0) (sym core2) ∙ second.back_is)
        (ap (λ (d : TheCore). link_of d.monitor.circuits 0) (sym core) ∙ first.back_is) in
        let again : side_of_link c.link_sides first.back ≡ Some (across (across side))
        = ap (side_of_link c.link_sides) (sym one_back) ∙ ap (λ (d : TheCore). side_of_link d.link_sides second.back) (sym core2) ∙ second.side_is in
        across_differs (across side) (same_some (side_of_link c.link_sides first.back) (across (across side)) (across side) again back)
