-- Each step keeps the waitsets' lists: no channel twice, and each an end's. What a heard answer or opening makes of an end is
-- taken from the rest of the state.
use Rattle.std.proofs.Common.{◌≡◌, ◌≢◌, refl, sym, ◌∙◌, ap, subst, ℕ, zero, suc, ◌+◌, ◌≤◌, ◌&&◌, ◌==◌, ◌||◌, nat_le, not, Bool, true, false, if◌then◌else◌, inl, inr}
use Rattle.std.proofs.Common.{List, [], ◌∷◌, ◌++◌, length, slice_get, slice_set, Option, Some, None, arith}
use Rattle.std.specs.Prelude.{is_some}
use Rattle.std.proofs.lemmas.Bool.{false≢true, eqb-true, eq-eqb, and_parts, and_from}
use Rattle.std.proofs.lemmas.Bool.Decides.{nat_tests}
use Rattle.fl_base.specs.declared.identity.EndId.{EndId}
use Rattle.fl_base.specs.declared.identity.Side.TheVariants.{Client, Server}
use Rattle.fl_base.specs.Ends.{peer}
use Rattle.fl_lists.specs.declared.place.Place.{Place}
use Rattle.fl_lists.specs.declared.place.Place.TheVariants.{Idle, Polled, Pending}
use Rattle.fl_lists.specs.ThreeLists.{ThreeLists, list_at, is_in, pushed}
use Rattle.fl_waitset.specs.Waiting.{is_registered}
use Rattle.fl_model.specs.Given.{changed_at}
use Rattle.fl_model.specs.Events.{DispatcherId}
use Rattle.fl_model.specs.Calls.{Planned}
use Rattle.fl_model.specs.Rings.{MonitorLabel, Label, next_of, says, acknowledges, RingLabel, RingEnd, there_is_room, takes}
use Rattle.fl_model.specs.Ends.{End, Seat, Direction}
use Rattle.fl_model.specs.Waits.{Dispatcher, most_ends, has_places, waits_in, with_end, registers, Due, pending, polled, first_due, due, fresh_dispatcher}
use Rattle.fl_model.specs.Monitors.{Core, hears, Heard, no_outbox, misrouted, opening_went_on, server_made, opening_failed, answer_went_on, end_opened, end_refused}
use Rattle.fl_model.specs.State.{State, StepOutcome, Outlet, peer_queue, ring_side, core_of, dispatcher_of, end_of, first_on}
use Rattle.fl_model.specs.State.{change_core, change_dispatcher, change_ring, change_end, change_route, seats, registers_end, binds_end, Binding}
use Rattle.fl_model.specs.Binding.{BindByNames, end_id, binds_both, has_both_places, has_places_for, same_dispatcher}
use Rattle.fl_model.specs.Sending.{writes_to}
use Rattle.fl_model.specs.Taking.{has_channel_listed, Chosen, takes_label, goes_back, comes_off, finds}
use Rattle.fl_model.specs.Forwarding.{LinkEnd, follows, takes_said, grants, passes_word}
use Rattle.fl_model.specs.SoundLists.{ListsStand, WaitsetsStand}
use Rattle.fl_model.specs.SoundPlaces.{SeatsAgree}
use Rattle.fl_model_laws.proofs.Cases.{by_given}
use Rattle.fl_model_laws.proofs.BindingWalk.{end_there}
use Rattle.std.proofs.lemmas.List.{length-append}
use Rattle.fl_base.specs.Given.{given}
use Rattle.fl_model_laws.proofs.Replies.{length_changed}
use Rattle.fl_model_laws.proofs.Services.{changed_stays}
use Rattle.fl_model_laws.proofs.Waitsets.{IsFree, pushed_from, puts_off_stands}
use Rattle.fl_model_laws.proofs.Seating.{changed_was, dispatcher_was, AllStand, one_changed, IsReady, Ready, registered_kept, triggered_kept, seat_kept}
use Rattle.fl_model_laws.proofs.Ready.{ready_end, ready_dispatcher, ready_route, ready_seated}
use Rattle.fl_model_laws.proofs.Walk.{IsTurn, IsHere}
use Rattle.fl_model_laws.proofs.Small.{get_push, is_not}

-- ---- a turn

pub first_pending : (x : Dispatcher) (pend poll : List ℕ) (c : ℕ) → first_due pend poll ≡ pending c → slice_get pend 0 ≡ Some c
first_pending x (d ∷ pend) poll c h = let e : d ≡ c = cc in ap (λ (n : ℕ). Some n) e
first_pending x [] (d ∷ poll) c h = absurd (cc)
first_pending x [] [] c h = absurd (cc)

pub first_polled : (x : Dispatcher) (pend poll : List ℕ) (c : ℕ) → first_due pend poll ≡ polled c → slice_get poll 0 ≡ Some c
first_polled x (d ∷ pend) poll c h = absurd (cc)
first_polled x [] (d ∷ poll) c h = let e : d ≡ c = cc in ap (λ (n : ℕ). Some n) e
first_polled x [] [] c h = absurd (cc)

pub same_dispatcher_at : (s : State) (d : DispatcherId) (x y : Dispatcher) → dispatcher_of s d ≡ Some x → dispatcher_of s d ≡ Some y → x ≡ y
same_dispatcher_at s d x y p q = let e : Some x ≡ Some y = sym p ∙ q in cc

pub back_kept : (t : Chosen) (to : Place) (s : State) → IsTurn t (pending t.channel) s → AllStand s.cores → AllStand (goes_back t to s).cores
back_kept t to s k h =
    one_changed t.dispatcher _ s h
    (λ x q b.
    let same : k.dispatcher ≡ x = same_dispatcher_at s t.dispatcher k.dispatcher x k.dispatcher_is q in
    subst (λ (y : Dispatcher). ListsStand y → ListsStand (Rattle.fl_model.specs.Waits.puts_off Pending t.channel to y)) same
    (puts_off_stands Pending t.channel to k.dispatcher
    (first_pending k.dispatcher k.dispatcher.lists.pending k.dispatcher.lists.polled t.channel k.due_is) (ap is_some k.end_is)) b)

pub off_kept : (t : Chosen) (to : Place) (s : State) → IsTurn t (polled t.channel) s → AllStand s.cores → AllStand (comes_off t to s).cores
off_kept t to s k h =
    one_changed t.dispatcher _ s h
    (λ x q b.
    let same : k.dispatcher ≡ x = same_dispatcher_at s t.dispatcher k.dispatcher x k.dispatcher_is q in
    subst (λ (y : Dispatcher). ListsStand y → ListsStand (Rattle.fl_model.specs.Waits.puts_off Polled t.channel to y)) same
    (puts_off_stands Polled t.channel to k.dispatcher
    (first_polled k.dispatcher k.dispatcher.lists.pending k.dispatcher.lists.polled t.channel k.due_is) (ap is_some k.end_is)) b)

pub label_taken : (e : EndId) (i : Planned) (l : Label) (s : State) → AllStand s.cores → AllStand (takes_label e i l s).state.cores
label_taken e i (next_of sender k) s h = by_given (λ (o : StepOutcome). AllStand o.state.cores) (end_of s sender) _ _ h (λ y r. h)
label_taken e i (says m) s h = h
label_taken e i acknowledges s h = h

pub found_kept : (t : Chosen) (at : RingEnd) (l : Label) (s : State) → IsTurn t (polled t.channel) s → AllStand s.cores → AllStand (finds t at l s).state.cores
found_kept t at (next_of e k) s d h = off_kept t Pending s d h
found_kept t at (says m) s d h = off_kept t Pending s d h
found_kept t at acknowledges s d h =
    off_kept t Polled (change_ring at.ring (takes at.side) s)
    (record { dispatcher = d.dispatcher; dispatcher_is = d.dispatcher_is; due_is = d.due_is; end_is = d.end_is }) h

pub written_kept : (e : EndId) (i : Planned) (d : Direction) (o : Outlet) (s : State) → AllStand s.cores → AllStand (writes_to e i d o there_is_room s).state.cores
written_kept e i d peer_queue s h = triggered_kept (peer e) _ h
written_kept e i d (ring_side on) s h = h

-- ---- both ends of a new binding

free_by : (w : Rattle.fl_lists.specs.ThreeLists.ThreeLists) (c ch : ℕ) (to place : Place) → IsFree c w → c ≢ ch → (b : Bool)
    → is_in c (list_at (pushed w ch to) place) ≡ b → is_in c (list_at (pushed w ch to) place) ≡ false
free_by w c ch to place f ne true q =
    elim (pushed_from w ch to place c q) [
      | inl a ↦ absurd (false≢true (sym (f place) ∙ a))
      | inr b ↦ absurd (ne (sym b.0))
    ]
free_by w c ch to place f ne false q = q

pub ready_registers : (e f : EndId) (s : State) → e ≢ f → Ready f s → Ready e s → Ready e (registers_end f s)
ready_registers e f s ne other h =
    by_given (Ready e) (end_of s f) _ _ h
    (λ x q. by_given (Ready e) x.seat _ _ h
    (λ seat r. ready_dispatcher e seat.dispatcher (registers seat.channel (waits_in x.queue)) s
    (λ y u c k.
    let its : IsReady f seat.channel y = other x seat q r y u in
    let apart : c ≢ seat.channel = (λ same. ne (let v : Some e ≡ Some f = sym k.its ∙ ap (slice_get y.ends) same ∙ its.its in cc)) in
    leaves e c seat.channel (waits_in x.queue) y k apart) h))
  where
    leaves : (e : EndId) (c ch : ℕ) (to : Place) (y : Dispatcher) → IsReady e c y → c ≢ ch → IsReady e c (registers ch to y)
    leaves e c ch to y k ne = record {
      free = λ place. free_by y.lists c ch to place k.free ne (is_in c (list_at (pushed y.lists ch to) place)) refl;
      its = k.its;
    }

pub ready_seats : (e v : EndId) (d : DispatcherId) (s : State) → ((f : End → End) → Ready e s → Ready e (change_end v f s)) → Ready e s → Ready e (seats d v s)
ready_seats e v d s other h =
    by_given (Ready e) (dispatcher_of s d) _ _ h
    (λ x q. ready_dispatcher e d (with_end v) (change_end v (λ y. record y { seat = Some (record { dispatcher = d; channel = length x.ends }) }) s)
    (λ y r c k. record { free = k.free; its = get_push y.ends c e v k.its })
    (other (λ y. record y { seat = Some (record { dispatcher = d; channel = length x.ends }) }) h))

pub bound_kept : (e : EndId) (circuit : ℕ) (s : State) → Ready e s → AllStand s.cores → AllStand (binds_end e circuit s).cores
bound_kept e circuit s ready h =
    registered_kept e (change_end e (λ x. record x { circuit = Some circuit }) s)
    (ready_end e e (λ x. record x { circuit = Some circuit }) s (λ y. refl) ready) h

-- the server's end changes, and the client's is as it was
client_stays : (n : ℕ) (s : State) (f : End → End) → Ready (end_id n Client) s → Ready (end_id n Client) (change_end (end_id n Server) f s)
client_stays n s f h x seat q r y u =
    let (b, at, is) = end_there (change_end (end_id n Server) f s) (end_id n Client) x q in
    elim (changed_was s.bindings n (λ (a : Binding). record a { server = f a.server }) n b at) [
      | inl a ↦ h x seat (end_at b a ∙ ap (λ (z : End). Some z) is) r y u
      | inr c ↦ h x seat (end_at c.1.0 c.1.1 ∙ ap (λ (z : End). Some z) (ap (λ (a : Binding). a.client) (sym c.1.2) ∙ is)) r y u
    ]
  where
    end_at : (b : Binding) → slice_get s.bindings n ≡ Some b → end_of s (end_id n Client) ≡ Some b.client
    end_at b q = ap (λ (o : Option Binding). given o None (λ (a : Binding). Some a.client)) q

two_sides : (n : ℕ) → end_id n Server ≢ end_id n Client
two_sides n h = let u : Server ≡ Client = ap (λ (e : EndId). e.side) h in absurd (cc)

-- ---- places

pub places_of : (n : ℕ) (o : Option Dispatcher) (x : Dispatcher) → o ≡ Some x → given o false (has_places n) ≡ true → length x.ends + n ≤ most_ends
places_of n o x q h =
    let there : has_places n x ≡ true = sym (ap (λ (p : Option Dispatcher). given p false (has_places n)) q) ∙ h in
    enough (length x.ends + n) there
  where
    enough : (m : ℕ) → nat_le m 1024 ≡ true → m ≤ 1024
    enough m h = grind (arith, nat_tests, h)

there_by : (n : ℕ) (o : Option Dispatcher) → given o false (has_places n) ≡ true → (x : Dispatcher) × (o ≡ Some x)
there_by n None h = absurd (cc)
there_by n (Some x) h = (x, refl)

pub record BothPlaces (w : BindByNames) (s : State) : Type 0 where
  pub client : (x : Dispatcher) → dispatcher_of s w.client ≡ Some x → length x.ends + 1 ≤ most_ends
  pub server : Dispatcher
  pub there : dispatcher_of s w.service.dispatcher ≡ Some server
  pub room : length server.ends + 1 ≤ most_ends
  pub two : w.service.dispatcher ≡ w.client → length server.ends + 2 ≤ most_ends

same_by : (d e : DispatcherId) → same_dispatcher d e ≡ true → d ≡ e
same_by d e h =
    let both = and_parts (d.core == e.core) (d.place == e.place) h in
    ap (λ (n : ℕ). (at n d.place)) (eqb-true d.core e.core both.0) ∙ ap (at e.core) (eqb-true d.place e.place both.1)
  where
    at : ℕ → ℕ → DispatcherId
    at core place = record { core = core; place = place }

same_from : (d : DispatcherId) → same_dispatcher d d ≡ true
same_from d = and_from (d.core == d.core) (d.place == d.place) (eq-eqb d.core d.core refl) (eq-eqb d.place d.place refl)

both_places : (w : BindByNames) (s : State) (b : Bool) → same_dispatcher w.client w.service.dispatcher ≡ b
    → (if b then has_places_for w.client 2 s else has_places_for w.client 1 s && has_places_for w.service.dispatcher 1 s) ≡ true → BothPlaces w s
both_places w s true e h =
    let same : w.client ≡ w.service.dispatcher = same_by w.client w.service.dispatcher e in
    let (x, there) = there_by 2 (dispatcher_of s w.client) h in
    let enough : length x.ends + 2 ≤ most_ends = places_of 2 (dispatcher_of s w.client) x there h in
    record {
      client = λ y q. let two : length y.ends + 2 ≤ most_ends = places_of 2 (dispatcher_of s w.client) y q h in omega arith;
      server = x;
      there = ap (dispatcher_of s) (sym same) ∙ there;
      room = omega arith;
      two = λ u. enough;
    }
both_places w s false e h =
    let both = and_parts (has_places_for w.client 1 s) (has_places_for w.service.dispatcher 1 s) h in
    let (x, there) = there_by 1 (dispatcher_of s w.service.dispatcher) both.1 in
    record {
      client = λ y q. places_of 1 (dispatcher_of s w.client) y q both.0;
      server = x;
      there = there;
      room = places_of 1 (dispatcher_of s w.service.dispatcher) x there both.1;
      two = λ u. absurd (false≢true (sym e ∙ ap (λ (d : DispatcherId). same_dispatcher w.client d) u ∙ same_from w.client));
    }

pub places : (w : BindByNames) (s : State) → not (has_both_places w s) ≡ false → BothPlaces w s
places w s h = both_places w s (same_dispatcher w.client w.service.dispatcher) refl (is_not (has_both_places w s) h)

some_of : (o : Option Dispatcher) → is_some o ≡ true → (y : Dispatcher) × (o ≡ Some y)
some_of None h = absurd (cc)
some_of (Some y) h = (y, refl)

abbrev IsSomeClient : BindByNames → State → Type 0
IsSomeClient w s = (x : Dispatcher) × (dispatcher_of s w.client ≡ Some x)

-- a dispatcher that was there is there after an end was seated
pub seated_there : (d : DispatcherId) (e : EndId) (t : State) (g : DispatcherId) (x : Dispatcher) → dispatcher_of t g ≡ Some x
    → (y : Dispatcher) × (dispatcher_of (seats d e t) g ≡ Some y)
seated_there d e t g x q =
    by_given (λ (u : State). (y : Dispatcher) × (dispatcher_of u g ≡ Some y)) (dispatcher_of t d) _ _ (x, q)
    (λ z r. there_after d (with_end e) (change_end e (λ y. record y { seat = Some (record { dispatcher = d; channel = length z.ends }) }) t) g x q)
  where
    there_after : (d : DispatcherId) (f : Dispatcher → Dispatcher) (t : State) (g : DispatcherId) (x : Dispatcher) → dispatcher_of t g ≡ Some x
        → (y : Dispatcher) × (dispatcher_of (change_dispatcher d f t) g ≡ Some y)
    there_after d f t g x q =
        let stays : is_some (dispatcher_of (change_dispatcher d f t) g) ≡ true =
        changed_stays t.cores d.core (λ k. record k { dispatchers = changed_at d.place f k.dispatchers }) g.core g.place
        (λ k r. let same : length (changed_at d.place f k.dispatchers) ≡ length k.dispatchers = length_changed k.dispatchers d.place f in omega arith)
        (ap is_some q) in
        some_of (dispatcher_of (change_dispatcher d f t) g) stays

-- the server's dispatcher has a place left after the client's end was seated
server_room : (w : BindByNames) (s t : State) → BothPlaces w s → ((d : DispatcherId) → dispatcher_of t d ≡ dispatcher_of s d) → (n : ℕ) (x : Dispatcher)
    → dispatcher_of (seats w.client (end_id n Client) t) w.service.dispatcher ≡ Some x → length x.ends + 1 ≤ most_ends
server_room w s t p same n x =
    by_given (λ (u : State). dispatcher_of u w.service.dispatcher ≡ Some x → length x.ends + 1 ≤ most_ends) (dispatcher_of t w.client) _ _
    (λ q. old x q)
    (λ z r q. elim (dispatcher_was w.client (with_end (end_id n Client))
    (change_end (end_id n Client) (λ y. record y { seat = Some (record { dispatcher = w.client; channel = length z.ends }) }) t) w.service.dispatcher x q) [
      | inl a ↦ old x a
      | inr b ↦ new b.0 b.1.0 (ap (dispatcher_of t) b.0 ∙ b.1.1) b.1.2
    ])
  where
    is_server : (y : Dispatcher) → dispatcher_of t w.service.dispatcher ≡ Some y → p.server ≡ y
    is_server y q = let e : Some p.server ≡ Some y = sym p.there ∙ sym (same w.service.dispatcher) ∙ q in cc

    old : (y : Dispatcher) → dispatcher_of t w.service.dispatcher ≡ Some y → length y.ends + 1 ≤ most_ends
    old y q = subst (λ (z : Dispatcher). length z.ends + 1 ≤ most_ends) (is_server y q) p.room

    new : w.service.dispatcher ≡ w.client → (y : Dispatcher) → dispatcher_of t w.service.dispatcher ≡ Some y → x ≡ with_end (end_id n Client) y
        → length x.ends + 1 ≤ most_ends
    new e y q made =
        let two : length y.ends + 2 ≤ most_ends = subst (λ (z : Dispatcher). length z.ends + 2 ≤ most_ends) (is_server y q) (p.two e) in
        let longer : length (y.ends ++ end_id n Client ∷ []) ≡ length y.ends + 1 = length-append y.ends (end_id n Client ∷ []) in
        let now : length x.ends ≡ length (y.ends ++ end_id n Client ∷ []) = ap (λ (z : Dispatcher). length z.ends) made in
        omega arith

client_ready : (w : BindByNames) (s t : State) → IsSomeClient w s → ((d : DispatcherId) → dispatcher_of t d ≡ dispatcher_of s d) → (n : ℕ) → AllStand t.cores
    → Ready (end_id n Client) (seats w.client (end_id n Client) t)
client_ready w s t k same n h = ready_seated w.client (end_id n Client) t k.0 (same w.client ∙ k.1) h

pub both_kept : (w : BindByNames) (s t : State) → BothPlaces w s → IsSomeClient w s → ((d : DispatcherId) → dispatcher_of t d ≡ dispatcher_of s d) → (n : ℕ) → AllStand t.cores
    → AllStand (binds_both n w t).cores
both_kept w s t p k same n h =
    let c : EndId = end_id n Client in
    let v : EndId = end_id n Server in
    let sd : DispatcherId = w.service.dispatcher in
    let first : State = seats w.client c t in
    let second : State = seats sd v first in
    let third : State = binds_end c 0 second in
    let first_all : AllStand first.cores = seat_kept w.client c t (λ x q. p.client x (sym (same w.client) ∙ q)) h in
    let server_there : (x : Dispatcher) × (dispatcher_of first sd ≡ Some x) = seated_there w.client c t sd p.server (same sd ∙ p.there) in
    let second_all : AllStand second.cores = seat_kept sd v first (λ x q. server_room w s t p same n x q) first_all in
    let client_first : Ready c first = client_ready w s t k same n h in
    let client : Ready c second = ready_seats c v sd first (λ f r. client_stays n first f r) client_first in
    let server : Ready v second = ready_seated sd v first server_there.0 server_there.1 first_all in
    let third_all : AllStand third.cores = bound_kept c 0 second client second_all in
    let server_third : Ready v third =
    ready_registers v c (change_end c (λ x. record x { circuit = Some 0 }) second) (two_sides n)
    (ready_end c c (λ x. record x { circuit = Some 0 }) second (λ y. refl) client)
    (ready_end v c (λ x. record x { circuit = Some 0 }) second (λ y. refl) server) in
    bound_kept v 0 third server_third third_all

-- ---- an end that isn't listed

free_parts : (a b c : Bool) → (a || b || c) ≡ false → (a ≡ false) × (b ≡ false) × (c ≡ false)
free_parts false false false h = (refl, refl, refl)
free_parts true b c h = absurd (cc)
free_parts false true c h = absurd (cc)
free_parts false false true h = absurd (cc)

unlisted_free : (w : ThreeLists) (c : ℕ) → is_registered w c ≡ false → IsFree c w
unlisted_free w c h Idle = (free_parts (is_in c w.idle) (is_in c w.polled) (is_in c w.pending) h).0
unlisted_free w c h Polled = (free_parts (is_in c w.idle) (is_in c w.polled) (is_in c w.pending) h).1
unlisted_free w c h Pending = (free_parts (is_in c w.idle) (is_in c w.polled) (is_in c w.pending) h).2

-- a seat's channel is its end's, where seats agree
pub seat_its : (s : State) (e : EndId) (x : End) (seat : Seat) (y : Dispatcher) → SeatsAgree s → end_of s e ≡ Some x → x.seat ≡ Some seat
    → dispatcher_of s seat.dispatcher ≡ Some y → slice_get y.ends seat.channel ≡ Some e
seat_its s e x seat y a q r u =
    let (z, there, its) = a.seated e seat.dispatcher seat.channel (x, q, r) in
    let same : z ≡ y = same_dispatcher_at s seat.dispatcher z y there u in
    subst (λ (v : Dispatcher). slice_get v.ends seat.channel ≡ Some e) same its

pub ready_unlisted : (s : State) (e : EndId) (x : End) → SeatsAgree s → end_of s e ≡ Some x → has_channel_listed x s ≡ false → Ready e s
ready_unlisted s e x a q h z seat r its y u =
    let same : x ≡ z = (let v : Some x ≡ Some z = sym q ∙ r in cc) in
    let none : has_channel_listed z s ≡ false = subst (λ (v : End). has_channel_listed v s ≡ false) same h in
    let free : is_registered y.lists seat.channel ≡ false =
    sym (ap (λ (o : Option Dispatcher). given o false (λ d. is_registered d.lists seat.channel)) u)
    ∙ sym (ap (λ (o : Option Seat). given o false (λ t. given (dispatcher_of s t.dispatcher) false (λ d. is_registered d.lists t.channel))) its) ∙ none in
    record { free = unlisted_free y.lists seat.channel free; its = seat_its s e z seat y a r its u }

-- ---- what a core heard

-- the dispatcher at which a server's end is made has a place; and the end that an answer binds is seated and in no list
abbrev pub HeardFits : State → Heard → Type 0
HeardFits s (server_made n d c) = (y : Dispatcher) × (dispatcher_of s d ≡ Some y) × (length y.ends + 1 ≤ most_ends)
HeardFits s (end_opened e c) = Ready e s
HeardFits s heard = Unit {0}

-- a core with other circuits and links has its dispatchers
pub told_same : (s : State) (n : ℕ) (k z : Core) → core_of s n ≡ Some k → z.dispatchers ≡ k.dispatchers → (d : DispatcherId)
    → dispatcher_of (change_core n (λ y. z) s) d ≡ dispatcher_of s d
told_same s n k z q e d = set_same s.cores n k z q e d.core d.place
  where
    set_at : (cores : List Core) (n : ℕ) (k z : Core) → slice_get cores n ≡ Some k → z.dispatchers ≡ k.dispatchers → (m place : ℕ)
        → given (slice_get (slice_set cores n z) m) None (λ j. slice_get j.dispatchers place) ≡ given (slice_get cores m) None (λ j. slice_get j.dispatchers place)
    set_at [] n k z q e m place = refl
    set_at (x ∷ cores) zero k z q e zero place =
        let same : x ≡ k = cc in
        ap (λ ds. slice_get ds place) (e ∙ ap (λ (j : Core). j.dispatchers) (sym same))
    set_at (x ∷ cores) zero k z q e (suc m) place = refl
    set_at (x ∷ cores) (suc n) k z q e zero place = refl
    set_at (x ∷ cores) (suc n) k z q e (suc m) place = set_at cores n k z q e m place

    set_same : (cores : List Core) (n : ℕ) (k z : Core) → slice_get cores n ≡ Some k → z.dispatchers ≡ k.dispatchers → (m place : ℕ)
        → given (slice_get (changed_at n (λ y. z) cores) m) None (λ j. slice_get j.dispatchers place) ≡ given (slice_get cores m) None (λ j. slice_get j.dispatchers place)
    set_same cores n k z q e m place =
        by_given (λ (ks : List Core). given (slice_get ks m) None (λ j. slice_get j.dispatchers place) ≡ given (slice_get cores m) None (λ j. slice_get j.dispatchers place))
        (slice_get cores n) cores (λ y. slice_set cores n z) refl (λ x r. set_at cores n k z q e m place)

pub fits_told : (s : State) (n : ℕ) (z : Core) (x : Heard) → ((d : DispatcherId) → dispatcher_of (change_core n (λ y. z) s) d ≡ dispatcher_of s d) → HeardFits s x
    → HeardFits (change_core n (λ y. z) s) x
fits_told s n z no_outbox same h = h
fits_told s n z misrouted same h = h
fits_told s n z (opening_went_on b c) same h = h
fits_told s n z (server_made b d c) same h = (h.0, same d ∙ h.1, h.2)
fits_told s n z (opening_failed b fault) same h = h
fits_told s n z (answer_went_on b) same h = h
fits_told s n z (end_opened e c) same h = λ x seat q r y u. h x seat q r y (sym (same seat.dispatcher) ∙ u)
fits_told s n z (end_refused e fault) same h = h

pub heard_kept : (at : RingEnd) (x : Heard) (s : State) → HeardFits s x → AllStand s.cores → AllStand (follows x (takes_said at x s)).state.cores
heard_kept at no_outbox s f h = h
heard_kept at misrouted s f h = h
heard_kept at (opening_went_on n c) s f h = h
heard_kept at (server_made n d c) s f h =
    let e : EndId = end_id n Server in
    let granted : State = change_route n grants (change_ring at.ring (takes at.side) s) in
    let all : AllStand (seats d e granted).cores = seat_kept d e granted
    (λ x q. subst (λ (y : Dispatcher). length y.ends + 1 ≤ most_ends) (same_dispatcher_at s d f.0 x f.1 q) f.2) h in
    bound_kept e c (seats d e granted) (ready_seated d e granted f.0 f.1 h) all
heard_kept at (opening_failed n fault) s f h = h
heard_kept at (answer_went_on n) s f h = h
heard_kept at (end_opened e c) s f h =
    let taken : State = change_ring at.ring (takes at.side) s in
    bound_kept e c (change_route e.binding passes_word taken) (ready_route e e.binding passes_word taken f) h
heard_kept at (end_refused e fault) s f h = h

-- ---- the walk

-- whatever a core would hear now fits
abbrev pub AllHeardFits : State → Type 0
AllHeardFits s = (here : LinkEnd) (m : MonitorLabel) (first : RingLabel) (k : Core) → IsHere here s → first_on here.ring s ≡ Some first → first.label ≡ says m
    → core_of s here.core ≡ Some k → HeardFits s (hears s.services here.link m k).heard

pub record MayWait (s : State) : Type 0 where
  pub waitsets : WaitsetsStand s
  pub seats : SeatsAgree s
  pub heard : AllHeardFits s
