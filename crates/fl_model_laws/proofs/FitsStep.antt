-- Each step keeps that calls fit their interfaces and that reply rules keep to types, where labels keep to their ways.
use Rattle.std.proofs.Common.{◌≡◌, refl, sym, ◌∙◌, subst, ℕ, ◌+◌, nat_le}
use Rattle.std.proofs.Common.{true, List, [], ◌∷◌, length, slice_get}
use Rattle.std.proofs.Common.{Option, Some, None, arith}
use Rattle.fl_base.specs.declared.identity.EndId.{EndId}
use Rattle.fl_base.specs.declared.identity.Side.TheVariants.{Client, Server}
use Rattle.fl_base.specs.Ends.{peer}
use Rattle.fl_value_data.specs.Value.{TheCall}
use Rattle.fl_model.specs.Events.{DispatcherId}
use Rattle.fl_model.specs.Calls.{Planned}
use Rattle.fl_model.specs.Rings.{Label, next_of, says, acknowledges, RingEnd, there_is_room}
use Rattle.fl_model.specs.Rings.{puts, takes}
use Rattle.fl_model.specs.Ends.{Queue, fresh_queue, without_first, End, Direction, Taken, comes_to, is_busy}
use Rattle.fl_model.specs.Waits.{Dispatcher}
use Rattle.fl_model.specs.Monitors.{Heard, no_outbox, misrouted, opening_went_on, server_made, opening_failed}
use Rattle.fl_model.specs.Monitors.{answer_went_on, end_opened, end_refused, hears}
use Rattle.fl_model.specs.State.{Back, local, over_ring, State, StepOutcome, Outlet, peer_queue, ring_side}
use Rattle.fl_model.specs.State.{change_core, change_ring, change_end, change_route, seats}
use Rattle.fl_model.specs.State.{delivers, dispatcher_of, binding_of, interface_of, end_of, end_in, in_queue}
use Rattle.fl_model.specs.Making.{with_interface}
use Rattle.fl_model.specs.Binding.{BindByNames, end_id, with_new_binding, binds_both}
use Rattle.fl_model.specs.Sending.{writes_to}
use Rattle.fl_model.specs.Taking.{Chosen, takes_label, finds}
use Rattle.fl_model.specs.Forwarding.{follows, takes_said, label_of}
use Rattle.fl_model_laws.proofs.Cases.{by_given, each_push, none_at_end}
use Rattle.std.proofs.Common.{replicate, slice_set, zero}
use Rattle.fl_base.specs.declared.identity.Side.{Side}
use Rattle.fl_model.specs.Given.{changed_at}
use Rattle.fl_model.specs.Monitors.{Hearing}
use Rattle.fl_model.specs.Binding.{arrival_queue}
use Rattle.std.proofs.Common.{suc}
use Rattle.fl_model.specs.State.{binds_end}
use Rattle.fl_model.specs.State.{Binding, Route, change_out, change_channel, with_end_in}
use Rattle.fl_model.specs.Ends.{accepts, writes, with_rule, passes, takes_one, replies, unbound_end}
use Rattle.fl_model_laws.proofs.Cases.{Each, each_changed}
use Rattle.std.proofs.Common.{ap, ◌<◌, ◌-◌, ◌||◌, replicate, is_some}
use Rattle.std.specs.Prelude.{Contains}
use Rattle.fl_base.specs.Ends.{other}
use Rattle.fl_base.specs.Given.{given, given}
use Rattle.fl_value_data.specs.Fits.{fits_of}
use Rattle.fl_lists.specs.declared.place.Place.TheVariants.{Polled}
use Rattle.fl_model.specs.Events.{Event}
use Rattle.fl_model.specs.Calls.{fragments, whole_in}
use Rattle.fl_model.specs.Rings.{Half, Ring, RingSide, RingLabel, first_side, second_side, first_for, read_by, written_by, looks, makes_sure, is_spent, free}
use Rattle.fl_model.specs.Ends.{Wrote, accepts_waiting, accepts_or_waits, rule_at, whole, a_part, handled}
use Rattle.fl_model.specs.State.{first_on, own_ring, over_route, side_of}
use Rattle.fl_model.specs.Waits.{waits_in}
use Rattle.fl_model.specs.Making.{with_interface}
use Rattle.fl_model.specs.Taking.{goes_back, has_message}
use Rattle.fl_model.specs.Step.{step}
use Rattle.fl_model.specs.Standing.{queue_of, labels_of}
use Rattle.fl_model.specs.SoundPlaces.{EndsStand}
use Rattle.fl_model.specs.SoundLabels.{LabelsKeepToTheirWays, MayStandFrom, IsOf}
use Rattle.fl_model.specs.SoundCalls.{AllFit, DirectionFits, CallsFit, RuleSuits, AllSuit, RulesSuit}
use Rattle.fl_model_laws.proofs.Cases.{either, each_tail}
use Rattle.fl_model_laws.proofs.SameTypes.{reply_fits}
use Rattle.fl_model_laws.proofs.Walk.{At, Fitting, Suiting, PassedAt, KeepsUnder, with_ring, step_leads_under}
use Rattle.fl_model_laws.proofs.Small.{get_push, is_not, less, both_are, same_interface, interface_side, first_of}

-- ---- one end

abbrev pub EndFits : Planned → End → Type 0
EndFits i x = DirectionFits i x.out × AllSuit i x

abbrev Fit : Planned → TheCall → Type 0
Fit i c = fits_of i.interface c ≡ true

passed_fits : (n : ℕ) (i : Planned) (d : Direction) → DirectionFits i d → DirectionFits i (passes n d)
passed_fits n i d h = record { accepted = h.accepted; waiting = h.waiting }

accepted_fits : (i : Planned) (c : TheCall) (d : Direction) → Fit i c → DirectionFits i d → DirectionFits i (accepts c d)
accepted_fits i c d q h = record { accepted = each_push (Fit i) d.accepted c h.accepted q; waiting = h.waiting }

next_fits : (i : Planned) (ws : List TheCall) (d : Direction) → AllFit i ws → DirectionFits i d → DirectionFits i (accepts_waiting ws d)
next_fits i [] d k h = h
next_fits i (c ∷ cs) d k h = record { accepted = each_push (Fit i) d.accepted c h.accepted (k 0 c refl); waiting = each_tail (Fit i) c cs k }

written_fits : (i j : Planned) (d : Direction) → DirectionFits j d → DirectionFits j (writes i d there_is_room).direction
written_fits i j d h =
    either (λ (w : Wrote). DirectionFits j w.direction) (is_busy i d) _ _
    (λ q. either (DirectionFits j) (is_busy i (passes 0 d)) _ _ (λ r. passed_fits 0 j d h)
    (λ r. next_fits j d.waiting (passes 0 d) h.waiting (passed_fits 0 j d h)))
    (λ q. h)

replying_fits : (i j : Planned) (c : TheCall) (d : Direction) → Fit j c → DirectionFits j d → DirectionFits j (accepts_or_waits i c d)
replying_fits i j c d q h =
    either (DirectionFits j) (is_busy i d) _ _
    (λ r. record { accepted = h.accepted; waiting = each_push (Fit j) d.waiting c h.waiting q })
    (λ r. accepted_fits j c d q h)

abbrev TakenFits : Planned → Taken → Type 0
TakenFits j (whole c) = Fit j c
TakenFits j a_part = Unit {0}

replied_fits : (i j : Planned) (t : Taken) (x : End) → TakenFits j t → EndFits j x → EndFits j (replies i t x)
replied_fits i j a_part x q h = h
replied_fits i j (whole c) x q h =
    by_given_is (rule_at x.rules c.msg) refl
  where
    by_given_is : (o : Option ℕ) → rule_at x.rules c.msg ≡ o
        → EndFits j (given o x λ msg. record x { out = accepts_or_waits i (record { msg = msg; args = c.args }) x.out })
    by_given_is None e = h
    by_given_is (Some msg) e =
        (replying_fits i j (record { msg = msg; args = c.args }) x.out (reply_fits j c msg (h.1 c.msg msg e) q) h.0, h.1)

each_first : {X : Type 0} (P : X → Type 0) (y : X) (xs : List X) → P y → Each P xs → Each P (y ∷ xs)
each_first P y xs k h zero x q = subst P (let e : y ≡ x = cc in e) k
each_first P y xs k h (suc n) x q = h n x q

whole_fits : (i j : Planned) (cs : List TheCall) (n : ℕ) → AllFit j cs → AllFit j (whole_in i cs n)
whole_fits i j [] n h = h
whole_fits i j (c ∷ cs) n h =
    either (AllFit j) (nat_le (fragments i c) n) _ _
    (λ q. each_first (Fit j) c _ (h 0 c refl) (whole_fits i j cs (n - fragments i c) (each_tail (Fit j) c cs h)))
    (λ q. none_at_end (Fit j))

-- a call that becomes whole is one of those that were accepted
taken_fits : (i j : Planned) (d : Direction) → AllFit j d.accepted → TakenFits j (comes_to i d)
taken_fits i j d h =
    by_given (TakenFits j) (slice_get (handled i (takes_one d)) (length (handled i d))) _ _ tt
    (λ c q. whole_fits i j d.accepted _ h _ c q)

-- ---- all ends

-- a binding has an interface, and the calls and rules of both ends fit it
pub record BindingFits (interfaces : List Planned) (b : Binding) : Type 0 where
  pub interface : Planned
  pub there : slice_get interfaces b.interface ≡ Some interface
  pub client : EndFits interface b.client
  pub server : EndFits interface b.server

abbrev pub AllFitting : State → Type 0
AllFitting s = Each (BindingFits s.interfaces) s.bindings

side_changed : (interfaces : List Planned) (side : Side) (f : End → End) (b : Binding)
    → ((i : Planned) → slice_get interfaces b.interface ≡ Some i → EndFits i (end_in side b) → EndFits i (f (end_in side b)))
    → BindingFits interfaces b → BindingFits interfaces (with_end_in side f b)
side_changed interfaces Client f b k h = record { interface = h.interface; there = h.there; client = k h.interface h.there h.client; server = h.server }
side_changed interfaces Server f b k h = record { interface = h.interface; there = h.there; client = h.client; server = k h.interface h.there h.server }

end_changed : (e : EndId) (f : End → End) (s : State) → AllFitting s
    → ((b : Binding) (i : Planned) → binding_of s e ≡ Some b → interface_of s b ≡ Some i → EndFits i (end_in e.side b) → EndFits i (f (end_in e.side b)))
    → AllFitting (change_end e f s)
end_changed e f s h k =
    each_changed (BindingFits s.interfaces) s.bindings e.binding (with_end_in e.side f) h
    (λ b q ok. side_changed s.interfaces e.side f b (λ i r x. k b i q r x) ok)

end_kept : (e : EndId) (f : End → End) (s : State) → ((i : Planned) (x : End) → EndFits i x → EndFits i (f x)) → AllFitting s
    → AllFitting (change_end e f s)
end_kept e f s k h = end_changed e f s h (λ b i q r ok. k i (end_in e.side b) ok)

-- an end that was asked for a call or a rule, at the interface of its binding
end_asked : (e : EndId) (b : Binding) (i : Planned) (f : End → End) (s : State) → At s e b i
    → ((x : End) → EndFits i x → EndFits i (f x)) → AllFitting s → AllFitting (change_end e f s)
end_asked e b i f s at k h =
    end_changed e f s h
    (λ w j q r ok.
    let one : b ≡ w = let v : Some b ≡ Some w = sym at.binding ∙ q in cc in
    let same : i ≡ j = same_interface s.interfaces w.interface i j (subst (λ (x : Binding). slice_get s.interfaces x.interface ≡ Some i) one at.interface) r in
    subst (λ (p : Planned). EndFits p (f (end_in e.side w))) same (k (end_in e.side w) (subst (λ (p : Planned). EndFits p (end_in e.side w)) (sym same) ok)))

channel_kept : (e : EndId) (f : ℕ → End → Dispatcher → Dispatcher) (s : State) → AllFitting s → AllFitting (change_channel e f s)
channel_kept e f s h = by_given AllFitting (end_of s e) _ _ h (λ x q. by_given AllFitting x.seat _ _ h (λ seat r. h))

seat_kept : (d : DispatcherId) (e : EndId) (s : State) → AllFitting s → AllFitting (seats d e s)
seat_kept d e s h = by_given AllFitting (dispatcher_of s d) _ _ h (λ x q. end_kept e _ s (λ i y ok. ok) h)

bound_kept : (e : EndId) (circuit : ℕ) (s : State) → AllFitting s → AllFitting (binds_end e circuit s)
bound_kept e circuit s h = channel_kept e _ _ (end_kept e _ s (λ i y ok. ok) h)

both_kept : (n : ℕ) (w : BindByNames) (s : State) → AllFitting s → AllFitting (binds_both n w s)
both_kept n w s h =
    bound_kept (end_id n Server) 0 _ (bound_kept (end_id n Client) 0 _
    (seat_kept w.service.dispatcher (end_id n Server) _ (seat_kept w.client (end_id n Client) s h)))

queue_fits : (f : Queue → Queue) (i : Planned) (x : End) → EndFits i x → EndFits i (in_queue f x)
queue_fits f i x h = by_given (EndFits i) x.queue x _ h (λ q r. h)

delivered_kept : (l : Label) (e : EndId) (s : State) → AllFitting s → AllFitting (delivers l e s)
delivered_kept l e s h = channel_kept e _ _ (end_kept e _ s (queue_fits _) h)

no_rule : (messages msg answer : ℕ) → rule_at (replicate messages None) msg ≡ Some answer → ⊥
no_rule zero msg answer h = absurd (cc)
no_rule (suc n) zero answer h = absurd (cc)
no_rule (suc n) (suc msg) answer h = no_rule n msg answer h

fresh_fits : (i : Planned) (messages stations : ℕ) (q : Option Queue) → EndFits i (unbound_end messages stations q)
fresh_fits i messages stations q =
    (record { accepted = none_at_end (Fit i); waiting = none_at_end (Fit i) }, (λ msg answer h. absurd (no_rule messages msg answer h)))

new_kept : (w : BindByNames) (i : Planned) (back : Back) (stations : ℕ) (q : Option Queue) (s : State) → slice_get s.interfaces w.interface ≡ Some i
    → AllFitting s → AllFitting (with_new_binding w back stations q s)
new_kept w i back stations q s there h =
    each_push (BindingFits s.interfaces) s.bindings _ h
    (record { interface = i; there = there; client = fresh_fits i w.messages stations q; server = fresh_fits i w.messages stations q })

route_changed : (n : ℕ) (f : Route → Route) (s : State) → AllFitting s → AllFitting (change_route n f s)
route_changed n f s h =
    each_changed (BindingFits s.interfaces) s.bindings n _ h
    (λ b q ok. record { interface = ok.interface; there = ok.there; client = ok.client; server = ok.server })

interface_kept : (i : Planned) (s : State) → AllFitting s → AllFitting (with_interface i s)
interface_kept i s h n b q =
    let ok = h n b q in
    record { interface = ok.interface; there = get_push s.interfaces b.interface ok.interface i ok.there; client = ok.client; server = ok.server }

follows_kept : (x : Heard) (s : State) → AllFitting s → AllFitting (follows x s).state
follows_kept no_outbox s h = h
follows_kept misrouted s h = h
follows_kept (opening_went_on n c) s h = route_changed n _ s h
follows_kept (server_made n d c) s h = bound_kept (end_id n Server) c _ (seat_kept d (end_id n Server) _ (route_changed n _ s h))
follows_kept (opening_failed n fault) s h = route_changed n _ s h
follows_kept (answer_went_on n) s h = route_changed n _ s h
follows_kept (end_opened e c) s h = bound_kept e c _ (route_changed e.binding _ s h)
follows_kept (end_refused e fault) s h = route_changed e.binding _ s h

said_kept : (at : RingEnd) (x : Heard) (s : State) → AllFitting s → AllFitting (takes_said at x s)
said_kept at no_outbox s h = h
said_kept at misrouted s h = h
said_kept at (opening_went_on n c) s h = h
said_kept at (server_made n d c) s h = h
said_kept at (opening_failed n fault) s h = h
said_kept at (answer_went_on n) s h = h
said_kept at (end_opened e c) s h = h
said_kept at (end_refused e fault) s h = h

written_kept : (e : EndId) (i : Planned) (d : Direction) (o : Outlet) (s : State) → AllFitting s → AllFitting (writes_to e i d o there_is_room s).state
written_kept e i d peer_queue s h = delivered_kept _ (peer e) _ (end_kept e _ s (λ j x ok. (written_fits i j x.out ok.0, ok.1)) h)
written_kept e i d (ring_side on) s h = end_kept e _ s (λ j x ok. (written_fits i j x.out ok.0, ok.1)) h

passing_kept : (e : EndId) (station : ℕ) (s : State) → AllFitting s → AllFitting (change_out e (passes station) s)
passing_kept e station s h = end_kept e _ s (λ j x ok. (passed_fits station j x.out ok.0, ok.1)) h

found_kept : (t : Chosen) (at : RingEnd) (l : Label) (s : State) → AllFitting s → AllFitting (finds t at l s).state
found_kept t at (next_of e k) s h = h
found_kept t at (says m) s h = h
found_kept t at acknowledges s h = h

-- ---- a call is taken by the other end of the binding

abbrev OwnLabel : EndId → Label → Type 0
OwnLabel e (next_of f k) = f ≡ e
OwnLabel e label = Unit {0}

-- where a binding is, it has an interface, and it has it after a change of its ends
at_set : {X : Type 0} (P : X → Type 0) (xs : List X) (m n : ℕ) (x y : X) → slice_get xs n ≡ Some x
    → ((w : X) → slice_get xs m ≡ Some w → P w) → (P x → P y) → (z : X) → slice_get (slice_set xs n y) m ≡ Some z → P z
at_set P [] m n x y q h k z r = absurd (cc)
at_set P (w ∷ xs) zero zero x y q h k z r = subst P (let e : y ≡ z = cc in e) (k (h x q))
at_set P (w ∷ xs) (suc m) zero x y q h k z r = h z r
at_set P (w ∷ xs) zero (suc n) x y q h k z r = h z r
at_set P (w ∷ xs) (suc m) (suc n) x y q h k z r = at_set P xs m n x y q h k z r

at_changed : {X : Type 0} (P : X → Type 0) (xs : List X) (m n : ℕ) (f : X → X) → ((w : X) → slice_get xs m ≡ Some w → P w)
    → ((x : X) → P x → P (f x)) → (z : X) → slice_get (changed_at n f xs) m ≡ Some z → P z
at_changed {X} P xs m n f h k =
    by_given (λ (ys : List X). (z : X) → slice_get ys m ≡ Some z → P z) (slice_get xs n) xs (λ x. slice_set xs n (f x)) h
    (λ x q. at_set P xs m n x (f x) q h (k x))

-- the end's binding, and the end in it
end_there : (side : Side) (o : Option Binding) (y : End) → given o None (λ b. Some (end_in side b)) ≡ Some y
    → (b : Binding) × ((o ≡ Some b) × (end_in side b ≡ y))
end_there side None y h = absurd (cc)
end_there side (Some b) y h = (b, (refl, (let e : end_in side b ≡ y = let u : Some (end_in side b) ≡ Some y = h in cc in e)))

side_fits : (side : Side) (interfaces : List Planned) (b : Binding) (h : BindingFits interfaces b) → EndFits h.interface (end_in side b)
side_fits Client interfaces b h = h.client
side_fits Server interfaces b h = h.server

taken_next : (e : EndId) (i : Planned) (y : End) (s : State) → end_of s (peer e) ≡ Some y → AllFitting s
    → AllFitting (change_end e (replies i (comes_to i y.out)) (change_out (peer e) takes_one s))
taken_next e i y s q h =
    let sent = end_there (other e.side) (binding_of s e) y q in
    let b : Binding = sent.0 in
    let fits : BindingFits s.interfaces b = h e.binding b sent.1.0 in
    let call : TakenFits fits.interface (comes_to i y.out) =
    taken_fits i fits.interface y.out (subst (λ (x : End). AllFit fits.interface x.out.accepted) sent.1.1 (side_fits (other e.side) s.interfaces b fits).0.accepted) in
    let first : AllFitting (change_out (peer e) takes_one s) = end_kept (peer e) _ s (λ j x ok. (passed_fits _ j x.out ok.0, ok.1)) h in
    end_changed e (replies i (comes_to i y.out)) (change_out (peer e) takes_one s) first
    (λ w j r u ok.
    let there : slice_get s.interfaces w.interface ≡ Some fits.interface =
    at_changed (λ (x : Binding). slice_get s.interfaces x.interface ≡ Some fits.interface) s.bindings e.binding e.binding
    (with_end_in (other e.side) (λ x. record x { out = takes_one x.out }))
    (λ x p. subst (λ (z : Binding). slice_get s.interfaces z.interface ≡ Some fits.interface) (let v : Some b ≡ Some x = sym sent.1.0 ∙ p in let z : b ≡ x = cc in z) fits.there)
    (λ x p. subst (λ (n : ℕ). slice_get s.interfaces n ≡ Some fits.interface) (sym (interface_side (other e.side) (λ x. record x { out = takes_one x.out }) x)) p)
    w r in
    let same : fits.interface ≡ j = same_interface s.interfaces w.interface fits.interface j there u in
    replied_fits i j (comes_to i y.out) (end_in e.side w) (subst (λ (p : Planned). TakenFits p (comes_to i y.out)) same call) ok)

label_taken : (e : EndId) (i : Planned) (l : Label) (s : State) → OwnLabel (peer e) l → AllFitting s → AllFitting (takes_label e i l s).state
label_taken e i (next_of sender k) s q h =
    subst (λ (f : EndId). AllFitting (takes_label e i (next_of f k) s).state) (sym q)
    (by_given (λ (o : StepOutcome). AllFitting o.state) (end_of s (peer e)) _ _ h (λ y r. taken_next e i y s r h))
label_taken e i (says m) s q h = h
label_taken e i acknowledges s q h = h

-- ---- what stands first for an end is the other end's

pub record FirstAreOwn (s : State) : Type 0 where
  pub queues : (e : EndId) (b : Binding) (q : Queue) (label : Label) → binding_of s e ≡ Some b → (end_in e.side b).queue ≡ Some q
      → slice_get q.labels 0 ≡ Some label → OwnLabel (peer e) label
  pub rings : (e : EndId) (b : Binding) (at : RingEnd) (first : RingLabel) → binding_of s e ≡ Some b → own_ring e.side b.back ≡ Some at
      → first_on at s ≡ Some first → OwnLabel (peer e) first.label

set_alike : (rings : List Ring) (m n : ℕ) (y : Ring) (g : Ring → Option RingLabel) (x : Ring) → slice_get rings m ≡ Some x → g y ≡ g x
    → given (slice_get (slice_set rings m y) n) None g ≡ given (slice_get rings n) None g
set_alike [] m n y g x q k = refl
set_alike (z ∷ rs) zero zero y g x q k = k ∙ ap g (let e : z ≡ x = cc in sym e)
set_alike (z ∷ rs) zero (suc n) y g x q k = refl
set_alike (z ∷ rs) (suc m) zero y g x q k = refl
set_alike (z ∷ rs) (suc m) (suc n) y g x q k = set_alike rs m n y g x q k

first_alike : (rings : List Ring) (m n : ℕ) (f : Ring → Ring) (g : Ring → Option RingLabel) → ((r : Ring) → g (f r) ≡ g r)
    → given (slice_get (changed_at m f rings) n) None g ≡ given (slice_get rings n) None g
first_alike rings m n f g k =
    by_given (λ (rs : List Ring). given (slice_get rs n) None g ≡ given (slice_get rings n) None g) (slice_get rings m) rings
    (λ x. slice_set rings m (f x)) refl (λ x q. set_alike rings m n (f x) g x q (k x))

looks_alike : (side by : RingSide) (r : Ring) → first_for side (looks by r) ≡ first_for side r
looks_alike first_side first_side r = by_given (λ (t : Ring). first_for first_side t ≡ first_for first_side r) (first_for first_side r) _ _ refl (λ x q. refl)
looks_alike first_side second_side r = by_given (λ (t : Ring). first_for first_side t ≡ first_for first_side r) (first_for second_side r) _ _ refl (λ x q. refl)
looks_alike second_side first_side r = by_given (λ (t : Ring). first_for second_side t ≡ first_for second_side r) (first_for first_side r) _ _ refl (λ x q. refl)
looks_alike second_side second_side r = by_given (λ (t : Ring). first_for second_side t ≡ first_for second_side r) (first_for second_side r) _ _ refl (λ x q. refl)

sure_alike : (need : ℕ) (side by : RingSide) (r : Ring) → first_for side (makes_sure need by r) ≡ first_for side r
sure_alike need side by r =
    either (λ (t : Ring). first_for side t ≡ first_for side r) (is_spent by r || nat_le need (free by r)) r (looks by r) (λ q. refl)
    (λ q. looks_alike side by r)

own_after : (f : RingSide → Ring → Ring) (by : RingEnd) (s : State) → ((side : RingSide) (r : Ring) → first_for side (f by.side r) ≡ first_for side r)
    → FirstAreOwn s → FirstAreOwn (change_ring by.ring (f by.side) s)
own_after f by s k h = record {
  queues = h.queues;
  rings = λ e b at first q r u. h.rings e b at first q r (sym (first_alike s.rings by.ring at.ring (f by.side) (first_for at.side) (k at.side)) ∙ u);
}

-- ---- the walk

abbrev pub FitsSo : State → Type 0
FitsSo s = AllFitting s × FirstAreOwn s

message_there : {X : Type 0} (xs : List X) (n : ℕ) → n < length xs → is_some (slice_get xs n) ≡ true
message_there [] n h = absurd (omega arith)
message_there (x ∷ xs) zero h = refl
message_there (x ∷ xs) (suc n) h = message_there xs n (omega arith)

rule_suits : (e : EndId) (msg answer : ℕ) (b : Binding) (i : Planned) (s : State) → Suiting e msg answer b i s → RuleSuits i msg answer
rule_suits e msg answer b i s k =
    let there = both_are (has_message msg i) (has_message answer i) (is_not _ k.messages) in
    record {
      message = message_there i.interface.messages msg (less msg (length i.interface.messages) there.0);
      reply = message_there i.interface.messages answer (less answer (length i.interface.messages) there.1);
      same = is_not _ k.same;
    }

rule_set : (rules : List (Option ℕ)) (msg answer n m : ℕ) (P : ℕ → ℕ → Type 0) → P msg answer
    → ((k l : ℕ) → rule_at rules k ≡ Some l → P k l) → rule_at (slice_set rules msg (Some answer)) n ≡ Some m → P n m
rule_set [] msg answer n m P p h q = absurd (cc)
rule_set (r ∷ rules) zero answer zero m P p h q = subst (P 0) (let e : answer ≡ m = cc in e) p
rule_set (r ∷ rules) zero answer (suc n) m P p h q = h (suc n) m q
rule_set (r ∷ rules) (suc msg) answer zero m P p h q = h 0 m q
rule_set (r ∷ rules) (suc msg) answer (suc n) m P p h q = rule_set rules msg answer n m (λ k l. P (suc k) l) p (λ k l u. h (suc k) l u) q

pub fits_keep : KeepsUnder Fitting Suiting PassedAt FitsSo AllFitting
fits_keep = record {
  settled = λ s h. h;
  interface = λ i s q h. interface_kept i s h.0;
  cores = λ n s q h. h.0;
  link = λ a b size s q r h. h.0;
  dispatcher = λ core s h. h.0;
  service = λ x s d i q r t h. h.0;
  queues = λ w i slots s k q h. both_kept (length s.bindings) w _ (new_kept w i local 2 (Some (fresh_queue slots)) s k.interface h.0);
  ring = λ w i size s k q r h. both_kept (length s.bindings) w _ (new_kept w i (over_ring (length s.rings)) 2 None (with_ring size s) k.interface h.0);
  route = λ w i cores k l c s want begins h.
      seat_kept w.client (end_id (length s.bindings) Client) _
      (new_kept w i _ (length cores + 1) (Some arrival_queue) s want.interface h.0);
  called = λ e c b i s k q h. end_asked e b i _ s k.at (λ x ok. (accepted_fits i c x.out (is_not _ k.fits) ok.0, ok.1)) h.0;
  sure = λ need at s h. (h.0, own_after (makes_sure need) at s (λ side r. sure_alike need side at.side r) h.1);
  looked = λ at s h. (h.0, own_after looks at s (λ side r. looks_alike side at.side r) h.1);
  written = λ e b i o s at q r t u h. written_kept e i (end_in e.side b).out o s h.0;
  held = λ t b i s d at q h. h.0;
  no_label = λ t to s d h. h.0;
  from_queue = λ t b i q label s d at u v w h.
      label_taken t.end i label (goes_back t (waits_in (Some (without_first q))) (change_end t.end (in_queue without_first) s))
      (h.1.queues t.end b q label at.binding v w) (end_kept t.end _ s (queue_fits without_first) h.0);
  from_ring = λ t b i at first s d k u v w h.
      label_taken t.end i first.label (goes_back t Polled (change_ring at.ring (takes at.side) s)) (h.1.rings t.end b at first k.binding v w) h.0;
  found_none = λ t s d h. h.0;
  found = λ t b at first s d q r u h. found_kept t at first.label _ h.0;
  acknowledged = λ at s q h. h.0;
  registered = λ e x s q r t h. channel_kept e _ s h.0;
  deregistered = λ e x s q r h. channel_kept e _ s h.0;
  ruled = λ e msg answer b i s k h.
      end_asked e b i (with_rule msg answer) s k.at
      (λ x ok. (ok.0, (λ n m q. rule_set x.rules msg answer n m (RuleSuits i) (rule_suits e msg answer b i s k) ok.1 q))) h.0;
  monitor_written = λ here link m s k q r t h. h.0;
  heard = λ here m first k s j q r t h.
      let x : Hearing = hears s.services here.link m k in
      let told : State = change_core here.core (λ y. x.core) s in
      follows_kept x.heard (takes_said here.ring x.heard told) (said_kept here.ring x.heard told h.0);
  passed = λ here p first route hop on s k q h. passing_kept p.end p.station (change_ring here.ring.ring (takes here.ring.side) (change_ring on.ring (puts on.side (label_of p)) s)) h.0;
  arrived = λ here p first route hop to s k q h.
      passing_kept p.end p.station (change_ring here.ring.ring (takes here.ring.side) (delivers (label_of p) to s)) (delivered_kept (label_of p) to s h.0);
  taken = λ here first s k q r h. h.0;
}

-- ---- the law

of_own : (e : EndId) (l : Label) → IsOf e l → OwnLabel e l
of_own e l h = subst (OwnLabel e) (sym h.1) refl

from_own : (e : EndId) (l : Label) → MayStandFrom e l → OwnLabel e l
from_own e (next_of f k) h = h
from_own e (says m) h = tt
from_own e acknowledges h = tt

first_label : (ls : List RingLabel) (x : RingLabel) → slice_get ls 0 ≡ Some x → slice_get (labels_of ls) 0 ≡ Some x.label
first_label [] x h = absurd (cc)
first_label (y ∷ ls) x h = let e : y ≡ x = cc in ap (λ (z : RingLabel). Some z.label) e

other_reads : (side : Side) (r : Ring) → written_by (side_of (other side)) r ≡ read_by (side_of side) r
other_reads Client r = refl
other_reads Server r = refl

ring_own : (side : Side) (back : Back) (at : RingEnd) → own_ring side back ≡ Some at
    → (back ≡ over_ring at.ring) × (at.side ≡ side_of side)
ring_own side local at h = absurd (cc)
ring_own side (over_ring n) at h =
    let e : record { ring = n; side = side_of side } ≡ at = cc in
    (ap (λ (x : RingEnd). over_ring x.ring) e, ap (λ (x : RingEnd). x.side) (sym e))
ring_own side (over_route route) at h = absurd (cc)

stands_first : (rings : List Ring) (n : ℕ) (side : Side) (x : RingLabel) → given (slice_get rings n) None (first_for (side_of side)) ≡ Some x
    → slice_get (given (slice_get rings n) [] λ r. labels_of (written_by (side_of (other side)) r).waiting) 0 ≡ Some x.label
stands_first rings n side x = by_ring (slice_get rings n)
  where
    by_ring : (o : Option Ring) → given o None (first_for (side_of side)) ≡ Some x
        → slice_get (given o [] λ r. labels_of (written_by (side_of (other side)) r).waiting) 0 ≡ Some x.label
    by_ring None h = absurd (cc)
    by_ring (Some r) h =
        subst (λ (w : Half). slice_get (labels_of w.waiting) 0 ≡ Some x.label) (sym (other_reads side r))
        (first_label (read_by (side_of side) r).waiting x h)

firsts_are_own : (s : State) → LabelsKeepToTheirWays s → FirstAreOwn s
firsts_are_own s h = record {
  queues = λ e b q label u v w.
      let is : queue_of s e ≡ q.labels =
      ap (λ (o : Option Binding). given (given o None λ x. Some (end_in e.side x)) [] λ x. given x.queue [] λ y. y.labels) u
      ∙ ap (λ (o : Option Queue). given o [] λ y. y.labels) v in
      of_own (peer e) label (h.queues e label (subst (λ (ls : List Label). Contains ls label) (sym is) (first_of q.labels 0 label w)));
  rings = λ e b at first u v w.
      let own = ring_own e.side b.back at v in
      let first_is : given (slice_get s.rings at.ring) None (first_for (side_of e.side)) ≡ Some first =
      subst (λ (side : RingSide). given (slice_get s.rings at.ring) None (first_for side) ≡ Some first) own.1 w in
      from_own (peer e) first.label
      (h.rings (peer e) b at.ring first.label u own.0 (first_of _ 0 first.label (stands_first s.rings at.ring e.side first first_is)));
}

all_fitting : (s : State) → EndsStand s → CallsFit s → RulesSuit s → AllFitting s
all_fitting s ends calls rules n b q =
    let client : EndId = end_id n Client in
    let server : EndId = end_id n Server in
    let there : end_of s client ≡ Some b.client = ap (λ (o : Option Binding). given o None λ x. Some (end_in Client x)) q in
    let stands = ends client b.client there in
    let one : stands.binding ≡ b = let v : Some stands.binding ≡ Some b = sym stands.there ∙ q in cc in
    let has : interface_of s b ≡ Some stands.interface = subst (λ (x : Binding). interface_of s x ≡ Some stands.interface) one stands.interface_is in
    record {
      interface = stands.interface;
      there = has;
      client = (calls client b stands.interface q has, rules client b stands.interface q has);
      server = (calls server b stands.interface q has, rules server b stands.interface q has);
    }

end_fits : (s : State) → AllFitting s → (e : EndId) (b : Binding) (i : Planned) → binding_of s e ≡ Some b → interface_of s b ≡ Some i
    → EndFits i (end_in e.side b)
end_fits s h e b i q r =
    let fits = h e.binding b q in
    subst (λ (p : Planned). EndFits p (end_in e.side b)) (same_interface s.interfaces b.interface fits.interface i fits.there r)
    (side_fits e.side s.interfaces b fits)

pub step_fits : (s : State) (v : Event) → EndsStand s → LabelsKeepToTheirWays s → CallsFit s → RulesSuit s
    → CallsFit (step s v).state × RulesSuit (step s v).state
step_fits s v ends ways calls rules =
    let all : AllFitting (step s v).state =
    step_leads_under Fitting Suiting PassedAt (λ e c b i t k. k) (λ e m n b i t k. k) (λ here p first route hop on t k. k.passing) FitsSo AllFitting (λ t h. h.0) fits_keep s v
    (all_fitting s ends calls rules, firsts_are_own s ways) in
    ((λ e b i q r. (end_fits (step s v).state all e b i q r).0), (λ e b i q r. (end_fits (step s v).state all e b i q r).1))
