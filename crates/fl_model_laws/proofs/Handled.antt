-- What an end handled: each fragment that is taken is the next of the other end's calls.
use Rattle.std.proofs.Common.{◌≡◌, refl, sym, ◌∙◌, ap, subst, ℕ, zero, suc, ◌+◌, ◌-◌, ◌≤◌, ◌<◌, ◌==◌, ◌&&◌, Bool, true, false, if◌then◌else◌, List, [], ◌∷◌, ◌++◌, length, drop, slice_get, slice_index, Option, Some, None, append_assoc, arith}
use Rattle.std.specs.Prelude.{Contains}
use Rattle.std.proofs.lemmas.List.{append-nil, length-reverse, length-drop}
use Rattle.std.proofs.lemmas.List.Quantifiers.{position-Some}
use Rattle.fl_base.specs.declared.identity.Side.{Side}
use Rattle.fl_base.specs.declared.identity.Side.TheVariants.{Client, Server}
use Rattle.fl_base.specs.declared.identity.EndId.{EndId}
use Rattle.fl_base.specs.Ends.{other, peer}
use Rattle.fl_base.specs.Prefix.{IsPrefix}
use Rattle.fl_base.specs.Given.{given}
use Rattle.fl_value_data.specs.Value.{TheCall}
use Rattle.fl_lists.specs.declared.place.Place.TheVariants.{Polled}
use Rattle.fl_hop.specs.declared.entry.Hop.{Hop}
use Rattle.fl_model.specs.Events.{Event, Answer, accepted, handle, quiet}
use Rattle.fl_model.specs.Calls.{Planned, total, whole_in}
use Rattle.fl_model.specs.Rings.{Label, next_of, says, acknowledges, Ring, RingEnd, RingLabel, there_is_room, takes, read_by, written_by}
use Rattle.fl_model.specs.Ends.{Queue, End, Direction, is_busy, accepts, accepts_or_waits, accepts_waiting, passes, taken_of, written_of, last_station, handled, Wrote, writes, writes_by, Taken, whole, a_part, takes_one, comes_to, rule_at, replies, without_first, unbound_end}
use Rattle.fl_model.specs.Waits.{waits_in}
use Rattle.fl_model.specs.State.{Back, local, over_ring, over_route, Binding, Route, State, start, StepOutcome, answers, Outlet, peer_queue, ring_side, end_in, end_of, binding_of, interface_of, change_end, change_out, change_ring, in_queue, place_in, way_of, station_at, own_ring, side_of, first_on}
use Rattle.fl_model.specs.Sending.{puts_to, writes_to}
use Rattle.fl_model.specs.Taking.{Chosen, takes_label, takes_next, taken_answer, goes_back}
use Rattle.fl_model.specs.Forwarding.{LinkEnd, FragAtHop, route_of}
use Rattle.fl_model.specs.Step.{step}
use Rattle.fl_model.specs.Runs.{same_side, same_end, handled_in, run, reached, calls_handled}
use Rattle.fl_model.specs.SoundPlaces.{stations}
use Rattle.fl_model.specs.SoundLabels.{LabelsKeepToTheirWays, MayStandFrom, IsOf}
use Rattle.fl_model.specs.Standing.{queue_of, labels_of}
use Rattle.fl_model.specs.Laws.{PassedFalls, HandledIsCounted, HandledIsAPrefix}
use Rattle.fl_value_data.specs.declared.value.PlanNo.TheVariants.{One}
use Rattle.fl_model_laws.proofs.Cases.{either, by_given, none_at_end}
use Rattle.fl_model_laws.proofs.EndsStep.{AllOk, BindingOk, all_keep, end_ok, queue_out}
use Rattle.fl_model_laws.proofs.Counted.{CountedOk, counts_keep}
use Rattle.fl_model_laws.proofs.Walk.{At, IsPassing, step_keeps, run_keeps}
use Rattle.fl_model_laws.proofs.Told.{IsPlain, writes_plain}
use Rattle.fl_model_laws.proofs.Ends.{end_at, end_alike, end_related, elsewhere, here, same_end_true}
use Rattle.fl_model_laws.proofs.Alike.{ReadsCalls, delivered_alike}
use Rattle.fl_model_laws.proofs.Telling.{TellsCalls, tells_of, passed_at}
use Rattle.fl_model_laws.proofs.BindingsStep.{AllShaped, Shaped, StationsOf, all_shaped, bindings_keep, IsBoundTo, bound_keep}
use Rattle.fl_model_laws.proofs.Whole.{added, whole_prefix, whole_more, whole_grows, taken_stays, taken_grows, none_taken}
use Rattle.fl_model_laws.proofs.Small.{first_of}

-- ---- what is read off an end

record Holdings : Type 0 where
  accepted : List TheCall
  taken : ℕ

abbrev holdings : Direction → Holdings
holdings d = record { accepted = d.accepted; taken = taken_of d }

abbrev holdings_in : Option End → Holdings
holdings_in o = record { accepted = given o [] λ x. x.out.accepted; taken = given o 0 λ x. taken_of x.out }

reads_holdings : ReadsCalls holdings_in
reads_holdings = record {
  by_out = λ x y q. ap holdings q;
  fresh = λ messages n q. ap (λ (m : ℕ). record { accepted = []; taken = m }) (none_taken n (length (unbound_end messages n q).out.passed - 1));
}

abbrev whole_by : Planned → Holdings → List TheCall
whole_by i h = whole_in i h.accepted h.taken

-- more calls are accepted, and no more fragments taken
record Longer (x y : Holdings) : Type 0 where
  more : List TheCall
  accepted : y.accepted ≡ x.accepted ++ more
  taken : y.taken ≡ x.taken

no_longer : (x : Holdings) → Longer x x
no_longer x = record { more = []; accepted = sym (append-nil x.accepted); taken = refl }

longer_whole : (i : Planned) (x y : Holdings) → x.taken ≤ total i x.accepted → Longer x y → whole_by i y ≡ whole_by i x
longer_whole i x y h k =
    ap (λ (cs : List TheCall). whole_in i cs y.taken) k.accepted ∙ ap (λ (n : ℕ). whole_in i (x.accepted ++ k.more) n) k.taken
    ∙ whole_more i x.accepted k.more x.taken h

-- ---- ends

two_stations : (side : Side) (b : Binding) → Shaped b → StationsOf b.back (end_in side b)
two_stations Client b h = h.client
two_stations Server b h = h.server

shaped_by : (o : Option Binding) (s : State) (e : EndId) (x : End) → slice_get s.bindings e.binding ≡ o → end_at e.side o ≡ Some x → AllShaped s → 2 ≤ length x.out.passed
shaped_by None s e x q r h = absurd (cc)
shaped_by (Some b) s e x q r h =
    let is : end_in e.side b ≡ x = let u : Some (end_in e.side b) ≡ Some x = r in cc in
    let ok : StationsOf b.back (end_in e.side b) = two_stations e.side b (h e.binding b q) in
    subst (λ (y : End). 2 ≤ length y.out.passed) is (let p : length (end_in e.side b).out.passed ≡ stations b.back = ok.passed in let two : 2 ≤ stations b.back = ok.two in omega arith)

shaped_at : (s : State) (e : EndId) (x : End) → end_of s e ≡ Some x → AllShaped s → 2 ≤ length x.out.passed
shaped_at s e x r h = shaped_by (slice_get s.bindings e.binding) s e x refl r h

other_end : (e : EndId) → same_end (peer e) e ≡ false
other_end e = by_side e.side (e.binding == e.binding)
  where
    by_side : (side : Side) (b : Bool) → (b && same_side (other side) side) ≡ false
    by_side Client true = refl
    by_side Client false = refl
    by_side Server true = refl
    by_side Server false = refl

peers_side : (x y : Side) → same_side (other x) (other y) ≡ same_side x y
peers_side Client Client = refl
peers_side Client Server = refl
peers_side Server Client = refl
peers_side Server Server = refl

peers : (e f : EndId) → same_end (peer e) (peer f) ≡ same_end e f
peers e f = ap (λ (b : Bool). (e.binding == f.binding) && b) (peers_side e.side f.side)

-- ---- what a step adds

abbrev Handles : EndId → Planned → State → StepOutcome → Type 0
Handles e j z o = whole_by j (holdings_in (end_of o.state (peer e))) ≡ whole_by j (holdings_in (end_of z (peer e))) ++ handled_in e o.answer

not_handled : (e : EndId) (a : Answer) → IsPlain a → handled_in e a ≡ []
not_handled e (handle f c) h = absurd h
not_handled e a h = refl

stays : (e : EndId) (j : Planned) (z : State) (o : StepOutcome) → handled_in e o.answer ≡ []
    → whole_by j (holdings_in (end_of o.state (peer e))) ≡ whole_by j (holdings_in (end_of z (peer e))) → Handles e j z o
stays e j z o q h =
    h ∙ sym (append-nil (whole_by j (holdings_in (end_of z (peer e)))))
    ∙ ap (λ (cs : List TheCall). whole_by j (holdings_in (end_of z (peer e))) ++ cs) (sym q)

-- no more is taken than the calls accepted have
abbrev Most : EndId → Planned → State → Type 0
Most e j z = (holdings_in (end_of z (peer e))).taken ≤ total j (holdings_in (end_of z (peer e))).accepted

abbrev Then : Option End → Option End → Type 0
Then o p = Longer (holdings_in o) (holdings_in p)

called_longer : (e f : EndId) (c : TheCall) (s : State) → Then (end_of s e) (end_of (change_out f (accepts c) s) e)
called_longer e f c s =
    end_related Then (λ o. no_longer (holdings_in o)) e f (λ x. record x { out = accepts c x.out }) s
    (λ x q. record { more = c ∷ []; accepted = refl; taken = refl })

next_longer : (d : Direction) (ws : List TheCall) → Longer (holdings d) (holdings (accepts_waiting ws d))
next_longer d [] = no_longer (holdings d)
next_longer d (c ∷ cs) = record { more = c ∷ []; accepted = refl; taken = refl }

written_taken : (d : Direction) → 2 ≤ length d.passed → taken_of (passes 0 d) ≡ taken_of d
written_taken d h = taken_stays 0 d (λ q. let u : length d.passed - 1 ≡ 0 = q in absurd (omega arith))

writes_longer : (i : Planned) (d : Direction) → 2 ≤ length d.passed → Longer (holdings d) (holdings (writes i d there_is_room).direction)
writes_longer i d h =
    let same : taken_of (passes 0 d) ≡ taken_of d = written_taken d h in
    either (λ (w : Wrote). Longer (holdings d) (holdings w.direction)) (is_busy i d) (writes_by i d there_is_room) _
    (λ q. either (λ (k : Direction). Longer (holdings d) (holdings k)) (is_busy i (passes 0 d)) (passes 0 d) (accepts_waiting d.waiting (passes 0 d))
    (λ r. record { more = []; accepted = sym (append-nil d.accepted); taken = same })
    (λ r. let k : Longer (holdings (passes 0 d)) (holdings (accepts_waiting d.waiting (passes 0 d))) = next_longer (passes 0 d) d.waiting in
    record { more = k.more; accepted = k.accepted; taken = k.taken ∙ same }))
    (λ q. no_longer (holdings d))

written_longer : (e f : EndId) (i : Planned) (s : State) → AllShaped s
    → Then (end_of s e) (end_of (change_out f (λ d. (writes i d there_is_room).direction) s) e)
written_longer e f i s h =
    end_related Then (λ o. no_longer (holdings_in o)) e f (λ x. record x { out = (writes i x.out there_is_room).direction }) s
    (λ x q. writes_longer i x.out (shaped_at s f x q h))

put_alike : (e f : EndId) (o : Outlet) (l : Label) (s : State) → holdings_in (end_of (puts_to f o l s) e) ≡ holdings_in (end_of s e)
put_alike e f peer_queue l s = delivered_alike holdings_in reads_holdings e l (peer f) s
put_alike e f (ring_side at) l s = refl

replies_by : (i : Planned) (c : TheCall) (x : End) (o : Option ℕ)
    → Longer (holdings x.out) (holdings (given o x λ msg. record x { out = accepts_or_waits i (record { msg = msg; args = c.args }) x.out }).out)
replies_by i c x None = no_longer (holdings x.out)
replies_by i c x (Some msg) =
    either (λ (d : Direction). Longer (holdings x.out) (holdings d)) (is_busy i x.out) _ _
    (λ q. no_longer (holdings x.out)) (λ q. record { more = record { msg = msg; args = c.args } ∷ []; accepted = refl; taken = refl })

replies_longer : (i : Planned) (t : Taken) (x : End) → Longer (holdings x.out) (holdings (replies i t x).out)
replies_longer i a_part x = no_longer (holdings x.out)
replies_longer i (whole c) x = replies_by i c x (rule_at x.rules c.msg)

-- ---- a fragment that is taken

answer_added : (e : EndId) (o : Option TheCall) → same_end e e ≡ true → handled_in e (taken_answer e (given o a_part λ c. whole c)) ≡ added o
answer_added e None q = refl
answer_added e (Some c) q = ap (λ (b : Bool). if b then c ∷ [] else []) q

answer_elsewhere : (e f : EndId) (t : Taken) → same_end e f ≡ false → handled_in e (taken_answer f t) ≡ []
answer_elsewhere e f a_part q = refl
answer_elsewhere e f (whole c) q = ap (λ (b : Bool). if b then c ∷ [] else []) q

took_here : (e : EndId) (j : Planned) (z u : State) (y : End) → same_end e e ≡ true → AllShaped u → holdings_in (end_of u (peer e)) ≡ holdings_in (end_of z (peer e))
    → end_of u (peer e) ≡ Some y → Handles e j z (answers (takes_next e (peer e) (comes_to j y.out) j u) (taken_answer e (comes_to j y.out)))
took_here e j z u y q h a r =
    let taking : End → End = λ x. record x { out = takes_one x.out } in
    let w : State = change_end (peer e) taking u in
    let now : end_of (change_end e (replies j (comes_to j y.out)) w) (peer e) ≡ Some (taking y) =
    elsewhere (peer e) e (replies j (comes_to j y.out)) w (other_end e) ∙ here (peer e) taking u y r in
    let two : 2 ≤ length y.out.passed = shaped_at u (peer e) y r h in
    let one : taken_of (takes_one y.out) ≡ taken_of y.out + 1 = taken_grows y.out (omega arith) in
    let was : holdings y.out ≡ holdings_in (end_of z (peer e)) = sym (ap holdings_in r) ∙ a in
    let after : handled j (takes_one y.out) ≡ whole_in j y.out.accepted (taken_of y.out + 1) = ap (whole_in j y.out.accepted) one in
    let grown : handled j (takes_one y.out) ≡ handled j y.out ++ added (slice_get (handled j (takes_one y.out)) (length (handled j y.out))) =
    subst (λ (cs : List TheCall). cs ≡ handled j y.out ++ added (slice_get cs (length (handled j y.out)))) (sym after) (whole_grows j y.out.accepted (taken_of y.out)) in
    ap (λ (o : Option End). whole_by j (holdings_in o)) now ∙ grown
    ∙ ap (λ (cs : List TheCall). handled j y.out ++ cs) (sym (answer_added e (slice_get (handled j (takes_one y.out)) (length (handled j y.out))) q))
    ∙ ap (λ (k : Holdings). whole_by j k ++ handled_in e (taken_answer e (comes_to j y.out))) was

took_elsewhere : (e f : EndId) (j i : Planned) (t : Taken) (z u : State) → same_end e f ≡ false → Most e j z
    → holdings_in (end_of u (peer e)) ≡ holdings_in (end_of z (peer e)) → Handles e j z (answers (takes_next f (peer f) t i u) (taken_answer f t))
took_elsewhere e f j i t z u q m a =
    let taking : End → End = λ x. record x { out = takes_one x.out } in
    let w : State = change_end (peer f) taking u in
    let same : holdings_in (end_of w (peer e)) ≡ holdings_in (end_of z (peer e)) =
    ap holdings_in (elsewhere (peer e) (peer f) taking u (peers e f ∙ q)) ∙ a in
    let longer : Then (end_of w (peer e)) (end_of (change_end f (replies i t) w) (peer e)) =
    end_related Then (λ o. no_longer (holdings_in o)) (peer e) f (replies i t) w (λ x r. replies_longer i t x) in
    stays e j z (answers (takes_next f (peer f) t i u) (taken_answer f t)) (answer_elsewhere e f t q)
    (longer_whole j (holdings_in (end_of z (peer e))) _ m (subst (λ (k : Holdings). Longer k (holdings_in (end_of (change_end f (replies i t) w) (peer e)))) same longer))

took : (t : Bool) (e f : EndId) (j i : Planned) (z u : State) (y : End) → same_end e f ≡ t → (e ≡ f → i ≡ j) → Most e j z → AllShaped u
    → holdings_in (end_of u (peer e)) ≡ holdings_in (end_of z (peer e)) → end_of u (peer f) ≡ Some y
    → Handles e j z (answers (takes_next f (peer f) (comes_to i y.out) i u) (taken_answer f (comes_to i y.out)))
took true e f j i z u y q same m h a r =
    let is : e ≡ f = same_end_true e f q in
    subst (λ (p : Planned). Handles e j z (answers (takes_next f (peer f) (comes_to p y.out) p u) (taken_answer f (comes_to p y.out)))) (sym (same is))
    (subst (λ (g : EndId). Handles e j z (answers (takes_next g (peer g) (comes_to j y.out) j u) (taken_answer g (comes_to j y.out)))) is
    (took_here e j z u y (subst (λ (g : EndId). same_end e g ≡ true) (sym is) q) h a (subst (λ (g : EndId). end_of u (peer g) ≡ Some y) (sym is) r)))
took false e f j i z u y q same m h a r = took_elsewhere e f j i (comes_to i y.out) z u q m a

-- a label that a turn takes is of the other end's calls, or of no call
abbrev IsFrom : EndId → Label → Type 0
IsFrom f (next_of g k) = g ≡ peer f
IsFrom f l = Unit {0}

label_handles : (e f : EndId) (j i : Planned) (l : Label) (z u : State) → IsFrom f l → (e ≡ f → i ≡ j) → Most e j z → AllShaped u
    → holdings_in (end_of u (peer e)) ≡ holdings_in (end_of z (peer e)) → Handles e j z (takes_label f i l u)
label_handles e f j i (next_of g k) z u l same m h a =
    subst (λ (g : EndId). Handles e j z (takes_label f i (next_of g k) u)) (sym l)
    (by_given (Handles e j z) (end_of u (peer f)) _ _ (stays e j z (answers u (quiet f)) refl (ap (whole_by j) a))
    (λ y r. took (same_end e f) e f j i z u y refl same m h a r))
label_handles e f j i (says m) z u l same k h a = stays e j z (answers u (quiet f)) refl (ap (whole_by j) a)
label_handles e f j i acknowledges z u l same k h a = stays e j z (answers u (quiet f)) refl (ap (whole_by j) a)

-- ---- stations

way_length : (side : Side) (route : Route) → length (way_of side route) ≡ length route.cores
way_length Client route = refl
way_length Server route = length-reverse route.cores

station_by : (o : Option ℕ) (side : Side) (core station : ℕ) (route : Route) → place_in (drop 1 (way_of side route)) core ≡ o
    → given o None (λ j. Some (j + 1)) ≡ Some station → station + 1 ≤ length route.cores
station_by None side core station route q h = absurd (cc)
station_by (Some j) side core station route q h =
    let is : j + 1 ≡ station = let u : Some (j + 1) ≡ Some station = h in cc in
    let found = position-Some (λ c. c == core) (drop 1 (way_of side route)) j 0 q in
    let below : j < length (drop 1 (way_of side route)) = found.0 in
    let dropped : length (drop 1 (way_of side route)) ≡ length (way_of side route) - 1 = length-drop 1 (way_of side route) in
    let long : length (way_of side route) ≡ length route.cores = way_length side route in
    omega arith

station_small : (side : Side) (core station : ℕ) (route : Route) → station_at side core route ≡ Some station → station + 1 ≤ length route.cores
station_small side core station route h = station_by (place_in (drop 1 (way_of side route)) core) side core station route refl h

route_stations : (back : Back) (route : Route) → route_of back ≡ Some route → stations back ≡ length route.cores + 1
route_stations local route h = absurd (cc)
route_stations (over_ring n) route h = absurd (cc)
route_stations (over_route r) route h = let is : r ≡ route = let u : Some r ≡ Some route = h in cc in ap (λ (w : Route). length w.cores + 1) is

passing_alike : (e : EndId) (here : LinkEnd) (p : FragAtHop) (first : RingLabel) (route : Route) (hop : Hop) (s t : State) → IsPassing here p first route hop s
    → AllShaped s → passed_at t p.end ≡ passed_at s p.end → holdings_in (end_of (change_out p.end (passes p.station) t) e) ≡ holdings_in (end_of t e)
passing_alike e here p first route hop s t k h q =
    end_related (λ o w. holdings_in w ≡ holdings_in o) (λ o. refl) e p.end (λ x. record x { out = passes p.station x.out }) t
    (λ x r.
    let ok : StationsOf k.binding.back (end_in p.end.side k.binding) = two_stations p.end.side k.binding (h p.end.binding k.binding k.binding_is) in
    let was : passed_at s p.end ≡ (end_in p.end.side k.binding).out.passed = ap (λ (o : Option Binding). passed_of (end_at p.end.side o)) k.binding_is in
    let now : passed_at t p.end ≡ x.out.passed = ap passed_of r in
    let same : length x.out.passed ≡ length (end_in p.end.side k.binding).out.passed = ap length (sym now ∙ q ∙ was) in
    let long : length (end_in p.end.side k.binding).out.passed ≡ stations k.binding.back = ok.passed in
    let all : stations k.binding.back ≡ length route.cores + 1 = route_stations k.binding.back route k.route_is in
    let small : p.station + 1 ≤ length route.cores = station_small p.end.side here.core p.station route k.station_is in
    ap (λ (n : ℕ). record { accepted = x.out.accepted; taken = n }) (taken_stays p.station x.out (λ u. let v : length x.out.passed - 1 ≡ p.station = u in absurd (omega arith))))
  where
    passed_of : Option End → List ℕ
    passed_of o = given o [] λ x. x.out.passed

-- ---- labels keep to their ways

first_label : (ls : List RingLabel) (l : RingLabel) → slice_get ls 0 ≡ Some l → Contains (labels_of ls) l.label
first_label [] l q = absurd (cc)
first_label (k ∷ ls) l q = (0, omega arith, (let e : k ≡ l = cc in ap (λ (m : RingLabel). m.label) e))

ring_label : (side : Side) (o : Option Ring) (first : RingLabel) → given o None (λ r. slice_get (read_by (side_of side) r).waiting 0) ≡ Some first
    → Contains (given o [] λ r. labels_of (written_by (side_of (other side)) r).waiting) first.label
ring_label side None first h = absurd (cc)
ring_label Client (Some r) first h = first_label r.by_second.waiting first h
ring_label Server (Some r) first h = first_label r.by_first.waiting first h

from_queue_label : (f : EndId) (l : Label) → IsOf (peer f) l → IsFrom f l
from_queue_label f l h = subst (IsFrom f) (sym h.1) refl

from_ring_label : (f : EndId) (l : Label) → MayStandFrom (peer f) l → IsFrom f l
from_ring_label f (next_of g k) h = h
from_ring_label f (says m) h = tt
from_ring_label f acknowledges h = tt

queue_at : (z : State) (f : EndId) (b : Binding) (q : Queue) → binding_of z f ≡ Some b → (end_in f.side b).queue ≡ Some q → queue_of z f ≡ q.labels
queue_at z f b q r k =
    ap (λ (o : Option Binding). given (end_at f.side o) [] λ x. given x.queue [] λ w. w.labels) r ∙ ap (λ (o : Option Queue). given o [] λ w. w.labels) k

queue_keeps : (z : State) (f : EndId) (b : Binding) (q : Queue) (l : Label) → LabelsKeepToTheirWays z → binding_of z f ≡ Some b
    → (end_in f.side b).queue ≡ Some q → slice_get q.labels 0 ≡ Some l → IsFrom f l
queue_keeps z f b q l ways r k m =
    from_queue_label f l (ways.queues f l (subst (λ (ls : List Label). Contains ls l) (sym (queue_at z f b q r k)) (first_of q.labels 0 l m)))

ring_by : (z : State) (f : EndId) (b : Binding) (back : Back) (at : RingEnd) (first : RingLabel) → LabelsKeepToTheirWays z → binding_of z f ≡ Some b → b.back ≡ back
    → own_ring f.side back ≡ Some at → first_on at z ≡ Some first → IsFrom f first.label
ring_by z f b local at first ways r k m u = absurd (cc)
ring_by z f b (over_route route) at first ways r k m u = absurd (cc)
ring_by z f b (over_ring n) at first ways r k m u =
    let is : record { ring = n; side = side_of f.side } ≡ at = cc in
    let v : first_on (record { ring = n; side = side_of f.side }) z ≡ Some first = ap (λ (w : RingEnd). first_on w z) is ∙ u in
    from_ring_label f first.label (ways.rings (peer f) b n first.label r k (ring_label f.side (slice_get z.rings n) first v))

-- ---- the step

abbrev IsInterface : EndId → Planned → State → Type 0
IsInterface e j z = (b : Binding) (i : Planned) → slice_get z.bindings e.binding ≡ Some b → interface_of z b ≡ Some i → i ≡ j

from_queue_handles : (e : EndId) (j : Planned) (t : Chosen) (b : Binding) (i : Planned) (q : Queue) (label : Label) (z : State) → At z t.end b i
    → (end_in t.end.side b).queue ≡ Some q → slice_get q.labels 0 ≡ Some label → AllShaped z → LabelsKeepToTheirWays z → Most e j z → IsInterface e j z
    → Handles e j z (takes_label t.end i label (goes_back t (waits_in (Some (without_first q))) (change_end t.end (in_queue without_first) z)))
from_queue_handles e j t b i q label z at k l ok ways most same =
    label_handles e t.end j i label z (goes_back t (waits_in (Some (without_first q))) (change_end t.end (in_queue without_first) z))
    (queue_keeps z t.end b q label ways at.binding k l)
    (λ is. same b i (ap (λ (g : EndId). slice_get z.bindings g.binding) is ∙ at.binding) at.interface) most
    (all_shaped.ends t.end (in_queue without_first) z (λ x. ap (λ (d : Direction). length d.passed) (queue_out x without_first)) ok)
    (end_alike holdings_in (peer e) t.end (in_queue without_first) z (λ x. ap holdings (queue_out x without_first)))

from_ring_handles : (e : EndId) (j : Planned) (t : Chosen) (b : Binding) (i : Planned) (at : RingEnd) (first : RingLabel) (z : State) → At z t.end b i
    → own_ring t.end.side b.back ≡ Some at → first_on at z ≡ Some first → AllShaped z → LabelsKeepToTheirWays z → Most e j z → IsInterface e j z
    → Handles e j z (takes_label t.end i first.label (goes_back t Polled (change_ring at.ring (takes at.side) z)))
from_ring_handles e j t b i at first z k m u ok ways most same =
    label_handles e t.end j i first.label z (goes_back t Polled (change_ring at.ring (takes at.side) z))
    (ring_by z t.end b b.back at first ways k.binding refl m u)
    (λ is. same b i (ap (λ (g : EndId). slice_get z.bindings g.binding) is ∙ k.binding) k.interface) most ok refl

tells_handled : (e : EndId) (j : Planned) (v : Event) (z : State) → AllShaped z → LabelsKeepToTheirWays z → Most e j z → IsInterface e j z
    → TellsCalls holdings_in AllShaped (peer e) (holdings_in (end_of z (peer e))) v (λ s. s ≡ z) (Handles e j z)
tells_handled e j v z ok ways most same = record {
  begun = λ s q. record { kept = subst AllShaped (sym q) ok; alike = ap (λ (t : State). holdings_in (end_of t (peer e))) q };
  plain = λ o p k h. stays e j z o (not_handled e o.answer p) (ap (whole_by j) h);
  settled = λ a s h. h;
  called = λ f c b i s u at q h.
      stays e j z (answers (change_out f (accepts c) s) accepted) refl
      (longer_whole j (holdings_in (end_of z (peer e))) _ most
      (subst (λ (k : Holdings). Longer k (holdings_in (end_of (change_out f (accepts c) s) (peer e)))) h.alike (called_longer (peer e) f c s)));
  written = λ f b i o s at q h.
      let d : Direction = (end_in f.side b).out in
      let t : State = change_out f (λ x. (writes i x there_is_room).direction) s in
      stays e j z (writes_to f i d o there_is_room s) (not_handled e _ (writes_plain i d there_is_room))
      (ap (whole_by j) (put_alike (peer e) f o (next_of f (written_of d)) t)
      ∙ longer_whole j (holdings_in (end_of z (peer e))) _ most
      (subst (λ (k : Holdings). Longer k (holdings_in (end_of t (peer e)))) h.alike (written_longer (peer e) f i s h.kept)));
  from_queue = λ t b i q label s d at u k l is.
      subst (λ (w : State). At w t.end b i → Handles e j z (takes_label t.end i label (goes_back t (waits_in (Some (without_first q))) (change_end t.end (in_queue without_first) w))))
      (sym is) (λ m. from_queue_handles e j t b i q label z m k l ok ways most same) at;
  from_ring = λ t b i at first s d k u l m is.
      subst (λ (w : State). At w t.end b i → first_on at w ≡ Some first → Handles e j z (takes_label t.end i first.label (goes_back t Polled (change_ring at.ring (takes at.side) w))))
      (sym is) (λ n r. from_ring_handles e j t b i at first z n l r ok ways most same) k m;
  moves = λ here p first route hop s t k h q. passing_alike (peer e) here p first route hop s t k h q;
}

step_handles : (e : EndId) (j : Planned) (v : Event) (z : State) → AllShaped z → LabelsKeepToTheirWays z → Most e j z → IsInterface e j z
    → Handles e j z (step z v)
step_handles e j v z ok ways most same =
    tells_of holdings_in reads_holdings AllShaped (bindings_keep AllShaped all_shaped) (peer e) (holdings_in (end_of z (peer e))) v (λ s. s ≡ z) (Handles e j z)
    (tells_handled e j v z ok ways most same) z refl

-- ---- no more is taken than written, and no more written than the calls have

abbrev Falls : State → Type 0
Falls s = (e : EndId) (x : End) (k : ℕ) → end_of s e ≡ Some x → suc k < length x.out.passed → slice_index x.out.passed (suc k) ≤ slice_index x.out.passed k

falls_down : (xs : List ℕ) (n : ℕ) → ((k : ℕ) → suc k < length xs → slice_index xs (suc k) ≤ slice_index xs k) → n < length xs → slice_index xs n ≤ slice_index xs 0
falls_down xs zero h a = omega arith
falls_down xs (suc n) h a =
    let ih : slice_index xs n ≤ slice_index xs 0 = falls_down xs n h (omega arith) in
    let step : slice_index xs (suc n) ≤ slice_index xs n = h n a in
    omega arith

most_by : (o : Option Binding) (e : EndId) (j : Planned) (z : State) → slice_get z.bindings e.binding ≡ o → AllShaped z → AllOk CountedOk z → Falls z
    → IsInterface e j z → (holdings_in (end_at (other e.side) o)).taken ≤ total j (holdings_in (end_at (other e.side) o)).accepted
most_by None e j z q ok counted falls same = omega arith
most_by (Some b) e j z q ok counted falls same =
    let x : End = end_in (other e.side) b in
    let at : BindingOk CountedOk z.interfaces b = counted e.binding b q in
    let is : at.interface ≡ j = same b at.interface q at.there in
    let d = end_ok CountedOk z.interfaces (other e.side) b at.interface at.there at in
    let there : end_of z (peer e) ≡ Some x = ap (end_at (other e.side)) q in
    let two : 2 ≤ length x.out.passed = shaped_at z (peer e) x there ok in
    let down : taken_of x.out ≤ written_of x.out = falls_down x.out.passed (last_station x.out) (λ k a. falls (peer e) x k there a) (omega arith) in
    let most : written_of x.out ≤ total j x.out.accepted = subst (λ (i : Planned). written_of x.out ≤ total i x.out.accepted) is d.counted.most in
    omega arith

most_at : (e : EndId) (j : Planned) (z : State) → AllShaped z → AllOk CountedOk z → Falls z → IsInterface e j z → Most e j z
most_at e j z ok counted falls same = most_by (slice_get z.bindings e.binding) e j z refl ok counted falls same

-- ---- runs

record Ready (z : State) : Type 0 where
  shaped : AllShaped z
  counted : AllOk CountedOk z
  follows : (ws : List Event) → LabelsKeepToTheirWays (reached z ws) × Falls (reached z ws)

ready_after : (v : Event) (z : State) → Ready z → Ready (step z v).state
ready_after v z h = record {
  shaped = step_keeps AllShaped (bindings_keep AllShaped all_shaped) z v h.shaped;
  counted = step_keeps (AllOk CountedOk) (all_keep CountedOk counts_keep) z v h.counted;
  follows = λ ws. h.follows (v ∷ ws);
}

was_interface : (e : EndId) (j : Planned) (vs : List Event) (z : State) → IsInterface e j (reached z vs) → IsInterface e j z
was_interface e j vs z h b i q r =
    let there : IsBoundTo e.binding i (reached z vs) =
    run_keeps (IsBoundTo e.binding i) (bindings_keep (IsBoundTo e.binding i) (bound_keep e.binding i)) vs z (record { binding = b; there = q; interface = r }) in
    h there.binding i there.there there.interface

since : (e : EndId) (j : Planned) (vs : List Event) (z : State) → Ready z → IsInterface e j (reached z vs)
    → whole_by j (holdings_in (end_of (reached z vs) (peer e))) ≡ whole_by j (holdings_in (end_of z (peer e))) ++ calls_handled e (run z vs)
since e j [] z h same = sym (append-nil (whole_by j (holdings_in (end_of z (peer e)))))
since e j (v ∷ vs) z h same =
    let o : StepOutcome = step z v in
    let now = h.follows [] in
    let was : IsInterface e j z = was_interface e j (v ∷ vs) z same in
    let first : Handles e j z o = step_handles e j v z h.shaped now.0 (most_at e j z h.shaped h.counted now.1 was) was in
    since e j vs o.state (ready_after v z h) same
    ∙ ap (λ (cs : List TheCall). cs ++ calls_handled e (run o.state vs)) first
    ∙ append_assoc (whole_by j (holdings_in (end_of z (peer e)))) (handled_in e o.answer) (calls_handled e (run o.state vs))

-- ---- the laws, of runs on which labels keep to their ways and numbers passed fall

abbrev pub LabelsKeepToTheirWaysAlways : Type 0
LabelsKeepToTheirWaysAlways = (vs : List Event) → LabelsKeepToTheirWays (reached start vs)

ready_start : LabelsKeepToTheirWaysAlways → PassedFalls → Ready start
ready_start ways falls = record {
  shaped = none_at_end Shaped;
  counted = none_at_end (BindingOk CountedOk start.interfaces);
  follows = λ ws. (ways ws, (λ e x k q a. falls ws e x k q a));
}

pub handled_is_counted : LabelsKeepToTheirWaysAlways → PassedFalls → HandledIsCounted
handled_is_counted ways falls vs e b i q r =
    let s : State = reached start vs in
    let same : IsInterface e i s = λ c k u v.
    let one : Some c ≡ Some b = sym u ∙ q in
    let is : c ≡ b = cc in
    let both : Some k ≡ Some i = sym v ∙ ap (λ (w : Binding). interface_of s w) is ∙ r in cc in
    sym (since e i vs start (ready_start ways falls) same) ∙ ap (λ (o : Option Binding). whole_by i (holdings_in (end_at (other e.side) o))) q

no_interface : Planned
no_interface = record { interface = record { name = []; messages = [] }; plan = One }

prefix_by : (o : Option Binding) (vs : List Event) (e : EndId) → LabelsKeepToTheirWaysAlways → PassedFalls → slice_get (reached start vs).bindings e.binding ≡ o
    → IsPrefix (calls_handled e (run start vs)) (given (end_at (other e.side) o) [] λ x. x.out.accepted)
prefix_by None vs e ways falls q =
    let none : [] ≡ calls_handled e (run start vs) =
    ap (λ (o : Option Binding). whole_by no_interface (holdings_in (end_at (other e.side) o))) (sym q)
    ∙ since e no_interface vs start (ready_start ways falls) (λ b i u v. absurd (let w : Some b ≡ None = sym u ∙ q in cc)) in
    ([], none ∙ sym (append-nil (calls_handled e (run start vs))))
prefix_by (Some b) vs e ways falls q =
    let s : State = reached start vs in
    let counted : AllOk CountedOk s = run_keeps (AllOk CountedOk) (all_keep CountedOk counts_keep) vs start (none_at_end (BindingOk CountedOk start.interfaces)) in
    let at : BindingOk CountedOk s.interfaces b = counted e.binding b q in
    let d : Direction = (end_in (other e.side) b).out in
    subst (λ (cs : List TheCall). IsPrefix cs d.accepted) (sym (handled_is_counted ways falls vs e b at.interface q at.there))
    (whole_prefix at.interface d.accepted (taken_of d))

pub handled_is_a_prefix : LabelsKeepToTheirWaysAlways → PassedFalls → HandledIsAPrefix
handled_is_a_prefix ways falls vs e = prefix_by (slice_get (reached start vs).bindings e.binding) vs e ways falls refl
