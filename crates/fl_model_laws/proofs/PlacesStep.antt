-- Each event keeps that links are paired and that each side of a ring has one owner.
use Rattle.std.proofs.Common.{◌≡◌, refl, sym, ◌∙◌, ap, subst, ℕ, zero, suc, ◌+◌, ◌<◌, ◌==◌, ◌||◌, ◌&&◌, not, Bool, true, false, if◌then◌else◌, List, [], ◌∷◌, ◌++◌, length, map, slice_get, slice_set, Option, Some, None, is_some, arith}
use Rattle.std.proofs.lemmas.Bool.{eqb-false}
use Rattle.std.proofs.lemmas.List.{length-append, length-map, map-append}
use Rattle.std.specs.List.{range_with_len}
use Rattle.fl_base.specs.declared.identity.EndId.{EndId}
use Rattle.fl_base.specs.declared.identity.Side.{Side}
use Rattle.fl_base.specs.declared.identity.Side.TheVariants.{Client, Server}
use Rattle.fl_hop.specs.declared.links.LinkState.{LinkState}
use Rattle.fl_hop.specs.declared.entry.Hop.{Hop}
use Rattle.fl_hop.specs.declared.entry.HopTarget.{HopTarget}
use Rattle.fl_hop.specs.declared.entry.HopTarget.TheVariants.{Link as to_link, End as to_end}
use Rattle.fl_hop.specs.Table.{TheCircuits, hop_at}
use Rattle.fl_hop.specs.Numbers.{with_opening, with_taking, changed, count_opening, count_taking}
use Rattle.fl_model.specs.Given.{changed_at}
use Rattle.fl_model.specs.Events.{Event}
use Rattle.fl_model.specs.Rings.{MonitorLabel, open_circuit, circuit_opened, circuit_refused, OpeningLabel, says, RingSide, first_side, second_side, RingEnd, Ring, fresh_ring, puts, takes}
use Rattle.fl_model.specs.Monitors.{Core, Link, fresh_core, link_to, Fate, goes_on, ends_at, fails, fate, Heard, no_outbox, misrouted, opening_went_on, server_made, opening_failed, answer_went_on, end_opened, end_refused, Hearing, hears, hears_opening, hears_opened, hears_refused, saying, says_more, can_say, Service, opens}
use Rattle.fl_model.specs.State.{Back, local, over_ring, over_route, State, Binding, Route, own_ring, change_core, change_ring, change_route, in_route, link_between, core_of, seats, binds_end}
use Rattle.fl_model.specs.Making.{with_new_link, linked, is_core, has_link}
use Rattle.fl_model.specs.Binding.{BindByNames, with_new_binding, with_circuit_begun, end_id}
use Rattle.fl_model.specs.Forwarding.{LinkEnd, follows, takes_said, after_hearing, without_first_said, grants, passes_word}
use Rattle.fl_model.specs.SoundPlaces.{Owner, core_to, this_end}
use Rattle.fl_model_laws.proofs.Cases.{by_given, either}
use Rattle.fl_model_laws.proofs.Replies.{length_changed}
use Rattle.fl_model_laws.proofs.Views.{View, Part, view, part_of, back_of, sides_of, found, map_changed, map_kept}
use Rattle.fl_model_laws.proofs.Places.{Plan, Outline, Linked, ring_of, ring_in, joins, with_link_between, link_linked, joined_linked, none_linked}
use Rattle.fl_model_laws.proofs.Quiet.{Moves, view_keeps, quiet_seats, quiet_binds}
use Rattle.fl_model_laws.proofs.Walk.{Keeps, with_ring, step_keeps, run_keeps}
use Rattle.fl_model_laws.proofs.Places.{end_ring, ring_side_of, turned, IsEven}
use Rattle.fl_model_laws.proofs.Views.{found_is, given_map}
use Rattle.fl_hop.proofs.Lists.{at_within, within}
use Rattle.std.specs.Prelude.{IsSome}
use Rattle.fl_base.specs.Given.{given}
use Rattle.fl_model.specs.SoundPlaces.{owns, LinksArePaired, RingsHaveOneOwner, CoresStand, EndsStand, TakesFrom}
use Rattle.fl_model.specs.State.{end_in, undecided}
use Rattle.fl_model.specs.Binding.{arrival_queue}
use Rattle.fl_model.specs.Step.{step}
use Rattle.fl_model.specs.State.{start}
use Rattle.fl_model.specs.Runs.{reached}
use Rattle.fl_model_laws.proofs.Start.{start_is_sound}
use Rattle.fl_model_laws.proofs.Small.{less}

-- ---- the plan of a state

abbrev pub neighbours_of : List LinkState → List ℕ
neighbours_of ls = map (λ (a : LinkState). a.neighbour.0) ls

abbrev pub link_rings : List Link → List RingEnd
link_rings ls = map (λ (l : Link). l.ring) ls

abbrev pub outline : Part → Outline
outline p = record { neighbours = neighbours_of p.circuits.links; rings = link_rings p.links }

abbrev pub ring_no : Back → Option ℕ
ring_no local = None
ring_no (over_ring n) = Some n
ring_no (over_route route) = None

abbrev pub plan : View → Plan
plan v = record { cores = map outline v.parts; rings = length v.rings; joined = map ring_no v.backs }

abbrev pub core_outline : Core → Outline
core_outline k = outline (part_of k)

abbrev pub binding_ring : Binding → Option ℕ
binding_ring b = ring_no b.back

abbrev planned : List Outline → ℕ → List (Option ℕ) → Plan
planned cores rings joined = record { cores = cores; rings = rings; joined = joined }

abbrev pub plan_of : State → Plan
plan_of s = planned (map core_outline s.cores) (length s.rings) (map binding_ring s.bindings)

map_twice : {X Y Z : Type 0} (f : Y → Z) (g : X → Y) (xs : List X) → map f (map g xs) ≡ map (λ x. f (g x)) xs
map_twice f g [] = refl
map_twice f g (x ∷ xs) = ap (λ ys. f (g x) ∷ ys) (map_twice f g xs)

pub three : (a a2 : List Outline) (b b2 : ℕ) (c c2 : List (Option ℕ)) → a ≡ a2 → b ≡ b2 → c ≡ c2 → planned a b c ≡ planned a2 b2 c2
three a a2 b b2 c c2 p q r = cc

pub plan_viewed : (s : State) → plan (view s) ≡ plan_of s
plan_viewed s = three _ _ _ _ _ _ (map_twice outline part_of s.cores) (length-map s.rings sides_of) (map_twice ring_no back_of s.bindings)

abbrev pub LinkedView : View → Type 0
LinkedView v = Linked (plan v)

moved : (s t : State) → (Linked (plan_of s) → Linked (plan_of t)) → LinkedView (view s) → LinkedView (view t)
moved s t f h = subst Linked (sym (plan_viewed t)) (f (subst Linked (plan_viewed s) h))

same_plan : (s t : State) → plan_of t ≡ plan_of s → LinkedView (view s) → LinkedView (view t)
same_plan s t e h = moved s t (subst Linked (sym e)) h

-- ---- what leaves the plan as it is

pub plan_quiet : (s t : State) → view t ≡ view s → plan_of t ≡ plan_of s
plan_quiet s t e = sym (plan_viewed t) ∙ ap plan e ∙ plan_viewed s

pub plan_ring : (n : ℕ) (f : Ring → Ring) (s : State) → plan_of (change_ring n f s) ≡ plan_of s
plan_ring n f s = ap (λ r. planned (map core_outline s.cores) r (map binding_ring s.bindings)) (length_changed s.rings n f)

pub plan_core : (n : ℕ) (f : Core → Core) (s : State) → ((k : Core) → slice_get s.cores n ≡ Some k → core_outline (f k) ≡ core_outline k) → plan_of (change_core n f s) ≡ plan_of s
plan_core n f s h = ap (λ ks. planned ks (length s.rings) (map binding_ring s.bindings)) (map_kept core_outline f s.cores n h)

pub plan_route : (n : ℕ) (f : Route → Route) (s : State) → plan_of (change_route n f s) ≡ plan_of s
plan_route n f s = ap (λ bs. planned (map core_outline s.cores) (length s.rings) bs) (map_kept binding_ring _ s.bindings n (λ b q. by b.back))
  where
    by : (back : Back) → ring_no (in_route f back) ≡ ring_no back
    by local = refl
    by (over_ring m) = refl
    by (over_route route) = refl

-- ---- a core that hears

counted : (f : LinkState → LinkState) → ((a : LinkState) → (f a).neighbour.0 ≡ a.neighbour.0) → (ls : List LinkState) (l : ℕ)
    → neighbours_of (changed f ls l (slice_get ls l)) ≡ neighbours_of ls
counted f h ls l = by (slice_get ls l) refl ∙ map_kept (λ (a : LinkState). a.neighbour.0) f ls l (λ a q. h a)
  where
    by : (o : Option LinkState) → slice_get ls l ≡ o → neighbours_of (changed f ls l o) ≡ neighbours_of (given o ls (λ x. slice_set ls l (f x)))
    by None q = refl
    by (Some a) q = refl

pub opening_counted : (ls : List LinkState) (l : ℕ) → neighbours_of (count_opening ls l) ≡ neighbours_of ls
opening_counted ls l = counted with_opening (λ a. refl) ls l

pub taking_counted : (ls : List LinkState) (l : ℕ) → neighbours_of (count_taking ls l) ≡ neighbours_of ls
taking_counted ls l = counted with_taking (λ a. refl) ls l

pub said_rings : (m : MonitorLabel) (ls : List Link) (l : ℕ) → link_rings (changed_at l (says_more m) ls) ≡ link_rings ls
said_rings m ls l = map_kept (λ (x : Link). x.ring) (says_more m) ls l (λ x q. refl)

pub two_lists : (a b : List ℕ) (c d : List RingEnd) → a ≡ b → c ≡ d → record { neighbours = a; rings = c } ≡ (let o : Outline = record { neighbours = b; rings = d } in o)
two_lists a b c d p q = cc

saying_outline : (l : ℕ) (m : MonitorLabel) (t : TheCircuits) (x : Heard) (k : Core) → neighbours_of t.links ≡ neighbours_of k.circuits.links
    → core_outline (saying l m t x k).core ≡ core_outline k
saying_outline l m t x k e =
    either (λ (h : Hearing). core_outline h.core ≡ core_outline k) (can_say l k) _ _
    (λ q. two_lists (neighbours_of t.links) (neighbours_of k.circuits.links) _ (link_rings k.links) e (said_rings m k.links l)) (λ q. refl)

opening_outline : (l : ℕ) (o : OpeningLabel) (f : Fate) (k : Core) → core_outline (hears_opening l o f k).core ≡ core_outline k
opening_outline l o (goes_on m n) k = saying_outline m _ _ _ k (opening_counted (count_taking k.circuits.links l) m ∙ taking_counted k.circuits.links l)
opening_outline l o (ends_at d) k = saying_outline l _ _ _ k (taking_counted k.circuits.links l)
opening_outline l o (fails fault) k = saying_outline l _ _ _ k (taking_counted k.circuits.links l)

opened_outline : (l c : ℕ) (hop : Hop) (way : HopTarget) (k : Core) → core_outline (hears_opened l c hop way k).core ≡ core_outline k
opened_outline l c hop (to_link m d) k = saying_outline m.0 _ _ _ k refl
opened_outline l c hop (to_end e) k = refl

refused_outline : (l c fault : ℕ) (hop : Hop) (way : HopTarget) (k : Core) → core_outline (hears_refused l c fault hop way k).core ≡ core_outline k
refused_outline l c fault hop (to_link m d) k = saying_outline m.0 _ _ _ k refl
refused_outline l c fault hop (to_end e) k = refl

pub heard_outline : (services : List Service) (l : ℕ) (m : MonitorLabel) (k : Core) → core_outline (hears services l m k).core ≡ core_outline k
heard_outline services l (open_circuit o) k = opening_outline l o (fate services o k) k
heard_outline services l (circuit_opened c) k = by_given (λ (h : Hearing). core_outline h.core ≡ core_outline k) (hop_at k.circuits l c) _ _ refl (λ hop q. opened_outline l c hop hop.way k)
heard_outline services l (circuit_refused c fault) k = by_given (λ (h : Hearing). core_outline h.core ≡ core_outline k) (hop_at k.circuits l c) _ _ refl (λ hop q. refused_outline l c fault hop hop.way k)

said_plan : (at : RingEnd) (x : Heard) (s : State) → plan_of (takes_said at x s) ≡ plan_of s
said_plan at no_outbox s = refl
said_plan at misrouted s = refl
said_plan at (opening_went_on n c) s = plan_ring at.ring _ s
said_plan at (server_made n d c) s = plan_ring at.ring _ s
said_plan at (opening_failed n fault) s = plan_ring at.ring _ s
said_plan at (answer_went_on n) s = plan_ring at.ring _ s
said_plan at (end_opened e c) s = plan_ring at.ring _ s
said_plan at (end_refused e fault) s = plan_ring at.ring _ s

follows_plan : (x : Heard) (s : State) → plan_of (follows x s).state ≡ plan_of s
follows_plan no_outbox s = refl
follows_plan misrouted s = refl
follows_plan (opening_went_on n c) s = plan_route n _ s
follows_plan (server_made n d c) s =
    let e = end_id n Server in
    let t : State = change_route n grants s in
    plan_quiet (seats d e t) (binds_end e c (seats d e t)) (quiet_binds e c (seats d e t)) ∙ plan_quiet t (seats d e t) (quiet_seats d e t) ∙ plan_route n grants s
follows_plan (opening_failed n fault) s = plan_route n _ s
follows_plan (answer_went_on n) s = plan_route n _ s
follows_plan (end_opened e c) s =
    let t : State = change_route e.binding passes_word s in
    plan_quiet t (binds_end e c t) (quiet_binds e c t) ∙ plan_route e.binding _ s
follows_plan (end_refused e fault) s = plan_route e.binding _ s

pub same_some : {X : Type 0} (o : Option X) (x y : X) → o ≡ Some x → o ≡ Some y → x ≡ y
same_some o x y p q = let e : Some x ≡ Some y = sym p ∙ q in cc

pub heard_plan : (here : LinkEnd) (m : MonitorLabel) (k : Core) (s : State) → core_of s here.core ≡ Some k → plan_of (after_hearing here (hears s.services here.link m k) s).state ≡ plan_of s
heard_plan here m k s q =
    let x : Hearing = hears s.services here.link m k in
    let told : State = change_core here.core (λ y. x.core) s in
    follows_plan x.heard (takes_said here.ring x.heard told) ∙ said_plan here.ring x.heard told
    ∙ plan_core here.core (λ y. x.core) s (λ y r. heard_outline s.services here.link m k ∙ ap core_outline (same_some (slice_get s.cores here.core) k y q r))

pub written_plan : (here : LinkEnd) (m : MonitorLabel) (s : State) → plan_of (change_core here.core (without_first_said here.link) (change_ring here.ring.ring (puts here.ring.side (says m)) s)) ≡ plan_of s
written_plan here m s =
    plan_core here.core (without_first_said here.link) (change_ring here.ring.ring (puts here.ring.side (says m)) s)
    (λ k q. ap (λ rs. (let o : Outline = record { neighbours = neighbours_of k.circuits.links; rings = rs } in o)) (map_kept (λ (x : Link). x.ring) _ k.links here.link (λ x r. refl)))
    ∙ plan_ring here.ring.ring _ s

-- ---- new bindings

pub joined_push : (b : Binding) (s : State) → map binding_ring (s.bindings ++ b ∷ []) ≡ map binding_ring s.bindings ++ binding_ring b ∷ []
joined_push b s = map-append binding_ring s.bindings (b ∷ [])

-- ---- the plan tells what links and ends own

found_maps : {X Y Z W : Type 0} (q : Z → Bool) (g : X → Z) (r : Y → W) (xs : List X) (ys : List Y)
    → found q (map g xs) (map r ys) ≡ given (found (λ x. q (g x)) xs ys) None (λ y. Some (r y))
found_maps q g r [] ys = refl
found_maps q g r (x ∷ xs) [] = refl
found_maps {X} {Y} {Z} {W} q g r (x ∷ xs) (y ∷ ys) = by (q (g x)) (found_maps q g r xs ys)
  where
    by : (b : Bool) → found q (map g xs) (map r ys) ≡ given (found (λ z. q (g z)) xs ys) None (λ z. Some (r z))
        → (if b then Some (r y) else found q (map g xs) (map r ys)) ≡ given (if b then Some y else found (λ z. q (g z)) xs ys) None (λ z. Some (r z))
    by true k = refl
    by false k = k

abbrev pub ring_behind : Option Link → Option RingEnd
ring_behind o = given o None (λ l. Some l.ring)

pub link_planned : (s : State) (a b : ℕ) → ring_of (plan_of s) (core_to a b) ≡ ring_behind (link_between s a b)
link_planned s a b = by s.cores a
  where
    by : (ks : List Core) (n : ℕ) → given (slice_get (map core_outline ks) n) None (ring_in b)
        ≡ ring_behind (given (slice_get ks n) None (λ k. given (link_to b k) None (λ l. slice_get k.links l)))
    by [] n = refl
    by (k ∷ ks) zero =
        found_maps (λ n. n == b) (λ (a : LinkState). a.neighbour.0) (λ (l : Link). l.ring) k.circuits.links k.links
        ∙ ap ring_behind (sym (found_is (λ (a : LinkState). a.neighbour.0 == b) k.circuits.links k.links))
    by (k ∷ ks) (suc n) = by ks n

pub end_planned : (s : State) (e : EndId) → ring_of (plan_of s) (this_end e) ≡ given (slice_get s.bindings e.binding) None (λ b. own_ring e.side b.back)
end_planned s e = by s.bindings e.binding
  where
    one : (back : Back) → end_ring e.side (ring_no back) ≡ own_ring e.side back
    one local = refl
    one (over_ring n) = refl
    one (over_route route) = refl

    by : (bs : List Binding) (n : ℕ) → given (slice_get (map binding_ring bs) n) None (end_ring e.side) ≡ given (slice_get bs n) None (λ b. own_ring e.side b.back)
    by [] n = refl
    by (b ∷ bs) zero = one b.back
    by (b ∷ bs) (suc n) = by bs n

pub given_some : {X Y : Type 0} (o : Option X) (f : X → Option Y) (y : Y) → given o None f ≡ Some y → (x : X) × (o ≡ Some x) × (f x ≡ Some y)
given_some None f y h = absurd (cc)
given_some (Some x) f y h = (x, refl, h)

pub owner_planned : (s : State) (x : Owner) (at : RingEnd) → owns s x at → ring_of (plan_of s) x ≡ Some at
owner_planned s (core_to a b) at h = link_planned s a b ∙ ap ring_behind h.1 ∙ ap (λ (r : RingEnd). Some r) h.2
owner_planned s (this_end e) at h = end_planned s e ∙ ap (λ o. given o None (λ (b : Binding). own_ring e.side b.back)) h.1 ∙ h.2

pub planned_owner : (s : State) (x : Owner) (at : RingEnd) → ring_of (plan_of s) x ≡ Some at → owns s x at
planned_owner s (core_to a b) at h =
    let (l, q, r) = given_some (link_between s a b) (λ l. Some l.ring) at (sym (link_planned s a b) ∙ h) in
    (l, q, (let e : l.ring ≡ at = cc in e))
planned_owner s (this_end e) at h = given_some (slice_get s.bindings e.binding) (λ b. own_ring e.side b.back) at (sym (end_planned s e) ∙ h)

pub linked_paired : (s : State) → Linked (plan_of s) → LinksArePaired s
linked_paired s h a b link q =
    let own : ring_of (plan_of s) (core_to a b) ≡ Some link.ring = owner_planned s (core_to a b) link.ring (link, q, refl) in
    let there = at_within s.rings link.ring.ring (h.within (core_to a b) link.ring own) in
    let other = planned_owner s (core_to b a) (turned link.ring) (h.back a b link.ring own) in
    record { ring = there.0; ring_is = there.1; back = other.0; back_is = other.1; same = other.2 }

pub linked_owned : (s : State) → Linked (plan_of s) → RingsHaveOneOwner s
linked_owned s h x y at p q = h.one x y at (owner_planned s x at p) (owner_planned s y at q)

ring_there : (s : State) (n : ℕ) (b : Binding) (m : ℕ) → EndsStand s → slice_get s.bindings n ≡ Some b → b.back ≡ over_ring m → m < length s.rings
ring_there s n b m h q r =
    let e : EndId = end_id n Client in
    let x = h e b.client (ap (λ o. given o None (λ (c : Binding). Some (end_in Client c))) q) in
    let same : x.binding ≡ b = same_some (slice_get s.bindings n) x.binding b x.there q in
    let takes : TakesFrom s (over_ring m) b.client = subst (λ (k : Back). TakesFrom s k b.client) (ap (λ (c : Binding). c.back) same ∙ r) x.queue in
    by (slice_get s.rings m) refl takes.1
  where
    by : (o : Option Ring) → slice_get s.rings m ≡ o → IsSome o → m < length s.rings
    by None e k = absurd (cc)
    by (Some y) e k = within s.rings m y e

pub own_back : (side : Side) (back : Back) (at : RingEnd) → own_ring side back ≡ Some at → back ≡ over_ring at.ring
own_back side local at h = absurd (cc)
own_back side (over_ring m) at h = let e : ring_side_of side m ≡ at = cc in ap (λ (x : RingEnd). over_ring x.ring) e
own_back side (over_route route) at h = absurd (cc)

pub to_linked : (s : State) → CoresStand s → EndsStand s → LinksArePaired s → RingsHaveOneOwner s → Linked (plan_of s)
to_linked s cores ends paired owned = record {
  even = even;
  within = inside;
  back = λ a b at q. let (l, r, e) = planned_owner s (core_to a b) at q in
      let p = paired a b l r in
      owner_planned s (core_to b a) (turned at) (p.back, p.back_is, (p.same ∙ ap turned e));
  one = λ x y at p q. owned x y at (planned_owner s x at p) (planned_owner s y at q);
}
  where
    even : (n : ℕ) (o : Outline) → slice_get (map core_outline s.cores) n ≡ Some o → length o.neighbours ≡ length o.rings
    even n o q =
        let k = given_some (slice_get s.cores n) (λ k. Some (core_outline k)) o (sym (given_map core_outline None (λ (y : Outline). Some y) s.cores n) ∙ ap (λ (p : Option Outline). given p None (λ y. Some y)) q) in
        let same : core_outline k.0 ≡ o = cc in
        let long : length k.0.links ≡ length k.0.circuits.links = (cores n k.0 k.1).links in
        subst (λ (z : Outline). length z.neighbours ≡ length z.rings) same
        (length-map k.0.circuits.links (λ (a : LinkState). a.neighbour.0) ∙ sym long ∙ sym (length-map k.0.links (λ (l : Link). l.ring)))

    inside : (x : Owner) (at : RingEnd) → ring_of (plan_of s) x ≡ Some at → at.ring < length s.rings
    inside (core_to a b) at q =
        let l = planned_owner s (core_to a b) at q in
        let p = paired a b l.0 l.1 in
        subst (λ (r : RingEnd). r.ring < length s.rings) l.2 (within s.rings l.0.ring.ring p.ring p.ring_is)
    inside (this_end e) at q =
        let b = planned_owner s (this_end e) at q in
        ring_there s e.binding b.0 at.ring ends b.1 (own_back e.side b.0.back at b.2)

-- ---- events that make links and rings

fresh_none : (xs : List ℕ) (a b : ℕ) → given (slice_get (map core_outline (map fresh_core xs)) a) None (ring_in b) ≡ None
fresh_none [] a b = refl
fresh_none (x ∷ xs) zero b = refl
fresh_none (x ∷ xs) (suc a) b = fresh_none xs a b

fresh_even : (xs : List ℕ) → IsEven (map core_outline (map fresh_core xs))
fresh_even [] n o h = absurd (cc)
fresh_even (x ∷ xs) zero o h =
    let e : core_outline (fresh_core x) ≡ o = cc in
    subst (λ (z : Outline). length z.neighbours ≡ length z.rings) e refl
fresh_even (x ∷ xs) (suc n) o h = fresh_even xs n o h

fresh_linked : (n : ℕ) (s : State) → Linked (plan_of s) → Linked (plan_of (record s { cores = map fresh_core (range_with_len 0 n) }))
fresh_linked n s h = record {
  even = fresh_even (range_with_len 0 n);
  within = λ x at q. h.within x at (old x at q);
  back = λ a b at q. absurd (let e = sym (fresh_none (range_with_len 0 n) a b) ∙ q in let k : None ≡ Some at = e in cc);
  one = λ x y at p q. h.one x y at (old x at p) (old y at q);
}
  where
    old : (x : Owner) (at : RingEnd) → ring_of (plan_of (record s { cores = map fresh_core (range_with_len 0 n) })) x ≡ Some at → ring_of (plan_of s) x ≡ Some at
    old (core_to a b) at q = absurd (let k : None ≡ Some at = sym (fresh_none (range_with_len 0 n) a b) ∙ q in cc)
    old (this_end e) at q = q

linked_outline : (b n : ℕ) (side : RingSide) (k : Core) → core_outline (linked b n side k) ≡ joins b n side (core_outline k)
linked_outline b n side k =
    two_lists _ _ _ _ (map-append (λ (a : LinkState). a.neighbour.0) k.circuits.links _) (map-append (λ (l : Link). l.ring) k.links _)

pub length_push : {X : Type 0} (xs : List X) (x : X) → length (xs ++ x ∷ []) ≡ length xs + 1
length_push xs x = length-append xs (x ∷ [])

pub link_plan : (a b size : ℕ) (s : State) → plan_of (with_new_link a b size s) ≡ with_link_between a b (plan_of s)
link_plan a b size s =
    let n : ℕ = length s.rings in
    let near : List Core = changed_at a (linked b n first_side) s.cores in
    three _ _ _ _ _ _
    (map_changed core_outline (linked a n second_side) (joins a n second_side) near b (λ k q. linked_outline a n second_side k)
    ∙ ap (changed_at b (joins a n second_side)) (map_changed core_outline (linked b n first_side) (joins b n first_side) s.cores a (λ k q. linked_outline b n first_side k)))
    (length_push s.rings (fresh_ring size)) refl

parts : (x y z w : Bool) → not (x && y) || z || w ≡ false → (x ≡ true) × (y ≡ true) × (z ≡ false) × (w ≡ false)
parts true true false false h = (refl, refl, refl, refl)
parts false y z w h = absurd (cc)
parts true false z w h = absurd (cc)
parts true true true w h = absurd (cc)
parts true true false true h = absurd (cc)

no_link : (a b : ℕ) (s : State) → has_link a b s ≡ false → ring_of (plan_of s) (core_to a b) ≡ None
no_link a b s h = link_planned s a b ∙ ap ring_behind (by (core_of s a) h)
  where
    inner : (k : Core) (o : Option ℕ) → is_some o ≡ false → given o None (λ l. slice_get k.links l) ≡ None
    inner k None q = refl
    inner k (Some l) q = absurd (cc)

    by : (o : Option Core) → given o false (λ k. is_some (link_to b k)) ≡ false → given o None (λ k. given (link_to b k) None (λ l. slice_get k.links l)) ≡ None
    by None q = refl
    by (Some k) q = inner k (link_to b k) q

new_link : (a b size : ℕ) (s : State) → not (is_core a s && is_core b s) || (a == b) || has_link a b s ≡ false → Linked (plan_of s) → Linked (plan_of (with_new_link a b size s))
new_link a b size s q h =
    let (x, y, z, w) = parts (is_core a s) (is_core b s) (a == b) (has_link a b s) q in
    let long = length-map s.cores core_outline in
    subst Linked (sym (link_plan a b size s))
    (link_linked a b (plan_of s) (eqb-false a b z) (let k : a < length s.cores = less a _ x in omega (arith, long))
    (let k : b < length s.cores = less b _ y in omega (arith, long)) (no_link a b s w) h)

route_plan : (w : BindByNames) (cores : List ℕ) (n l c : ℕ) (s : State) → plan_of (with_circuit_begun w cores n l c s) ≡ record (plan_of s) { joined = (plan_of s).joined ++ None ∷ [] }
route_plan w cores n l c s =
    let route : Route = record { service = w.iref; cores = cores; numbers = c ∷ []; verdict = undecided } in
    let opening : OpeningLabel = record { circuit = c; binding = n; service = w.iref; path = cores } in
    let fresh : State = with_new_binding w (over_route route) (length cores + 1) (Some arrival_queue) s in
    let sat : State = seats w.client (end_id n Client) fresh in
    plan_core w.client.core (opens l c opening) sat
    (λ k q. two_lists _ (neighbours_of k.circuits.links) _ (link_rings k.links) (opening_counted k.circuits.links l) (said_rings _ k.links l))
    ∙ plan_quiet fresh sat (quiet_seats w.client (end_id n Client) fresh)
    ∙ three _ _ _ _ _ _ refl refl (joined_push _ s)

pub places_move : Moves LinkedView
places_move = record {
  cores = λ n s h. moved s (record s { cores = map fresh_core (range_with_len 0 n) }) (fresh_linked n s) h;
  link = λ a b size s q h. moved s (with_new_link a b size s) (new_link a b size s q) h;
  bound = λ w stations q s h. moved s (with_new_binding w local stations q s)
      (λ k. subst Linked (sym (three _ _ _ _ _ _ refl refl (joined_push _ s))) (none_linked (plan_of s) k)) h;
  ring = λ w size s h. moved s (with_new_binding w (over_ring (length s.rings)) 2 None (with_ring size s))
      (λ k. subst Linked (sym (three _ _ _ _ _ _ refl (length_push s.rings (fresh_ring size)) (joined_push _ s))) (joined_linked (plan_of s) k)) h;
  route = λ w i cores k l c s want begins h. moved s (with_circuit_begun w cores (length s.bindings) l c s)
      (λ j. subst Linked (sym (route_plan w cores (length s.bindings) l c s)) (none_linked (plan_of s) j)) h;
  from_ring = λ e b at s q r h. same_plan s (change_ring at.ring (takes at.side) s) (plan_ring at.ring (takes at.side) s) h;
  monitor_written = λ here link m s k q r h. same_plan s (change_core here.core (without_first_said here.link) (change_ring here.ring.ring (puts here.ring.side (says m)) s)) (written_plan here m s) h;
  heard = λ here m first k s j q r t h. same_plan s ((after_hearing here (hears s.services here.link m k) s).state) (heard_plan here m k s t) h;
}

pub linked_keeps : Keeps (λ s. LinkedView (view s))
linked_keeps = view_keeps LinkedView places_move

-- ---- the laws

pub step_keeps_links : (s : State) (v : Event) → CoresStand s → EndsStand s → LinksArePaired s → RingsHaveOneOwner s
    → LinksArePaired (step s v).state × RingsHaveOneOwner (step s v).state
step_keeps_links s v a b c d =
    let t : State = (step s v).state in
    let before : LinkedView (view s) = subst Linked (sym (plan_viewed s)) (to_linked s a b c d) in
    let after : Linked (plan_of t) = subst Linked (plan_viewed t) (step_keeps (λ u. LinkedView (view u)) linked_keeps s v before) in
    (linked_paired t after, linked_owned t after)

pub links_in_runs : (vs : List Event) → LinksArePaired (reached start vs) × RingsHaveOneOwner (reached start vs)
links_in_runs vs =
    let t : State = reached start vs in
    let before : LinkedView (view start) =
    subst Linked (sym (plan_viewed start)) (to_linked start start_is_sound.cores start_is_sound.ends start_is_sound.links start_is_sound.owners) in
    let after : Linked (plan_of t) = subst Linked (plan_viewed t) (run_keeps (λ u. LinkedView (view u)) linked_keeps vs start before) in
    (linked_paired t after, linked_owned t after)
