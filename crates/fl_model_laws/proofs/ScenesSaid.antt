-- What sound states say of labels, by readers.
use Rattle.std.proofs.Common.{◌≡◌, refl, sym, ◌∙◌, ap, subst, ℕ, suc, ◌-◌, ◌==◌, Bool, true, false, if◌then◌else◌, List, [], length, slice_get, Option, Some, None}
use Rattle.std.specs.Prelude.{slice_index, Contains}
use Rattle.fl_base.specs.declared.identity.EndId.{EndId}
use Rattle.fl_base.specs.declared.identity.Side.{Side}
use Rattle.fl_base.specs.declared.identity.Side.TheVariants.{Client, Server}
use Rattle.fl_base.specs.Ends.{other, peer}
use Rattle.fl_base.specs.Given.{given}
use Rattle.fl_model.specs.Rings.{Label, next_of, says, acknowledges, Ring, RingEnd, read_by, written_by}
use Rattle.fl_model.specs.Monitors.{Link}
use Rattle.fl_model.specs.State.{Back, local, over_ring, over_route, Route, Binding, State, end_in, way_of, side_of, own_ring, link_between}
use Rattle.fl_model.specs.Standing.{labels_of, unread, on_link, queue_of, ring_from, before_by, before_on, picked}
use Rattle.fl_model.specs.SoundPlaces.{Owner, core_to, this_end}
use Rattle.fl_model.specs.SoundLabels.{StandsBefore, LabelsFollow, GoesOver, MayStandOn, MayStandFrom, IsOf, LabelsKeepToTheirWays}
use Rattle.fl_model_laws.proofs.Cases.{Each}
use Rattle.fl_model_laws.proofs.Places.{ring_of}
use Rattle.fl_model_laws.proofs.PlacesStep.{plan_of, link_planned, end_planned, ring_behind, planned_owner, own_back}
use Rattle.fl_model_laws.proofs.Flows.{Follows}
use Rattle.fl_model_laws.proofs.Scenes.{over, joint_of, Flow, flow_of, Sight, sight_of, flow_in, seen, sights, labels_at, reads, way_on, Goes, MayGo, Suits, queue_at, before, Good}
use Rattle.fl_model_laws.proofs.ScenesKept.{twice}
use Rattle.fl_model_laws.proofs.Small.{first_of, each_said}

-- ---- what stands where

pub flow_at : (side : Side) (b : Binding) → flow_in side (sight_of b) ≡ flow_of (end_in side b)
flow_at Client b = refl
flow_at Server b = refl

pub way_at : (side : Side) (route : Route) → way_of side route ≡ way_on side route.cores
way_at Client route = refl
way_at Server route = refl

pub link_reads : (s : State) (a b : ℕ) → on_link s a b ≡ reads s (core_to b a)
link_reads s a b = by (link_between s b a) ∙ ap (λ (o : Option RingEnd). given o [] (labels_at s.rings)) (sym (link_planned s b a))
  where
    ring : (at : RingEnd) (o : Option Ring) → labels_of (given o [] λ r. (read_by at.side r).waiting) ≡ given o [] λ r. labels_of (read_by at.side r).waiting
    ring at None = refl
    ring at (Some r) = refl

    by : (o : Option Link) → given o [] (λ link. labels_of (unread s link.ring)) ≡ given (ring_behind o) [] (labels_at s.rings)
    by None = refl
    by (Some link) = ring link.ring (slice_get s.rings link.ring.ring)

ring_reads : (s : State) (f : EndId) (b : Binding) (n : ℕ) → slice_get s.bindings f.binding ≡ Some b → b.back ≡ over_ring n
    → reads s (this_end f) ≡ ring_from s (peer f) n
ring_reads s f b n q r =
    ap (λ (o : Option RingEnd). given o [] (labels_at s.rings))
    (end_planned s f ∙ ap (λ (o : Option Binding). given o None (λ c. own_ring f.side c.back)) q ∙ ap (own_ring f.side) r) ∙ by f.side
  where
    by : (side : Side) → labels_at s.rings (record { ring = n; side = side_of side })
        ≡ given (slice_get s.rings n) [] λ r. labels_of (written_by (side_of (other side)) r).waiting
    by Client = refl
    by Server = refl

pub queue_reads : (s : State) (e : EndId) → queue_of s e ≡ queue_at (sights s) e
queue_reads s e = by (slice_get s.bindings e.binding)
  where
    one : (b : Binding) → given (end_in e.side b).queue [] (λ q. q.labels) ≡ (flow_in e.side (sight_of b)).queue
    one b = ap (λ (f : Flow). f.queue) (sym (flow_at e.side b))

    by : (o : Option Binding) → given (given o None (λ b. Some (end_in e.side b))) [] (λ x. given x.queue [] λ q. q.labels)
        ≡ given (seen o) [] (λ x. (flow_in e.side x).queue)
    by None = refl
    by (Some b) = one b

pub before_said : (s : State) (e : EndId) (b : Binding) (j : ℕ) → slice_get s.bindings e.binding ≡ Some b
    → before_by s e b.back j ≡ before (reads s) (sights s) e (joint_of b.back) j
before_said s e b j q = by b.back refl
  where
    two : (t : Bool) (xs ys us vs : List Label) → xs ≡ us → ys ≡ vs → (if t then xs else ys) ≡ (if t then us else vs)
    two true xs ys us vs p q = p
    two false xs ys us vs p q = q

    on : (way : List ℕ) → before_on s e way j ≡ (if j == length way then queue_at (sights s) (peer e) else reads s (core_to (slice_index way j) (slice_index way (j - 1))))
    on way = two (j == length way) _ _ _ _ (queue_reads s (peer e)) (link_reads s (slice_index way (j - 1)) (slice_index way j))

    by : (back : Back) → b.back ≡ back → before_by s e back j ≡ before (reads s) (sights s) e (joint_of back) j
    by local r = queue_reads s (peer e)
    by (over_ring n) r =
        ap (λ (f : EndId). ring_from s f n) (sym (twice e)) ∙ sym (ring_reads s (peer e) b n q r)
    by (over_route route) r =
        ap (λ way. before_on s e way j) (way_at e.side route) ∙ on (way_on e.side route.cores)

-- ---- ways

seen_binding : (o : Option Binding) (x : Sight) → seen o ≡ Some x → (b : Binding) × (o ≡ Some b) × (sight_of b ≡ x)
seen_binding None x h = absurd (cc)
seen_binding (Some b) x h = (b, refl, let e : sight_of b ≡ x = cc in e)

pub joint_route : (back : Back) (cores : List ℕ) → joint_of back ≡ over cores → (route : Route) × (back ≡ over_route route) × (route.cores ≡ cores)
joint_route local cores h = absurd (cc)
joint_route (over_ring n) cores h = absurd (cc)
joint_route (over_route route) cores h = (route, refl, let e : route.cores ≡ cores = cc in e)

goes_said : (s : State) (a b : ℕ) (e : EndId) → GoesOver s a b e → Goes (sights s) a b e
goes_said s a b e g = record {
  sight = sight_of g.routed.binding;
  there = ap seen g.routed.there;
  cores = g.route.cores;
  joint = ap joint_of g.routed.back;
  place = g.place;
  near = ap (λ way. slice_get way g.place) (sym (way_at e.side g.route)) ∙ g.near;
  far = ap (λ way. slice_get way (suc g.place)) (sym (way_at e.side g.route)) ∙ g.far;
}

said_goes : (s : State) (a b : ℕ) (e : EndId) → Goes (sights s) a b e → GoesOver s a b e
said_goes s a b e g =
    let (c, q, r) = seen_binding (slice_get s.bindings e.binding) g.sight g.there in
    let (route, t, u) = joint_route c.back g.cores (ap (λ (x : Sight). x.joint) r ∙ g.joint) in
    let way : way_of e.side route ≡ way_on e.side g.cores = way_at e.side route ∙ ap (way_on e.side) u in
    record {
      route = route;
      routed = record { binding = c; there = q; back = t };
      place = g.place;
      near = ap (λ way. slice_get way g.place) way ∙ g.near;
      far = ap (λ way. slice_get way (suc g.place)) way ∙ g.far;
    }

may_go : (s : State) (a b : ℕ) (l : Label) → MayStandOn s a b l → MayGo (sights s) a b l
may_go s a b (next_of e k) h = goes_said s a b e h
may_go s a b (says m) h = tt
may_go s a b acknowledges h = tt

may_stand : (s : State) (a b : ℕ) (l : Label) → MayGo (sights s) a b l → MayStandOn s a b l
may_stand s a b (next_of e k) h = said_goes s a b e h
may_stand s a b (says m) h = tt
may_stand s a b acknowledges h = tt

-- ---- both ways

pub good_of : (s : State) → LabelsKeepToTheirWays s → LabelsFollow s → Good (reads s) (sights s)
good_of s ways follows = record {
  reads = read;
  queues = λ e k l q. ways.queues e l (subst (λ ls. Contains ls l) (sym (queue_reads s e)) (first_of (queue_at (sights s) e) k l q));
  follows = follow;
}
  where
    by_ring : (f : EndId) (o : Option RingEnd) → ring_of (plan_of s) (this_end f) ≡ o → (k : ℕ) (l : Label)
        → slice_get (given o [] (labels_at s.rings)) k ≡ Some l → MayStandFrom (peer f) l
    by_ring f None p k l q = absurd (let u : None ≡ Some l = q in cc)
    by_ring f (Some at) p k l q =
        let own = planned_owner s (this_end f) at p in
        let back : own.0.back ≡ over_ring at.ring = own_back f.side own.0.back at own.2 in
        let is : reads s (this_end f) ≡ ring_from s (peer f) at.ring = ring_reads s f own.0 at.ring own.1 back in
        let there : slice_get (reads s (this_end f)) k ≡ Some l = ap (λ (o : Option RingEnd). slice_get (given o [] (labels_at s.rings)) k) p ∙ q in
        ways.rings (peer f) own.0 at.ring l own.1 back (subst (λ ls. Contains ls l) is (first_of (reads s (this_end f)) k l there))

    read : (x : Owner) → Each (Suits (sights s) x) (reads s x)
    read (core_to b a) k l q =
        may_go s a b l (ways.links a b l (subst (λ ls. Contains ls l) (sym (link_reads s a b)) (first_of (reads s (core_to b a)) k l q)))
    read (this_end f) k l q = by_ring f (ring_of (plan_of s) (this_end f)) refl k l q

    follow : (e : EndId) (x : Sight) → sights s e.binding ≡ Some x → Follows (λ j. picked e (before (reads s) (sights s) e x.joint j)) (flow_in e.side x).passed
    follow e x q =
        let (b, r, t) = seen_binding (slice_get s.bindings e.binding) x q in
        subst (λ (y : Sight). Follows (λ j. picked e (before (reads s) (sights s) e y.joint j)) (flow_in e.side y).passed) t
        (subst (Follows (λ j. picked e (before (reads s) (sights s) e (joint_of b.back) j))) (ap (λ (f : Flow). f.passed) (sym (flow_at e.side b)))
        (λ j a. let h : StandsBefore s e b j = follows e b j r a in
        record { falls = h.falls; labels = ap (picked e) (sym (before_said s e b (suc j) r)) ∙ h.labels }))

pub ways_of : (s : State) → Good (reads s) (sights s) → LabelsKeepToTheirWays s
ways_of s h = record {
  links = λ a b l c.
      let d = subst (λ ls. Contains ls l) (link_reads s a b) c in
      may_stand s a b l (each_said (Suits (sights s) (core_to b a)) (reads s (core_to b a)) l d.0 (h.reads (core_to b a)) d.1 d.2);
  rings = λ e b n l q r c.
      let is : ring_from s e n ≡ reads s (this_end (peer e)) =
      ap (λ (f : EndId). ring_from s f n) (sym (twice e)) ∙ sym (ring_reads s (peer e) b n q r) in
      let d = subst (λ ls. Contains ls l) is c in
      subst (λ (f : EndId). MayStandFrom f l) (twice e)
      (each_said (Suits (sights s) (this_end (peer e))) (reads s (this_end (peer e))) l d.0 (h.reads (this_end (peer e))) d.1 d.2);
  queues = λ e l c.
      let d = subst (λ ls. Contains ls l) (queue_reads s e) c in
      each_said (IsOf (peer e)) (queue_at (sights s) e) l d.0 (h.queues e) d.1 d.2;
}

pub follows_of : (s : State) → Good (reads s) (sights s) → LabelsFollow s
follows_of s h e b j q a =
    let f = subst (Follows (λ i. picked e (before (reads s) (sights s) e (joint_of b.back) i))) (ap (λ (x : Flow). x.passed) (flow_at e.side b))
    (h.follows e (sight_of b) (ap seen q)) j a in
    record { falls = f.falls; labels = ap (picked e) (before_said s e b (suc j) q) ∙ f.labels }
