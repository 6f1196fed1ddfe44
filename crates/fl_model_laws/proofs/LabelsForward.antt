-- A fragment leaves a link, for the next one or for the other end's queue: labels stay on their ways, and in order.
use Rattle.std.proofs.Common.{◌≡◌, ◌≢◌, refl, sym, ◌∙◌, ap, subst, ℕ, suc, ◌+◌, ◌<◌, List, [], ◌∷◌, ◌++◌, length, drop, slice_get, Option, Some, None, arith}
use Rattle.std.specs.Prelude.{slice_index, IsSome}
use Rattle.fl_base.specs.declared.identity.EndId.{EndId}
use Rattle.fl_base.specs.Ends.{other, peer}
use Rattle.fl_base.specs.Given.{given}
use Rattle.fl_hop.specs.declared.entry.HopTarget.TheVariants.{Link as to_link, End as to_end}
use Rattle.fl_hop.specs.declared.entry.Hop.{Hop}
use Rattle.fl_model.specs.Given.{changed_at}
use Rattle.fl_model.specs.Rings.{Label, RingLabel, RingEnd, there_is_room, puts, takes}
use Rattle.fl_model.specs.Ends.{Direction, End, joined_by, passes}
use Rattle.fl_model.specs.Waits.{triggers}
use Rattle.fl_model.specs.Monitors.{Core, Link, link_to}
use Rattle.fl_model.specs.State.{Back, local, over_ring, over_route, Route, Binding, State, first_on, core_of, link_between, end_in, in_queue, with_end_in, change_end, change_out, change_ring, delivers}
use Rattle.fl_model.specs.Forwarding.{LinkEnd, FragAtHop, label_of, goes_on_by, arrives_by, route_of}
use Rattle.fl_model.specs.Standing.{picked, number_of}
use Rattle.fl_model.specs.SoundPlaces.{Owner, core_to, stations}
use Rattle.fl_model.specs.SoundLabels.{IsOf}
use Rattle.fl_model_laws.proofs.Cases.{Each, each_push}
use Rattle.fl_model_laws.proofs.EndsStep.{queue_out}
use Rattle.fl_model_laws.proofs.Flows.{Passes}
use Rattle.fl_model_laws.proofs.Hearing.{LinkThere, link_there}
use Rattle.fl_model_laws.proofs.LabelsMoved.{EndsWere, ends_begin, ends_change, ends_same, put_suits, put_others, put_apart, take_suits, take_others, take_apart, own_each, HasQueue, IsShaped, number_passes}
use Rattle.fl_model_laws.proofs.LabelsPass.{Moved, moved_good, queue_is, end_own, end_back, end_else, joint_kept, joined_queue, over_passes, before_link, reader, readers_differ}
use Rattle.fl_model_laws.proofs.LabelsQuiet.{GoodIn, channel_bindings}
use Rattle.fl_model_laws.proofs.Places.{Linked, ring_of, turned}
use Rattle.fl_model_laws.proofs.PlacesStep.{plan_of, plan_ring, plan_quiet, owner_planned}
use Rattle.fl_model_laws.proofs.Quiet.{quiet_end, quiet_channel}
use Rattle.fl_model_laws.proofs.ReadsKept.{PutOn, TakenOff, put_reads, take_reads, first_read}
use Rattle.fl_model_laws.proofs.RingsKept.{first_put, channel_rings}
use Rattle.fl_model_laws.proofs.Scenes.{over, joint_of, queued, seen, sight_of, sights, reads, way_on, Goes, Suits, queue_at, before}
use Rattle.fl_model_laws.proofs.ScenesKept.{twice, number_other, picked_more, picked_first}
use Rattle.fl_model_laws.proofs.Walk.{IsPassing, IsGoingOn}
use Rattle.fl_model_laws.proofs.Ways.{Once, once_on, way_long, got_index, got_within, LeadsOn}

-- where a fragment stands that is first on a link, and where its entry leads
pub record Onward (cores : List Core) (here : LinkEnd) (p : FragAtHop) (route : Route) (hop : Hop) : Type 0 where
  pub core : Core
  pub core_is : slice_get cores here.core ≡ Some core
  pub place : ℕ
  pub station : p.station ≡ suc place
  pub near : slice_get (way_on p.end.side route.cores) place ≡ Some here.neighbour
  pub far : slice_get (way_on p.end.side route.cores) (suc place) ≡ Some here.core
  pub leads : LeadsOn (way_on p.end.side route.cores) place core p.end hop.way

pub route_is : (back : Back) (route : Route) → route_of back ≡ Some route → back ≡ over_route route
route_is local route h = absurd (cc)
route_is (over_ring n) route h = absurd (cc)
route_is (over_route r) route h = let e : r ≡ route = cc in ap (λ x. over_route x) e

pub link_is : (s : State) (here neighbour : ℕ) (k : Core) (l : ℕ) (link : Link) → core_of s here ≡ Some k → link_to neighbour k ≡ Some l → slice_get k.links l ≡ Some link
    → link_between s here neighbour ≡ Some link
link_is s here neighbour k l link at to is =
    ap (λ (o : Option Core). given o None (λ j. given (link_to neighbour j) None (λ n. slice_get j.links n))) at
    ∙ ap (λ (o : Option ℕ). given o None (λ n. slice_get k.links n)) to ∙ is

module _ (s : State) (here : LinkEnd) (p : FragAtHop) (first : RingLabel) (route : Route) (hop : Hop) (passing : IsPassing here p first route hop s)
    (o : Onward s.cores here p route hop) (linked : Linked (plan_of s)) (shaped : IsShaped passing.binding) (good : GoodIn s) where
  abbrev e : EndId
  e = p.end

  abbrev l : Label
  l = label_of p

  abbrev way : List ℕ
  way = way_on e.side route.cores

  abbrev j : ℕ
  j = o.place

  abbrev b : Binding
  b = passing.binding

  abbrev passed_end : End → End
  passed_end x = record x { out = passes p.station x.out }

  back : b.back ≡ over_route route
  back = route_is b.back route passing.route_is

  joint : joint_of b.back ≡ over route.cores
  joint = ap joint_of back

  once : Once way
  once = once_on e.side route.cores (shaped.way route back).0

  long : length (end_in e.side b).out.passed ≡ length way + 1
  long = shaped.passed e.side ∙ ap stations back ∙ ap (λ n. n + 1) (sym (way_long e.side route.cores))

  far : suc j < length way
  far = got_within way (suc j) here.core o.far

  -- what stands before station j + 1
  own : ring_of (plan_of s) (core_to here.core here.neighbour) ≡ Some here.ring
  own =
      let t : LinkThere s here = link_there s here passing.is_here in
      owner_planned s (core_to here.core here.neighbour) here.ring (t.link, link_is s here.core here.neighbour t.core here.link t.link t.core_is t.place t.link_is, t.ring)

  its : reader way j ≡ core_to here.core here.neighbour
  its = ap (λ n. core_to n (slice_index way j)) (got_index way (suc j) here.core o.far) ∙ ap (core_to here.core) (got_index way j here.neighbour o.near)

  mine : ring_of (plan_of s) (reader way j) ≡ Some here.ring
  mine = ap (ring_of (plan_of s)) its ∙ own

  stands : slice_get (reads s (reader way j)) 0 ≡ Some l
  stands = first_read s here.ring (reader way j) first mine passing.first_is ∙ ap (λ x. Some x) passing.label_is

  number : p.number ≡ slice_index (end_in e.side b).out.passed (suc j)
  number =
      let a = long in
      let c = far in
      (number_passes s e b j p.number _ good passing.binding_is (omega arith)
      (ap (λ x. picked e (before (reads s) (sights s) e x (suc j))) joint ∙ ap (picked e) (before_link (reads s) (sights s) e route.cores j (λ u. absurd (omega arith)))
      ∙ picked_first e (reads s (reader way j)) p.number stands)).0

  joints : (t : State) → Passes (λ m. picked e (before (reads s) (sights s) e (over route.cores) m)) (λ m. picked e (before (reads t) (sights t) e (over route.cores) m)) (end_in e.side b).out.passed (suc j) p.number
      → Passes (λ m. picked e (before (reads s) (sights s) e (joint_of b.back) m)) (λ m. picked e (before (reads t) (sights t) e (joint_of b.back) m)) (end_in e.side b).out.passed (suc j) p.number
  joints t h =
      subst (λ c. Passes (λ m. picked e (before (reads s) (sights s) e c m)) (λ m. picked e (before (reads t) (sights t) e c m)) (end_in e.side b).out.passed (suc j) p.number) (sym joint) h

  passed_on : (x : End) → (passed_end x).out.passed ≡ changed_at (suc j) (λ n. n + 1) x.out.passed
  passed_on x = ap (λ n. changed_at n (λ m. m + 1) x.out.passed) o.station

  -- ---- over the next link

  module _ (on : RingEnd) where
    abbrev u : State
    u = change_ring on.ring (puts on.side l) s

    abbrev t : State
    t = change_out e (passes p.station) (change_ring here.ring.ring (takes here.ring.side) u)

    abbrev c : Binding
    c = with_end_in e.side passed_end b

    put : PutOn s u on l
    put = record { plan = plan_ring on.ring (puts on.side l) s; rings = refl }

    took : TakenOff u t here.ring
    took = record {
      plan = plan_quiet (change_ring here.ring.ring (takes here.ring.side) u) t (quiet_end e passed_end (change_ring here.ring.ring (takes here.ring.side) u))
          ∙ plan_ring here.ring.ring (takes here.ring.side) u;
      rings = refl;
    }

    linked_put : Linked (plan_of u)
    linked_put = subst Linked (sym (plan_ring on.ring (puts on.side l) s)) linked

    ends : EndsWere s t e.binding b c
    ends = ends_change s (change_ring here.ring.ring (takes here.ring.side) u) e.binding b b e.side passed_end (record { was = passing.binding_is; now = passing.binding_is; rest = λ m d. refl })

    moved : Moved s t e (suc j) b c
    moved = record {
      was = passing.binding_is;
      now = ends.now;
      joint = joint_kept e.side passed_end b;
      passed = ap (λ (x : End). x.out.passed) (end_own e.side passed_end b) ∙ passed_on (end_in e.side b);
      queue = ap queued (end_own e.side passed_end b);
      back = ap (λ (x : End). x.out.passed) (end_back e.side passed_end b);
      rest = λ m d. ap seen (ends.rest m d);
    }

    queues_same : queue_at (sights t) (peer e) ≡ queue_at (sights s) (peer e)
    queues_same = queue_is t (peer e) c ends.now ∙ ap queued (end_back e.side passed_end b) ∙ sym (queue_is s (peer e) b passing.binding_is)

    there : first_on here.ring u ≡ Some first
    there = first_put l here.ring on first s.rings passing.first_is

    mine_put : (x : Owner) → ring_of (plan_of u) x ≡ ring_of (plan_of s) x
    mine_put x = ap (λ q. ring_of q x) put.plan

    goes_by : (next : ℕ) → slice_get way (suc (suc j)) ≡ Some next → ring_of (plan_of s) (core_to next here.core) ≡ Some (turned on) → GoodIn t
    goes_by next more writes =
        let two : suc (suc j) < length way = got_within way (suc (suc j)) next more in
        let near : suc j < length way = far in
        let whole : length (end_in e.side b).out.passed ≡ length way + 1 = long in
        let its2 : reader way (suc j) ≡ core_to next here.core =
        ap (λ n. core_to n (slice_index way (suc j))) (got_index way (suc (suc j)) next more) ∙ ap (core_to next) (got_index way (suc j) here.core o.far) in
        let theirs : ring_of (plan_of s) (reader way (suc j)) ≡ Some (turned on) = ap (ring_of (plan_of s)) its2 ∙ writes in
        let goes : Goes (sights s) here.core next e = record { sight = sight_of b; there = ap seen passing.binding_is; cores = route.cores; joint = joint; place = suc j; near = o.far; far = more } in
        let apart : reader way (suc j) ≢ reader way j = readers_differ way (suc j) j once two near (λ q. absurd (omega arith)) in
        let left : reads t (reader way j) ≡ drop 1 (reads s (reader way j)) =
        take_reads u t here.ring (reader way j) took (mine_put (reader way j) ∙ mine)
        ∙ ap (drop 1) (put_apart s u on l (reader way (suc j)) (reader way j) put linked theirs (λ q. apart (sym q))) in
        let came : reads t (reader way (suc j)) ≡ reads s (reader way (suc j)) ++ l ∷ [] =
        take_apart u t here.ring (reader way j) (reader way (suc j)) took linked_put (mine_put (reader way j) ∙ mine) apart ∙ put_reads s u on l (reader way (suc j)) put linked theirs in
        moved_good s t e (suc j) p.number b c moved
        (take_suits (Suits (sights s)) u t here.ring took
        (put_suits s u on l put linked (λ x q. subst (λ z. Suits (sights s) z l) (linked.one (core_to next here.core) x (turned on) writes q) goes) good.reads))
        (λ x f d.
        take_others u t here.ring first f took there (ap (number_of f) passing.label_is ∙ number_other f e p.number d) x
        ∙ put_others s u on l f put linked (number_other f e p.number d) x)
        (subst (Each (IsOf e)) (sym queues_same) (own_each e _ (good.queues (peer e))))
        (joints t (over_passes (reads s) (reads t) (sights s) (sights t) e route.cores (end_in e.side b).out.passed (suc j) p.number (record {
          long = long;
          within = omega arith;
          number = number;
          leaves = λ m q a.
              let same : j ≡ m = omega arith in
              subst (λ n. picked e (reads s (reader way n)) ≡ p.number ∷ picked e (reads t (reader way n))) same
              (picked_first e (reads s (reader way j)) p.number stands ∙ ap (λ ls. p.number ∷ picked e ls) (sym left));
          leaves_last = λ q. absurd (omega arith);
          comes = λ a. ap (picked e) came ∙ picked_more e (reads s (reader way (suc j))) p.number;
          comes_last = λ q. absurd (omega arith);
          rest = λ m a f g.
              take_apart u t here.ring (reader way j) (reader way m) took linked_put (mine_put (reader way j) ∙ mine) (readers_differ way m j once a near (λ q. f (ap suc q)))
              ∙ put_apart s u on l (reader way (suc j)) (reader way m) put linked theirs (readers_differ way m (suc j) once a two g);
          rest_last = λ f g. queues_same;
        }))) good

  pub goes_good : (on : RingEnd) → IsGoingOn here p first route hop on s → GoodIn (goes_on_by here p on there_is_room s).state
  goes_good on g =
      let leads : LeadsOn way j o.core e (to_link g.link g.number) = subst (LeadsOn way j o.core e) g.way o.leads in
      let same : o.core ≡ g.core = (let q : Some o.core ≡ Some g.core = sym o.core_is ∙ g.core_is in cc) in
      let to : link_to leads.0 g.core ≡ Some g.link.0 = subst (λ (k : Core). link_to leads.0 k ≡ Some g.link.0) same leads.2 in
      let writer : ring_of (plan_of s) (core_to here.core leads.0) ≡ Some on =
      owner_planned s (core_to here.core leads.0) on (g.there, link_is s here.core leads.0 g.core g.link.0 g.there g.core_is to g.link_is, g.ring) in
      goes_by on leads.0 leads.1 (linked.back here.core leads.0 on writer)

  -- ---- to the other end's queue

  abbrev s1 : State
  s1 = change_end (peer e) (in_queue (joined_by l)) s

  abbrev b1 : Binding
  b1 = with_end_in (other e.side) (in_queue (joined_by l)) b

  abbrev s2 : State
  s2 = delivers l (peer e) s

  abbrev s3 : State
  s3 = change_ring here.ring.ring (takes here.ring.side) s2

  abbrev s4 : State
  s4 = change_out e (passes p.station) s3

  abbrev b4 : Binding
  b4 = with_end_in e.side passed_end b1

  ends4 : EndsWere s s4 e.binding b b4
  ends4 =
      ends_change s s3 e.binding b b1 e.side passed_end
      (ends_same s s1 s3 e.binding b b1 (channel_bindings (peer e) (λ c x. triggers c) s1)
      (ends_change s s e.binding b b (other e.side) (in_queue (joined_by l)) (ends_begin s e.binding b passing.binding_is)))

  sender : end_in e.side b4 ≡ passed_end (end_in e.side b)
  sender = end_own e.side passed_end b1 ∙ ap passed_end (end_else e.side (in_queue (joined_by l)) b)

  taker : end_in (other e.side) b4 ≡ in_queue (joined_by l) (end_in (other e.side) b)
  taker = end_back e.side passed_end b1 ∙ end_own (other e.side) (in_queue (joined_by l)) b

  moved4 : Moved s s4 e (suc j) b b4
  moved4 = record {
    was = passing.binding_is;
    now = ends4.now;
    joint = joint_kept e.side passed_end b1 ∙ joint_kept (other e.side) (in_queue (joined_by l)) b;
    passed = ap (λ (x : End). x.out.passed) sender ∙ passed_on (end_in e.side b);
    queue = ap queued sender;
    back = ap (λ (x : End). x.out.passed) taker ∙ ap (λ (x : Direction). x.passed) (queue_out (end_in (other e.side) b) (joined_by l));
    rest = λ m d. ap seen (ends4.rest m d);
  }

  off : TakenOff s s4 here.ring
  off = record {
    plan = plan_quiet s3 s4 (quiet_end e passed_end s3) ∙ plan_ring here.ring.ring (takes here.ring.side) s2
        ∙ plan_quiet s1 s2 (quiet_channel (peer e) (λ c x. triggers c) s1) ∙ plan_quiet s s1 (quiet_end (peer e) (in_queue (joined_by l)) s);
    rings = ap (changed_at here.ring.ring (takes here.ring.side)) (channel_rings (peer e) (λ c x. triggers c) s1);
  }

  arrives : length way ≡ suc (suc j) → GoodIn s4
  arrives last =
      let near : suc j < length way = far in
      let whole : length (end_in e.side b).out.passed ≡ length way + 1 = long in
      let has : IsSome (end_in (other e.side) b).queue = subst (λ (a : Back). HasQueue a (end_in (other e.side) b)) back (shaped.queue (other e.side)) in
      let now : queue_at (sights s4) (peer e) ≡ queue_at (sights s) (peer e) ++ l ∷ [] =
      queue_is s4 (peer e) b4 ends4.now ∙ ap queued taker ∙ joined_queue l (end_in (other e.side) b) has
      ∙ ap (λ ls. ls ++ l ∷ []) (sym (queue_is s (peer e) b passing.binding_is)) in
      let left : reads s4 (reader way j) ≡ drop 1 (reads s (reader way j)) = take_reads s s4 here.ring (reader way j) off mine in
      moved_good s s4 e (suc j) p.number b b4 moved4 (take_suits (Suits (sights s)) s s4 here.ring off good.reads)
      (λ x f d. take_others s s4 here.ring first f off passing.first_is (ap (number_of f) passing.label_is ∙ number_other f e p.number d) x)
      (subst (Each (IsOf e)) (sym now) (each_push (IsOf e) (queue_at (sights s) (peer e)) l (own_each e _ (good.queues (peer e))) (p.number, refl)))
      (joints s4 (over_passes (reads s) (reads s4) (sights s) (sights s4) e route.cores (end_in e.side b).out.passed (suc j) p.number (record {
        long = long;
        within = omega arith;
        number = number;
        leaves = λ m q a.
            let same : j ≡ m = omega arith in
            subst (λ n. picked e (reads s (reader way n)) ≡ p.number ∷ picked e (reads s4 (reader way n))) same
            (picked_first e (reads s (reader way j)) p.number stands ∙ ap (λ ls. p.number ∷ picked e ls) (sym left));
        leaves_last = λ q. absurd (omega arith);
        comes = λ a. absurd (omega arith);
        comes_last = λ q. ap (picked e) now ∙ picked_more e (queue_at (sights s) (peer e)) p.number;
        rest = λ m a f g. take_apart s s4 here.ring (reader way j) (reader way m) off linked mine (readers_differ way m j once a near (λ q. f (ap suc q)));
        rest_last = λ f g. absurd (g last);
      }))) good

  pub arrived_good : (to : EndId) → hop.way ≡ to_end to → GoodIn (arrives_by here p to there_is_room s).state
  arrived_good to q =
      let leads : LeadsOn way j o.core e (to_end to) = subst (LeadsOn way j o.core e) q o.leads in
      let is : peer e ≡ to = ap peer leads.1 ∙ twice to in
      subst (λ (h : EndId). GoodIn (change_out e (passes p.station) (change_ring here.ring.ring (takes here.ring.side) (delivers l h s)))) is (arrives leads.0)
