-- A fragment is written: labels stay on their ways, and in order.
use Rattle.std.proofs.Common.{◌≡◌, refl, sym, ◌∙◌, ap, subst, ℕ, ◌+◌, ◌<◌, true, List, [], ◌∷◌, ◌++◌, length, slice_get, Some, arith}
use Rattle.std.specs.Prelude.{slice_index, IsSome}
use Rattle.fl_base.specs.declared.identity.EndId.{EndId}
use Rattle.fl_base.specs.declared.identity.Side.{Side}
use Rattle.fl_base.specs.declared.identity.Side.TheVariants.{Client, Server}
use Rattle.fl_base.specs.Ends.{other, peer}
use Rattle.fl_base.specs.Given.{given}
use Rattle.fl_model.specs.Given.{changed_at}
use Rattle.fl_model.specs.Calls.{Planned}
use Rattle.fl_model.specs.Rings.{Label, next_of, RingEnd, there_is_room, puts}
use Rattle.fl_model.specs.Ends.{Direction, End, is_busy, joined_by, writes, written_of}
use Rattle.fl_model.specs.Monitors.{Link}
use Rattle.fl_model.specs.State.{Back, local, over_ring, over_route, Route, Binding, State, Outlet, peer_queue, ring_side, outlet_by, side_of, first_link, link_between, own_ring, end_in, in_queue, with_end_in, change_end, change_ring, delivers, way_of}
use Rattle.fl_model.specs.Sending.{writes_to}
use Rattle.fl_model.specs.Standing.{picked}
use Rattle.fl_model.specs.SoundPlaces.{Owner, core_to, this_end, stations, opposite}
use Rattle.fl_model.specs.SoundLabels.{IsOf}
use Rattle.fl_model_laws.proofs.BindingWalk.{given_there}
use Rattle.fl_model_laws.proofs.Cases.{Each, each_push}
use Rattle.fl_model_laws.proofs.EndsStep.{queue_out}
use Rattle.fl_model_laws.proofs.Flows.{Passes}
use Rattle.fl_model_laws.proofs.LabelsMoved.{EndsWere, ends_begin, ends_change, writes_passed, put_suits, put_others, put_apart, own_each, HasQueue, IsShaped}
use Rattle.fl_model_laws.proofs.LabelsPass.{Moved, moved_good, queue_is, end_own, end_back, end_else, joint_kept, joined_queue, over_passes, write_passes, reader, readers_differ}
use Rattle.fl_model_laws.proofs.LabelsQuiet.{GoodIn, quiet, quiet_at_channel}
use Rattle.fl_model_laws.proofs.Places.{Linked, ring_of, turned}
use Rattle.fl_model_laws.proofs.PlacesStep.{plan_of, plan_ring, plan_quiet, owner_planned}
use Rattle.fl_model_laws.proofs.Quiet.{quiet_end}
use Rattle.fl_model_laws.proofs.ReadsKept.{PutOn, put_reads}
use Rattle.fl_model_laws.proofs.Scenes.{by_queue, by_one_ring, over, joint_of, queued, seen, sights, reads, labels_at, way_on, Goes, Suits, queue_at, before, sight_of}
use Rattle.fl_model_laws.proofs.ScenesKept.{twice, number_other, picked_more}
use Rattle.fl_model_laws.proofs.ScenesSaid.{way_at}
use Rattle.fl_model_laws.proofs.Ways.{Once, once_on, way_long, got_index, got_within}

abbrev written_end : Planned → End → End
written_end i x = record x { out = (writes i x.out there_is_room).direction }

module _ (s : State) (e : EndId) (b : Binding) (i : Planned) (was : slice_get s.bindings e.binding ≡ Some b) (busy : is_busy i (end_in e.side b).out ≡ true)
    (shaped : IsShaped b) (linked : Linked (plan_of s)) (good : GoodIn s) where
  abbrev k : ℕ
  k = written_of (end_in e.side b).out

  abbrev l : Label
  l = next_of e k

  -- the end's own part
  abbrev s1 : State
  s1 = change_end e (written_end i) s

  abbrev b1 : Binding
  b1 = with_end_in e.side (written_end i) b

  ends1 : EndsWere s s1 e.binding b b1
  ends1 = ends_change s s e.binding b b e.side (written_end i) (ends_begin s e.binding b was)

  passed1 : (end_in e.side b1).out.passed ≡ changed_at 0 (λ n. n + 1) (end_in e.side b).out.passed
  passed1 = ap (λ (x : End). x.out.passed) (end_own e.side (written_end i) b) ∙ writes_passed i (end_in e.side b).out busy

  -- ---- by queues

  abbrev s2 : State
  s2 = change_end (peer e) (in_queue (joined_by l)) s1

  abbrev b2 : Binding
  b2 = with_end_in (other e.side) (in_queue (joined_by l)) b1

  ends2 : EndsWere s s2 e.binding b b2
  ends2 = ends_change s s1 e.binding b b1 (other e.side) (in_queue (joined_by l)) ends1

  moved2 : Moved s s2 e 0 b b2
  moved2 = record {
    was = was;
    now = ends2.now;
    joint = joint_kept (other e.side) (in_queue (joined_by l)) b1 ∙ joint_kept e.side (written_end i) b;
    passed = ap (λ (x : End). x.out.passed) (end_else e.side (in_queue (joined_by l)) b1) ∙ passed1;
    queue = ap queued (end_else e.side (in_queue (joined_by l)) b1) ∙ ap queued (end_own e.side (written_end i) b);
    back = ap (λ (x : End). x.out.passed) (end_own (other e.side) (in_queue (joined_by l)) b1)
        ∙ ap (λ (d : Direction). d.passed) (queue_out (end_in (other e.side) b1) (joined_by l))
        ∙ ap (λ (x : End). x.out.passed) (end_back e.side (written_end i) b);
    rest = λ m d. ap seen (ends2.rest m d);
  }

  same_reads : (o : Owner) → reads s2 o ≡ reads s o
  same_reads o =
      ap (λ p. given (ring_of p o) [] (labels_at s.rings))
      (plan_quiet s1 s2 (quiet_end (peer e) (in_queue (joined_by l)) s1) ∙ plan_quiet s s1 (quiet_end e (written_end i) s))

  by_queues : b.back ≡ local → GoodIn (delivers l (peer e) s1)
  by_queues q =
      let has : IsSome (end_in (other e.side) b).queue = subst (λ (a : Back). HasQueue a (end_in (other e.side) b)) q (shaped.queue (other e.side)) in
      let peers : end_in (other e.side) b1 ≡ end_in (other e.side) b = end_back e.side (written_end i) b in
      let now : queue_at (sights s2) (peer e) ≡ queue_at (sights s) (peer e) ++ l ∷ [] =
      queue_is s2 (peer e) b2 ends2.now ∙ ap queued (end_own (other e.side) (in_queue (joined_by l)) b1)
      ∙ joined_queue l (end_in (other e.side) b1) (subst (λ (x : End). IsSome x.queue) (sym peers) has)
      ∙ ap (λ (x : End). queued x ++ l ∷ []) peers ∙ ap (λ ls. ls ++ l ∷ []) (sym (queue_is s (peer e) b was)) in
      let joint : joint_of b.back ≡ by_queue = ap joint_of q in
      let long : length (end_in e.side b).out.passed ≡ 2 = shaped.passed e.side ∙ ap stations q in
      quiet s2 (delivers l (peer e) s1) (quiet_at_channel (peer e) _ s2)
      (moved_good s s2 e 0 k b b2 moved2 (λ o. subst (Each (Suits (sights s) o)) (sym (same_reads o)) (good.reads o)) (λ o f d. ap (picked f) (same_reads o))
      (subst (Each (IsOf e)) (sym now) (each_push (IsOf e) (queue_at (sights s) (peer e)) l (own_each e _ (good.queues (peer e))) (k, refl)))
      (subst (λ j. Passes (λ n. picked e (before (reads s) (sights s) e j n)) (λ n. picked e (before (reads s2) (sights s2) e j n)) (end_in e.side b).out.passed 0 k) (sym joint)
      (write_passes (λ n. picked e (before (reads s) (sights s) e by_queue n)) (λ n. picked e (before (reads s2) (sights s2) e by_queue n)) (end_in e.side b).out.passed k long refl
      (ap (picked e) now ∙ picked_more e (queue_at (sights s) (peer e)) k))) good)

  -- ---- over a ring

  module _ (at : RingEnd) where
    abbrev t : State
    t = change_ring at.ring (puts at.side l) s1

    put : PutOn s t at l
    put = record { plan = plan_ring at.ring (puts at.side l) s1 ∙ plan_quiet s s1 (quiet_end e (written_end i) s); rings = refl }

    moved : Moved s t e 0 b b1
    moved = record {
      was = was;
      now = ends1.now;
      joint = joint_kept e.side (written_end i) b;
      passed = passed1;
      queue = ap queued (end_own e.side (written_end i) b);
      back = ap (λ (x : End). x.out.passed) (end_back e.side (written_end i) b);
      rest = λ m d. ap seen (ends1.rest m d);
    }

    queues_same : queue_at (sights t) (peer e) ≡ queue_at (sights s) (peer e)
    queues_same = queue_is t (peer e) b1 ends1.now ∙ ap queued (end_back e.side (written_end i) b) ∙ sym (queue_is s (peer e) b was)

    by_reader : (o : Owner) → ring_of (plan_of s) o ≡ Some (turned at) → Suits (sights s) o l
        → Passes (λ n. picked e (before (reads s) (sights s) e (joint_of b.back) n)) (λ n. picked e (before (reads t) (sights t) e (joint_of b.back) n)) (end_in e.side b).out.passed 0 k
        → GoodIn t
    by_reader o own suits passes =
        moved_good s t e 0 k b b1 moved
        (put_suits s t at l put linked (λ x q. subst (λ z. Suits (sights s) z l) (linked.one o x (turned at) own q) suits) good.reads)
        (λ x f d. put_others s t at l f put linked (number_other f e k d) x)
        (subst (Each (IsOf e)) (sym queues_same) (own_each e _ (good.queues (peer e)))) passes good

    on_own_ring : (n : ℕ) → b.back ≡ over_ring n → at ≡ record { ring = n; side = side_of e.side } → GoodIn t
    on_own_ring n q is =
        let own : ring_of (plan_of s) (this_end (peer e)) ≡ Some (turned at) =
        owner_planned s (this_end (peer e)) (turned at) (b, was, (ap (own_ring (other e.side)) q ∙ ap (λ z. Some z) (turned_side e.side n ∙ sym (ap turned is)))) in
        let joint : joint_of b.back ≡ by_one_ring = ap joint_of q in
        let long : length (end_in e.side b).out.passed ≡ 2 = shaped.passed e.side ∙ ap stations q in
        by_reader (this_end (peer e)) own (sym (twice e))
        (subst (λ j. Passes (λ m. picked e (before (reads s) (sights s) e j m)) (λ m. picked e (before (reads t) (sights t) e j m)) (end_in e.side b).out.passed 0 k) (sym joint)
        (write_passes (λ m. picked e (before (reads s) (sights s) e by_one_ring m)) (λ m. picked e (before (reads t) (sights t) e by_one_ring m)) (end_in e.side b).out.passed k long refl
        (ap (picked e) (put_reads s t at l (this_end (peer e)) put linked own) ∙ picked_more e (reads s (this_end (peer e))) k)))
      where
        turned_side : (side : Side) (m : ℕ) → (let r : RingEnd = record { ring = m; side = side_of (other side) } in r) ≡ record { ring = m; side = opposite (side_of side) }
        turned_side Client m = refl
        turned_side Server m = refl

    on_first_link : (route : Route) (x y : ℕ) (link : Link) → b.back ≡ over_route route → slice_get (way_of e.side route) 0 ≡ Some x
        → slice_get (way_of e.side route) 1 ≡ Some y → link_between s x y ≡ Some link → link.ring ≡ at → GoodIn t
    on_first_link route x y link q first second between is =
        let way : List ℕ = way_on e.side route.cores in
        let near : slice_get way 0 ≡ Some x = ap (λ w. slice_get w 0) (sym (way_at e.side route)) ∙ first in
        let far : slice_get way 1 ≡ Some y = ap (λ w. slice_get w 1) (sym (way_at e.side route)) ∙ second in
        let own : ring_of (plan_of s) (core_to y x) ≡ Some (turned at) = linked.back x y at (owner_planned s (core_to x y) at (link, between, is)) in
        let its : reader way 0 ≡ core_to y x = ap (λ n. core_to n (slice_index way 0)) (got_index way 1 y far) ∙ ap (core_to y) (got_index way 0 x near) in
        let there : ring_of (plan_of s) (reader way 0) ≡ Some (turned at) = ap (ring_of (plan_of s)) its ∙ own in
        let goes : Goes (sights s) x y e = record { sight = sight_of b; there = ap seen was; cores = route.cores; joint = ap joint_of q; place = 0; near = near; far = far } in
        let joint : joint_of b.back ≡ over route.cores = ap joint_of q in
        let long : length (end_in e.side b).out.passed ≡ length route.cores + 1 = shaped.passed e.side ∙ ap stations q in
        let same : length way ≡ length route.cores = way_long e.side route.cores in
        let once : Once way = once_on e.side route.cores (shaped.way route q).0 in
        let two : 1 < length way = got_within way 1 y far in
        by_reader (core_to y x) own goes
        (subst (λ j. Passes (λ m. picked e (before (reads s) (sights s) e j m)) (λ m. picked e (before (reads t) (sights t) e j m)) (end_in e.side b).out.passed 0 k) (sym joint)
        (over_passes (reads s) (reads t) (sights s) (sights t) e route.cores (end_in e.side b).out.passed 0 k (record {
          long = omega arith;
          within = omega arith;
          number = refl;
          leaves = λ j u. absurd (cc);
          leaves_last = λ u. absurd (omega arith);
          comes = λ a. ap (picked e) (put_reads s t at l (reader way 0) put linked there) ∙ picked_more e (reads s (reader way 0)) k;
          comes_last = λ u. absurd (omega arith);
          rest = λ j a u v. put_apart s t at l (reader way 0) (reader way j) put linked there (readers_differ way j 0 once a two v);
          rest_last = λ u v. queues_same;
        })))

  -- ---- by any outlet

  pub by_outlet : (back : Back) (o : Outlet) → b.back ≡ back → outlet_by s e.side back ≡ Some o → GoodIn (writes_to e i (end_in e.side b).out o there_is_room s).state
  by_outlet local peer_queue q h = by_queues q
  by_outlet local (ring_side at) q h = absurd (cc)
  by_outlet (over_ring n) peer_queue q h = absurd (cc)
  by_outlet (over_ring n) (ring_side at) q h =
      let is : ring_side (record { ring = n; side = side_of e.side }) ≡ ring_side at = (let u : Some (ring_side (record { ring = n; side = side_of e.side })) ≡ Some (ring_side at) = h in cc) in
      on_own_ring at n q (let v : record { ring = n; side = side_of e.side } ≡ at = cc in sym v)
  by_outlet (over_route route) peer_queue q h =
      let (link, there, is) = given_there (first_link s (way_of e.side route)) _ peer_queue h in
      absurd (let u : Some (ring_side link.ring) ≡ Some peer_queue = is in cc)
  by_outlet (over_route route) (ring_side at) q h =
      let (link, there, is) = given_there (first_link s (way_of e.side route)) _ (ring_side at) h in
      let (x, near, more) = given_there (slice_get (way_of e.side route) 0) _ link there in
      let (y, far, between) = given_there (slice_get (way_of e.side route) 1) _ link more in
      let same : link.ring ≡ at = (let u : Some (ring_side link.ring) ≡ Some (ring_side at) = is in cc) in
      on_first_link at route x y link q near far between same
