-- An end takes a fragment: labels stay on their ways, and in order.
use Rattle.std.proofs.Common.{◌≡◌, refl, sym, ◌∙◌, ap, subst, ℕ, suc, ◌+◌, ◌-◌, ◌≤◌, List, [], ◌∷◌, length, drop, slice_get, Option, Some, None, arith}
use Rattle.std.specs.Prelude.{slice_index, IsSome, IsNone, is_some}
use Rattle.fl_base.specs.declared.identity.EndId.{EndId}
use Rattle.fl_base.specs.declared.identity.Side.{Side}
use Rattle.fl_base.specs.declared.identity.Side.TheVariants.{Client, Server}
use Rattle.fl_base.specs.Ends.{other, peer}
use Rattle.fl_base.specs.Given.{given}
use Rattle.fl_model.specs.Events.{DispatcherId}
use Rattle.fl_model.specs.Calls.{Planned}
use Rattle.fl_model.specs.Rings.{Label, next_of, says, acknowledges, RingLabel, RingEnd, takes}
use Rattle.fl_model.specs.Ends.{Queue, Direction, End, Taken, without_first, takes_one, last_station, comes_to, replies}
use Rattle.fl_model.specs.Waits.{Dispatcher}
use Rattle.fl_model.specs.State.{Back, local, over_ring, over_route, Binding, State, StepOutcome, first_on, own_ring, end_in, end_of, in_queue, with_end_in, change_end, change_out, change_ring, change_dispatcher}
use Rattle.fl_model.specs.Taking.{takes_label}
use Rattle.fl_model.specs.Standing.{picked, number_of}
use Rattle.fl_model.specs.SoundPlaces.{Owner, this_end, stations}
use Rattle.fl_model.specs.SoundLabels.{IsOf, MayStandFrom}
use Rattle.fl_model_laws.proofs.Cases.{Each}
use Rattle.fl_model_laws.proofs.EndsStep.{queue_out}
use Rattle.fl_model_laws.proofs.Flows.{Passes}
use Rattle.fl_model_laws.proofs.LabelsMoved.{EndsWere, ends_begin, ends_change, ends_same, replies_passed, take_suits, take_others, own_each, HasQueue, IsShaped, number_passes}
use Rattle.fl_model_laws.proofs.LabelsPass.{Moved, moved_good, queue_is, end_own, end_back, end_else, joint_kept, emptied_queue, over_passes, take_passes, before_last, reader}
use Rattle.fl_model_laws.proofs.LabelsQuiet.{GoodIn, quiet, quiet_at_dispatcher, quiet_take, no_call_told}
use Rattle.fl_model_laws.proofs.Places.{Linked, ring_of}
use Rattle.fl_model_laws.proofs.PlacesStep.{plan_of, plan_ring, plan_quiet, owner_planned, own_back}
use Rattle.fl_model_laws.proofs.Quiet.{quiet_end}
use Rattle.fl_model_laws.proofs.ReadsKept.{TakenOff, take_reads, first_read}
use Rattle.fl_model_laws.proofs.Scenes.{by_queue, by_one_ring, over, joint_of, queued, seen, sights, reads, labels_at, way_on, Suits, queue_at, before}
use Rattle.fl_model_laws.proofs.ScenesKept.{twice, number_other, picked_first}
use Rattle.fl_model_laws.proofs.Ways.{way_long}
use Rattle.fl_model_laws.proofs.Small.{each_drop, replies_queue}

abbrev taken_end : End → End
taken_end x = record x { out = takes_one x.out }

dispatcher_plan : (d : DispatcherId) (f : Dispatcher → Dispatcher) (s : State) → plan_of (change_dispatcher d f s) ≡ plan_of s
dispatcher_plan d f s = (quiet_at_dispatcher d f s).plan

-- end e's fragment is taken by the other end
module _ (s : State) (e : EndId) (b : Binding) (i : Planned) (k : ℕ) (d : DispatcherId) (f : Dispatcher → Dispatcher) (taken : Taken)
    (was : slice_get s.bindings e.binding ≡ Some b) (shaped : IsShaped b) (linked : Linked (plan_of s)) (good : GoodIn s) where
  abbrev n : ℕ
  n = last_station (end_in e.side b).out

  -- ---- from a queue

  abbrev s1 : State
  s1 = change_end (peer e) (in_queue without_first) s

  abbrev b1 : Binding
  b1 = with_end_in (other e.side) (in_queue without_first) b

  abbrev s2 : State
  s2 = change_dispatcher d f s1

  abbrev s3 : State
  s3 = change_end e taken_end s2

  abbrev b3 : Binding
  b3 = with_end_in e.side taken_end b1

  abbrev s4 : State
  s4 = change_end (peer e) (replies i taken) s3

  abbrev b4 : Binding
  b4 = with_end_in (other e.side) (replies i taken) b3

  ends4 : EndsWere s s4 e.binding b b4
  ends4 =
      ends_change s s3 e.binding b b3 (other e.side) (replies i taken)
      (ends_change s s2 e.binding b b1 e.side taken_end
      (ends_same s s1 s2 e.binding b b1 refl (ends_change s s e.binding b b (other e.side) (in_queue without_first) (ends_begin s e.binding b was))))

  sender : end_in e.side b4 ≡ taken_end (end_in e.side b)
  sender = end_else e.side (replies i taken) b3 ∙ end_own e.side taken_end b1 ∙ ap taken_end (end_else e.side (in_queue without_first) b)

  taker : end_in (other e.side) b4 ≡ replies i taken (in_queue without_first (end_in (other e.side) b))
  taker =
      end_own (other e.side) (replies i taken) b3 ∙ ap (replies i taken) (end_back e.side taken_end b1 ∙ end_own (other e.side) (in_queue without_first) b)

  moved4 : Moved s s4 e n b b4
  moved4 = record {
    was = was;
    now = ends4.now;
    joint = joint_kept (other e.side) (replies i taken) b3 ∙ joint_kept e.side taken_end b1 ∙ joint_kept (other e.side) (in_queue without_first) b;
    passed = ap (λ (x : End). x.out.passed) sender;
    queue = ap queued sender;
    back = ap (λ (x : End). x.out.passed) taker ∙ replies_passed i taken (in_queue without_first (end_in (other e.side) b))
        ∙ ap (λ (x : Direction). x.passed) (queue_out (end_in (other e.side) b) without_first);
    rest = λ m u. ap seen (ends4.rest m u);
  }

  same_reads : (o : Owner) → reads s4 o ≡ reads s o
  same_reads o =
      ap (λ p. given (ring_of p o) [] (labels_at s.rings))
      (plan_quiet s3 s4 (quiet_end (peer e) (replies i taken) s3) ∙ plan_quiet s2 s3 (quiet_end e taken_end s2) ∙ dispatcher_plan d f s1
      ∙ plan_quiet s s1 (quiet_end (peer e) (in_queue without_first) s))

  queue_now : queue_at (sights s4) (peer e) ≡ drop 1 (queue_at (sights s) (peer e))
  queue_now =
      queue_is s4 (peer e) b4 ends4.now ∙ ap queued taker
      ∙ ap (λ (o : Option Queue). given o [] (λ q. q.labels)) (replies_queue i taken (in_queue without_first (end_in (other e.side) b)))
      ∙ emptied_queue (end_in (other e.side) b) ∙ ap (drop 1) (sym (queue_is s (peer e) b was))

  by_back : (back : Back) → b.back ≡ back → IsSome (end_in (other e.side) b).queue → slice_get (queue_at (sights s) (peer e)) 0 ≡ Some (next_of e k)
      → Passes (λ j. picked e (before (reads s) (sights s) e (joint_of b.back) j)) (λ j. picked e (before (reads s4) (sights s4) e (joint_of b.back) j)) (end_in e.side b).out.passed n k
  by_back (over_ring m) q has first =
      let none : IsNone (end_in (other e.side) b).queue = subst (λ (a : Back). HasQueue a (end_in (other e.side) b)) q (shaped.queue (other e.side)) in
      absurd (no_both (end_in (other e.side) b).queue has none)
    where
      no_both : (o : Option Queue) → IsSome o → IsNone o → ⊥
      no_both None u v = absurd (cc)
      no_both (Some x) u v = absurd (cc)
  by_back local q has first =
      let joint : joint_of b.back ≡ by_queue = ap joint_of q in
      let long : length (end_in e.side b).out.passed ≡ 2 = shaped.passed e.side ∙ ap stations q in
      let one : length (end_in e.side b).out.passed - 1 ≡ 1 = omega arith in
      let leaves : picked e (queue_at (sights s) (peer e)) ≡ k ∷ picked e (queue_at (sights s4) (peer e)) =
      picked_first e (queue_at (sights s) (peer e)) k first ∙ ap (λ ls. k ∷ picked e ls) (sym queue_now) in
      let number = number_passes s e b 0 k _ good was (omega arith) (ap (λ j. picked e (before (reads s) (sights s) e j 1)) joint ∙ leaves) in
      subst (λ m. Passes (λ j. picked e (before (reads s) (sights s) e (joint_of b.back) j)) (λ j. picked e (before (reads s4) (sights s4) e (joint_of b.back) j)) (end_in e.side b).out.passed m k) (sym one)
      (subst (λ c. Passes (λ j. picked e (before (reads s) (sights s) e c j)) (λ j. picked e (before (reads s4) (sights s4) e c j)) (end_in e.side b).out.passed 1 k) (sym joint)
      (take_passes (λ j. picked e (before (reads s) (sights s) e by_queue j)) (λ j. picked e (before (reads s4) (sights s4) e by_queue j)) (end_in e.side b).out.passed k long number.0 leaves))
  by_back (over_route route) q has first =
      let way : List ℕ = way_on e.side route.cores in
      let joint : joint_of b.back ≡ over route.cores = ap joint_of q in
      let long : length (end_in e.side b).out.passed ≡ length route.cores + 1 = shaped.passed e.side ∙ ap stations q in
      let same : length way ≡ length route.cores = way_long e.side route.cores in
      let two : 2 ≤ length route.cores = (shaped.way route q).1 in
      let m : ℕ = length way - 1 in
      let last : suc (length way - 1) ≡ length way = omega arith in
      let place : length (end_in e.side b).out.passed - 1 ≡ length way = omega arith in
      let leaves : picked e (queue_at (sights s) (peer e)) ≡ k ∷ picked e (queue_at (sights s4) (peer e)) =
      picked_first e (queue_at (sights s) (peer e)) k first ∙ ap (λ ls. k ∷ picked e ls) (sym queue_now) in
      let number = number_passes s e b m k _ good was (omega arith)
      (ap (λ j. picked e (before (reads s) (sights s) e j (suc m))) joint ∙ ap (picked e) (before_last (reads s) (sights s) e route.cores (suc m) last) ∙ leaves) in
      subst (λ c. Passes (λ j. picked e (before (reads s) (sights s) e c j)) (λ j. picked e (before (reads s4) (sights s4) e c j)) (end_in e.side b).out.passed n k) (sym joint)
      (over_passes (reads s) (reads s4) (sights s) (sights s4) e route.cores (end_in e.side b).out.passed n k (record {
        long = omega arith;
        within = omega arith;
        number = number.0 ∙ ap (slice_index (end_in e.side b).out.passed) (last ∙ sym place);
        leaves = λ j u a. absurd (omega arith);
        leaves_last = λ u. leaves;
        comes = λ a. absurd (omega arith);
        comes_last = λ u. absurd (omega arith);
        rest = λ j a u v. same_reads (reader way j);
        rest_last = λ u v. absurd (u (sym place));
      }))

  pub from_queue : IsSome (end_in (other e.side) b).queue → slice_get (queue_at (sights s) (peer e)) 0 ≡ Some (next_of e k) → GoodIn s4
  from_queue has first =
      moved_good s s4 e n k b b4 moved4 (λ o. subst (Each (Suits (sights s) o)) (sym (same_reads o)) (good.reads o)) (λ o g u. ap (picked g) (same_reads o))
      (subst (Each (IsOf e)) (sym queue_now) (each_drop (IsOf e) (queue_at (sights s) (peer e)) (own_each e _ (good.queues (peer e)))))
      (by_back b.back refl has first) good

  -- ---- from a ring

  module _ (at : RingEnd) (first : RingLabel) where
    abbrev t1 : State
    t1 = change_ring at.ring (takes at.side) s

    abbrev t2 : State
    t2 = change_dispatcher d f t1

    abbrev t3 : State
    t3 = change_end e taken_end t2

    abbrev c3 : Binding
    c3 = with_end_in e.side taken_end b

    abbrev t4 : State
    t4 = change_end (peer e) (replies i taken) t3

    abbrev c4 : Binding
    c4 = with_end_in (other e.side) (replies i taken) c3

    tends4 : EndsWere s t4 e.binding b c4
    tends4 =
        ends_change s t3 e.binding b c3 (other e.side) (replies i taken)
        (ends_change s t2 e.binding b b e.side taken_end (record { was = was; now = was; rest = λ m u. refl }))

    tsender : end_in e.side c4 ≡ taken_end (end_in e.side b)
    tsender = end_else e.side (replies i taken) c3 ∙ end_own e.side taken_end b

    ttaker : end_in (other e.side) c4 ≡ replies i taken (end_in (other e.side) b)
    ttaker = end_own (other e.side) (replies i taken) c3 ∙ ap (replies i taken) (end_back e.side taken_end b)

    tmoved : Moved s t4 e n b c4
    tmoved = record {
      was = was;
      now = tends4.now;
      joint = joint_kept (other e.side) (replies i taken) c3 ∙ joint_kept e.side taken_end b;
      passed = ap (λ (x : End). x.out.passed) tsender;
      queue = ap queued tsender;
      back = ap (λ (x : End). x.out.passed) ttaker ∙ replies_passed i taken (end_in (other e.side) b);
      rest = λ m u. ap seen (tends4.rest m u);
    }

    off : TakenOff s t4 at
    off = record {
      plan = plan_quiet t3 t4 (quiet_end (peer e) (replies i taken) t3) ∙ plan_quiet t2 t3 (quiet_end e taken_end t2) ∙ dispatcher_plan d f t1 ∙ plan_ring at.ring (takes at.side) s;
      rings = refl;
    }

    tqueue : queue_at (sights t4) (peer e) ≡ queue_at (sights s) (peer e)
    tqueue =
        queue_is t4 (peer e) c4 tends4.now ∙ ap queued ttaker
        ∙ ap (λ (o : Option Queue). given o [] (λ q. q.labels)) (replies_queue i taken (end_in (other e.side) b)) ∙ sym (queue_is s (peer e) b was)

    pub from_ring : (m : ℕ) → b.back ≡ over_ring m → ring_of (plan_of s) (this_end (peer e)) ≡ Some at → first_on at s ≡ Some first → first.label ≡ next_of e k → GoodIn t4
    from_ring m q own there l =
        let joint : joint_of b.back ≡ by_one_ring = ap joint_of q in
        let long : length (end_in e.side b).out.passed ≡ 2 = shaped.passed e.side ∙ ap stations q in
        let one : length (end_in e.side b).out.passed - 1 ≡ 1 = omega arith in
        let stands : slice_get (reads s (this_end (peer e))) 0 ≡ Some (next_of e k) = first_read s at (this_end (peer e)) first own there ∙ ap (λ x. Some x) l in
        let leaves : picked e (reads s (this_end (peer e))) ≡ k ∷ picked e (reads t4 (this_end (peer e))) =
        picked_first e (reads s (this_end (peer e))) k stands ∙ ap (λ ls. k ∷ picked e ls) (sym (take_reads s t4 at (this_end (peer e)) off own)) in
        let number = number_passes s e b 0 k _ good was (omega arith) (ap (λ j. picked e (before (reads s) (sights s) e j 1)) joint ∙ leaves) in
        moved_good s t4 e n k b c4 tmoved (take_suits (Suits (sights s)) s t4 at off good.reads)
        (λ o g u. take_others s t4 at first g off there (ap (number_of g) l ∙ number_other g e k u) o)
        (subst (Each (IsOf e)) (sym tqueue) (own_each e _ (good.queues (peer e))))
        (subst (λ z. Passes (λ j. picked e (before (reads s) (sights s) e (joint_of b.back) j)) (λ j. picked e (before (reads t4) (sights t4) e (joint_of b.back) j)) (end_in e.side b).out.passed z k) (sym one)
        (subst (λ c. Passes (λ j. picked e (before (reads s) (sights s) e c j)) (λ j. picked e (before (reads t4) (sights t4) e c j)) (end_in e.side b).out.passed 1 k) (sym joint)
        (take_passes (λ j. picked e (before (reads s) (sights s) e by_one_ring j)) (λ j. picked e (before (reads t4) (sights t4) e by_one_ring j)) (end_in e.side b).out.passed k long number.0 leaves))) good

-- ---- by what stands first

given_is : {X Y : Type 0} (P : Y → Type 0) (o : Option X) (x : X) (y : Y) (f : X → Y) → o ≡ Some x → P (f x) → P (given o y f)
given_is P o x y f q h = subst (λ p. P (given p y f)) (sym q) h

twice_side : (x : Side) → other (other x) ≡ x
twice_side Client = refl
twice_side Server = refl

end_is : (s : State) (e : EndId) (b : Binding) → slice_get s.bindings e.binding ≡ Some b → end_of s e ≡ Some (end_in e.side b)
end_is s e b q = ap (λ (o : Option Binding). given o None (λ x. Some (end_in e.side x))) q

module _ (s : State) (g : EndId) (b : Binding) (i : Planned) (d : DispatcherId) (f : Dispatcher → Dispatcher)
    (was : slice_get s.bindings g.binding ≡ Some b) (shaped : IsShaped b) (linked : Linked (plan_of s)) (good : GoodIn s) where
  pub queue_good : (q : Queue) (label : Label) → (end_in g.side b).queue ≡ Some q → slice_get q.labels 0 ≡ Some label
      → GoodIn (takes_label g i label (change_dispatcher d f (change_end g (in_queue without_first) s))).state
  queue_good q label has first =
      let u : State = change_dispatcher d f (change_end g (in_queue without_first) s) in
      let is : queue_at (sights s) g ≡ q.labels = queue_is s g b was ∙ ap (λ (o : Option Queue). given o [] (λ w. w.labels)) has in
      let there : slice_get (queue_at (sights s) g) 0 ≡ Some label = ap (λ ls. slice_get ls 0) is ∙ first in
      let of_peer : IsOf (peer g) label = good.queues g 0 label there in
      let k : ℕ = of_peer.0 in
      let sender : EndId = peer g in
      let b1 : Binding = with_end_in g.side (in_queue without_first) b in
      let ends : EndsWere s (change_end g (in_queue without_first) s) g.binding b b1 = ends_change s s g.binding b b g.side (in_queue without_first) (ends_begin s g.binding b was) in
      let some : IsSome (end_in (other sender.side) b).queue =
      subst (λ (x : Side). IsSome (end_in x b).queue) (sym (twice_side g.side)) (ap is_some has) in
      let stands : slice_get (queue_at (sights s) (peer sender)) 0 ≡ Some (next_of sender k) =
      ap (λ (x : EndId). slice_get (queue_at (sights s) x) 0) (twice g) ∙ there ∙ ap (λ l. Some l) of_peer.1 in
      subst (λ l. GoodIn (takes_label g i l u).state) (sym of_peer.1)
      (given_is (λ (o : StepOutcome). GoodIn o.state) (end_of u sender) (end_in sender.side b1) _ _ (end_is u sender b1 ends.now)
      (subst (λ (h : EndId). GoodIn (change_end h (replies i (comes_to i (end_in sender.side b1).out)) (change_out sender takes_one (change_dispatcher d f (change_end h (in_queue without_first) s)))))
      (twice g) (from_queue s sender b i k d f (comes_to i (end_in sender.side b1).out) was shaped linked good some stands)))

  pub ring_good : (at : RingEnd) (first : RingLabel) (label : Label) → own_ring g.side b.back ≡ Some at → first_on at s ≡ Some first → first.label ≡ label
      → GoodIn (takes_label g i label (change_dispatcher d f (change_ring at.ring (takes at.side) s))).state
  ring_good at first label own there l = by label l suits
    where
      u : State
      u = change_dispatcher d f (change_ring at.ring (takes at.side) s)

      mine : ring_of (plan_of s) (this_end g) ≡ Some at
      mine = owner_planned s (this_end g) at (b, was, own)

      suits : MayStandFrom (peer g) label
      suits = subst (MayStandFrom (peer g)) l (good.reads (this_end g) 0 first.label (first_read s at (this_end g) first mine there))

      by : (x : Label) → first.label ≡ x → MayStandFrom (peer g) x → GoodIn (takes_label g i x (change_dispatcher d f (change_ring at.ring (takes at.side) s))).state
      by (says m) q h = absurd h
      by acknowledges q h =
          let t : State = change_ring at.ring (takes at.side) s in
          quiet t (change_dispatcher d f t) (quiet_at_dispatcher d f t)
          (quiet_take s t at first (record { plan = plan_ring at.ring (takes at.side) s; rings = refl }) (λ m. refl) there
          (no_call_told first.label q) good)
      by (next_of w k) q h =
          let v : State = change_dispatcher d f (change_ring at.ring (takes at.side) s) in
          let mine2 : ring_of (plan_of s) (this_end (peer (peer g))) ≡ Some at = ap (λ (x : EndId). ring_of (plan_of s) (this_end x)) (twice g) ∙ mine in
          subst (λ (y : EndId). GoodIn (takes_label g i (next_of y k) v).state) (sym h)
          (given_is (λ (o : StepOutcome). GoodIn o.state) (end_of v (peer g)) (end_in (other g.side) b) _ _ (end_is v (peer g) b was)
          (subst (λ (z : EndId). GoodIn (change_end z (replies i (comes_to i (end_in (other g.side) b).out)) (change_out (peer g) takes_one v)))
          (twice g) (from_ring s (peer g) b i k d f (comes_to i (end_in (other g.side) b).out) was shaped linked good at first at.ring (own_back g.side b.back at own) mine2 there
          (q ∙ ap (λ (x : EndId). next_of x k) h))))
