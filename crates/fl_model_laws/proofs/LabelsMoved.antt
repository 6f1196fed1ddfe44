-- A call's fragment is written, goes on over a link, arrives, or is taken: labels stay on their ways, and in order.
use Rattle.std.proofs.Common.{◌≡◌, ◌≢◌, refl, sym, ◌∙◌, ap, subst, ℕ, suc, ◌+◌, ◌<◌, ◌≤◌, Bool, true, List, [], ◌∷◌, length, slice_get, Some, None, inl, inr, if◌then◌else◌}
use Rattle.std.specs.Prelude.{slice_index, IsSome, IsNone}
use Rattle.fl_base.specs.declared.identity.EndId.{EndId}
use Rattle.fl_base.specs.declared.identity.Side.{Side}
use Rattle.fl_base.specs.Ends.{peer}
use Rattle.fl_model.specs.Given.{changed_at}
use Rattle.fl_model.specs.Calls.{Planned}
use Rattle.fl_model.specs.Rings.{Label, RingLabel, RingEnd, there_is_room}
use Rattle.fl_model.specs.Ends.{Direction, End, Taken, whole, a_part, is_busy, passes, goes_on, accepts_waiting, writes, writes_by, replies, rule_at}
use Rattle.fl_model.specs.State.{Back, local, over_ring, over_route, Route, Binding, State, first_on, end_in, change_end, with_end_in}
use Rattle.fl_model.specs.Standing.{picked, number_of}
use Rattle.fl_model.specs.SoundPlaces.{Owner, stations}
use Rattle.fl_model.specs.SoundLabels.{IsOf}
use Rattle.fl_model_laws.proofs.Cases.{Each, each_push, either, by_given}
use Rattle.fl_model_laws.proofs.Flows.{first_passes, Follows}
use Rattle.fl_model_laws.proofs.Places.{Linked, ring_of, turned, changed_other}
use Rattle.fl_model_laws.proofs.PlacesStep.{plan_of}
use Rattle.fl_model_laws.proofs.Scenes.{joint_of, seen, sights, reads, Suits, before, Flow, sight_of}
use Rattle.fl_model_laws.proofs.ScenesKept.{twice, picked_same, picked_without}
use Rattle.fl_model_laws.proofs.ReadsKept.{PutOn, TakenOff, put_cases, take_cases, put_leaves, take_leaves, first_read}
use Rattle.fl_model_laws.proofs.LabelsQuiet.{GoodIn}
use Rattle.fl_model_laws.proofs.Ways.{Once}
use Rattle.fl_model.specs.Events.{nothing}
use Rattle.fl_value_data.specs.Value.{TheCall}
use Rattle.fl_model_laws.proofs.ScenesSaid.{flow_at}
use Rattle.fl_model_laws.proofs.Small.{each_drop, changed_here}

-- ---- a binding's ends change

pub record EndsWere (s t : State) (n : ℕ) (b c : Binding) : Type 0 where
  pub was : slice_get s.bindings n ≡ Some b
  pub now : slice_get t.bindings n ≡ Some c
  pub rest : (m : ℕ) → m ≢ n → slice_get t.bindings m ≡ slice_get s.bindings m

pub ends_begin : (s : State) (n : ℕ) (b : Binding) → slice_get s.bindings n ≡ Some b → EndsWere s s n b b
ends_begin s n b q = record { was = q; now = q; rest = λ m d. refl }

pub ends_change : (s t : State) (n : ℕ) (b c : Binding) (side : Side) (f : End → End) → EndsWere s t n b c
    → EndsWere s (change_end (record { binding = n; side = side }) f t) n b (with_end_in side f c)
ends_change s t n b c side f k = record {
  was = k.was;
  now = changed_here t.bindings n (with_end_in side f) c k.now;
  rest = λ m d. changed_other t.bindings n m (with_end_in side f) d ∙ k.rest m d;
}

pub ends_same : (s t u : State) (n : ℕ) (b c : Binding) → u.bindings ≡ t.bindings → EndsWere s t n b c → EndsWere s u n b c
ends_same s t u n b c e k = record {
  was = k.was;
  now = ap (λ (bs : List Binding). slice_get bs n) e ∙ k.now;
  rest = λ m d. ap (λ (bs : List Binding). slice_get bs m) e ∙ k.rest m d;
}

-- ---- what an end's calls leave

pub goes_on_passed : (i : Planned) (d : Direction) → (goes_on i d).passed ≡ d.passed
goes_on_passed i d = either (λ (x : Direction). x.passed ≡ d.passed) (is_busy i d) d (accepts_waiting d.waiting d) (λ q. refl) (λ q. by d.waiting)
  where
    by : (cs : List TheCall) → (accepts_waiting cs d).passed ≡ d.passed
    by [] = refl
    by (c ∷ cs) = refl

pub writes_passed : (i : Planned) (d : Direction) → is_busy i d ≡ true → (writes i d there_is_room).direction.passed ≡ changed_at 0 (λ n. n + 1) d.passed
writes_passed i d q =
    ap (λ (b : Bool). (if b then writes_by i d there_is_room else record { direction = d; answer = nothing }).direction.passed) q
    ∙ goes_on_passed i (passes 0 d)

pub replies_passed : (i : Planned) (t : Taken) (x : End) → (replies i t x).out.passed ≡ x.out.passed
replies_passed i a_part x = refl
replies_passed i (whole c) x =
    by_given (λ (y : End). y.out.passed ≡ x.out.passed) (rule_at x.rules c.msg) x _ refl
    (λ msg q. either (λ (d : Direction). d.passed ≡ x.out.passed) (is_busy i x.out) _ _ (λ u. refl) (λ u. refl))

-- ---- labels on rings

pub put_suits : (s t : State) (at : RingEnd) (l : Label) → PutOn s t at l → Linked (plan_of s) → ((x : Owner) → ring_of (plan_of s) x ≡ Some (turned at) → Suits (sights s) x l)
    → ((o : Owner) → Each (Suits (sights s) o) (reads s o)) → (o : Owner) → Each (Suits (sights s) o) (reads t o)
put_suits s t at l k linked suits h o = elim (put_cases s t at l o k linked) [
  | inl e ↦ subst (Each (Suits (sights s) o)) (sym e) (h o)
  | inr (q, e) ↦ subst (Each (Suits (sights s) o)) (sym e) (each_push (Suits (sights s) o) (reads s o) l (h o) (suits o q))
]

pub put_others : (s t : State) (at : RingEnd) (l : Label) (f : EndId) → PutOn s t at l → Linked (plan_of s) → number_of f l ≡ None → (o : Owner)
    → picked f (reads t o) ≡ picked f (reads s o)
put_others s t at l f k linked none o = elim (put_cases s t at l o k linked) [
  | inl q ↦ ap (picked f) q
  | inr (r, q) ↦ ap (picked f) q ∙ picked_same f (reads s o) l none
]

pub take_suits : (P : Owner → Label → Type 0) (s t : State) (at : RingEnd) → TakenOff s t at → ((o : Owner) → Each (P o) (reads s o)) → (o : Owner) → Each (P o) (reads t o)
take_suits P s t at k h o = elim (take_cases s t at o k) [
  | inl e ↦ subst (Each (P o)) (sym e) (h o)
  | inr (q, e) ↦ subst (Each (P o)) (sym e) (each_drop (P o) (reads s o) (h o))
]

pub take_others : (s t : State) (at : RingEnd) (first : RingLabel) (f : EndId) → TakenOff s t at → first_on at s ≡ Some first → number_of f first.label ≡ None → (o : Owner)
    → picked f (reads t o) ≡ picked f (reads s o)
take_others s t at first f k there none o = elim (take_cases s t at o k) [
  | inl q ↦ ap (picked f) q
  | inr (r, q) ↦ ap (picked f) q ∙ picked_without f (reads s o) first.label (first_read s at o first r there) none
]

-- a label put by one owner of a ring comes before the owner of its other side alone
pub put_apart : (s t : State) (at : RingEnd) (l : Label) (o x : Owner) → PutOn s t at l → Linked (plan_of s) → ring_of (plan_of s) o ≡ Some (turned at) → x ≢ o
    → reads t x ≡ reads s x
put_apart s t at l o x k linked q d = put_leaves s t at l x k (λ e. d (linked.one x o (turned at) e q))

pub take_apart : (s t : State) (at : RingEnd) (o x : Owner) → TakenOff s t at → Linked (plan_of s) → ring_of (plan_of s) o ≡ Some at → x ≢ o
    → reads t x ≡ reads s x
take_apart s t at o x k linked q d = take_leaves s t at x k (λ e. d (linked.one x o at e q))

-- ---- queues

pub own_each : (e : EndId) (ls : List Label) → Each (IsOf (peer (peer e))) ls → Each (IsOf e) ls
own_each e ls h = subst (λ (g : EndId). Each (IsOf g) ls) (twice e) h

-- ---- what is known of a binding

abbrev pub HasQueue : Back → End → Type 0
HasQueue local x = IsSome x.queue
HasQueue (over_ring n) x = IsNone x.queue
HasQueue (over_route route) x = IsSome x.queue

pub record IsShaped (b : Binding) : Type 0 where
  pub passed : (side : Side) → length (end_in side b).out.passed ≡ stations b.back
  pub queue : (side : Side) → HasQueue b.back (end_in side b)
  pub way : (route : Route) → b.back ≡ over_route route → Once route.cores × (2 ≤ length route.cores)

-- the number of the first fragment that stands before a station is that of those that have passed it
pub number_passes : (s : State) (e : EndId) (b : Binding) (j k : ℕ) (ks : List ℕ) → GoodIn s → slice_get s.bindings e.binding ≡ Some b
    → suc j < length (end_in e.side b).out.passed → picked e (before (reads s) (sights s) e (joint_of b.back) (suc j)) ≡ k ∷ ks
    → (k ≡ slice_index (end_in e.side b).out.passed (suc j)) × (slice_index (end_in e.side b).out.passed (suc j) < slice_index (end_in e.side b).out.passed j)
number_passes s e b j k ks good was a q =
    first_passes (λ i. picked e (before (reads s) (sights s) e (joint_of b.back) i)) (end_in e.side b).out.passed j k ks
    (subst (Follows (λ i. picked e (before (reads s) (sights s) e (joint_of b.back) i)))
    (ap (λ (f : Flow). f.passed) (flow_at e.side b))
    (good.follows e (sight_of b) (ap seen was))) a q
