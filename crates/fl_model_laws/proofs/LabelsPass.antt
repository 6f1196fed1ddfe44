-- A fragment passes a station of its way: what stands before each station of its direction then.
use Rattle.std.proofs.Common.{◌≡◌, ◌≢◌, refl, sym, ◌∙◌, ap, subst, ℕ, suc, ◌+◌, ◌-◌, ◌<◌, ◌==◌, if◌then◌else◌, List, [], ◌∷◌, ◌++◌, length, drop, slice_get, Option, Some, None, arith, ◌⊎◌, inl, inr}
use Rattle.std.specs.Prelude.{slice_index, IsSome}
use Rattle.std.proofs.lemmas.Bool.{eq-eqb, ne_eqb}
use Rattle.fl_base.specs.declared.identity.EndId.{EndId}
use Rattle.fl_base.specs.declared.identity.Side.{Side}
use Rattle.fl_base.specs.declared.identity.Side.TheVariants.{Client, Server}
use Rattle.fl_base.specs.Ends.{other, peer}
use Rattle.fl_base.specs.Given.{given}
use Rattle.fl_hop.proofs.Entering.{same_or}
use Rattle.fl_model.specs.Given.{changed_at}
use Rattle.fl_model.specs.Rings.{Label}
use Rattle.fl_model.specs.Ends.{Queue, joined_by, without_first, End}
use Rattle.fl_model.specs.State.{Binding, State, end_in, in_queue, with_end_in}
use Rattle.fl_model.specs.Standing.{picked}
use Rattle.fl_model.specs.SoundPlaces.{Owner, core_to}
use Rattle.fl_model.specs.SoundLabels.{IsOf}
use Rattle.fl_model_laws.proofs.Cases.{Each}
use Rattle.fl_model_laws.proofs.Flows.{Passes}
use Rattle.fl_model_laws.proofs.Scenes.{over, joint_of, Flow, Sight, sight_of, flow_in, queued, seen, sights, reads, way_on, Suits, queue_at, before}
use Rattle.fl_model_laws.proofs.ScenesKept.{PassedBy, passing_good}
use Rattle.fl_model_laws.proofs.ScenesSaid.{flow_at}
use Rattle.fl_model_laws.proofs.LabelsQuiet.{GoodIn}
use Rattle.fl_model_laws.proofs.Ways.{Once, index_got}

-- ---- the stations of a route

-- who reads the link that leads to place j + 1 of a way
abbrev pub reader : List ℕ → ℕ → Owner
reader way j = core_to (slice_index way (suc j)) (slice_index way j)

before_by_link : (R : Owner → List Label) (S : ℕ → Option Sight) (e : EndId) (way : List ℕ) (j : ℕ) → suc j ≢ length way
    → (if suc j == length way then queue_at S (peer e) else R (core_to (slice_index way (suc j)) (slice_index way (suc j - 1)))) ≡ R (reader way j)
before_by_link R S e way j d =
    ap (λ b. if b then queue_at S (peer e) else R (core_to (slice_index way (suc j)) (slice_index way (suc j - 1)))) (ne_eqb (suc j) (length way) d)
    ∙ (let q : suc j - 1 ≡ j = omega arith in ap (λ m. R (core_to (slice_index way (suc j)) (slice_index way m))) q)

pub before_link : (R : Owner → List Label) (S : ℕ → Option Sight) (e : EndId) (cores : List ℕ) (j : ℕ) → suc j ≢ length (way_on e.side cores)
    → before R S e (over cores) (suc j) ≡ R (reader (way_on e.side cores) j)
before_link R S e cores j d = before_by_link R S e (way_on e.side cores) j d

pub before_last : (R : Owner → List Label) (S : ℕ → Option Sight) (e : EndId) (cores : List ℕ) (j : ℕ) → j ≡ length (way_on e.side cores)
    → before R S e (over cores) j ≡ queue_at S (peer e)
before_last R S e cores j d =
    ap (λ b. if b then queue_at S (peer e) else R (core_to (slice_index (way_on e.side cores) j) (slice_index (way_on e.side cores) (j - 1))))
    (eq-eqb j (length (way_on e.side cores)) d)

pub readers_differ : (way : List ℕ) (m n : ℕ) → Once way → suc m < length way → suc n < length way → m ≢ n → reader way m ≢ reader way n
readers_differ way m n once a b d e =
    let same : slice_index way (suc m) ≡ slice_index way (suc n) = cc in
    let place : suc m ≡ suc n = once (suc m) (suc n) (slice_index way (suc n)) (index_got way (suc m) a ∙ ap (λ x. Some x) same) (index_got way (suc n) b) in
    d (omega arith)

-- number k passes station i of a way over some cores
pub record PassesOver (R R2 : Owner → List Label) (S T : ℕ → Option Sight) (e : EndId) (way passed : List ℕ) (i k : ℕ) : Type 0 where
  pub long : length passed ≡ length way + 1
  pub within : i < length passed
  pub number : k ≡ slice_index passed i
  pub leaves : (j : ℕ) → i ≡ suc j → i < length way → picked e (R (reader way j)) ≡ k ∷ picked e (R2 (reader way j))
  pub leaves_last : i ≡ length way → picked e (queue_at S (peer e)) ≡ k ∷ picked e (queue_at T (peer e))
  pub comes : suc i < length way → picked e (R2 (reader way i)) ≡ picked e (R (reader way i)) ++ k ∷ []
  pub comes_last : suc i ≡ length way → picked e (queue_at T (peer e)) ≡ picked e (queue_at S (peer e)) ++ k ∷ []
  pub rest : (j : ℕ) → suc j < length way → suc j ≢ i → j ≢ i → R2 (reader way j) ≡ R (reader way j)
  pub rest_last : length way ≢ i → length way ≢ suc i → queue_at T (peer e) ≡ queue_at S (peer e)

pub over_passes : (R R2 : Owner → List Label) (S T : ℕ → Option Sight) (e : EndId) (cores passed : List ℕ) (i k : ℕ)
    → PassesOver R R2 S T e (way_on e.side cores) passed i k
    → Passes (λ j. picked e (before R S e (over cores) j)) (λ j. picked e (before R2 T e (over cores) j)) passed i k
over_passes R R2 S T e cores passed i k p = record {
  within = p.within;
  number = p.number;
  leaves = λ j q. leaves j q (same_or i (length way));
  comes = λ a. comes a (same_or (suc i) (length way));
  rest = λ j a f g. rest j a f g (same_or (suc j) (length way));
}
  where
    way : List ℕ
    way = way_on e.side cores

    link : (R : Owner → List Label) (S : ℕ → Option Sight) (j : ℕ) → suc j ≢ length way → picked e (before R S e (over cores) (suc j)) ≡ picked e (R (reader way j))
    link R S j d = ap (picked e) (before_link R S e cores j d)

    last : (R : Owner → List Label) (S : ℕ → Option Sight) (j : ℕ) → j ≡ length way → picked e (before R S e (over cores) j) ≡ picked e (queue_at S (peer e))
    last R S j d = ap (picked e) (before_last R S e cores j d)

    leaves : (j : ℕ) → i ≡ suc j → (i ≡ length way) ⊎ (i ≢ length way) → picked e (before R S e (over cores) i) ≡ k ∷ picked e (before R2 T e (over cores) i)
    leaves j q (inl d) = last R S i d ∙ p.leaves_last d ∙ ap (λ ks. k ∷ ks) (sym (last R2 T i d))
    leaves j q (inr d) =
        let long = p.long in
        let within = p.within in
        let e1 : suc j ≢ length way = λ u. d (q ∙ u) in
        ap (λ m. picked e (before R S e (over cores) m)) q ∙ link R S j e1 ∙ p.leaves j q (omega arith)
        ∙ ap (λ ks. k ∷ ks) (sym (ap (λ m. picked e (before R2 T e (over cores) m)) q ∙ link R2 T j e1))

    comes : suc i < length passed → (suc i ≡ length way) ⊎ (suc i ≢ length way)
        → picked e (before R2 T e (over cores) (suc i)) ≡ picked e (before R S e (over cores) (suc i)) ++ k ∷ []
    comes a (inl d) = last R2 T (suc i) d ∙ p.comes_last d ∙ ap (λ ks. ks ++ k ∷ []) (sym (last R S (suc i) d))
    comes a (inr d) = let long = p.long in link R2 T i d ∙ p.comes (omega arith) ∙ ap (λ ks. ks ++ k ∷ []) (sym (link R S i d))

    rest : (j : ℕ) → suc j < length passed → suc j ≢ i → suc j ≢ suc i → (suc j ≡ length way) ⊎ (suc j ≢ length way)
        → picked e (before R2 T e (over cores) (suc j)) ≡ picked e (before R S e (over cores) (suc j))
    rest j a f g (inl d) =
        last R2 T (suc j) d ∙ ap (picked e) (p.rest_last (λ u. f (d ∙ u)) (λ u. g (d ∙ u))) ∙ sym (last R S (suc j) d)
    rest j a f g (inr d) =
        let long = p.long in link R2 T j d ∙ ap (picked e) (p.rest j (omega arith) f (λ u. g (ap suc u))) ∙ sym (link R S j d)

-- ---- where there are two stations

pub write_passes : (before later : ℕ → List ℕ) (passed : List ℕ) (k : ℕ) → length passed ≡ 2 → k ≡ slice_index passed 0 → later 1 ≡ before 1 ++ k ∷ []
    → Passes before later passed 0 k
write_passes before later passed k long number comes = record {
  within = omega arith;
  number = number;
  leaves = λ j q. absurd (cc);
  comes = λ a. comes;
  rest = λ j a f g. absurd (g (let one : suc j ≡ suc 0 = omega arith in one));
}

pub take_passes : (before later : ℕ → List ℕ) (passed : List ℕ) (k : ℕ) → length passed ≡ 2 → k ≡ slice_index passed 1 → before 1 ≡ k ∷ later 1
    → Passes before later passed 1 k
take_passes before later passed k long number leaves = record {
  within = omega arith;
  number = number;
  leaves = λ j q. leaves;
  comes = λ a. absurd (omega arith);
  rest = λ j a f g. absurd (f (let one : suc j ≡ 1 = omega arith in one));
}

-- ---- of a state

-- in t one more fragment of end e has passed station i, and else no more of its binding has changed than its other end's queue
pub record Moved (s t : State) (e : EndId) (i : ℕ) (b c : Binding) : Type 0 where
  pub was : slice_get s.bindings e.binding ≡ Some b
  pub now : slice_get t.bindings e.binding ≡ Some c
  pub joint : joint_of c.back ≡ joint_of b.back
  pub passed : (end_in e.side c).out.passed ≡ changed_at i (λ n. n + 1) (end_in e.side b).out.passed
  pub queue : queued (end_in e.side c) ≡ queued (end_in e.side b)
  pub back : (end_in (other e.side) c).out.passed ≡ (end_in (other e.side) b).out.passed
  pub rest : (n : ℕ) → n ≢ e.binding → sights t n ≡ sights s n

pub moved_by : (s t : State) (e : EndId) (i : ℕ) (b c : Binding) → Moved s t e i b c → PassedBy (sights s) (sights t) e i (sight_of b) (sight_of c)
moved_by s t e i b c m = record {
  was = ap seen m.was;
  now = ap seen m.now;
  joint = m.joint;
  passed = ap (λ (f : Flow). f.passed) (flow_at e.side c) ∙ m.passed ∙ ap (λ (f : Flow). changed_at i (λ n. n + 1) f.passed) (sym (flow_at e.side b));
  back = ap (λ (f : Flow). f.passed) (flow_at (other e.side) c) ∙ m.back ∙ ap (λ (f : Flow). f.passed) (sym (flow_at (other e.side) b));
  queue = ap (λ (f : Flow). f.queue) (flow_at e.side c) ∙ m.queue ∙ ap (λ (f : Flow). f.queue) (sym (flow_at e.side b));
  rest = m.rest;
}

pub queue_is : (s : State) (e : EndId) (b : Binding) → slice_get s.bindings e.binding ≡ Some b → queue_at (sights s) e ≡ queued (end_in e.side b)
queue_is s e b q =
    ap (λ (o : Option Sight). given o [] (λ x. (flow_in e.side x).queue)) (ap seen q) ∙ ap (λ (f : Flow). f.queue) (flow_at e.side b)

-- what the fragments that pass are, by readers: those of end e alone
pub moved_good : (s t : State) (e : EndId) (i k : ℕ) (b c : Binding) → Moved s t e i b c → ((o : Owner) → Each (Suits (sights s) o) (reads t o))
    → ((o : Owner) (f : EndId) → f ≢ e → picked f (reads t o) ≡ picked f (reads s o))
    → Each (IsOf e) (queue_at (sights t) (peer e))
    → Passes (λ j. picked e (before (reads s) (sights s) e (joint_of b.back) j)) (λ j. picked e (before (reads t) (sights t) e (joint_of b.back) j))
    (end_in e.side b).out.passed i k → GoodIn s → GoodIn t
moved_good s t e i k b c m suits others queue passes h =
    passing_good (reads s) (reads t) (sights s) (sights t) e i k (sight_of b) (sight_of c) (moved_by s t e i b c m) suits others
    (subst (Each (IsOf e)) (queue_is t (peer e) c m.now ∙ ap (λ (f : Flow). f.queue) (sym (flow_at (other e.side) c))) queue)
    (subst (λ ns. Passes (λ j. picked e (before (reads s) (sights s) e (joint_of b.back) j)) (λ j. picked e (before (reads t) (sights t) e (joint_of b.back) j)) ns i k)
    (ap (λ (f : Flow). f.passed) (sym (flow_at e.side b))) passes) h

-- ---- ends and queues

pub end_own : (side : Side) (f : End → End) (b : Binding) → end_in side (with_end_in side f b) ≡ f (end_in side b)
end_own Client f b = refl
end_own Server f b = refl

pub end_back : (side : Side) (f : End → End) (b : Binding) → end_in (other side) (with_end_in side f b) ≡ end_in (other side) b
end_back Client f b = refl
end_back Server f b = refl

pub end_else : (side : Side) (f : End → End) (b : Binding) → end_in side (with_end_in (other side) f b) ≡ end_in side b
end_else Client f b = refl
end_else Server f b = refl

pub joint_kept : (side : Side) (f : End → End) (b : Binding) → joint_of (with_end_in side f b).back ≡ joint_of b.back
joint_kept Client f b = refl
joint_kept Server f b = refl

pub joined_queue : (l : Label) (x : End) → IsSome x.queue → queued (in_queue (joined_by l) x) ≡ queued x ++ l ∷ []
joined_queue l x h = by x.queue refl h
  where
    by : (o : Option Queue) → x.queue ≡ o → IsSome o → queued (in_queue (joined_by l) x) ≡ queued x ++ l ∷ []
    by None q a = absurd (cc)
    by (Some q) r a =
        ap (λ (o : Option Queue). queued (given o x λ w. record x { queue = Some (joined_by l w) })) r ∙ sym (ap (λ (o : Option Queue). given o [] (λ w. w.labels) ++ l ∷ []) r)

pub emptied_queue : (x : End) → queued (in_queue without_first x) ≡ drop 1 (queued x)
emptied_queue x = by x.queue refl
  where
    by : (o : Option Queue) → x.queue ≡ o → queued (in_queue without_first x) ≡ drop 1 (queued x)
    by None q =
        ap (λ (o : Option Queue). queued (given o x λ w. record x { queue = Some (without_first w) })) q
        ∙ ap (λ (o : Option Queue). given o [] (λ w. w.labels)) q ∙ sym (ap (λ (o : Option Queue). drop 1 (given o [] (λ w. w.labels))) q)
    by (Some q) r =
        ap (λ (o : Option Queue). queued (given o x λ w. record x { queue = Some (without_first w) })) r ∙ sym (ap (λ (o : Option Queue). drop 1 (given o [] (λ w. w.labels))) r)
