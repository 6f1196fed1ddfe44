-- What keeps labels on their ways, and in order: labels of no call come and go, a fragment passes a station, a binding is made.
use Rattle.std.proofs.Common.{◌≡◌, ◌≢◌, refl, sym, ◌∙◌, ap, subst, ℕ, zero, suc, ◌+◌, ◌-◌, ◌==◌, ◌&&◌, Bool, true, false, if◌then◌else◌, List, [], ◌∷◌, ◌++◌, length, drop, slice_get, Option, Some, None, arith, ◌⊎◌, inl, inr}
use Rattle.std.specs.Prelude.{slice_index}
use Rattle.std.specs.List.{range_with_len, cons_option}
use Rattle.std.proofs.lemmas.Bool.{eq-eqb}
use Rattle.std.proofs.lemmas.List.{append-nil}
use Rattle.std.proofs.lemmas.List.Elements.{filter_map-append}
use Rattle.fl_base.specs.declared.identity.EndId.{EndId}
use Rattle.fl_base.specs.declared.identity.Side.{Side}
use Rattle.fl_base.specs.declared.identity.Side.TheVariants.{Client, Server}
use Rattle.fl_base.specs.Ends.{other, peer}
use Rattle.fl_base.specs.Given.{given}
use Rattle.fl_hop.proofs.Entering.{same_or}
use Rattle.fl_model.specs.Given.{changed_at}
use Rattle.fl_model.specs.Rings.{Label, next_of, says, acknowledges}
use Rattle.fl_model.specs.Runs.{same_side, same_end}
use Rattle.fl_model.specs.Standing.{number_of, picked}
use Rattle.fl_model.specs.SoundPlaces.{Owner, core_to, this_end}
use Rattle.fl_model.specs.SoundLabels.{IsOf}
use Rattle.fl_model_laws.proofs.Cases.{Each}
use Rattle.fl_model_laws.proofs.Ends.{same_end_true}
use Rattle.fl_model_laws.proofs.Flows.{Follows, same_follows, Passes, passes_follows}
use Rattle.fl_model_laws.proofs.Scenes.{Joint, by_queue, by_one_ring, over, Sight, flow_in, way_on, Goes, Suits, queue_at, before, Good}

-- ---- ends

pub twice : (e : EndId) → peer (peer e) ≡ e
twice e = ap (λ (x : Side). (let f : EndId = record { binding = e.binding; side = x } in f)) (by e.side)
  where
    by : (x : Side) → other (other x) ≡ x
    by Client = refl
    by Server = refl

side_cases : (a b : Side) → (a ≡ b) ⊎ (a ≡ other b)
side_cases Client Client = inl refl
side_cases Client Server = inr refl
side_cases Server Client = inr refl
side_cases Server Server = inl refl

abbrev end_of_side : ℕ → Side → EndId
end_of_side n side = record { binding = n; side = side }

data Relation (f e : EndId) : Type 0 where
  elsewhere : f.binding ≢ e.binding → Relation f e
  itself : f ≡ e → Relation f e
  its_peer : f ≡ peer e → Relation f e

related : (f e : EndId) → Relation f e
related f e = elim (same_or f.binding e.binding) [
  | inr d ↦ elsewhere d
  | inl d ↦ elim (side_cases f.side e.side) [
    | inl q ↦ itself (ap (λ n. end_of_side n f.side) d ∙ ap (end_of_side e.binding) q)
    | inr q ↦ its_peer (ap (λ n. end_of_side n f.side) d ∙ ap (end_of_side e.binding) q)
  ]
]

not_other : (x : Side) → other x ≡ x → ⊥
not_other Client e = absurd (cc)
not_other Server e = absurd (cc)

not_peer : (e : EndId) → peer e ≢ e
not_peer e q = not_other e.side (ap (λ (f : EndId). f.side) q)

-- ---- an end's numbers among labels

number_by : (b : Bool) (k : ℕ) → (b ≡ true → ⊥) → (if b then Some k else None) ≡ None
number_by true k h = absurd (h refl)
number_by false k h = refl

pub number_other : (e f : EndId) (k : ℕ) → e ≢ f → number_of e (next_of f k) ≡ None
number_other e f k h = number_by (same_end e f) k (λ q. h (same_end_true e f q))

same_itself : (x : Side) → same_side x x ≡ true
same_itself Client = refl
same_itself Server = refl

pub number_own : (e : EndId) (k : ℕ) → number_of e (next_of e k) ≡ Some k
number_own e k =
    ap (λ b. if b && same_side e.side e.side then Some k else None) (eq-eqb e.binding e.binding refl)
    ∙ ap (λ b. if b then Some k else None) (same_itself e.side)

pub picked_push : (e : EndId) (ls : List Label) (l : Label) → picked e (ls ++ l ∷ []) ≡ picked e ls ++ cons_option (number_of e l) []
picked_push e ls l = filter_map-append (number_of e) ls (l ∷ [])

pub picked_more : (e : EndId) (ls : List Label) (k : ℕ) → picked e (ls ++ next_of e k ∷ []) ≡ picked e ls ++ k ∷ []
picked_more e ls k = picked_push e ls (next_of e k) ∙ ap (λ o. picked e ls ++ cons_option o []) (number_own e k)

pub picked_same : (e : EndId) (ls : List Label) (l : Label) → number_of e l ≡ None → picked e (ls ++ l ∷ []) ≡ picked e ls
picked_same e ls l q = picked_push e ls l ∙ ap (λ o. picked e ls ++ cons_option o []) q ∙ append-nil (picked e ls)

pub picked_first : (e : EndId) (ls : List Label) (k : ℕ) → slice_get ls 0 ≡ Some (next_of e k) → picked e ls ≡ k ∷ picked e (drop 1 ls)
picked_first e [] k h = absurd (cc)
picked_first e (l ∷ ls) k h = let q : l ≡ next_of e k = cc in ap (λ o. cons_option o (picked e ls)) (ap (number_of e) q ∙ number_own e k)

pub picked_without : (e : EndId) (ls : List Label) (l : Label) → slice_get ls 0 ≡ Some l → number_of e l ≡ None → picked e (drop 1 ls) ≡ picked e ls
picked_without e [] l h q = absurd (cc)
picked_without e (m ∷ ls) l h q = let r : m ≡ l = cc in sym (ap (λ o. cons_option o (picked e ls)) (ap (number_of e) r ∙ q))

pub picked_none : (e : EndId) (ls : List Label) → Each (λ l. number_of e l ≡ None) ls → picked e ls ≡ []
picked_none e [] h = refl
picked_none e (l ∷ ls) h = ap (λ o. cons_option o (picked e ls)) (h zero l refl) ∙ picked_none e ls (λ n x q. h (suc n) x q)

-- ---- bindings go on

abbrev pub Grows : (S T : ℕ → Option Sight) → Type 0
Grows S T = (n : ℕ) (x : Sight) → S n ≡ Some x → (y : Sight) × (T n ≡ Some y) × (y.joint ≡ x.joint)

goes_on : (S T : ℕ → Option Sight) (a b : ℕ) (e : EndId) → Grows S T → Goes S a b e → Goes T a b e
goes_on S T a b e g h =
    let (y, q, r) = g e.binding h.sight h.there in
    record { sight = y; there = q; cores = h.cores; joint = r ∙ h.joint; place = h.place; near = h.near; far = h.far }

pub suits_on : (S T : ℕ → Option Sight) (o : Owner) (l : Label) → Grows S T → Suits S o l → Suits T o l
suits_on S T (core_to b a) (next_of e k) g h = goes_on S T a b e g h
suits_on S T (core_to b a) (says m) g h = tt
suits_on S T (core_to b a) acknowledges g h = tt
suits_on S T (this_end f) l g h = h

queue_same : (S T : ℕ → Option Sight) (e : EndId) → T e.binding ≡ S e.binding → queue_at T e ≡ queue_at S e
queue_same S T e q = ap (λ (o : Option Sight). given o [] (λ x. (flow_in e.side x).queue)) q

before_picked : (R R2 : Owner → List Label) (S T : ℕ → Option Sight) (e : EndId) (joint : Joint) → ((o : Owner) → picked e (R2 o) ≡ picked e (R o))
    → picked e (queue_at T (peer e)) ≡ picked e (queue_at S (peer e)) → (j : ℕ) → picked e (before R2 T e joint j) ≡ picked e (before R S e joint j)
before_picked R R2 S T e by_queue h q j = q
before_picked R R2 S T e by_one_ring h q j = h (this_end (peer e))
before_picked R R2 S T e (over cores) h q j = by (j == length (way_on e.side cores))
  where
    o : Owner
    o = core_to (slice_index (way_on e.side cores) j) (slice_index (way_on e.side cores) (j - 1))

    by : (b : Bool) → picked e (if b then queue_at T (peer e) else R2 o) ≡ picked e (if b then queue_at S (peer e) else R o)
    by true = q
    by false = h o

-- ---- labels of no call come and go

pub quiet_good : (R R2 : Owner → List Label) (S T : ℕ → Option Sight) → ((n : ℕ) → T n ≡ S n) → ((o : Owner) → Each (Suits S o) (R2 o))
    → ((o : Owner) (e : EndId) → picked e (R2 o) ≡ picked e (R o)) → Good R S → Good R2 T
quiet_good R R2 S T same suits alike h = record {
  reads = λ o n l q. suits_on S T o l (λ m x r. (x, same m ∙ r, refl)) (suits o n l q);
  queues = λ e. subst (Each (IsOf (peer e))) (sym (queue_same S T e (same e.binding))) (h.queues e);
  follows = λ e x q.
      same_follows (λ j. picked e (before R S e x.joint j)) (λ j. picked e (before R2 T e x.joint j)) (flow_in e.side x).passed
      (before_picked R R2 S T e x.joint (λ o. alike o e) (ap (picked e) (queue_same S T (peer e) (same e.binding))))
      (h.follows e x (sym (same e.binding) ∙ q));
}

-- ---- a fragment of one end passes a station

pub record PassedBy (S T : ℕ → Option Sight) (e : EndId) (i : ℕ) (x y : Sight) : Type 0 where
  pub was : S e.binding ≡ Some x
  pub now : T e.binding ≡ Some y
  pub joint : y.joint ≡ x.joint
  pub passed : (flow_in e.side y).passed ≡ changed_at i (λ n. n + 1) (flow_in e.side x).passed
  pub back : (flow_in (other e.side) y).passed ≡ (flow_in (other e.side) x).passed
  pub queue : (flow_in e.side y).queue ≡ (flow_in e.side x).queue
  pub rest : (n : ℕ) → n ≢ e.binding → T n ≡ S n

passed_grows : (S T : ℕ → Option Sight) (e : EndId) (i : ℕ) (x y : Sight) → PassedBy S T e i x y → Grows S T
passed_grows S T e i x y p n z q = elim (same_or n e.binding) [
  | inr d ↦ (z, p.rest n d ∙ q, refl)
  | inl d ↦ (
      let same : x ≡ z = (let u : Some x ≡ Some z = sym p.was ∙ ap S (sym d) ∙ q in cc) in
      (y, ap T d ∙ p.now, p.joint ∙ ap (λ (w : Sight). w.joint) same))
]

pub passing_good : (R R2 : Owner → List Label) (S T : ℕ → Option Sight) (e : EndId) (i k : ℕ) (x y : Sight) → PassedBy S T e i x y
    → ((o : Owner) → Each (Suits S o) (R2 o)) → ((o : Owner) (f : EndId) → f ≢ e → picked f (R2 o) ≡ picked f (R o))
    → Each (IsOf e) (flow_in (other e.side) y).queue
    → Passes (λ j. picked e (before R S e x.joint j)) (λ j. picked e (before R2 T e x.joint j)) (flow_in e.side x).passed i k → Good R S → Good R2 T
passing_good R R2 S T e i k x y p suits others queue passes h = record {
  reads = λ o n l q. suits_on S T o l (passed_grows S T e i x y p) (suits o n l q);
  queues = λ f. queues f (related f e);
  follows = λ f z q. follows f z q (related f e);
}
  where
    own_queue : queue_at T e ≡ queue_at S e
    own_queue = ap (λ (o : Option Sight). given o [] (λ w. (flow_in e.side w).queue)) p.now ∙ p.queue
        ∙ sym (ap (λ (o : Option Sight). given o [] (λ w. (flow_in e.side w).queue)) p.was)

    peer_queue : queue_at T (peer e) ≡ (flow_in (other e.side) y).queue
    peer_queue = ap (λ (o : Option Sight). given o [] (λ w. (flow_in (other e.side) w).queue)) p.now

    queues : (f : EndId) → Relation f e → Each (IsOf (peer f)) (queue_at T f)
    queues f (elsewhere d) = subst (Each (IsOf (peer f))) (sym (queue_same S T f (p.rest f.binding d))) (h.queues f)
    queues f (itself q) = subst (λ (g : EndId). Each (IsOf (peer g)) (queue_at T g)) (sym q) (subst (Each (IsOf (peer e))) (sym own_queue) (h.queues e))
    queues f (its_peer q) =
        subst (λ (g : EndId). Each (IsOf (peer g)) (queue_at T g)) (sym q)
        (subst (Each (IsOf (peer (peer e)))) (sym peer_queue) (subst (λ (g : EndId). Each (IsOf g) (flow_in (other e.side) y).queue) (sym (twice e)) queue))

    own : Follows (λ j. picked e (before R2 T e y.joint j)) (flow_in e.side y).passed
    own =
        let was : Follows (λ j. picked e (before R S e x.joint j)) (flow_in e.side x).passed = h.follows e x p.was in
        subst (λ ns. Follows (λ j. picked e (before R2 T e y.joint j)) ns) (sym p.passed)
        (subst (λ c. Follows (λ j. picked e (before R2 T e c j)) (changed_at i (λ n. n + 1) (flow_in e.side x).passed)) (sym p.joint)
        (passes_follows (λ j. picked e (before R S e x.joint j)) (λ j. picked e (before R2 T e x.joint j)) (flow_in e.side x).passed i k passes was))

    peers : Follows (λ j. picked (peer e) (before R2 T (peer e) y.joint j)) (flow_in (other e.side) y).passed
    peers =
        let was : Follows (λ j. picked (peer e) (before R S (peer e) x.joint j)) (flow_in (other e.side) x).passed = h.follows (peer e) x p.was in
        let queues : queue_at T (peer (peer e)) ≡ queue_at S (peer (peer e)) =
        ap (queue_at T) (twice e) ∙ own_queue ∙ ap (queue_at S) (sym (twice e)) in
        subst (λ ns. Follows (λ j. picked (peer e) (before R2 T (peer e) y.joint j)) ns) (sym p.back)
        (subst (λ c. Follows (λ j. picked (peer e) (before R2 T (peer e) c j)) (flow_in (other e.side) x).passed) (sym p.joint)
        (same_follows (λ j. picked (peer e) (before R S (peer e) x.joint j)) (λ j. picked (peer e) (before R2 T (peer e) x.joint j)) (flow_in (other e.side) x).passed
        (before_picked R R2 S T (peer e) x.joint (λ o. others o (peer e) (not_peer e)) (ap (picked (peer e)) queues)) was))

    follows : (f : EndId) (z : Sight) → T f.binding ≡ Some z → Relation f e → Follows (λ j. picked f (before R2 T f z.joint j)) (flow_in f.side z).passed
    follows f z q (elsewhere d) =
        same_follows (λ j. picked f (before R S f z.joint j)) (λ j. picked f (before R2 T f z.joint j)) (flow_in f.side z).passed
        (before_picked R R2 S T f z.joint (λ o. others o f (λ r. d (ap (λ (g : EndId). g.binding) r)))
        (ap (picked f) (queue_same S T (peer f) (p.rest f.binding d)))) (h.follows f z (sym (p.rest f.binding d) ∙ q))
    follows f z q (itself r) =
        let same : y ≡ z = (let u : Some y ≡ Some z = sym p.now ∙ ap (λ (g : EndId). T g.binding) (sym r) ∙ q in cc) in
        subst (λ (w : Sight). Follows (λ j. picked f (before R2 T f w.joint j)) (flow_in f.side w).passed) same
        (subst (λ (g : EndId). Follows (λ j. picked g (before R2 T g y.joint j)) (flow_in g.side y).passed) (sym r) own)
    follows f z q (its_peer r) =
        let same : y ≡ z = (let u : Some y ≡ Some z = sym p.now ∙ ap (λ (g : EndId). T g.binding) (sym r) ∙ q in cc) in
        subst (λ (w : Sight). Follows (λ j. picked f (before R2 T f w.joint j)) (flow_in f.side w).passed) same
        (subst (λ (g : EndId). Follows (λ j. picked g (before R2 T g y.joint j)) (flow_in g.side y).passed) (sym r) peers)

-- ---- a binding is made

pub record NewOne (S T : ℕ → Option Sight) (n : ℕ) (x : Sight) : Type 0 where
  pub none : S n ≡ None
  pub made : T n ≡ Some x
  pub rest : (m : ℕ) → m ≢ n → T m ≡ S m
  pub passed : (side : Side) (j : ℕ) → slice_index (flow_in side x).passed j ≡ 0
  pub queue : (side : Side) → (flow_in side x).queue ≡ []

pub new_good : (R R2 : Owner → List Label) (S T : ℕ → Option Sight) (n : ℕ) (x : Sight) → NewOne S T n x → ((o : Owner) → R2 o ≡ R o)
    → ((e : EndId) → e.binding ≡ n → R (this_end e) ≡ []) → Good R S → Good R2 T
new_good R R2 S T n x p same bare h = record {
  reads = λ o. subst (Each (Suits T o)) (sym (same o)) (λ m l q. suits_on S T o l grows (h.reads o m l q));
  queues = λ e. queues e (same_or e.binding n);
  follows = λ e z q. follows e z q (same_or e.binding n);
}
  where
    grows : Grows S T
    grows m z q = elim (same_or m n) [
      | inr d ↦ (z, p.rest m d ∙ q, refl)
      | inl d ↦ absurd (let u : None ≡ Some z = sym p.none ∙ ap S (sym d) ∙ q in cc)
    ]

    empty : (e : EndId) → e.binding ≡ n → queue_at T e ≡ []
    empty e d = ap (λ (o : Option Sight). given o [] (λ w. (flow_in e.side w).queue)) (ap T d ∙ p.made) ∙ p.queue e.side

    queues : (e : EndId) → (e.binding ≡ n) ⊎ (e.binding ≢ n) → Each (IsOf (peer e)) (queue_at T e)
    queues e (inl d) = subst (Each (IsOf (peer e))) (sym (empty e d)) (λ m l q. absurd (let u : None ≡ Some l = q in cc))
    queues e (inr d) = subst (Each (IsOf (peer e))) (sym (queue_same S T e (p.rest e.binding d))) (h.queues e)

    no_number : (e : EndId) → e.binding ≡ n → (a b : ℕ) (l : Label) → Suits S (core_to b a) l → number_of e l ≡ None
    no_number e d a b (next_of f k) g =
        number_other e f k (λ r. absurd (let u : None ≡ Some g.sight = sym p.none ∙ ap S (sym d ∙ ap (λ (w : EndId). w.binding) r) ∙ g.there in cc))
    no_number e d a b (says m) g = refl
    no_number e d a b acknowledges g = refl

    nothing_read : (e : EndId) → e.binding ≡ n → (joint : Joint) (j : ℕ) → picked e (before R2 T e joint j) ≡ []
    nothing_read e d by_queue j = ap (picked e) (empty (peer e) d)
    nothing_read e d by_one_ring j = ap (picked e) (same (this_end (peer e)) ∙ bare (peer e) d)
    nothing_read e d (over cores) j = by (j == length (way_on e.side cores))
      where
        a : ℕ
        a = slice_index (way_on e.side cores) (j - 1)

        b : ℕ
        b = slice_index (way_on e.side cores) j

        by : (t : Bool) → picked e (if t then queue_at T (peer e) else R2 (core_to b a)) ≡ []
        by true = ap (picked e) (empty (peer e) d)
        by false = ap (picked e) (same (core_to b a)) ∙ picked_none e (R (core_to b a)) (λ m l q. no_number e d a b l (h.reads (core_to b a) m l q))

    nothing : (e : EndId) → e.binding ≡ n → (z : Sight) → x ≡ z → Follows (λ j. picked e (before R2 T e z.joint j)) (flow_in e.side z).passed
    nothing e d z r j a =
        let zero_at : (i : ℕ) → slice_index (flow_in e.side z).passed i ≡ 0 = λ i. ap (λ (w : Sight). slice_index (flow_in e.side w).passed i) (sym r) ∙ p.passed e.side i in
        let u = zero_at (suc j) in
        let v = zero_at j in
        let w : slice_index (flow_in e.side z).passed j - slice_index (flow_in e.side z).passed (suc j) ≡ 0 = omega arith in
        record { falls = omega arith; labels = nothing_read e d z.joint (suc j) ∙ sym (ap (range_with_len (slice_index (flow_in e.side z).passed (suc j))) w) }

    follows : (e : EndId) (z : Sight) → T e.binding ≡ Some z → (e.binding ≡ n) ⊎ (e.binding ≢ n)
        → Follows (λ j. picked e (before R2 T e z.joint j)) (flow_in e.side z).passed
    follows e z q (inl d) = nothing e d z (let u : Some x ≡ Some z = sym p.made ∙ ap T (sym d) ∙ q in cc)
    follows e z q (inr d) =
        same_follows (λ j. picked e (before R S e z.joint j)) (λ j. picked e (before R2 T e z.joint j)) (flow_in e.side z).passed
        (before_picked R R2 S T e z.joint (λ o. ap (picked e) (same o)) (ap (picked e) (queue_same S T (peer e) (p.rest e.binding d))))
        (h.follows e z (sym (p.rest e.binding d) ∙ q))
