-- Two events of two cores, of which neither puts anything to where the other goes, come to the same in either order; so
-- steps come to the same when such neighbours change places.
use Rattle.std.proofs.Common.{◌≡◌, ◌≢◌, ◌⊎◌, inl, inr, refl, sym, ◌∙◌, ap, subst, ℕ, zero, suc, ◌+◌, ◌-◌, ◌%◌, ◌==◌, Bool, true, false, if◌then◌else◌, List, [], ◌∷◌, ◌++◌, length, map, slice_get, slice_set, Option, Some, None, arith}
use Rattle.std.proofs.lemmas.Bool.{eqb-true}
use Rattle.std.specs.Prelude.{Result}
use Rattle.fl_base.specs.declared.identity.EndId.{EndId}
use Rattle.fl_base.specs.Given.{given}
use Rattle.fl_hop.proofs.Entering.{same_or}
use Rattle.fl_hop.proofs.Lists.{set_here, set_swap, at_within, within}
use Rattle.fl_hop.specs.declared.forward.ForwardOutcome.TheVariants.{Moved, Full, Spent}
use Rattle.fl_ring.specs.SharedSides.{TheSide}
use Rattle.fl_core.specs.declared.core_job.CoreJob.{CoreJob}
use Rattle.fl_core.specs.declared.core_job.OpenRequest.{OpenRequest}
use Rattle.fl_core.specs.declared.fault.OpenFault.{OpenFault}
use Rattle.fl_core.specs.declared.wiring.Inlet.TheVariants as inlet
use Rattle.fl_core.specs.declared.wiring.Outlet.TheVariants as outlet
use Rattle.fl_core.specs.View.{TheCore}
use Rattle.fl_core_run.specs.Run.{SideRelations, TheRun}
use Rattle.fl_core_run.specs.LogEntries.{LogEntry, looked, passed, arrived, heard, said, told, opened, called, ruled, wrote, acked, turned, OnRing, Does}
use Rattle.fl_core_run_laws.proofs.Aside.{rings_aside}
use Rattle.fl_world_refines.proofs.FramesBase.{same_some}
use Rattle.fl_world_refines.specs.View.{ring_at}
use Rattle.fl_cores_joined.specs.Rings.{FacingSide}
use Rattle.fl_cores_joined.specs.Joined.{JoinedCore, HasSide, across_from, alone}
use Rattle.fl_cores_joined.specs.Steps.{true_ways, HappensAt}
use Rattle.fl_cores_joined.specs.Entries.{CoreStep, acts, looks, follows, OpenLooks, with_look, left_open, StepByStep}
use Rattle.fl_cores_joined.specs.Exchanges.{GoesOver, MayChange, EventsExchange, ApartMayChange, OpeningsGoAhead, OpeningsStayBehind}
use Rattle.fl_cores_joined.specs.Exchanges.{core_of, event_of, MayCome, open_behind, ChangePlaces, StepsExchange}
use Rattle.fl_cores_joined.proofs.Delaying.{other_there}
use Rattle.fl_cores_joined.proofs.Facing.{StandsAcross, again_among}
use Rattle.fl_cores_joined.proofs.Joining.{long_set, is_even, is_odd}
use Rattle.fl_cores_joined.proofs.Passing.{long_map}
use Rattle.fl_cores_joined.proofs.Renumbered.{get_image}

-- ---- as many sides as before

by_ring : {S : Type 0} (n : ℕ) (s m : TheRun S) (Event : TheCore → S → TheCore → S → Type 0) → OnRing n s Event m → length m.rings ≡ length s.rings
by_ring {S} n s m Event h = ap (λ (r : TheRun S). length r.rings) h.rest ∙ long_set s.rings n h.after

pub as_many : {S : Type 0} (w : SideRelations S) (log_entry : LogEntry) (s m : TheRun S) → Does w log_entry s m → length m.rings ≡ length s.rings
as_many w (looked n l answer) s m h = by_ring n s m _ h
as_many w (passed n k frag c Moved) s m (mid, put, take) = by_ring n mid m _ take ∙ by_ring k s mid _ put
as_many w (passed n k frag c Full) s m h = by_ring k s m _ h
as_many w (passed n k frag c Spent) s m h = by_ring k s m _ h
as_many w (arrived n l frag e answer) s m h = by_ring n s m _ h
as_many w (heard n l frag answer) s m h = by_ring n s m _ h
as_many w (said n l answer) s m h = by_ring n s m _ h
as_many w (told n l answer) s m h = by_ring n s m _ h
as_many {S} w (opened name request answer) s m h = ap (λ (r : TheRun S). length r.rings) h.rest
as_many {S} w (called name c answer) s m (e, at, h) = ap (λ (r : TheRun S). length r.rings) h.rest
as_many {S} w (ruled name msg reply answer) s m (e, at, h) = ap (λ (r : TheRun S). length r.rings) h.rest
as_many {S} w (wrote name (outlet.Queue n) answer) s m (e, at, h) = ap (λ (r : TheRun S). length r.rings) h.rest
as_many w (wrote name (outlet.Side n) answer) s m (e, at, h) = by_ring n s m _ h
as_many w (acked name n answer) s m (e, at, h) = by_ring n s m _ h
as_many {S} w (turned d name (inlet.Queue n) answer) s m (e, at, is, h) = ap (λ (r : TheRun S). length r.rings) h.rest
as_many {S} w (turned d name inlet.Arrivals answer) s m (e, at, is, h) = ap (λ (r : TheRun S). length r.rings) h.rest
as_many w (turned d name (inlet.Side n) answer) s m (e, at, is, h) = by_ring n s m _ h

-- a core behind its event
abbrev after_it : {jobs : List CoreJob} {n : ℕ} {log_entry : LogEntry} {xs ys : List JoinedCore} → HappensAt jobs n log_entry xs ys → JoinedCore
after_it h = record h.before { run = alone h.after }

module _ (jobs : List CoreJob) (n : ℕ) (log_entry : LogEntry) (xs ys : List JoinedCore) (h : HappensAt jobs n log_entry xs ys) where
  -- it has as many sides
  pub sides_stay : length (alone h.after).rings ≡ length h.before.run.rings
  sides_stay =
      let many : length h.after.rings ≡ length h.beside.rings =
      ap (λ (ps : List FacingSide). length ps) (rings_aside h.happens.0 h.after log_entry h.happens.2)
      ∙ as_many true_ways log_entry h.beside h.happens.0 h.happens.1 in
      long_map (λ (p : FacingSide). p.side) h.after.rings ∙ many ∙ sym (long_map (λ (p : FacingSide). p.side) h.beside.rings)
      ∙ ap (λ (r : TheRun TheSide). length r.rings) h.beside_is.own

  -- and each other core is as it was
  others_stay : (k : ℕ) → k ≢ n → slice_get ys k ≡ slice_get xs k
  others_stay k other = ap (λ (l : List JoinedCore). slice_get l k) h.rest ∙ other_there xs n k (after_it h) other

-- a side of a core that stands among cores
stands_at : (xs : List JoinedCore) (number core place : ℕ) (at : JoinedCore) (side : TheSide) → slice_get xs core ≡ Some at
    → slice_get at.sides place ≡ Some number → slice_get at.run.rings place ≡ Some side → HasSide xs number side
stands_at xs number core place at side at_is number_is side_is =
    record { core = core; at = at; at_is = at_is; place = place; number_is = number_is; side_is = side_is }

-- ---- one event after the other

module _ (jobs : List CoreJob) (n m : ℕ) (one two : LogEntry) (xs ms ys : List JoinedCore) (g : HappensAt jobs n one xs ms) (h : HappensAt jobs m two ms ys)
    (may : MayChange g h) where
  back : m ≢ n
  back e = may.cores (sym e)

  there : slice_get xs m ≡ Some h.before
  there = sym (others_stay jobs n one xs ms g m back) ∙ h.before_is

  -- across from a side of the second's core stood before the first what has put as much
  stood : (i k : ℕ) (p : FacingSide) → slice_get h.before.sides i ≡ Some k → slice_get h.beside.rings i ≡ Some p → StandsAcross (GoesOver two) xs i k p
  stood i k p number at = by (same_or has.core n)
    where
      has : HasSide ms (across_from k) p.across
      has = h.beside_is.across i k p number at

      by : (has.core ≡ n) ⊎ (has.core ≢ n) → StandsAcross (GoesOver two) xs i k p
      by (inr other) = (
        p.across,
        stands_at xs (across_from k) has.core has.place has.at p.across (sym (others_stay jobs n one xs ms g has.core other) ∙ has.at_is) has.number_is
            has.side_is,
        λ goes. refl,
      )
      by (inl same) =
          let its : has.at ≡ after_it g =
          same_some (slice_get ms n) has.at (after_it g) (ap (slice_get ms) (sym same) ∙ has.at_is)
          (ap (λ (l : List JoinedCore). slice_get l n) g.rest ∙ set_here xs n g.before (after_it g) g.before_is) in
          let there_is : slice_get (alone g.after).rings has.place ≡ Some p.across =
          ap (λ (c : JoinedCore). slice_get c.run.rings has.place) (sym its) ∙ has.side_is in
          let number_is : slice_get g.before.sides has.place ≡ Some (across_from k) =
          ap (λ (c : JoinedCore). slice_get c.sides has.place) (sym its) ∙ has.number_is in
          let less = within (alone g.after).rings has.place p.across there_is in
          let long = sides_stay jobs n one xs ms g in
          let (a, a_is) = at_within g.before.run.rings has.place (omega (arith, less, long)) in (
            a,
            stands_at xs (across_from k) n has.place g.before a g.before_is number_is a_is,
            λ goes. may.to_second i has.place k a p.across goes number number_is a_is there_is,
          )

  abbrev asked : List JoinedCore
  asked = slice_set xs m (record h.before { run = alone h.after })

  first : HappensAt jobs m two xs asked
  first = again_among jobs m two ms ys xs h stood there

  -- and across from a side of the first's core stands behind the second what has put as much
  stands : (i k : ℕ) (p : FacingSide) → slice_get g.before.sides i ≡ Some k → slice_get g.beside.rings i ≡ Some p → StandsAcross (GoesOver one) asked i k p
  stands i k p number at = by (same_or has.core m)
    where
      has : HasSide xs (across_from k) p.across
      has = g.beside_is.across i k p number at

      by : (has.core ≡ m) ⊎ (has.core ≢ m) → StandsAcross (GoesOver one) asked i k p
      by (inr other) = (
        p.across,
        stands_at asked (across_from k) has.core has.place has.at p.across (other_there xs m has.core (after_it h) other ∙ has.at_is) has.number_is has.side_is,
        λ goes. refl,
      )
      by (inl same) =
          let its : has.at ≡ h.before = same_some (slice_get xs m) has.at h.before (ap (slice_get xs) (sym same) ∙ has.at_is) there in
          let there_is : slice_get h.before.run.rings has.place ≡ Some p.across =
          ap (λ (c : JoinedCore). slice_get c.run.rings has.place) (sym its) ∙ has.side_is in
          let number_is : slice_get h.before.sides has.place ≡ Some (across_from k) =
          ap (λ (c : JoinedCore). slice_get c.sides has.place) (sym its) ∙ has.number_is in
          let less = within h.before.run.rings has.place p.across there_is in
          let long = sides_stay jobs m two ms ys h in
          let (a, a_is) = at_within (alone h.after).rings has.place (omega (arith, less, long)) in (
            a,
            stands_at asked (across_from k) m has.place (after_it h) a (set_here xs m h.before (after_it h) there) number_is a_is,
            λ goes. sym (may.to_first i has.place k p.across a goes number number_is there_is a_is),
          )

  second : HappensAt jobs n one asked (slice_set asked n (record g.before { run = alone g.after }))
  second = again_among jobs n one xs ms asked g stands (other_there xs m n (after_it h) may.cores ∙ g.before_is)

  same_end : slice_set asked n (record g.before { run = alone g.after }) ≡ ys
  same_end =
      sym (h.rest ∙ ap (λ (l : List JoinedCore). slice_set l m (after_it h)) g.rest ∙ set_swap xs n m (after_it g) (after_it h) may.cores)

  both : (zs : List JoinedCore) × HappensAt jobs m two xs zs × HappensAt jobs n one zs ys
  both = (asked, first, subst (λ (l : List JoinedCore). HappensAt jobs n one asked l) same_end second)

pub events_exchange : EventsExchange
events_exchange jobs n m one two xs ms ys g h may = both jobs n m one two xs ms ys g h may

-- ---- events that go over no ring in common

over_or : (log_entry : LogEntry) (i : ℕ) → GoesOver log_entry i ⊎ (GoesOver log_entry i → ⊥)
over_or (looked n l answer) i = same_or i n
over_or (passed n k frag c outcome) i =
    elim (same_or i n) [
      | inl e ↦ inl (inl e)
      | inr away ↦ (elim (same_or i k) [
        | inl e ↦ inl (inr e)
        | inr nor ↦ inr (λ h. elim h [
          | inl e ↦ away e
          | inr e ↦ nor e
        ])
      ])
    ]
over_or (arrived n l frag e answer) i = same_or i n
over_or (heard n l frag answer) i = same_or i n
over_or (said n l answer) i = same_or i n
over_or (told n l answer) i = same_or i n
over_or (opened name request answer) i = inr (λ h. h)
over_or (called name c answer) i = inr (λ h. h)
over_or (ruled name msg reply answer) i = inr (λ h. h)
over_or (wrote name (outlet.Queue n) answer) i = inr (λ h. h)
over_or (wrote name (outlet.Side n) answer) i = same_or i n
over_or (acked name n answer) i = same_or i n
over_or (turned d name (inlet.Queue n) answer) i = inr (λ h. h)
over_or (turned d name (inlet.Side n) answer) i = same_or i n
over_or (turned d name inlet.Arrivals answer) i = inr (λ h. h)

-- a side over which an event doesn't go stays
beside_ring : {S : Type 0} (n k : ℕ) (s m : TheRun S) (Event : TheCore → S → TheCore → S → Type 0) → OnRing n s Event m → k ≢ n
    → slice_get m.rings k ≡ slice_get s.rings k
beside_ring {S} n k s m Event h other = ap (λ (r : TheRun S). slice_get r.rings k) h.rest ∙ other_there s.rings n k h.after other

untouched : {S : Type 0} (w : SideRelations S) (log_entry : LogEntry) (s m : TheRun S) (k : ℕ) → Does w log_entry s m → (GoesOver log_entry k → ⊥)
    → slice_get m.rings k ≡ slice_get s.rings k
untouched w (looked n l answer) s m k h away = beside_ring n k s m _ h away
untouched w (passed n i frag c Moved) s m k (mid, put, take) away =
    beside_ring n k mid m _ take (λ e. away (inl e)) ∙ beside_ring i k s mid _ put (λ e. away (inr e))
untouched w (passed n i frag c Full) s m k h away = beside_ring i k s m _ h (λ e. away (inr e))
untouched w (passed n i frag c Spent) s m k h away = beside_ring i k s m _ h (λ e. away (inr e))
untouched w (arrived n l frag e answer) s m k h away = beside_ring n k s m _ h away
untouched w (heard n l frag answer) s m k h away = beside_ring n k s m _ h away
untouched w (said n l answer) s m k h away = beside_ring n k s m _ h away
untouched w (told n l answer) s m k h away = beside_ring n k s m _ h away
untouched {S} w (opened name request answer) s m k h away = ap (λ (r : TheRun S). slice_get r.rings k) h.rest
untouched {S} w (called name c answer) s m k (e, at, h) away = ap (λ (r : TheRun S). slice_get r.rings k) h.rest
untouched {S} w (ruled name msg reply answer) s m k (e, at, h) away = ap (λ (r : TheRun S). slice_get r.rings k) h.rest
untouched {S} w (wrote name (outlet.Queue n) answer) s m k (e, at, h) away = ap (λ (r : TheRun S). slice_get r.rings k) h.rest
untouched w (wrote name (outlet.Side n) answer) s m k (e, at, h) away = beside_ring n k s m _ h away
untouched w (acked name n answer) s m k (e, at, h) away = beside_ring n k s m _ h away
untouched {S} w (turned d name (inlet.Queue n) answer) s m k (e, at, is, h) away = ap (λ (r : TheRun S). slice_get r.rings k) h.rest
untouched {S} w (turned d name inlet.Arrivals answer) s m k (e, at, is, h) away = ap (λ (r : TheRun S). slice_get r.rings k) h.rest
untouched w (turned d name (inlet.Side n) answer) s m k (e, at, is, h) away = beside_ring n k s m _ h away

side_stays : (jobs : List CoreJob) (n : ℕ) (log_entry : LogEntry) (xs ys : List JoinedCore) (h : HappensAt jobs n log_entry xs ys) (k : ℕ) (p q : TheSide)
    → (GoesOver log_entry k → ⊥) → slice_get h.before.run.rings k ≡ Some p → slice_get (alone h.after).rings k ≡ Some q → q.sent ≡ p.sent
side_stays jobs n log_entry xs ys h k p q away p_is q_is =
    let side = λ (x : FacingSide). x.side in
    let rings : slice_get h.after.rings k ≡ slice_get h.beside.rings k =
    ap (λ (ps : List FacingSide). slice_get ps k) (rings_aside h.happens.0 h.after log_entry h.happens.2)
    ∙ untouched true_ways log_entry h.beside h.happens.0 k h.happens.1 away in
    let same : slice_get (alone h.after).rings k ≡ slice_get h.before.run.rings k =
    get_image side h.after.rings k ∙ ap (λ (o : Option FacingSide). given o None (λ (x : FacingSide). Some x.side)) rings
    ∙ sym (get_image side h.beside.rings k) ∙ ap (λ (r : TheRun TheSide). slice_get r.rings k) h.beside_is.own in
    ap (λ (s : TheSide). s.sent) (same_some (slice_get h.before.run.rings k) q p (sym same ∙ q_is) p_is)

-- the side across is one of the same ring
one_ring : (number : ℕ) → ring_at (across_from number) ≡ ring_at number
one_ring number = by (number % 2 == 0) refl
  where
    by : (b : Bool) → (number % 2 == 0) ≡ b → ring_at (across_from number) ≡ ring_at number
    by true e =
        let next : across_from number ≡ number + 1 = ap (λ (b : Bool). if b then number + 1 else number - 1) e in
        let half = is_even number e in
        ap ring_at next ∙ omega (arith, half)
    by false e =
        let next : across_from number ≡ number - 1 = ap (λ (b : Bool). if b then number + 1 else number - 1) e in
        let half = is_odd number e in
        ap ring_at next ∙ omega (arith, half)

pub apart_may_change : ApartMayChange
apart_may_change jobs n m one two xs ms ys g h apart = record {
  cores = apart.cores;
  to_second = λ i k number p q goes at across p_is q_is.
      elim (over_or one k) [
        | inl over ↦ absurd (apart.rings k i (across_from number) number over goes across at (one_ring number))
        | inr away ↦ side_stays jobs n one xs ms g k p q away p_is q_is
      ];
  to_first = λ i k number p q goes at across p_is q_is.
      elim (over_or two k) [
        | inl over ↦ absurd (apart.rings i k number (across_from number) goes over at across (sym (one_ring number)))
        | inr away ↦ side_stays jobs m two ms ys h k p q away p_is q_is
      ];
}

-- ---- openings

-- an opening leaves its core's sides
opening_leaves : (jobs : List CoreJob) (n : ℕ) (name : EndId) (request : OpenRequest) (answer : Result ℕ OpenFault) (xs ys : List JoinedCore)
    (h : HappensAt jobs n (opened name request answer) xs ys) → (alone h.after).rings ≡ h.before.run.rings
opening_leaves jobs n name request answer xs ys h =
    let rings : h.after.rings ≡ h.beside.rings =
    rings_aside h.happens.0 h.after (opened name request answer) h.happens.2 ∙ ap (λ (r : TheRun FacingSide). r.rings) h.happens.1.rest in
    ap (λ (ps : List FacingSide). map (λ (p : FacingSide). p.side) ps) rings ∙ ap (λ (r : TheRun TheSide). r.rings) h.beside_is.own

same_put : (ps qs : List TheSide) (k : ℕ) (p q : TheSide) → qs ≡ ps → slice_get ps k ≡ Some p → slice_get qs k ≡ Some q → q.sent ≡ p.sent
same_put ps qs k p q same p_is q_is =
    ap (λ (s : TheSide). s.sent) (same_some (slice_get ps k) q p (ap (λ (l : List TheSide). slice_get l k) (sym same) ∙ q_is) p_is)

pub openings_go_ahead : OpeningsGoAhead
openings_go_ahead jobs n m log_entry name request answer xs ms ys apart g h = record {
  cores = apart;
  to_second = λ i k number p q goes at across p_is q_is. absurd goes;
  to_first = λ i k number p q goes at across p_is q_is.
      same_put h.before.run.rings (alone h.after).rings k p q (opening_leaves jobs m name request answer ms ys h) p_is q_is;
}

pub openings_stay_behind : OpeningsStayBehind
openings_stay_behind jobs n m log_entry name request answer xs ms ys apart g h = record {
  cores = apart;
  to_second = λ i k number p q goes at across p_is q_is.
      same_put g.before.run.rings (alone g.after).rings k p q (opening_leaves jobs n name request answer xs ms g) p_is q_is;
  to_first = λ i k number p q goes at across p_is q_is. absurd goes;
}

-- ---- steps

-- looks are open behind two steps of two cores in whichever order they come
looked_in_turn : (n m k : ℕ) (a b : Option LogEntry) (pending : OpenLooks) → n ≢ m
    → with_look n a (with_look m b pending) k ≡ with_look m b (with_look n a pending) k
looked_in_turn n m k a b pending apart = by (k == n) (k == m) refl refl
  where
    by : (x y : Bool) → (k == n) ≡ x → (k == m) ≡ y → (if x then a else (if y then b else pending k)) ≡ (if y then b else (if x then a else pending k))
    by true true p q = absurd (apart (sym (eqb-true k n p) ∙ eqb-true k m q))
    by true false p q = refl
    by false true p q = refl
    by false false p q = refl

in_turn : (one two : CoreStep) (pending : OpenLooks) → core_of one ≢ core_of two
    → open_behind one (open_behind two pending) ≡ open_behind two (open_behind one pending)
in_turn (acts n a) two pending apart = refl
in_turn one (acts m b) pending apart = refl
in_turn (looks n a) (looks m b) pending apart = λ j k. looked_in_turn n m k (Some a) (Some b) pending apart j
in_turn (looks n a) (follows m c b) pending apart = λ j k. looked_in_turn n m k (Some a) None pending apart j
in_turn (follows n c a) (looks m b) pending apart = λ j k. looked_in_turn n m k None (Some b) pending apart j
in_turn (follows n c a) (follows m d b) pending apart = λ j k. looked_in_turn n m k None None pending apart j

-- a look of another core is open before a step as behind it
other_look : (n m : ℕ) (a : Option LogEntry) (pending : OpenLooks) → m ≢ n → with_look n a pending m ≡ pending m
other_look n m a pending apart = by (m == n) refl
  where
    by : (x : Bool) → (m == n) ≡ x → (if x then a else pending m) ≡ pending m
    by true p = absurd (apart (eqb-true m n p))
    by false p = refl

still_open : (one : CoreStep) (m : ℕ) (pending : OpenLooks) → m ≢ core_of one → open_behind one pending m ≡ pending m
still_open (acts n a) m pending apart = refl
still_open (looks n a) m pending apart = other_look n m (Some a) pending apart
still_open (follows n c a) m pending apart = other_look n m None pending apart

-- a step may come where another core's looks are others
may_come : (two : CoreStep) (p q : OpenLooks) → q (core_of two) ≡ p (core_of two) → MayCome p two → MayCome q two
may_come (acts n a) p q same (none, whole) = (same ∙ none, whole)
may_come (looks n a) p q same (none, next) = (same ∙ none, next)
may_come (follows n c a) p q same (some, next) = (same ∙ some, next)

-- a step, and then others
step_then : (jobs : List CoreJob) (pending : OpenLooks) (xs ms ys : List JoinedCore) (one : CoreStep) (steps : List CoreStep) → MayCome pending one
    → HappensAt jobs (core_of one) (event_of one) xs ms → StepByStep jobs (open_behind one pending) ms steps ys → StepByStep jobs pending xs (one ∷ steps) ys
step_then jobs pending xs ms ys (acts n a) steps (none, whole) h rest = (none, whole, (ms, h, rest))
step_then jobs pending xs ms ys (looks n a) steps (none, next) h rest = (none, next, (ms, h, rest))
step_then jobs pending xs ms ys (follows n c a) steps (some, next) h rest = (some, next, (ms, h, rest))

-- steps, and then others
steps_then : (jobs : List CoreJob) (pending : OpenLooks) (xs ms ys : List JoinedCore) (steps others : List CoreStep) → StepByStep jobs pending xs steps ms
    → StepByStep jobs (left_open pending steps) ms others ys → StepByStep jobs pending xs (steps ++ others) ys
steps_then jobs pending xs ms ys [] others h rest = subst (λ (l : List JoinedCore). StepByStep jobs pending l others ys) h rest
steps_then jobs pending xs ms ys (acts n a ∷ steps) others (none, whole, (ls, h, more)) rest =
    (none, whole, (ls, h, steps_then jobs pending ls ms ys steps others more rest))
steps_then jobs pending xs ms ys (looks n a ∷ steps) others (none, next, (ls, h, more)) rest =
    (none, next, (ls, h, steps_then jobs (with_look n (Some a) pending) ls ms ys steps others more rest))
steps_then jobs pending xs ms ys (follows n c a ∷ steps) others (some, next, (ls, h, more)) rest =
    (some, next, (ls, h, steps_then jobs (with_look n None pending) ls ms ys steps others more rest))

change : (jobs : List CoreJob) (pending : OpenLooks) (xs ys : List JoinedCore) (steps others : List CoreStep) → ChangePlaces jobs pending xs ys steps others
    → StepByStep jobs pending xs others ys
change jobs pending xs ys steps others c =
    let opened_looks = left_open pending c.before in
    let apart : core_of c.two ≢ core_of c.one = λ e. c.may.cores (sym e) in
    let (zs, second, first) = events_exchange jobs (core_of c.one) (core_of c.two) (event_of c.one) (event_of c.two) c.begin c.between c.end
    c.first c.second c.may in
    let two_may = may_come c.two (open_behind c.one opened_looks) opened_looks (sym (still_open c.one (core_of c.two) opened_looks apart)) c.two_may in
    let one_may = may_come c.one opened_looks (open_behind c.two opened_looks) (still_open c.two (core_of c.one) opened_looks c.may.cores) c.one_may in
    let behind = subst (λ (p : OpenLooks). StepByStep jobs p c.end c.behind ys) (in_turn c.two c.one opened_looks apart) c.goes_on in
    subst (λ (l : List CoreStep). StepByStep jobs pending xs l ys) (sym c.others_are)
    (steps_then jobs pending xs c.begin ys c.before (c.two ∷ c.one ∷ c.behind) c.goes
    (step_then jobs opened_looks c.begin zs ys c.two (c.one ∷ c.behind) two_may second
    (step_then jobs (open_behind c.two opened_looks) zs c.end ys c.one c.behind one_may first behind)))

pub steps_exchange : StepsExchange
steps_exchange jobs pending xs ys zero steps others h come = subst (λ (l : List CoreStep). StepByStep jobs pending xs l ys) (sym come) h
steps_exchange jobs pending xs ys (suc n) steps others h (next, once, more) =
    steps_exchange jobs pending xs ys n next others (change jobs pending xs ys steps next once) more
