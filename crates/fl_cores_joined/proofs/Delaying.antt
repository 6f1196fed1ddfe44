-- A look may wait until what follows it: others' entries between them come to the same before it.
use Rattle.std.proofs.Common.{◌≡◌, ◌≢◌, ◌⊎◌, inl, inr, refl, sym, ◌∙◌, ap, subst, ℕ, zero, suc, ◌-◌, ◌<◌, ◌==◌, Bool, true, false, if◌then◌else◌, List, [], ◌∷◌, ◌++◌, length, drop, map, slice_get, slice_set, Option, Some, None, arith}
use Rattle.std.specs.Prelude.{Result, Ok, Err}
use Rattle.std.proofs.lemmas.Bool.Decides.{nat_tests}
use Rattle.std.proofs.lemmas.List.{length-drop, drop-append-le}
use Rattle.fl_base.specs.declared.fragment.Frag.{Frag}
use Rattle.fl_base.specs.declared.identity.LinkId.{LinkId}
use Rattle.fl_base.specs.Control.{bare}
use Rattle.fl_base.specs.Prefix.{IsPrefix}
use Rattle.fl_link.specs.Looks.{Look, saw}
use Rattle.fl_ring.specs.SharedSides.{TheSide, SharedTakes}
use Rattle.fl_ring.specs.SharedSeats.{front_seen}
use Rattle.fl_hop.proofs.Entering.{same_or}
use Rattle.fl_hop.proofs.Lists.{set_cases, set_here, at_within, within}
use Rattle.fl_core.specs.declared.answer.LinkFront.{LinkFront}
use Rattle.fl_core.specs.declared.answer.LinkFront.TheVariants as front
use Rattle.fl_core.specs.declared.fault.LinkReceiveFault.{LinkReceiveFault}
use Rattle.fl_core.specs.Ends.{at_side}
use Rattle.fl_core.specs.Links.{LooksAhead}
use Rattle.fl_core.specs.View.{TheCore}
use Rattle.fl_core.proofs.Numbering.{goes_to, came_from}
use Rattle.fl_core.specs.declared.core_job.CoreJob.{CoreJob}
use Rattle.fl_core_run.specs.Run.{TheRun}
use Rattle.fl_core_run.specs.LogEntries.{LogEntry, looked, OnRing, Happens, Does}
use Rattle.fl_core_run_laws.specs.Logs.{InPlace}
use Rattle.fl_world_refines.proofs.FramesBase.{same_some}
use Rattle.fl_cores_joined.specs.Rings.{FacingSide, Truly}
use Rattle.fl_cores_joined.specs.Joined.{JoinedCore, HasSide, across_from, alone}
use Rattle.fl_cores_joined.specs.Steps.{true_ways, HappensAt, Follows, Interleaves}
use Rattle.fl_cores_joined.specs.Entries.{CoreStep, acts, looks, follows, OpenLooks, none_open, with_look, StepByStep, left_open, AreBeforeLooks, moments_of, StepsInterleave, FollowedStepsInterleave}
use Rattle.fl_cores_joined.proofs.Facing.{faced, faced_at, faced_set, faced_from, faced_sides, refaced, in_place_faced, PutTheSame, again, all_of_it, prefix_then, more_put}
use Rattle.fl_cores_joined.proofs.Passing.{long_map}
use Rattle.fl_cores_joined.proofs.Joining.{long_set}

-- ---- a look that saw a fragment sees it too where more was put behind that

no_more : {X : Type 0} (a : ℕ) → a < a → X
no_more a h = absurd (omega (arith, h))

stood_more : (n : ℕ) (xs ys more : List Frag) (first : Frag) (rest : List Frag) → ys ≡ xs ++ more → drop n xs ≡ first ∷ rest → drop n ys ≡ first ∷ (rest ++ more)
stood_more n xs ys more first rest is stood =
    let long : length xs - n ≡ suc (length rest) = sym (length-drop n xs) ∙ ap length stood in
    ap (drop n) is ∙ drop-append-le n xs more (omega (arith, long)) ∙ ap (λ (l : List Frag). l ++ more) stood

sees_later : (a : TheSide) (p q : FacingSide) (f : Frag) → IsPrefix p.across.sent a.sent → Truly SharedTakes p (saw f) q
    → Truly SharedTakes (faced a p) (saw f) (faced a q)
sees_later a p q f (more, is) ((one, look, (may, seen, knows)), finds, same) = (
  (one, look, (may, seen, knows)),
  record {
    nothing = λ h. no_more p.side.misses (subst (λ (s : TheSide). p.side.misses < s.misses) seen h);
    something = λ stays loads.
        let it = finds.something stays loads in
        record {
          first = it.first;
          rest = it.rest ++ more;
          stood_is = stood_more (length p.side.got) p.across.sent a.sent more it.first it.rest is it.stood_is;
          known = it.known;
          saw = it.saw;
          took = it.took;
        };
  },
  refl,
)

-- ---- a look that leaves something to follow

abbrev IsAhead : Result LinkFront LinkReceiveFault → Type 0
IsAhead (Ok (front.Message frag)) = Unit {0}
IsAhead (Ok (front.Onward frag to c)) = Unit {0}
IsAhead (Ok (front.Arrival frag e)) = Unit {0}
IsAhead found = ⊥

abbrev seen_by : FacingSide → Look
seen_by x = front_seen x.side.peeked

ahead_later : (a : TheSide) (k k2 : TheCore) (p q : FacingSide) (l : ℕ) (found : Result LinkFront LinkReceiveFault) → IsAhead found
    → IsPrefix p.across.sent a.sent → LooksAhead (Truly SharedTakes) seen_by l (at_side k p) found (at_side k2 q)
    → LooksAhead (Truly SharedTakes) seen_by l (at_side k (faced a p)) found (at_side k2 (faced a q))
ahead_later a k k2 p q l (Ok (front.Message frag)) is more (h, e) =
    (record { link_side = h.link_side; finds = (sees_later a p q (bare frag) more h.finds.0, h.finds.1, h.finds.2) }, e)
ahead_later a k k2 p q l (Ok (front.Onward frag to c)) is more (h, e) = (
  record {
    link = h.link;
    seen = record {
      link_side = h.seen.link_side;
      finds = (sees_later a p q (bare frag) more h.seen.finds.0, h.seen.finds.1, h.seen.finds.2, h.seen.finds.3, h.seen.finds.4, h.seen.finds.5);
    };
    side_is = h.side_is;
  },
  e,
)
ahead_later a k k2 p q l (Ok (front.Arrival frag name)) is more (h, e) = (
  record {
    link_side = h.link_side;
    finds = (sees_later a p q (bare frag) more h.finds.0, h.finds.1, h.finds.2, h.finds.3, h.finds.4, h.finds.5);
  },
  e,
)
ahead_later a k k2 p q l (Ok front.Nothing) is more h = absurd is
ahead_later a k k2 p q l (Ok front.Acknowledged) is more h = absurd is
ahead_later a k k2 p q l (Err fault) is more h = absurd is

-- it puts nothing
ahead_sent : (k k2 : TheCore) (p q : FacingSide) (l : ℕ) (found : Result LinkFront LinkReceiveFault) → IsAhead found
    → LooksAhead (Truly SharedTakes) seen_by l (at_side k p) found (at_side k2 q) → q.side.sent ≡ p.side.sent
ahead_sent k k2 p q l (Ok (front.Message frag)) is (h, e) = ap (λ (s : TheSide). s.sent) h.finds.0.0.2.1
ahead_sent k k2 p q l (Ok (front.Onward frag to c)) is (h, e) = ap (λ (s : TheSide). s.sent) h.seen.finds.0.0.2.1
ahead_sent k k2 p q l (Ok (front.Arrival frag name)) is (h, e) = ap (λ (s : TheSide). s.sent) h.finds.0.0.2.1
ahead_sent k k2 p q l (Ok front.Nothing) is h = absurd is
ahead_sent k k2 p q l (Ok front.Acknowledged) is h = absurd is
ahead_sent k k2 p q l (Err fault) is h = absurd is

-- ---- by core, what is as it was, and what a look has gone ahead by

-- core k of the first has looked, and of the second it hasn't
record Ahead (jobs : List CoreJob) (k : ℕ) (look : LogEntry) (xs ms : List JoinedCore) : Type 0 where
  n : ℕ
  l : LinkId
  found : Result LinkFront LinkReceiveFault
  look_is : look ≡ looked n l found
  ahead : IsAhead found
  old : JoinedCore
  old_is : slice_get ms k ≡ Some old
  before : TheRun FacingSide
  own : alone before ≡ old.run
  after : TheRun FacingSide
  new_is : slice_get xs k ≡ Some (record old { run = alone after })
  happens : Happens true_ways (looked n l found) before after
  in_place : InPlace jobs before (looked n l found)
  beside : (i m : ℕ) (p : FacingSide) → slice_get old.sides i ≡ Some m → slice_get before.rings i ≡ Some p
      → (a : TheSide) × HasSide ms (across_from m) a × IsPrefix p.across.sent a.sent

abbrev IsSo : List CoreJob → ℕ → Option LogEntry → List JoinedCore → List JoinedCore → Type 0
IsSo jobs k None xs ms = slice_get ms k ≡ slice_get xs k
IsSo jobs k (Some look) xs ms = Ahead jobs k look xs ms

record Delayed (jobs : List CoreJob) (pending : OpenLooks) (xs ms : List JoinedCore) : Type 0 where
  long : length ms ≡ length xs
  each : (k : ℕ) → IsSo jobs k (pending k) xs ms

-- the side's place before its look
module _ {jobs : List CoreJob} {k : ℕ} {look : LogEntry} {xs ms : List JoinedCore} (h : Ahead jobs k look xs ms) where
  on : OnRing h.n h.before (λ c p c2 q. LooksAhead (Truly SharedTakes) seen_by h.l.0 (at_side c p) h.found (at_side c2 q)) h.happens.0
  on = h.happens.1

  mid_is : h.after.rings ≡ slice_set h.before.rings h.n on.after
  mid_is = ap (λ (r : TheRun FacingSide). r.rings) (h.happens.2 ∙ on.rest)

  put_before : (i : ℕ) (side : TheSide) → slice_get (alone h.after).rings i ≡ Some side
      → (other : TheSide) × (slice_get (alone h.before).rings i ≡ Some other) × (side.sent ≡ other.sent)
  put_before i side at =
      let from = came_from (λ (q : FacingSide). q.side) h.after.rings i side at in
      elim (set_cases h.before.rings h.n on.after i from.first (ap (λ (rs : List FacingSide). slice_get rs i) (sym mid_is) ∙ from.first_is)) [
        | inl (place, is) ↦ (
          on.before.side,
          ap (slice_get (alone h.before).rings) place ∙ goes_to (λ (q : FacingSide). q.side) h.before.rings h.n on.before on.before_is,
          ap (λ (s : TheSide). s.sent) from.same ∙ ap (λ (q : FacingSide). q.side.sent) is
              ∙ ahead_sent h.before.core h.happens.0.core on.before on.after h.l.0 h.found h.ahead on.event,
        )
        | inr (other, was) ↦ (
          from.first.side,
          goes_to (λ (q : FacingSide). q.side) h.before.rings i from.first was,
          ap (λ (s : TheSide). s.sent) from.same,
        )
      ]

-- each side has put the same
put_the_same : (jobs : List CoreJob) (pending : OpenLooks) (xs ms : List JoinedCore) → Delayed jobs pending xs ms → PutTheSame xs ms
put_the_same jobs pending xs ms d m side has = by (pending has.core) (d.each has.core)
  where
    by : (o : Option LogEntry) → IsSo jobs has.core o xs ms → (other : TheSide) × HasSide ms m other × (side.sent ≡ other.sent)
    by None same = (
      side,
      record { core = has.core; at = has.at; at_is = same ∙ has.at_is; place = has.place; number_is = has.number_is; side_is = has.side_is },
      refl,
    )
    by (Some look) h =
        let is : has.at ≡ record h.old { run = alone h.after } = same_some (slice_get xs has.core) has.at (record h.old { run = alone h.after }) has.at_is h.new_is in
        let (other, there, sent) = put_before h has.place side (ap (λ (c : JoinedCore). slice_get c.run.rings has.place) (sym is) ∙ has.side_is) in (
          other,
          record {
            core = has.core;
            at = h.old;
            at_is = h.old_is;
            place = has.place;
            number_is = ap (λ (c : JoinedCore). slice_get c.sides has.place) (sym is) ∙ has.number_is;
            side_is = ap (λ (r : TheRun TheSide). slice_get r.rings has.place) (sym h.own) ∙ there;
          },
          sent,
        )

-- ---- what stays

pub other_there : {X : Type 0} (xs : List X) (n k : ℕ) (x : X) → k ≢ n → slice_get (slice_set xs n x) k ≡ slice_get xs k
other_there [] n k x ne = refl
other_there (y ∷ xs) zero zero x ne = absurd (ne refl)
other_there (y ∷ xs) zero (suc k) x ne = refl
other_there (y ∷ xs) (suc n) zero x ne = refl
other_there (y ∷ xs) (suc n) (suc k) x ne = other_there xs n k x (λ e. ne (ap suc e))

abbrev pub Grows : List JoinedCore → List JoinedCore → Type 0
Grows ms ns = (m : ℕ) (a : TheSide) → HasSide ms m a → (b : TheSide) × HasSide ns m b × IsPrefix a.sent b.sent

pub grows : (jobs : List CoreJob) (n : ℕ) (log_entry : LogEntry) (ms ns : List JoinedCore) → HappensAt jobs n log_entry ms ns → Grows ms ns
grows jobs n log_entry ms ns h m a has = by (same_or has.core n)
  where
    by : (has.core ≡ n) ⊎ (has.core ≢ n) → (b : TheSide) × HasSide ns m b × IsPrefix a.sent b.sent
    by (inl same) =
        let at : has.at ≡ h.before = same_some (slice_get ms n) has.at h.before (ap (slice_get ms) (sym same) ∙ has.at_is) h.before_is in
        let side : slice_get (alone h.beside).rings has.place ≡ Some a =
        ap (λ (r : TheRun TheSide). slice_get r.rings has.place) h.beside_is.own ∙ ap (λ (c : JoinedCore). slice_get c.run.rings has.place) (sym at) ∙ has.side_is in
        let from = came_from (λ (p : FacingSide). p.side) h.beside.rings has.place a side in
        let (q, q_is, more) = more_put jobs n log_entry ms ns h has.place from.first from.first_is in (
          q.side,
          record {
            core = n;
            at = record h.before { run = alone h.after };
            at_is = ap (λ (l : List JoinedCore). slice_get l n) h.rest ∙ set_here ms n h.before (record h.before { run = alone h.after }) h.before_is;
            place = has.place;
            number_is = ap (λ (c : JoinedCore). slice_get c.sides has.place) (sym at) ∙ has.number_is;
            side_is = goes_to (λ (p : FacingSide). p.side) h.after.rings has.place q q_is;
          },
          subst (λ (s : TheSide). IsPrefix s.sent q.side.sent) (sym from.same) more,
        )
    by (inr other) = (
      a,
      record {
        core = has.core;
        at = has.at;
        at_is = ap (λ (l : List JoinedCore). slice_get l has.core) h.rest ∙ other_there ms n has.core (record h.before { run = alone h.after }) other ∙ has.at_is;
        place = has.place;
        number_is = has.number_is;
        side_is = has.side_is;
      },
      all_of_it a.sent,
    )

still_ahead : (jobs : List CoreJob) (k : ℕ) (o : Option LogEntry) (xs us ms ns : List JoinedCore) → slice_get us k ≡ slice_get xs k → slice_get ns k ≡ slice_get ms k
    → Grows ms ns → IsSo jobs k o xs ms → IsSo jobs k o us ns
still_ahead jobs k None xs us ms ns new old more same = old ∙ same ∙ sym new
still_ahead jobs k (Some look) xs us ms ns new old more h = record {
  n = h.n;
  l = h.l;
  found = h.found;
  look_is = h.look_is;
  ahead = h.ahead;
  old = h.old;
  old_is = old ∙ h.old_is;
  before = h.before;
  own = h.own;
  after = h.after;
  new_is = new ∙ h.new_is;
  happens = h.happens;
  in_place = h.in_place;
  beside = λ i m p number at.
      let (a, has, put) = h.beside i m p number at in
      let (b, there, then_put) = more (across_from m) a has in
      (b, there, prefix_then p.across.sent a.sent b.sent put then_put);
}

-- ---- an event at a core that hasn't gone ahead

module _ (jobs : List CoreJob) (pending : OpenLooks) (n : ℕ) (log_entry : LogEntry) (xs us ms : List JoinedCore) (d : Delayed jobs pending xs ms)
    (none : pending n ≡ None) (h : HappensAt jobs n log_entry xs us) where
  new : JoinedCore
  new = record h.before { run = alone h.after }

  same_there : slice_get ms n ≡ Some h.before
  same_there = subst (λ (o : Option LogEntry). IsSo jobs n o xs ms) none (d.each n) ∙ h.before_is

  abbrev then_all : List JoinedCore
  then_all = slice_set ms n (record h.before { run = alone h.after })

  event_there : HappensAt jobs n log_entry ms then_all
  event_there = again jobs n log_entry xs us ms h (put_the_same jobs pending xs ms d) same_there

  then_delayed : Delayed jobs pending us then_all
  then_delayed = record {
    long = long_set ms n (record h.before { run = alone h.after }) ∙ d.long
        ∙ sym (ap length h.rest ∙ long_set xs n (record h.before { run = alone h.after }));
    each = λ k. by k (same_or k n);
  }
    where
      us_there : slice_get us n ≡ Some (record h.before { run = alone h.after })
      us_there = ap (λ (l : List JoinedCore). slice_get l n) h.rest ∙ set_here xs n h.before (record h.before { run = alone h.after }) h.before_is

      ms_there : slice_get then_all n ≡ Some (record h.before { run = alone h.after })
      ms_there = set_here ms n h.before (record h.before { run = alone h.after }) same_there

      by : (k : ℕ) → (k ≡ n) ⊎ (k ≢ n) → IsSo jobs k (pending k) us then_all
      by k (inl same) =
          subst (λ (i : ℕ). IsSo jobs i (pending i) us then_all) (sym same)
          (subst (λ (o : Option LogEntry). IsSo jobs n o us then_all) (sym none) (ms_there ∙ sym us_there))
      by k (inr other) =
          still_ahead jobs k (pending k) xs us ms then_all
          (ap (λ (l : List JoinedCore). slice_get l k) h.rest ∙ other_there xs n k (record h.before { run = alone h.after }) other)
          (other_there ms n k (record h.before { run = alone h.after }) other) (grows jobs n log_entry ms then_all event_there) (d.each k)

-- ---- a core looks, and goes ahead

record LookOf (look : LogEntry) : Type 0 where
  n : ℕ
  l : LinkId
  found : Result LinkFront LinkReceiveFault
  is : look ≡ looked n l found
  ahead : IsAhead found

look_of : (look log_entry : LogEntry) → Follows look log_entry → LookOf look
look_of (looked n l (Ok (front.Message frag))) e h = record { n = n; l = l; found = Ok (front.Message frag); is = refl; ahead = tt }
look_of (looked n l (Ok (front.Onward frag to c))) e h = record { n = n; l = l; found = Ok (front.Onward frag to c); is = refl; ahead = tt }
look_of (looked n l (Ok (front.Arrival frag name))) e h = record { n = n; l = l; found = Ok (front.Arrival frag name); is = refl; ahead = tt }
look_of look e h = absurd h

at_itself : (n : ℕ) (o : Option LogEntry) (pending : OpenLooks) → with_look n o pending n ≡ o
at_itself n o pending = let same : (n == n) ≡ true = grind (arith, nat_tests) in ap (λ (b : Bool). if b then o else pending n) same

at_another : (n k : ℕ) (o : Option LogEntry) (pending : OpenLooks) → k ≢ n → with_look n o pending k ≡ pending k
at_another n k o pending ne =
    let other : (k == n) ≡ false = by (k == n) refl in
    ap (λ (b : Bool). if b then o else pending k) other
  where
    by : (b : Bool) → (k == n) ≡ b → (k == n) ≡ false
    by false q = q
    by true q = absurd (ne (grind (arith, nat_tests, q)))

module _ (jobs : List CoreJob) (pending : OpenLooks) (n : ℕ) (look : LogEntry) (xs us ms : List JoinedCore) (d : Delayed jobs pending xs ms)
    (none : pending n ≡ None) (its : LookOf look) (g : HappensAt jobs n look xs us) where
  abbrev h : HappensAt jobs n (looked its.n its.l its.found) xs us
  h = subst (λ (e : LogEntry). HappensAt jobs n e xs us) its.is g

  there : HappensAt jobs n (looked its.n its.l its.found) ms (slice_set ms n (record h.before { run = alone h.after }))
  there = event_there jobs pending n (looked its.n its.l its.found) xs us ms d none h

  same_new : Some (record h.before { run = alone h.after }) ≡ Some (record there.before { run = alone there.after })
  same_new =
      sym (set_here ms n h.before (record h.before { run = alone h.after }) (same_there jobs pending n (looked its.n its.l its.found) xs us ms d none h))
      ∙ ap (λ (l : List JoinedCore). slice_get l n) there.rest ∙ set_here ms n there.before (record there.before { run = alone there.after }) there.before_is

  gone : Ahead jobs n look us ms
  gone = record {
    n = its.n;
    l = its.l;
    found = its.found;
    look_is = its.is;
    ahead = its.ahead;
    old = there.before;
    old_is = there.before_is;
    before = there.beside;
    own = there.beside_is.own;
    after = there.after;
    new_is = ap (λ (l : List JoinedCore). slice_get l n) h.rest ∙ set_here xs n h.before (record h.before { run = alone h.after }) h.before_is ∙ same_new;
    happens = there.happens;
    in_place = there.in_place;
    beside = λ i m p number at. (p.across, there.beside_is.across i m p number at, all_of_it p.across.sent);
  }

  gone_ahead : Delayed jobs (with_look n (Some look) pending) us ms
  gone_ahead = record {
    long = d.long ∙ sym (ap length h.rest ∙ long_set xs n (record h.before { run = alone h.after }));
    each = λ k. by k (same_or k n);
  }
    where
      by : (k : ℕ) → (k ≡ n) ⊎ (k ≢ n) → IsSo jobs k (with_look n (Some look) pending k) us ms
      by k (inl same) =
          subst (λ (i : ℕ). IsSo jobs i (with_look n (Some look) pending i) us ms) (sym same)
          (subst (λ (o : Option LogEntry). IsSo jobs n o us ms) (sym (at_itself n (Some look) pending)) gone)
      by k (inr other) =
          subst (λ (o : Option LogEntry). IsSo jobs k o us ms) (sym (at_another n k (Some look) pending other))
          (still_ahead jobs k (pending k) xs us ms ms
          (ap (λ (l : List JoinedCore). slice_get l k) h.rest ∙ other_there xs n k (record h.before { run = alone h.after }) other) refl
          (λ m a has. (a, has, all_of_it a.sent)) (d.each k))

-- ---- it looks there only now

record Laters (ms : List JoinedCore) (sides : List ℕ) (ps : List FacingSide) : Type 0 where
  others : List TheSide
  long : length others ≡ length ps
  more : (i : ℕ) (p : FacingSide) (a : TheSide) → slice_get ps i ≡ Some p → slice_get others i ≡ Some a → IsPrefix p.across.sent a.sent
  has : (i m : ℕ) (a : TheSide) → slice_get sides i ≡ Some m → slice_get others i ≡ Some a → HasSide ms (across_from m) a

laters : (ms : List JoinedCore) (sides : List ℕ) (ps : List FacingSide)
    → ((i m : ℕ) (p : FacingSide) → slice_get sides i ≡ Some m → slice_get ps i ≡ Some p → (a : TheSide) × HasSide ms (across_from m) a × IsPrefix p.across.sent a.sent)
    → Laters ms sides ps
laters ms [] ps h = record {
  others = map (λ (p : FacingSide). p.across) ps;
  long = long_map (λ (p : FacingSide). p.across) ps;
  more = λ i p a at is.
      let it : p.across ≡ a = same_some (slice_get (map (λ (q : FacingSide). q.across) ps) i) p.across a (goes_to (λ (q : FacingSide). q.across) ps i p at) is in
      subst (λ (s : TheSide). IsPrefix p.across.sent s.sent) it (all_of_it p.across.sent);
  has = λ i m a at is. absurd (cc);
}
laters ms (m ∷ sides) [] h = record { others = []; long = refl; more = λ i p a at is. absurd (cc); has = λ i k a at is. absurd (cc) }
laters ms (m ∷ sides) (p ∷ ps) h =
    let (a, a_is, put) = h 0 m p refl refl in
    let rest = laters ms sides ps (λ i k q at is. h (suc i) k q at is) in
    record {
      others = a ∷ rest.others;
      long = (let e = rest.long in omega (arith, e));
      more = puts a put rest;
      has = haves a a_is rest;
    }
  where
    puts : (a : TheSide) → IsPrefix p.across.sent a.sent → (rest : Laters ms sides ps) → (i : ℕ) (q : FacingSide) (b : TheSide) → slice_get (p ∷ ps) i ≡ Some q
        → slice_get (a ∷ rest.others) i ≡ Some b → IsPrefix q.across.sent b.sent
    puts a put rest zero q b at is =
        let one : p ≡ q = cc in
        let two : a ≡ b = cc in
        subst (λ (z : TheSide). IsPrefix q.across.sent z.sent) two (subst (λ (z : FacingSide). IsPrefix z.across.sent a.sent) one put)
    puts a put rest (suc i) q b at is = rest.more i q b at is

    haves : (a : TheSide) → HasSide ms (across_from m) a → (rest : Laters ms sides ps) → (i k : ℕ) (b : TheSide) → slice_get (m ∷ sides) i ≡ Some k
        → slice_get (a ∷ rest.others) i ≡ Some b → HasSide ms (across_from k) b
    haves a a_is rest zero k b at is =
        let one : m ≡ k = cc in
        let two : a ≡ b = cc in
        subst (λ (z : TheSide). HasSide ms (across_from k) z) two (subst (λ (z : ℕ). HasSide ms (across_from z) a) one a_is)
    haves a a_is rest (suc i) k b at is = rest.has i k b at is

module _ (jobs : List CoreJob) (k : ℕ) (look : LogEntry) (xs ms : List JoinedCore) (h : Ahead jobs k look xs ms) where
  its_laters : Laters ms h.old.sides h.before.rings
  its_laters = laters ms h.old.sides h.before.rings h.beside

  sides_same : (r : TheRun FacingSide) → alone (refaced its_laters.others r) ≡ alone r
  sides_same r = ap (λ (rings : List TheSide). record (alone r) { rings = rings }) (faced_sides its_laters.others r.rings)

  at_ring : (a : TheSide) × (slice_get its_laters.others h.n ≡ Some a)
  at_ring =
      let less = within h.before.rings h.n (on h).before (on h).before_is in
      let count = its_laters.long in
      at_within its_laters.others h.n (omega (arith, less, count))

  looks_there : Does true_ways (looked h.n h.l h.found) (refaced its_laters.others h.before) (refaced its_laters.others h.happens.0)
  looks_there = record {
    before = faced at_ring.0 (on h).before;
    before_is = faced_at its_laters.others h.before.rings h.n (on h).before at_ring.0 (on h).before_is at_ring.1;
    after = faced at_ring.0 (on h).after;
    event = ahead_later at_ring.0 h.before.core h.happens.0.core (on h).before (on h).after h.l.0 h.found h.ahead
        (its_laters.more h.n (on h).before at_ring.0 (on h).before_is at_ring.1) (on h).event;
    rest = ap (refaced its_laters.others) (on h).rest
        ∙ ap (λ (rings : List FacingSide). record h.before { core = h.happens.0.core; rings = rings })
        (faced_set its_laters.others h.before.rings h.n (on h).after at_ring.0 at_ring.1);
  }

  abbrev caught_up : List JoinedCore
  caught_up = slice_set ms k (record h.old { run = alone h.after })

  look_now : HappensAt jobs k (looked h.n h.l h.found) ms caught_up
  look_now = record {
    before = h.old;
    before_is = h.old_is;
    beside = refaced its_laters.others h.before;
    beside_is = record {
      own = sides_same h.before ∙ h.own;
      across = λ i m p number at.
          let (a, a_is, is) = faced_from its_laters.others h.before.rings i p its_laters.long at in
          subst (HasSide ms (across_from m)) (sym is) (its_laters.has i m a number a_is);
    };
    after = refaced its_laters.others h.after;
    happens = (refaced its_laters.others h.happens.0, looks_there, ap (refaced its_laters.others) h.happens.2, h.happens.3, tt, tt);
    in_place = in_place_faced its_laters.others h.before jobs (looked h.n h.l h.found) h.in_place;
    rest = ap (λ (r : TheRun TheSide). slice_set ms k (record h.old { run = r })) (sym (sides_same h.after));
  }

  looked_now : HappensAt jobs k look ms caught_up
  looked_now = subst (λ (e : LogEntry). HappensAt jobs k e ms caught_up) (sym h.look_is) look_now

module _ (jobs : List CoreJob) (pending : OpenLooks) (n : ℕ) (look : LogEntry) (xs ms : List JoinedCore) (d : Delayed jobs pending xs ms)
    (some : pending n ≡ Some look) where
  its_ahead : Ahead jobs n look xs ms
  its_ahead = subst (λ (o : Option LogEntry). IsSo jobs n o xs ms) some (d.each n)

  abbrev up : List JoinedCore
  up = slice_set ms n (record its_ahead.old { run = alone its_ahead.after })

  with_it : Delayed jobs (with_look n None pending) xs up
  with_it = record {
    long = long_set ms n (record its_ahead.old { run = alone its_ahead.after }) ∙ d.long;
    each = λ k. by k (same_or k n);
  }
    where
      by : (k : ℕ) → (k ≡ n) ⊎ (k ≢ n) → IsSo jobs k (with_look n None pending k) xs up
      by k (inl same) =
          subst (λ (i : ℕ). IsSo jobs i (with_look n None pending i) xs up) (sym same)
          (subst (λ (o : Option LogEntry). IsSo jobs n o xs up) (sym (at_itself n None pending))
          (set_here ms n its_ahead.old (record its_ahead.old { run = alone its_ahead.after }) its_ahead.old_is ∙ sym its_ahead.new_is))
      by k (inr other) =
          subst (λ (o : Option LogEntry). IsSo jobs k o xs up) (sym (at_another n k None pending other))
          (still_ahead jobs k (pending k) xs xs ms up refl (other_there ms n k (record its_ahead.old { run = alone its_ahead.after }) other)
          (grows jobs n look ms up (looked_now jobs n look xs ms its_ahead)) (d.each k))

-- ---- all steps

same_list : {X : Type 0} (xs ys : List X) → length xs ≡ length ys → ((k : ℕ) → slice_get xs k ≡ slice_get ys k) → xs ≡ ys
same_list [] [] long each = refl
same_list [] (y ∷ ys) long each = absurd (omega (arith, long))
same_list (x ∷ xs) [] long each = absurd (omega (arith, long))
same_list (x ∷ xs) (y ∷ ys) long each =
    let first : Some x ≡ Some y = each 0 in
    let one : x ≡ y = cc in
    let rest : xs ≡ ys = same_list xs ys (omega (arith, long)) (λ k. each (suc k)) in
    λ i. one i ∷ rest i

record Walked (jobs : List CoreJob) (pending : OpenLooks) (ms : List JoinedCore) (steps : List CoreStep) (ys : List JoinedCore) : Type 0 where
  cores : List JoinedCore
  interleaves : Interleaves jobs ms (moments_of steps) cores
  delayed : Delayed jobs pending ys cores

walk : (jobs : List CoreJob) (steps : List CoreStep) (pending : OpenLooks) (xs ms ys : List JoinedCore) → Delayed jobs pending xs ms
    → StepByStep jobs pending xs steps ys → Walked jobs (left_open pending steps) ms steps ys
walk jobs [] pending xs ms ys d is =
    record { cores = ms; interleaves = refl; delayed = subst (λ (zs : List JoinedCore). Delayed jobs pending zs ms) (sym is) d }
walk jobs (acts n log_entry ∷ steps) pending xs ms ys d (none, whole, (us, h, rest)) =
    let there = then_all jobs pending n log_entry xs us ms d none h in
    let later = walk jobs steps pending us there ys (then_delayed jobs pending n log_entry xs us ms d none h) rest in
    record {
      cores = later.cores;
      interleaves = (there, (whole, event_there jobs pending n log_entry xs us ms d none h), later.interleaves);
      delayed = later.delayed;
    }
walk jobs (looks n look ∷ steps) pending xs ms ys d (none, (log_entry, is), (us, h, rest)) =
    let later = walk jobs steps (with_look n (Some look) pending) us ms ys (gone_ahead jobs pending n look xs us ms d none (look_of look log_entry is) h) rest in
    record { cores = later.cores; interleaves = later.interleaves; delayed = later.delayed }
walk jobs (follows n look log_entry ∷ steps) pending xs ms ys d (some, is, (us, h, rest)) =
    let now = with_look n None pending in
    let mid = up jobs pending n look xs ms d some in
    let then_it = with_it jobs pending n look xs ms d some in
    let closed = at_itself n None pending in
    let there = then_all jobs now n log_entry xs us mid then_it closed h in
    let later = walk jobs steps now us there ys (then_delayed jobs now n log_entry xs us mid then_it closed h) rest in
    record {
      cores = later.cores;
      interleaves = (
        there,
        (is, (mid, looked_now jobs n look xs ms (its_ahead jobs pending n look xs ms d some), event_there jobs now n log_entry xs us mid then_it closed h)),
        later.interleaves,
      );
      delayed = later.delayed;
    }

from_first : (jobs : List CoreJob) (xs ys : List JoinedCore) (steps : List CoreStep) → StepByStep jobs none_open xs steps ys
    → Walked jobs (left_open none_open steps) xs steps ys
from_first jobs xs ys steps h = walk jobs steps none_open xs xs ys (record { long = refl; each = λ k. refl }) h

before_looks : (jobs : List CoreJob) (pending : OpenLooks) (ys ms : List JoinedCore) → Delayed jobs pending ys ms → AreBeforeLooks jobs pending ys ms
before_looks jobs pending ys ms d = record {
  count = d.long;
  others = λ n none. subst (λ (o : Option LogEntry). IsSo jobs n o ys ms) none (d.each n);
  looking = λ n look some.
      let ahead : Ahead jobs n look ys ms = subst (λ (o : Option LogEntry). IsSo jobs n o ys ms) some (d.each n) in (
        caught_up jobs n look ys ms ahead,
        looked_now jobs n look ys ms ahead,
        set_here ms n ahead.old (record ahead.old { run = alone ahead.after }) ahead.old_is ∙ sym ahead.new_is,
      );
}

pub steps_interleave : StepsInterleave
steps_interleave jobs xs ys steps h =
    let it = from_first jobs xs ys steps h in
    (it.cores, it.interleaves, before_looks jobs (left_open none_open steps) ys it.cores it.delayed)

pub followed_interleave : FollowedStepsInterleave
followed_interleave jobs xs ys steps h none =
    let it = from_first jobs xs ys steps h in
    subst (λ (zs : List JoinedCore). Interleaves jobs xs (moments_of steps) zs)
    (same_list it.cores ys it.delayed.long (λ k. subst (λ (o : Option LogEntry). IsSo jobs k o ys it.cores) (none k) (it.delayed.each k))) it.interleaves
