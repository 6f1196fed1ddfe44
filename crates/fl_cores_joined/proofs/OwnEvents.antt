-- What a core does by itself is an event among others, where its sides find what stands across from them.
use Rattle.std.proofs.Common.{◌≡◌, ◌≢◌, inl, inr, refl, sym, ◌∙◌, ap, subst, ℕ, zero, suc, ◌+◌, ◌-◌, ◌*◌, ◌%◌, ◌<◌, ◌==◌, Bool, true, false, if◌then◌else◌, List, [], ◌∷◌, length, map, slice_get, slice_set, Some, arith}
use Rattle.std.specs.Prelude.{Ok}
use Rattle.fl_base.specs.Control.{bare, with_circuit}
use Rattle.fl_link.specs.Looks.{Look, placed, no_room, spent, found}
use Rattle.fl_hop.proofs.Lists.{set_cases, set_here, set_there, at_within, within}
use Rattle.fl_hop.specs.declared.forward.ForwardOutcome.TheVariants as outcome
use Rattle.fl_ring.specs.Duo.{TheDuo}
use Rattle.fl_ring.specs.SharedSeats.{front_seen}
use Rattle.fl_ring.specs.SharedSides.{TheSide, SharedPuts, SharedTakes}
use Rattle.fl_core.specs.BoardEvents.{Holds, Acks}
use Rattle.fl_core.specs.BoardTurns.{Turns, over}
use Rattle.fl_core.specs.Ends.{at_side, OnBoard, WritesAt}
use Rattle.fl_core.specs.Hearing.{HearsFrag, TakesHeard}
use Rattle.fl_core.specs.Links.{LooksAhead, inbound, ArrivesAt, MonitorWrites, Acknowledges}
use Rattle.fl_core.specs.Sound.{IsCore}
use Rattle.fl_core.specs.View.{TheCore, side_of_link}
use Rattle.fl_core.specs.declared.core_job.CoreJob.{CoreJob}
use Rattle.fl_core.specs.declared.wiring.Inlet.TheVariants as inlet
use Rattle.fl_core.specs.declared.wiring.Outlet.TheVariants as outlet
use Rattle.fl_core_run.specs.LogEntries.{LogEntry, looked, passed, arrived, heard, said, told, opened, called, ruled, wrote, acked, turned, OnRing, Does, Happens}
use Rattle.fl_core_run.specs.Run.{TheRun}
use Rattle.fl_core_run_laws.proofs.Aside.{rings_aside}
use Rattle.fl_core_run_laws.proofs.Laning.{link_side_of, takes_from}
use Rattle.fl_core_run_laws.specs.Flows.{IsApart}
use Rattle.fl_core_run_laws.specs.Logs.{InPlace}
use Rattle.fl_core_turned.specs.Turned.{shared_ways}
use Rattle.fl_world_refines.specs.View.{TheWorld, ring_at}
use Rattle.fl_cores_joined.specs.Joined.{JoinedCore, HasSide, IsJoined, IsRingOf, across_from, alone, facing}
use Rattle.fl_cores_joined.specs.OwnEvents.{HasSidesAcross, FindWhatStands, OwnEventsJoin, JoinedHaveSidesAcross, SidesStayAcross}
use Rattle.fl_cores_joined.specs.Rings.{FacingSide, standing_for, FindsWhatStood, Truly}
use Rattle.fl_cores_joined.specs.Steps.{true_ways, HappensAt}
use Rattle.fl_cores_joined.proofs.Delaying.{grows}
use Rattle.fl_cores_joined.proofs.Exchanging.{as_many, sides_stay}
use Rattle.fl_cores_joined.proofs.Joining.{long_set, is_even, is_odd}
use Rattle.fl_cores_joined.proofs.Lifted.{lifted, queue_lifted, core_lifted, notes_lifted, acts_lifted, in_place_lifted}
use Rattle.fl_cores_joined.proofs.OwnSteps.{ring_kind, once, looks_so, arrives_so, says_so, hears_so, tells_so, writes_so, acks_so, turns_so}

-- ---- sides, each beside the one across

abbrev face : List TheSide → List TheSide → List FacingSide
face [] ps = []
face (a ∷ others) [] = []
face (a ∷ others) (p ∷ ps) = facing p a ∷ face others ps

face_long : (others ps : List TheSide) → length others ≡ length ps → length (face others ps) ≡ length ps
face_long [] ps long = long
face_long (a ∷ others) [] long = refl
face_long (a ∷ others) (p ∷ ps) long = ap suc (face_long others ps (omega (arith, long)))

face_sides : (others ps : List TheSide) → length others ≡ length ps → map (λ (x : FacingSide). x.side) (face others ps) ≡ ps
face_sides [] [] long = refl
face_sides [] (p ∷ ps) long = absurd (omega (arith, long))
face_sides (a ∷ others) [] long = refl
face_sides (a ∷ others) (p ∷ ps) long = ap (λ (rest : List TheSide). p ∷ rest) (face_sides others ps (omega (arith, long)))

face_at : (others ps : List TheSide) (i : ℕ) (p a : TheSide) → slice_get ps i ≡ Some p → slice_get others i ≡ Some a
    → slice_get (face others ps) i ≡ Some (facing p a)
face_at [] ps i p a at is = absurd (cc)
face_at (b ∷ others) [] i p a at is = absurd (cc)
face_at (b ∷ others) (q ∷ ps) zero p a at is =
    let one : q ≡ p = cc in
    let two : b ≡ a = cc in
    λ j. Some (facing (one j) (two j))
face_at (b ∷ others) (q ∷ ps) (suc i) p a at is = face_at others ps i p a at is

face_set : (others ps : List TheSide) (i : ℕ) (q a : TheSide) → slice_get others i ≡ Some a
    → face others (slice_set ps i q) ≡ slice_set (face others ps) i (facing q a)
face_set [] ps i q a is = absurd (cc)
face_set (b ∷ others) [] i q a is = refl
face_set (b ∷ others) (p ∷ ps) zero q a is = let one : b ≡ a = cc in λ j. facing q (one j) ∷ face others ps
face_set (b ∷ others) (p ∷ ps) (suc i) q a is = ap (λ (rest : List FacingSide). facing p b ∷ rest) (face_set others ps i q a is)

face_from : (others ps : List TheSide) (i : ℕ) (x : FacingSide) → slice_get (face others ps) i ≡ Some x
    → (a : TheSide) × (slice_get others i ≡ Some a) × (x.across ≡ a)
face_from [] ps i x at = absurd (cc)
face_from (a ∷ others) [] i x at = absurd (cc)
face_from (a ∷ others) (p ∷ ps) zero x at = let same : facing p a ≡ x = cc in (a, refl, ap (λ (z : FacingSide). z.across) (sym same))
face_from (a ∷ others) (p ∷ ps) (suc i) x at = face_from others ps i x at

-- those across from a core's sides
record Others (xs : List JoinedCore) (sides : List ℕ) : Type 0 where
  others : List TheSide
  long : length others ≡ length sides
  has : (i m : ℕ) (a : TheSide) → slice_get sides i ≡ Some m → slice_get others i ≡ Some a → HasSide xs (across_from m) a

all_others : (xs : List JoinedCore) (sides : List ℕ)
    → ((i m : ℕ) → slice_get sides i ≡ Some m → (side : TheSide) × HasSide xs (across_from m) side) → Others xs sides
all_others xs [] h = record { others = []; long = refl; has = λ i m a at is. absurd (cc) }
all_others xs (m ∷ sides) h =
    let (a, a_is) = h 0 m refl in
    let rest = all_others xs sides (λ i k at. h (suc i) k at) in
    record { others = a ∷ rest.others; long = ap suc rest.long; has = haves a a_is rest }
  where
    haves : (a : TheSide) → HasSide xs (across_from m) a → (rest : Others xs sides) → (i k : ℕ) (b : TheSide) → slice_get (m ∷ sides) i ≡ Some k
        → slice_get (a ∷ rest.others) i ≡ Some b → HasSide xs (across_from k) b
    haves a a_is rest zero k b at is =
        let one : m ≡ k = cc in
        let two : a ≡ b = cc in
        subst (λ (z : TheSide). HasSide xs (across_from k) z) two (subst (λ (z : ℕ). HasSide xs (across_from z) a) one a_is)
    haves a a_is rest (suc i) k b at is = rest.has i k b at is

-- ---- each event

module _ (others : List TheSide) where
  abbrev there : TheRun TheSide → TheRun FacingSide
  there r = lifted (face others) r

  -- each side finds what stands for it
  abbrev Find : TheRun TheSide → TheRun TheSide → Type 0
  Find s t = (i : ℕ) (p q a : TheSide) → slice_get s.rings i ≡ Some p → slice_get t.rings i ≡ Some q → slice_get others i ≡ Some a
      → FindsWhatStood (standing_for p a) p q

  module _ (n : ℕ) (s t : TheRun TheSide) (Event : TheCore → TheSide → TheCore → TheSide → Type 0) (h : OnRing n s Event t) where
    new_is : slice_get t.rings n ≡ Some h.after
    new_is = ap (λ (r : TheRun TheSide). slice_get r.rings n) h.rest ∙ set_here s.rings n h.before h.after h.before_is

    on_ring : (Event2 : TheCore → FacingSide → TheCore → FacingSide → Type 0) → length others ≡ length s.rings
        → ((a : TheSide) → slice_get others n ≡ Some a → Event s.core h.before t.core h.after
        → Event2 s.core (facing h.before a) t.core (facing h.after a))
        → OnRing n (there s) Event2 (there t)
    on_ring Event2 long lift =
        let less = within s.rings n h.before h.before_is in
        let (a, a_is) = at_within others n (omega (arith, less, long)) in
        record {
          before = facing h.before a;
          before_is = face_at others s.rings n h.before a h.before_is a_is;
          after = facing h.after a;
          event = lift a a_is h.event;
          rest = ap there h.rest
              ∙ ap (λ (rings : List FacingSide). record (there s) { core = t.core; rings = rings }) (face_set others s.rings n h.after a a_is);
        }

    finds_there : Find s t → (a : TheSide) → slice_get others n ≡ Some a → FindsWhatStood (standing_for h.before a) h.before h.after
    finds_there find a a_is = find n h.before h.after a h.before_is new_is a_is

  -- one put or take, which leaves the core as it is
  steps : (n : ℕ) (s t : TheRun TheSide) (step : TheSide → Look → TheSide → Type 0) (look : Look) → length others ≡ length s.rings
      → (h : OnRing n s (λ k p k2 q. step p look q × (k2 ≡ k)) t)
      → ((a : TheSide) → slice_get others n ≡ Some a → FindsWhatStood (standing_for h.before a) h.before h.after)
      → OnRing n (there s) (λ k p k2 q. Truly step p look q × (k2 ≡ k)) (there t)
  steps n s t step look long h finds =
      on_ring n s t (λ k p k2 q. step p look q × (k2 ≡ k)) h (λ k p k2 q. Truly step p look q × (k2 ≡ k)) long
      (λ a a_is event. (once a h.before h.after (finds a a_is) step look event.0, event.1))

  module _ (jobs : List CoreJob) (s m : TheRun TheSide) (long : length others ≡ length s.rings) (core : IsCore s.core) (apart : IsApart s.core)
      (find : Find s m) where
    does_so : (log_entry : LogEntry) → InPlace jobs s log_entry → Does shared_ways log_entry s m
        → Does true_ways log_entry (there s) (there m)
    does_so (looked n l answer) place h =
        on_ring n s m _ h
        (λ k p k2 q. LooksAhead (Truly SharedTakes) (λ (z : FacingSide). front_seen z.side.peeked) l.0 (at_side k p) answer (at_side k2 q)) long
        (λ a a_is event. looks_so a h.before h.after (finds_there n s m _ h find a a_is) s.core m.core l.0 answer event)
    does_so (passed n i frag c outcome.Moved) place (mid, put, take) =
        let link_is : side_of_link s.core.link_sides place.link.0 ≡ Some n = link_side_of s place.link n place.leads.link_side in
        let elsewhere : n ≢ i =
        λ e. place.leads.other.1 (apart.link_sides place.link.0 place.onward.0 i (link_is ∙ ap (λ (k : ℕ). Some k) e) place.side) in
        let put_is : slice_get m.rings i ≡ Some put.after =
        ap (λ (r : TheRun TheSide). slice_get r.rings i) take.rest
        ∙ set_there mid.rings n take.after i put.after (new_is i s mid _ put) (λ e. elsewhere (sym e)) in
        let stood : slice_get s.rings n ≡ Some take.before =
        elim (set_cases s.rings i put.after n take.before (ap (λ (r : TheRun TheSide). slice_get r.rings n) (sym put.rest) ∙ take.before_is)) [
          | inl (here, same) ↦ absurd (elsewhere here)
          | inr (other, was) ↦ was
        ] in
        let between : length others ≡ length mid.rings =
        long ∙ sym (ap (λ (r : TheRun TheSide). length r.rings) put.rest ∙ long_set s.rings i put.after) in (
          there mid,
          steps i s mid SharedPuts (placed (bare (with_circuit c.0 frag))) long put
              (λ a a_is. find i put.before put.after a put.before_is put_is a_is),
          steps n mid m SharedTakes (found (bare frag)) between take
              (λ a a_is. find n take.before take.after a stood (new_is n mid m _ take) a_is),
        )
    does_so (passed n i frag c outcome.Full) place h = steps i s m SharedPuts no_room long h (λ a a_is. finds_there i s m _ h find a a_is)
    does_so (passed n i frag c outcome.Spent) place h = steps i s m SharedPuts spent long h (λ a a_is. finds_there i s m _ h find a a_is)
    does_so (arrived n l frag name answer) place h =
        on_ring n s m _ h (λ k p k2 q. ArrivesAt (Truly SharedTakes) (inbound l.0 frag name) (at_side k p) answer (at_side k2 q)) long
        (λ a a_is event. arrives_so a h.before h.after (finds_there n s m _ h find a a_is) s.core m.core (inbound l.0 frag name) answer event)
    does_so (heard n l frag answer) place h =
        on_ring n s m _ h (λ k p k2 q. HearsFrag s.offers l frag k answer k2 × TakesHeard (Truly SharedTakes) frag p answer q) long
        (λ a a_is event. (event.0, hears_so a h.before h.after (finds_there n s m _ h find a a_is) frag answer event.1))
    does_so (said n l answer) place h =
        on_ring n s m _ h (λ k p k2 q. MonitorWrites (Truly SharedPuts) l.0 (at_side k p) answer (at_side k2 q)) long
        (λ a a_is event. says_so a h.before h.after (finds_there n s m _ h find a a_is) s.core m.core l.0 answer event)
    does_so (told n l answer) place h =
        on_ring n s m _ h (λ k p k2 q. Acknowledges (Truly SharedTakes) p answer q × (k2 ≡ k)) long
        (λ a a_is event. (tells_so a h.before h.after (finds_there n s m _ h find a a_is) answer event.0, event.1))
    does_so (opened name request answer) place h = core_lifted (face others) s m _ h
    does_so (called name c answer) place (e, at, h) = (e, at, core_lifted (face others) s m _ h)
    does_so (ruled name msg reply answer) place (e, at, h) = (e, at, core_lifted (face others) s m _ h)
    does_so (wrote name (outlet.Queue n) answer) place (e, at, h) = (e, at, queue_lifted (face others) n s m _ h)
    does_so (wrote name (outlet.Side n) answer) place (e, at, h) = (
      e,
      at,
      on_ring n s m _ h (λ k p k2 q. WritesAt (Truly SharedPuts) e (at_side k p) answer (at_side k2 q)) long
          (λ a a_is event. writes_so a h.before h.after (finds_there n s m _ h find a a_is) e s.core m.core answer event),
    )
    does_so (acked name n answer) place (e, at, h) = (
      e,
      at,
      on_ring n s m _ h (λ k p k2 q. Holds k.board e (λ x. Acks (Truly SharedTakes) x.kind x.end p answer q) × (k2 ≡ k)) long
          (λ a a_is event.
          let (seat, seat_is, tells) = event.0 in
          ((seat, seat_is, acks_so a h.before h.after (finds_there n s m _ h find a a_is) seat.kind seat.end answer tells), event.1)),
    )
    does_so (turned d name (inlet.Queue n) answer) place (e, at, is, h) = (e, at, is, queue_lifted (face others) n s m _ h)
    does_so (turned d name inlet.Arrivals answer) place (e, at, is, h) = (e, at, is, core_lifted (face others) s m _ h)
    does_so (turned d name (inlet.Side n) answer) place (e, at, is, h) =
        let from = takes_from s d e place.0 (inlet.Side n) is place.1 place.3 in (
          e,
          at,
          is,
          on_ring n s m _ h (λ k p k2 q. OnBoard k (λ b c. Turns (Truly SharedTakes) d e (over b p) (Ok answer) (over c q)) k2) long
              (λ a a_is event. record {
                event = turns_so a h.before h.after (finds_there n s m _ h find a a_is) d e s.core.board m.core.board (Ok answer) event.event
                    (ring_kind s.core e n event.event.seat core event.event.seat_is from);
                rest = event.rest;
              }),
        )

-- ---- the law

module _ (jobs : List CoreJob) (n : ℕ) (log_entry : LogEntry) (xs : List JoinedCore) (x : JoinedCore) (after : TheRun TheSide) (x_is : slice_get xs n ≡ Some x)
    (stands : HasSidesAcross xs x) (apart : IsApart x.run.core) (h : Happens shared_ways log_entry x.run after) (place : InPlace jobs x.run log_entry)
    (find : FindWhatStands xs x after) where
  its : Others xs x.sides
  its = all_others xs x.sides stands.across

  long : length its.others ≡ length x.run.rings
  long = its.long ∙ stands.long

  noted : after.rings ≡ h.0.rings
  noted = rings_aside h.0 after log_entry h.2

  long_after : length its.others ≡ length after.rings
  long_after = long ∙ sym (ap length noted ∙ as_many shared_ways log_entry x.run h.0 h.1)

  find_here : Find its.others x.run h.0
  find_here i p q a p_is q_is a_is =
      let less = within x.run.rings i p p_is in
      let same = stands.long in
      let (number, number_is) = at_within x.sides i (omega (arith, less, same)) in
      find i number p q a number_is p_is (ap (λ (ps : List TheSide). slice_get ps i) noted ∙ q_is) (its.has i number a number_is a_is)

  alone_is : (r : TheRun TheSide) → length its.others ≡ length r.rings → alone (there its.others r) ≡ r
  alone_is r many = ap (λ (ps : List TheSide). record r { rings = ps }) (face_sides its.others r.rings many)

  joins : HappensAt jobs n log_entry xs (slice_set xs n (record x { run = after }))
  joins = record {
    before = x;
    before_is = x_is;
    beside = there its.others x.run;
    beside_is = record {
      own = alone_is x.run long;
      across = λ i m p number at.
          let (a, a_is, is) = face_from its.others x.run.rings i p at in
          subst (HasSide xs (across_from m)) (sym is) (its.has i m a number a_is);
    };
    after = there its.others after;
    happens = (
      there its.others h.0,
      does_so its.others jobs x.run h.0 long h.3.core apart find_here log_entry place h.1,
      notes_lifted (face its.others) log_entry h.0 after h.2,
      h.3,
      acts_lifted (face its.others) log_entry x.run h.4,
      tt,
    );
    in_place = in_place_lifted (face its.others) x.run (face_long its.others x.run.rings long) jobs log_entry place;
    rest = ap (λ (r : TheRun TheSide). slice_set xs n (record x { run = r })) (sym (alone_is after long_after));
  }

pub own_events_join : OwnEventsJoin
own_events_join jobs n log_entry xs x after x_is stands apart h place find = joins jobs n log_entry xs x after x_is stands apart h place find

-- ---- cores that make a world have sides across from theirs

side_across : (w : TheWorld) (xs : List JoinedCore) (number : ℕ) → IsJoined w xs → ring_at number < length w.rings
    → (side : TheSide) × HasSide xs (across_from number) side
side_across w xs number joined less =
    let (d, d_is) = at_within w.rings (ring_at number) less in
    by (number % 2 == 0) refl (joined.rings (ring_at number) d d_is)
  where
    by : {d : TheDuo} (b : Bool) → (number % 2 == 0) ≡ b → IsRingOf xs (ring_at number) d → (side : TheSide) × HasSide xs (across_from number) side
    by true e ring =
        let next : across_from number ≡ number + 1 = ap (λ (b : Bool). if b then number + 1 else number - 1) e in
        let half = is_even number e in
        (ring.two, subst (λ (m : ℕ). HasSide xs m ring.two) (ap (λ (k : ℕ). k + 1) (sym half) ∙ sym next) ring.two_is)
    by false e ring =
        let next : across_from number ≡ number - 1 = ap (λ (b : Bool). if b then number + 1 else number - 1) e in
        let half = is_odd number e in
        let back : 2 * ring_at number ≡ across_from number = omega (arith, half, next) in
        (ring.one, subst (λ (m : ℕ). HasSide xs m ring.one) back ring.one_is)

pub joined_have_sides_across : JoinedHaveSidesAcross
joined_have_sides_across w xs joined n x x_is = record {
  long = joined.numbered.sides n x x_is;
  across = λ i number at. side_across w xs number joined (joined.sides n i number x x_is at);
}

-- and stay so
pub sides_stay_across : SidesStayAcross
sides_stay_across jobs n log_entry xs ys stands h k y y_is =
    elim (set_cases xs n (record h.before { run = alone h.after }) k y (ap (λ (l : List JoinedCore). slice_get l k) (sym h.rest) ∙ y_is)) [
      | inl (here, same) ↦
          (let its = stands n h.before h.before_is in
          subst (HasSidesAcross ys) (sym same) (record { long = its.long ∙ sym (sides_stay jobs n log_entry xs ys h); across = later h.before.sides its.across }))
      | inr (other, was) ↦ (let its = stands k y was in record { long = its.long; across = later y.sides its.across })
    ]
  where
    later : (sides : List ℕ) → ((i number : ℕ) → slice_get sides i ≡ Some number → (side : TheSide) × HasSide xs (across_from number) side)
        → (i number : ℕ) → slice_get sides i ≡ Some number → (side : TheSide) × HasSide ys (across_from number) side
    later sides across i number at =
        let (a, has) = across i number at in
        let (b, there_now, more) = grows jobs n log_entry xs ys h (across_from number) a has in
        (b, there_now)
