-- An event of one core goes the same beside other sides across, as long as those have put the same where it goes: what
-- a side across knows, or has seen, is nothing to it.
use Rattle.std.proofs.Common.{◌≡◌, inl, inr, refl, sym, ◌∙◌, ap, subst, ℕ, zero, suc, ◌<◌, Bool, true, false, List, [], ◌∷◌, length, drop, map, nat_le, ◌≤◌, ◌%◌, ◌++◌, append_assoc, append-nil, slice_get, slice_set, Some, arith}
use Rattle.std.specs.Prelude.{Result, Ok, Err}
use Rattle.std.proofs.lemmas.Bool.Decides.{nat_tests}
use Rattle.fl_base.specs.declared.fragment.Frag.{Frag}
use Rattle.fl_base.specs.Control.{bare, with_circuit}
use Rattle.fl_link.specs.Looks.{Look, placed, no_room, spent, saw, found}
use Rattle.fl_link.specs.Queue.{TheQueue}
use Rattle.fl_ring.specs.SharedSides.{TheSide, SharedPuts, SharedTakes}
use Rattle.fl_ring.specs.SharedSeats.{front_seen}
use Rattle.fl_hop.proofs.Lists.{set_cases, at_within, within}
use Rattle.fl_hop.specs.Forward.{Leaves}
use Rattle.fl_hop.specs.declared.forward.ForwardOutcome.{ForwardOutcome}
use Rattle.fl_hop.specs.declared.forward.ForwardOutcome.TheVariants as outcome
use Rattle.fl_hop.specs.declared.forward.HopFront.{HopFront}
use Rattle.fl_hop.specs.declared.forward.HopFront.TheVariants as first
use Rattle.fl_hop.specs.declared.fault.HopFault.{HopFault}
use Rattle.fl_hop.specs.declared.fault.HopFault.TheVariants as hop
use Rattle.fl_hop.specs.declared.entry.HopTarget.TheVariants.{End}
use Rattle.fl_core.specs.declared.answer.LinkFront.{LinkFront}
use Rattle.fl_core.specs.declared.answer.LinkFront.TheVariants as front
use Rattle.fl_core.specs.declared.answer.MonitorAnswer.{MonitorAnswer}
use Rattle.fl_core.specs.declared.answer.MonitorAnswer.TheVariants as answered
use Rattle.fl_core.specs.declared.fault.LinkReceiveFault.{LinkReceiveFault}
use Rattle.fl_core.specs.declared.fault.LinkReceiveFault.TheVariants as link
use Rattle.fl_core.specs.declared.wiring.Outlet.TheVariants as outlet
use Rattle.fl_core.specs.declared.wiring.Inlet.TheVariants as inlet
use Rattle.fl_core.specs.Ends.{at_side}
use Rattle.fl_core.specs.Hearing.{TakesHeard}
use Rattle.fl_core.specs.Links.{Seen, link_of, LooksAhead, Inbound, inbound, ArrivesAt}
use Rattle.fl_core.specs.View.{TheCore}
use Rattle.fl_base.specs.Control.{stamped}
use Rattle.fl_base.specs.Prefix.{IsPrefix}
use Rattle.fl_link.specs.Cursor.{epoch_at}
use Rattle.fl_link.specs.Looks.{saw_ack, found_ack, missed, told as acknowledged, kept, Looks, LinkStep}
use Rattle.fl_ring.specs.Duo.{acknowledgement}
use Rattle.fl_ring.specs.SharedSides.{Looked, free_of, side_seen, side_taken, side_missed}
use Rattle.fl_core_run_laws.proofs.Looking.{logs_look}
use Rattle.fl_core.specs.declared.core_job.CoreJob.{CoreJob}
use Rattle.fl_core_run.specs.Run.{TheRun}
use Rattle.fl_core_run_laws.specs.Logs.{InPlace}
use Rattle.fl_core_run.specs.LogEntries.{LogEntry, looked, passed, arrived, heard, said, told, opened, called, ruled, wrote, acked, turned, OnRing, OnQueue, OnCore, Does, Happens}
use Rattle.fl_world_refines.proofs.FramesBase.{same_some}
use Rattle.fl_cores_joined.specs.Rings.{FacingSide, FindsWhatStood, Truly}
use Rattle.fl_cores_joined.specs.Joined.{JoinedCore, HasSide, across_from, alone}
use Rattle.fl_cores_joined.specs.Steps.{true_ways, HappensAt}
use Rattle.fl_cores_joined.specs.Exchanges.{GoesOver}
use Rattle.fl_core.proofs.Numbering.{goes_to}
use Rattle.fl_cores_joined.proofs.Lifted.{queue_lifted, core_lifted, notes_lifted, acts_lifted, in_place_lifted}
use Rattle.fl_cores_joined.proofs.Looking.{finds_so}
use Rattle.fl_cores_joined.proofs.Passing.{long_map}
use Rattle.fl_cores_joined.proofs.Mapped.{Maps, writes_at, monitor_writes, turns, acks, acknowledges}

-- ---- a side beside another one across

abbrev pub faced : TheSide → FacingSide → FacingSide
faced a p = record { side = p.side; across = a }

abbrev pub IsLike : TheSide → FacingSide → Type 0
IsLike a p = p.across.sent ≡ a.sent

pub truly_faced : (step : TheSide → Look → TheSide → Type 0) (a : TheSide) → Maps (IsLike a) (faced a) (Truly step) (Truly step)
truly_faced step a p q look like (s, finds, same) = (
  (s, subst (λ (l : List Frag). FindsWhatStood (drop (length p.side.got) l) p.side q.side) like finds, refl),
  ap (λ (x : TheSide). x.sent) same ∙ like,
)

-- ---- what an event does there

module _ (a : TheSide) (k k2 : TheCore) (p q : FacingSide) (like : IsLike a p) where
  seen_front : FacingSide → Look
  seen_front x = front_seen x.side.peeked

  fronts : (x y : FacingSide) (f : Frag) → Truly SharedTakes (faced a x) (saw f) (faced a y) → front_seen y.side.peeked ≡ saw f
  fronts x y f ((one, is, (may, now, knows)), finds, same) = ap (λ (s : TheSide). front_seen s.peeked) now ∙ is

  sees : (l : ℕ) (r : Result HopFront HopFault) → Seen (Truly SharedTakes) (λ (x : FacingSide). front_seen x.side.peeked) (link_of k l) r p q
      → Seen (Truly SharedTakes) (λ (x : FacingSide). front_seen x.side.peeked) (link_of k l) r (faced a p) (faced a q) × IsLike a q
  sees l r h =
      let x = finds_so (IsLike a) (faced a) (Truly SharedTakes) (Truly SharedTakes) (truly_faced SharedTakes a) (λ (z : FacingSide). front_seen z.side.peeked)
      (λ (z : FacingSide). front_seen z.side.peeked) fronts (record { table = k.monitor.circuits; link = l }) r p q like h.finds in
      (record { link_side = h.link_side; finds = x.0 }, x.1)

  same_like : q ≡ p → (faced a q ≡ faced a p) × IsLike a q
  same_like e = (ap (faced a) e, subst (IsLike a) (sym e) like)

  looks_faced : (l : ℕ) (r : Result LinkFront LinkReceiveFault) → LooksAhead (Truly SharedTakes) (λ (x : FacingSide). front_seen x.side.peeked) l (at_side k p) r (at_side k2 q)
      → LooksAhead (Truly SharedTakes) (λ (x : FacingSide). front_seen x.side.peeked) l (at_side k (faced a p)) r (at_side k2 (faced a q)) × IsLike a q
  looks_faced l (Ok front.Nothing) (h, e) = let x = sees l (Ok first.Nothing) h in ((x.0, e), x.1)
  looks_faced l (Ok front.Acknowledged) (h, e) = let x = sees l (Ok first.Acknowledged) h in ((x.0, e), x.1)
  looks_faced l (Ok (front.Message frag)) (h, e) = let x = sees l (Ok (first.Monitor frag)) h in ((x.0, e), x.1)
  looks_faced l (Ok (front.Onward frag to c)) (h, e) =
      let x = sees l _ h.seen in ((record { link = h.link; seen = x.0; side_is = h.side_is }, e), x.1)
  looks_faced l (Ok (front.Arrival frag name)) (h, e) = let x = sees l (Ok (first.Goes frag (End name))) h in ((x.0, e), x.1)
  looks_faced l (Err link.Failed) (h, e, same) = let x = same_like same in ((h, e, x.0), x.1)
  looks_faced l (Err link.Misrouted) (h, e) = let x = sees l (Err hop.Misrouted) h in ((x.0, e), x.1)
  looks_faced l (Err link.Marked) (h, e) = let x = sees l (Err hop.Marked) h in ((x.0, e), x.1)
  looks_faced l (Err (link.Wire f)) h = absurd h
  looks_faced l (Err link.Memory) h = absurd h

  leaves_faced : (o : ForwardOutcome) (f : Frag) → Leaves (Truly SharedTakes) o f (record { before = p; after = q })
      → Leaves (Truly SharedTakes) o f (record { before = faced a p; after = faced a q }) × IsLike a q
  leaves_faced outcome.Moved f h = truly_faced SharedTakes a p q (found f) like h
  leaves_faced outcome.Full f h = same_like h
  leaves_faced outcome.Spent f h = same_like h

  arrives_faced : (x : Inbound) (r : Result ForwardOutcome LinkReceiveFault) → ArrivesAt (Truly SharedTakes) x (at_side k p) r (at_side k2 q)
      → ArrivesAt (Truly SharedTakes) x (at_side k (faced a p)) r (at_side k2 (faced a q)) × IsLike a q
  arrives_faced x (Ok o) h =
      let y = leaves_faced o (bare x.frag) h.left in (
        record {
          end = h.end;
          queue = h.queue;
          at = h.at;
          before = h.before;
          before_is = h.before_is;
          after = h.after;
          puts = h.puts;
          left = y.0;
          triggers = h.triggers;
          rest = h.rest;
        },
        y.1,
      )
  arrives_faced x (Err link.Misrouted) (none, e, same) = let y = same_like same in ((none, e, y.0), y.1)
  arrives_faced x (Err link.Failed) h = absurd h
  arrives_faced x (Err link.Marked) h = absurd h
  arrives_faced x (Err (link.Wire f)) h = absurd h
  arrives_faced x (Err link.Memory) h = absurd h

  takes_faced : (frag : Frag) (r : Result MonitorAnswer LinkReceiveFault) → TakesHeard (Truly SharedTakes) frag p r q
      → TakesHeard (Truly SharedTakes) frag (faced a p) r (faced a q) × IsLike a q
  takes_faced frag (Ok answered.Full) h = same_like h
  takes_faced frag (Ok answered.Done) h = truly_faced SharedTakes a p q (found (bare frag)) like h
  takes_faced frag (Ok (answered.Opened e)) h = truly_faced SharedTakes a p q (found (bare frag)) like h
  takes_faced frag (Ok (answered.OpeningRefused e reason)) h = truly_faced SharedTakes a p q (found (bare frag)) like h
  takes_faced frag (Err fault) h = same_like h

-- ---- all sides of a core

abbrev pub faced_all : List TheSide → List FacingSide → List FacingSide
faced_all [] ps = ps
faced_all (a ∷ others) [] = []
faced_all (a ∷ others) (p ∷ ps) = faced a p ∷ faced_all others ps

pub record AreLike (over : ℕ → Type 0) (others : List TheSide) (ps : List FacingSide) : Type 0 where
  pub long : length others ≡ length ps
  pub each : (i : ℕ) (p : FacingSide) (a : TheSide) → over i → slice_get ps i ≡ Some p → slice_get others i ≡ Some a → IsLike a p

pub faced_long : (others : List TheSide) (ps : List FacingSide) → length (faced_all others ps) ≡ length ps
faced_long [] ps = refl
faced_long (a ∷ others) [] = refl
faced_long (a ∷ others) (p ∷ ps) = let e = faced_long others ps in omega (arith, e)

pub faced_at : (others : List TheSide) (ps : List FacingSide) (i : ℕ) (p : FacingSide) (a : TheSide) → slice_get ps i ≡ Some p → slice_get others i ≡ Some a
    → slice_get (faced_all others ps) i ≡ Some (faced a p)
faced_at [] ps i p a at is = absurd (cc)
faced_at (b ∷ others) [] i p a at is = absurd (cc)
faced_at (b ∷ others) (q ∷ ps) zero p a at is =
    let one : q ≡ p = cc in
    let two : b ≡ a = cc in
    λ j. Some (faced (two j) (one j))
faced_at (b ∷ others) (q ∷ ps) (suc i) p a at is = faced_at others ps i p a at is

pub faced_set : (others : List TheSide) (ps : List FacingSide) (i : ℕ) (q : FacingSide) (a : TheSide) → slice_get others i ≡ Some a
    → faced_all others (slice_set ps i q) ≡ slice_set (faced_all others ps) i (faced a q)
faced_set [] ps i q a is = absurd (cc)
faced_set (b ∷ others) [] i q a is = refl
faced_set (b ∷ others) (p ∷ ps) zero q a is = let one : b ≡ a = cc in λ j. faced (one j) q ∷ faced_all others ps
faced_set (b ∷ others) (p ∷ ps) (suc i) q a is = ap (λ (rest : List FacingSide). faced b p ∷ rest) (faced_set others ps i q a is)

pub faced_sides : (others : List TheSide) (ps : List FacingSide) → map (λ (p : FacingSide). p.side) (faced_all others ps) ≡ map (λ (p : FacingSide). p.side) ps
faced_sides [] ps = refl
faced_sides (a ∷ others) [] = refl
faced_sides (a ∷ others) (p ∷ ps) = ap (λ (rest : List TheSide). p.side ∷ rest) (faced_sides others ps)

module _ (others : List TheSide) where
  abbrev pub refaced : TheRun FacingSide → TheRun FacingSide
  refaced r = record r { rings = faced_all others r.rings }

  pub in_place_faced : (s : TheRun FacingSide) (jobs : List CoreJob) (log_entry : LogEntry) → InPlace jobs s log_entry → InPlace jobs (refaced s) log_entry
  in_place_faced s jobs log_entry h = in_place_lifted (faced_all others) s (faced_long others s.rings) jobs log_entry h

-- over these of them
module _ (over : ℕ → Type 0) (others : List TheSide) where
  abbrev LikeRun : TheRun FacingSide → Type 0
  LikeRun r = AreLike over others r.rings

  abbrev there : TheRun FacingSide → TheRun FacingSide
  there r = refaced others r

  -- an event over one side
  on_ring : (n : ℕ) (s t : TheRun FacingSide) (Event : TheCore → FacingSide → TheCore → FacingSide → Type 0) → over n → LikeRun s
      → ((a : TheSide) (p q : FacingSide) → IsLike a p → Event s.core p t.core q → Event s.core (faced a p) t.core (faced a q) × IsLike a q)
      → OnRing n s Event t → OnRing n (there s) Event (there t) × LikeRun t
  on_ring n s t Event its like lift h =
      let less = within s.rings n h.before h.before_is in
      let count = like.long in
      let (a, a_is) = at_within others n (omega (arith, less, count)) in
      let x = lift a h.before h.after (like.each n h.before a its h.before_is a_is) h.event in (
        record {
          before = faced a h.before;
          before_is = faced_at others s.rings n h.before a h.before_is a_is;
          after = faced a h.after;
          event = x.0;
          rest = ap there h.rest ∙ ap (λ (rings : List FacingSide). record s { core = t.core; rings = rings }) (faced_set others s.rings n h.after a a_is);
        },
        subst LikeRun (sym h.rest) (record {
          long = count ∙ sym (set_long s.rings n h.after);
          each = λ i p b good at is.
              elim (set_cases s.rings n h.after i p at) [
                | inl (place, same) ↦
                    (let it : a ≡ b = same_some (slice_get others n) a b a_is (ap (slice_get others) (sym place) ∙ is) in
                    subst (λ (z : TheSide). IsLike z p) it (subst (IsLike a) (sym same) x.1))
                | inr (other, was) ↦ like.each i p b good was is
              ];
        }),
      )
    where
      set_long : (ps : List FacingSide) (i : ℕ) (q : FacingSide) → length (slice_set ps i q) ≡ length ps
      set_long [] i q = refl
      set_long (p ∷ ps) zero q = refl
      set_long (p ∷ ps) (suc i) q = let e = set_long ps i q in omega (arith, e)

  on_queue : (n : ℕ) (s t : TheRun FacingSide) (Event : TheCore → TheQueue → TheCore → TheQueue → Type 0) → LikeRun s
      → OnQueue n s Event t → OnQueue n (there s) Event (there t) × LikeRun t
  on_queue n s t Event like h = (queue_lifted (faced_all others) n s t Event h, subst LikeRun (sym h.rest) like)

  on_core : (s t : TheRun FacingSide) (Event : TheCore → TheCore → Type 0) → LikeRun s → OnCore s Event t → OnCore (there s) Event (there t) × LikeRun t
  on_core s t Event like h = (core_lifted (faced_all others) s t Event h, subst LikeRun (sym h.rest) like)

  -- each event
  pub does_faced : (log_entry : LogEntry) (s m : TheRun FacingSide) → ((i : ℕ) → GoesOver log_entry i → over i) → LikeRun s → Does true_ways log_entry s m
      → Does true_ways log_entry (there s) (there m) × LikeRun m
  does_faced (looked n l answer) s m goes like h =
      on_ring n s m _ (goes n refl) like (λ a p q good event. looks_faced a s.core m.core p q good l.0 answer event) h
  does_faced (passed n i frag c outcome.Moved) s m goes like (mid, put, take) =
      let x = on_ring i s mid _ (goes i (inr refl)) like
      (λ a p q good event. let y = truly_faced SharedPuts a p q (placed (bare (with_circuit c.0 frag))) good event.0 in ((y.0, event.1), y.1)) put in
      let z = on_ring n mid m _ (goes n (inl refl)) x.1
      (λ a p q good event. let y = truly_faced SharedTakes a p q (found (bare frag)) good event.0 in ((y.0, event.1), y.1)) take in
      ((there mid, x.0, z.0), z.1)
  does_faced (passed n i frag c outcome.Full) s m goes like h =
      on_ring i s m _ (goes i (inr refl)) like (λ a p q good event. let y = truly_faced SharedPuts a p q no_room good event.0 in ((y.0, event.1), y.1)) h
  does_faced (passed n i frag c outcome.Spent) s m goes like h =
      on_ring i s m _ (goes i (inr refl)) like (λ a p q good event. let y = truly_faced SharedPuts a p q spent good event.0 in ((y.0, event.1), y.1)) h
  does_faced (arrived n l frag e answer) s m goes like h =
      on_ring n s m _ (goes n refl) like (λ a p q good event. arrives_faced a s.core m.core p q good (inbound l.0 frag e) answer event) h
  does_faced (heard n l frag answer) s m goes like h =
      on_ring n s m _ (goes n refl) like (λ a p q good event. let y = takes_faced a s.core m.core p q good frag answer event.1 in ((event.0, y.0), y.1)) h
  does_faced (said n l answer) s m goes like h =
      on_ring n s m _ (goes n refl) like
      (λ a p q good event. monitor_writes (IsLike a) (faced a) (Truly SharedPuts) (Truly SharedPuts) (truly_faced SharedPuts a) l.0 s.core m.core p q answer good event) h
  does_faced (told n l answer) s m goes like h =
      on_ring n s m _ (goes n refl) like
      (λ a p q good event.
      let y = acknowledges (IsLike a) (faced a) (Truly SharedTakes) (Truly SharedTakes) (truly_faced SharedTakes a) p q answer good event.0 in
      ((y.0, event.1), y.1)) h
  does_faced (opened name request answer) s m goes like h = on_core s m _ like h
  does_faced (called name c answer) s m goes like (e, at, h) = let x = on_core s m _ like h in ((e, at, x.0), x.1)
  does_faced (ruled name msg reply answer) s m goes like (e, at, h) = let x = on_core s m _ like h in ((e, at, x.0), x.1)
  does_faced (wrote name (outlet.Queue n) answer) s m goes like (e, at, h) = let x = on_queue n s m _ like h in ((e, at, x.0), x.1)
  does_faced (wrote name (outlet.Side n) answer) s m goes like (e, at, h) =
      let x = on_ring n s m _ (goes n refl) like
      (λ a p q good event. writes_at (IsLike a) (faced a) (Truly SharedPuts) (Truly SharedPuts) (truly_faced SharedPuts a) e s.core m.core p q answer good event) h in
      ((e, at, x.0), x.1)
  does_faced (acked name n answer) s m goes like (e, at, h) =
      let x = on_ring n s m _ (goes n refl) like
      (λ a p q good event.
      let (seat, seat_is, tells) = event.0 in
      let y = acks (IsLike a) (faced a) (Truly SharedTakes) (Truly SharedTakes) (truly_faced SharedTakes a) seat.kind seat.end p q answer good tells in
      (((seat, seat_is, y.0), event.1), y.1)) h in
      ((e, at, x.0), x.1)
  does_faced (turned d name (inlet.Queue n) answer) s m goes like (e, at, is, h) = let x = on_queue n s m _ like h in ((e, at, is, x.0), x.1)
  does_faced (turned d name inlet.Arrivals answer) s m goes like (e, at, is, h) = let x = on_core s m _ like h in ((e, at, is, x.0), x.1)
  does_faced (turned d name (inlet.Side n) answer) s m goes like (e, at, is, h) =
      let x = on_ring n s m _ (goes n refl) like
      (λ a p q good event.
      let y = turns (IsLike a) (faced a) (Truly SharedTakes) (Truly SharedTakes) (truly_faced SharedTakes a) d e s.core.board m.core.board p q (Ok answer)
      good event.event in
      (record { event = y.0; rest = event.rest }, y.1)) h in
      ((e, at, is, x.0), x.1)

  -- it happens beside them
  pub happens_faced : (log_entry : LogEntry) (s t : TheRun FacingSide) → ((i : ℕ) → GoesOver log_entry i → over i) → LikeRun s
      → Happens true_ways log_entry s t → Happens true_ways log_entry (there s) (there t)
  happens_faced log_entry s t goes like h =
      (there h.0, (does_faced log_entry s h.0 goes like h.1).0, notes_lifted (faced_all others) log_entry h.0 t h.2, h.3, acts_lifted (faced_all others) log_entry s h.4, tt)

-- ---- among other cores

-- each side has put the same
abbrev pub PutTheSame : List JoinedCore → List JoinedCore → Type 0
PutTheSame xs ms = (m : ℕ) (side : TheSide) → HasSide xs m side → (other : TheSide) × HasSide ms m other × (side.sent ≡ other.sent)

-- across from a side stands one, which has put the same if the event goes over that side
abbrev pub StandsAcross : (ℕ → Type 0) → List JoinedCore → ℕ → ℕ → FacingSide → Type 0
StandsAcross over ms i m p = (a : TheSide) × HasSide ms (across_from m) a × (over i → p.across.sent ≡ a.sent)

record Acrosses (over : ℕ → Type 0) (ms : List JoinedCore) (sides : List ℕ) (ps : List FacingSide) : Type 0 where
  others : List TheSide
  like : AreLike over others ps
  has : (i m : ℕ) (a : TheSide) → slice_get sides i ≡ Some m → slice_get others i ≡ Some a → HasSide ms (across_from m) a

acrosses : (over : ℕ → Type 0) (ms : List JoinedCore) (sides : List ℕ) (ps : List FacingSide)
    → ((i m : ℕ) (p : FacingSide) → slice_get sides i ≡ Some m → slice_get ps i ≡ Some p → StandsAcross over ms i m p) → Acrosses over ms sides ps
acrosses over ms [] ps h = record {
  others = map (λ (p : FacingSide). p.across) ps;
  like = record {
    long = long_map (λ (p : FacingSide). p.across) ps;
    each = λ i p a good at is.
        let there : Some a ≡ Some p.across = sym is ∙ goes_to (λ (q : FacingSide). q.across) ps i p at in
        let it : a ≡ p.across = cc in
        ap (λ (s : TheSide). s.sent) (sym it);
  };
  has = λ i m a at is. absurd (cc);
}
acrosses over ms (m ∷ sides) [] h = record {
  others = [];
  like = record { long = refl; each = λ i p a good at is. absurd (cc) };
  has = λ i k a at is. absurd (cc);
}
acrosses over ms (m ∷ sides) (p ∷ ps) h =
    let (a, a_is, sent) = h 0 m p refl refl in
    let rest = acrosses (λ i. over (suc i)) ms sides ps (λ i k q at is. h (suc i) k q at is) in
    record {
      others = a ∷ rest.others;
      like = record { long = (let e = rest.like.long in omega (arith, e)); each = likes a sent rest };
      has = haves a a_is rest;
    }
  where
    likes : (a : TheSide) → (over 0 → p.across.sent ≡ a.sent) → (rest : Acrosses (λ i. over (suc i)) ms sides ps) → (i : ℕ) (q : FacingSide) (b : TheSide)
        → over i → slice_get (p ∷ ps) i ≡ Some q → slice_get (a ∷ rest.others) i ≡ Some b → IsLike b q
    likes a sent rest zero q b good at is =
        let one : p ≡ q = cc in
        let two : a ≡ b = cc in
        subst (λ (z : TheSide). IsLike z q) two (subst (IsLike a) one (sent good))
    likes a sent rest (suc i) q b good at is = rest.like.each i q b good at is

    haves : (a : TheSide) → HasSide ms (across_from m) a → (rest : Acrosses (λ i. over (suc i)) ms sides ps) → (i k : ℕ) (b : TheSide)
        → slice_get (m ∷ sides) i ≡ Some k → slice_get (a ∷ rest.others) i ≡ Some b → HasSide ms (across_from k) b
    haves a a_is rest zero k b at is =
        let one : m ≡ k = cc in
        let two : a ≡ b = cc in
        subst (λ (z : TheSide). HasSide ms (across_from k) z) two (subst (λ (z : ℕ). HasSide ms (across_from z) a) one a_is)
    haves a a_is rest (suc i) k b at is = rest.has i k b at is

pub faced_from : (others : List TheSide) (ps : List FacingSide) (i : ℕ) (q : FacingSide) → length others ≡ length ps → slice_get (faced_all others ps) i ≡ Some q
    → (a : TheSide) × (slice_get others i ≡ Some a) × (q.across ≡ a)
faced_from [] [] i q long at = absurd (cc)
faced_from [] (p ∷ ps) i q long at = absurd (omega (arith, long))
faced_from (a ∷ others) [] i q long at = absurd (omega (arith, long))
faced_from (a ∷ others) (p ∷ ps) zero q long at = let same : faced a p ≡ q = cc in (a, refl, ap (λ (z : FacingSide). z.across) (sym same))
faced_from (a ∷ others) (p ∷ ps) (suc i) q long at = faced_from others ps i q (omega (arith, long)) at

-- so an event of one core happens among others too, where across from each side over which it goes as much was put
module _ (jobs : List CoreJob) (n : ℕ) (log_entry : LogEntry) (xs ys ms : List JoinedCore) (h : HappensAt jobs n log_entry xs ys)
    (among : (i m : ℕ) (p : FacingSide) → slice_get h.before.sides i ≡ Some m → slice_get h.beside.rings i ≡ Some p → StandsAcross (GoesOver log_entry) ms i m p)
    (here : slice_get ms n ≡ Some h.before) where
  its : Acrosses (GoesOver log_entry) ms h.before.sides h.beside.rings
  its = acrosses (GoesOver log_entry) ms h.before.sides h.beside.rings among

  sides_same : (r : TheRun FacingSide) → alone (refaced its.others r) ≡ alone r
  sides_same r = ap (λ (rings : List TheSide). record (alone r) { rings = rings }) (faced_sides its.others r.rings)

  pub again_among : HappensAt jobs n log_entry ms (slice_set ms n (record h.before { run = alone h.after }))
  again_among = record {
    before = h.before;
    before_is = here;
    beside = refaced its.others h.beside;
    beside_is = record {
      own = sides_same h.beside ∙ h.beside_is.own;
      across = λ i m p number at.
          let (a, a_is, is) = faced_from its.others h.beside.rings i p its.like.long at in
          subst (HasSide ms (across_from m)) (sym is) (its.has i m a number a_is);
    };
    after = refaced its.others h.after;
    happens = happens_faced (GoesOver log_entry) its.others log_entry h.beside h.after (λ i goes. goes) its.like h.happens;
    in_place = in_place_faced its.others h.beside jobs log_entry h.in_place;
    rest = ap (λ (r : TheRun TheSide). slice_set ms n (record h.before { run = r })) (sym (sides_same h.after));
  }

-- and where each side has put the same
pub again : (jobs : List CoreJob) (n : ℕ) (log_entry : LogEntry) (xs ys ms : List JoinedCore) (h : HappensAt jobs n log_entry xs ys) → PutTheSame xs ms
    → slice_get ms n ≡ Some h.before → HappensAt jobs n log_entry ms (slice_set ms n (record h.before { run = alone h.after }))
again jobs n log_entry xs ys ms h same here =
    again_among jobs n log_entry xs ys ms h
    (λ i m p number at.
    let (a, has, sent) = same (across_from m) p.across (h.beside_is.across i m p number at) in
    (a, has, λ goes. sent))
    here

-- ---- an event keeps what each side has put

le_is : (a b : ℕ) → nat_le a b ≡ true → a ≤ b
le_is a b h = grind (arith, nat_tests, h)

not_le : (a b : ℕ) → nat_le a b ≡ false → b < a
not_le a b h = grind (arith, nat_tests, h)

by_test : {P : Type 0} (b : Bool) → (b ≡ true → P) → (b ≡ false → P) → P
by_test true f g = f refl
by_test false f g = g refl

pub all_of_it : (xs : List Frag) → IsPrefix xs xs
all_of_it xs = ([], sym (append-nil xs))

looked_same : (need : ℕ) (s t : TheSide) → Looked need s t → t.sent ≡ s.sent
looked_same need s t h = by_test (nat_le need (free_of s))
    (λ q. ap (λ (x : TheSide). x.sent) (h.by_known (le_is need (free_of s) q)))
    (λ q. elim (h.by_look (not_le need (free_of s) q)) [
      | inl miss ↦ ap (λ (x : TheSide). x.sent) miss.1
      | inr count ↦ ap (λ (x : TheSide). x.sent) count.2
    ])

put_stays : (s t : TheSide) (look : Look) → SharedPuts s look t → IsPrefix s.sent t.sent
put_stays s t (placed frag) (plain, most, (m, looks, room, is)) =
    let new : Frag = stamped frag (epoch_at m.size (length m.sent)) (length m.got % 65536) in
    (new ∷ [], ap (λ (x : TheSide). x.sent) is ∙ ap (λ (l : List Frag). l ++ new ∷ []) (looked_same 2 s m looks))
put_stays s t no_room (most, looks, few, little) = subst (IsPrefix s.sent) (sym (looked_same 2 s t looks)) (all_of_it s.sent)
put_stays s t spent (all, is) = subst (IsPrefix s.sent) (sym (ap (λ (x : TheSide). x.sent) is)) (all_of_it s.sent)
put_stays s t look h = absurd h

same_sent : (s t u : TheSide) → t ≡ u → u.sent ≡ s.sent → IsPrefix s.sent t.sent
same_sent s t u is same = subst (IsPrefix s.sent) (sym (ap (λ (x : TheSide). x.sent) is ∙ same)) (all_of_it s.sent)

take_stays : (s t : TheSide) (look : Look) → SharedTakes s look t → IsPrefix s.sent t.sent
take_stays s t (saw frag) (one, look, (may, is, knows)) = same_sent s t (side_seen s one) is refl
take_stays s t saw_ack (one, look, (may, is, knows)) = same_sent s t (side_seen s one) is refl
take_stays s t (found frag) (one, look, (may, is, knows)) = same_sent s t (side_taken s one) is refl
take_stays s t found_ack (one, look, (may, is, knows)) = same_sent s t (side_taken s one) is refl
take_stays s t missed (unseen, is) = same_sent s t (side_missed s) is refl
take_stays s t acknowledged (enough, most, (m, looks, room, is)) =
    let new : Frag = stamped acknowledgement (epoch_at m.size (length m.sent)) (length m.got % 65536) in
    (new ∷ [], ap (λ (x : TheSide). x.sent) is ∙ ap (λ (l : List Frag). l ++ new ∷ []) (looked_same 1 s m looks))
take_stays s t kept (few, is) = same_sent s t s is refl
take_stays s t no_room (enough, inl (all, is)) = same_sent s t s is refl
take_stays s t no_room (enough, inr (most, looks, few, little)) = subst (IsPrefix s.sent) (sym (looked_same 1 s t looks)) (all_of_it s.sent)
take_stays s t look h = absurd h

pub prefix_then : (xs ys zs : List Frag) → IsPrefix xs ys → IsPrefix ys zs → IsPrefix xs zs
prefix_then xs ys zs (a, p) (b, q) = (a ++ b, q ∙ ap (λ (l : List Frag). l ++ b) p ∙ append_assoc xs a b)

looks_stay : (p q : FacingSide) (looks : List Look) → Looks (LinkStep (Truly SharedPuts) (Truly SharedTakes)) p looks q → IsPrefix p.side.sent q.side.sent
looks_stay p q [] h = subst (λ (x : FacingSide). IsPrefix p.side.sent x.side.sent) h (all_of_it p.side.sent)
looks_stay p q (look ∷ looks) (m, inl put, rest) =
    prefix_then p.side.sent m.side.sent q.side.sent (put_stays p.side m.side look put.0) (looks_stay m q looks rest)
looks_stay p q (look ∷ looks) (m, inr take, rest) =
    prefix_then p.side.sent m.side.sent q.side.sent (take_stays p.side m.side look take.0) (looks_stay m q looks rest)

-- by an event of core n each side that stood stands, with more behind what it had put
pub more_put : (jobs : List CoreJob) (n : ℕ) (log_entry : LogEntry) (xs ys : List JoinedCore) (h : HappensAt jobs n log_entry xs ys) (i : ℕ) (p : FacingSide)
    → slice_get h.beside.rings i ≡ Some p → (q : FacingSide) × (slice_get h.after.rings i ≡ Some q) × IsPrefix p.side.sent q.side.sent
more_put jobs n log_entry xs ys h i p at =
    let (q, q_is, (looks, led)) = logs_look true_ways jobs h.beside h.after (log_entry ∷ []) (h.after, h.happens, h.in_place, refl) i p at in
    (q, q_is, looks_stay p q looks led)
