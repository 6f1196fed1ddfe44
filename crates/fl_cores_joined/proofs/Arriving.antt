-- A look of one of the cores that finds a fragment for an end of it, and that fragment's arrival behind the look, are the
-- machine's forward.
use Rattle.std.proofs.Common.{◌≡◌, refl, ◌∙◌, ap, sym, subst, ℕ, List}
use Rattle.std.specs.Prelude.{Result, Ok, Err}
use Rattle.fl_base.specs.declared.fragment.Frag.{Frag}
use Rattle.fl_base.specs.declared.identity.EndId.{EndId}
use Rattle.fl_base.specs.declared.identity.LinkId.{LinkId}
use Rattle.fl_base.specs.Control.{bare}
use Rattle.fl_hop.specs.declared.forward.ForwardOutcome.{ForwardOutcome}
use Rattle.fl_hop.specs.declared.forward.ForwardOutcome.TheVariants as outcome
use Rattle.fl_hop.specs.Forward.{BeforeAfter, Leaves}
use Rattle.fl_link.specs.Looks.{Look, found}
use Rattle.fl_ring.specs.Side.{SideTakes}
use Rattle.fl_ring.specs.SharedSides.{SharedTakes}
use Rattle.fl_ring.specs.SharedSeats.{front_seen}
use Rattle.fl_core.specs.declared.answer.LinkFront.TheVariants as front
use Rattle.fl_core.specs.declared.fault.LinkReceiveFault.{LinkReceiveFault}
use Rattle.fl_core.specs.declared.fault.LinkReceiveFault.TheVariants as link
use Rattle.fl_core.specs.declared.core_job.CoreJob.{CoreJob}
use Rattle.fl_core.specs.Ends.{at_side}
use Rattle.fl_core.specs.Links.{Inbound, inbound, ArrivesAt}
use Rattle.fl_core.specs.Numbers.{renumbered}
use Rattle.fl_core.specs.View.{TheCore}
use Rattle.fl_core_run.specs.Run.{TheRun}
use Rattle.fl_core_run.specs.LogEntries.{LogEntry, looked, arrived}
use Rattle.fl_model.specs.Events.{forward}
use Rattle.fl_model.specs.State.{State}
use Rattle.fl_world_refines.specs.Lending.{OverSide, front_for}
use Rattle.fl_world_refines.specs.Linking.{ArrivesWith, IsMoved}
use Rattle.fl_world_refines.specs.Laws.{StepsAgree}
use Rattle.fl_cores_joined.specs.Rings.{FacingSide, Truly}
use Rattle.fl_cores_joined.specs.Joined.{JoinedCore, AreWhole}
use Rattle.fl_cores_joined.specs.Steps.{HappensAt, neighbour_on, arrival_answer}
use Rattle.fl_cores_joined.specs.Laws.{TheyShow, MachineDoes, ArrivalsJoin}
use Rattle.fl_cores_joined.proofs.Mapped.{Maps}
use Rattle.fl_cores_joined.proofs.Renumbered.{arriving_same}
use Rattle.fl_cores_joined.proofs.Behind.{Behind, mid_whole, seen, mid_joined, same_number, forward_is}
use Rattle.fl_cores_joined.proofs.Looking.{renumbered_failed, fronts_by, looks_arrival}
use Rattle.fl_cores_joined.proofs.Stepping.{ended_whole, lent_side, nothing_noted, IsGood, takes_map}
use Rattle.fl_cores_joined.proofs.Over.{ring_over, OverRing}

-- ---- the arrival, over the ring and under the world's numbers

module _ {P Q : Type 0} (Good : P → Type 0) (m : P → Q) (takes : P → Look → P → Type 0) (takes2 : Q → Look → Q → Type 0) (maps : Maps Good m takes takes2)
    (sides queues : List ℕ) (k k2 : TheCore) (p q : P) (good : Good p) where
  abbrev here : TheCore → TheCore
  here c = renumbered sides queues c

  abbrev between : {T : Type 0} → T → T → BeforeAfter T
  between x y = record { before = x; after = y }

  left_so : (o : ForwardOutcome) (f : Frag) → Leaves takes o f (between p q) → Leaves takes2 o f (between (m p) (m q)) × Good q
  left_so outcome.Moved f h = maps p q (found f) good h
  left_so outcome.Full f h = (ap m h, subst Good (sym h) good)
  left_so outcome.Spent f h = (ap m h, subst Good (sym h) good)

  arrives_so : (x : Inbound) (r : Result ForwardOutcome LinkReceiveFault) → ArrivesAt takes x (at_side k p) r (at_side k2 q)
      → ArrivesAt takes2 x (at_side (here k) (m p)) r (at_side (here k2) (m q)) × Good q
  arrives_so x (Ok o) h =
      let y = left_so o (bare x.frag) h.left in (
        record {
          end = h.end;
          queue = h.queue;
          at = arriving_same sides queues k x.end ∙ h.at;
          before = h.before;
          before_is = h.before_is;
          after = h.after;
          puts = h.puts;
          left = y.0;
          triggers = h.triggers;
          rest = ap here h.rest;
        },
        y.1,
      )
  arrives_so x (Err link.Misrouted) (none, e, same) =
      ((arriving_same sides queues k x.end ∙ none, ap here e ∙ renumbered_failed sides queues k x.link, ap m same), subst Good (sym same) good)
  arrives_so x (Err fault) h = absurd h

is_moved : (r : Result ForwardOutcome LinkReceiveFault) → IsMoved r (arrival_answer r)
is_moved (Ok o) = refl
is_moved (Err fault) = refl

-- ---- both

module _ (law : StepsAgree) (n i : ℕ) (l : LinkId) (frag : Frag) (e : EndId) (answer : Result ForwardOutcome LinkReceiveFault) (jobs : List CoreJob)
    (xs ms ys : List JoinedCore) (s : State) (show : TheyShow xs s) (whole : AreWhole xs) (still : AreWhole ys)
    (h : HappensAt jobs n (looked i l (Ok (front.Arrival frag e))) xs ms) (g : HappensAt jobs n (arrived i l frag e answer) ms ys) where
  abbrev arrival : LogEntry
  arrival = arrived i l frag e answer

  looks : Behind jobs n i l (Ok (front.Arrival frag e)) (Ok (front.Arrival frag e)) xs ms s h
  looks = record {
    show = show;
    whole = whole;
    stays = h.happens.1.event.1;
    lifts = λ which p q good event.
        looks_arrival (IsGood p.across) (lent_side which) (Truly SharedTakes) SideTakes (takes_map which p.across)
        (λ (z : FacingSide). front_seen z.side.peeked) front_for
        (λ x y f t. fronts_by which (lent_side which x).duo.now (lent_side which y).duo.now f t.1)
        h.before.sides h.before.queues l.0 h.beside.core h.happens.0.core p q good frag e event;
  }

  -- the arrival, of the same core over the same side
  abbrev last : TheRun FacingSide
  last = g.happens.0

  last_noted : g.after ≡ record last { progresses = g.after.progresses }
  last_noted = nothing_noted g.after last g.happens.2

  come : OverRing (seen looks).world jobs n arrival ms ys g (mid_joined looks) (mid_whole looks) last (ended_whole jobs n arrival ms ys g last last_noted still) i
      (ArrivesWith (inbound l.0 frag e) (arrival_answer answer))
  come =
      ring_over (seen looks).world jobs n arrival ms ys g (mid_joined looks) (mid_whole looks) last (ended_whole jobs n arrival ms ys g last last_noted still) i
      (λ k p k2 q. ArrivesAt (Truly SharedTakes) (inbound l.0 frag e) (at_side k p) answer (at_side k2 q))
      (ArrivesWith (inbound l.0 frag e) (arrival_answer answer))
      (λ which p q good event.
      let x = arrives_so (IsGood p.across) (lent_side which) (Truly SharedTakes) SideTakes (takes_map which p.across) g.before.sides g.before.queues
      g.beside.core last.core p q good (inbound l.0 frag e) answer event in
      ((answer, x.0, is_moved answer), x.1))
      g.happens.1

  pub arrives_there : MachineDoes (forward n (neighbour_on h.before.run.core l)) (arrival_answer answer) s ys
  arrives_there =
      forward_is looks law ys arrival g last last_noted come.world come.they_make (arrival_answer answer) (come.bindings ∙ (seen looks).bindings)
      (subst (λ (k : ℕ). OverSide (seen looks).world n k (ArrivesWith (inbound l.0 frag e) (arrival_answer answer)) come.world)
      (same_number looks g.before g.before_is come.number come.number_is) come.over)

pub arrivals_are : StepsAgree → ArrivalsJoin
arrivals_are law n i l frag e answer jobs xs ms ys s show whole still h g =
    arrives_there law n i l frag e answer jobs xs ms ys s show whole still h g
