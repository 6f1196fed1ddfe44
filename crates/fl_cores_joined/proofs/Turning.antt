-- A turn of a dispatcher of one of the cores is the machine's: the end that is due takes from a queue, from a ring, or from
-- its own arrival queue.
use Rattle.std.proofs.Common.{◌≡◌, inl, refl, sym, ◌∙◌, ap, subst, ℕ, nat_lt, true, false, not, List, length, slice_get, Option, Some, None}
use Rattle.std.specs.Prelude.{Ok}
use Rattle.fl_base.specs.declared.identity.EndId.{EndId}
use Rattle.fl_base.specs.Given.{given}
use Rattle.fl_hop.proofs.Lists.{within}
use Rattle.fl_link.specs.Looks.{Look}
use Rattle.fl_link.specs.Queue.{QueueTakes}
use Rattle.fl_ring.specs.Side.{SideTakes}
use Rattle.fl_ring.specs.SharedSides.{SharedTakes}
use Rattle.fl_endpoint.specs.Accounts.{Sound as IsEnd}
use Rattle.fl_core.specs.declared.turn_answer.TurnAnswer.{TurnAnswer}
use Rattle.fl_core.specs.BoardView.{TheDispatcher, TheBoard, due, due_in}
use Rattle.fl_core.specs.BoardEvents.{Holds}
use Rattle.fl_core.specs.BoardTurns.{Turns, over}
use Rattle.fl_core.specs.declared.wiring.Inlet.{Inlet}
use Rattle.fl_core.specs.declared.wiring.Inlet.TheVariants as inlet
use Rattle.fl_core.specs.declared.core_job.CoreJob.{CoreJob}
use Rattle.fl_core.specs.Ends.{OnBoard, OverArrivals}
use Rattle.fl_core.specs.Numbers.{renumbered}
use Rattle.fl_core.specs.View.{TheCore, place_of, inlet_of}
use Rattle.fl_core_run.specs.Run.{TheRun}
use Rattle.fl_core_run.specs.LogEntries.{OnRing, OnQueue, OnCore, IsSoundAt, turned}
use Rattle.fl_core_run_laws.proofs.Laning.{takes_from}
use Rattle.fl_model.specs.Events.{DispatcherId, turn, Answer}
use Rattle.fl_model.specs.State.{State}
use Rattle.fl_world_refines.specs.View.{Given, If, TheWorld, has_dispatcher}
use Rattle.fl_world_refines.specs.ShowsState.{Shows}
use Rattle.fl_world_refines.specs.Lending.{Refuses, DoesNothing}
use Rattle.fl_world_refines.specs.Taking.{turn_answer, as_turn, due_at, TurnsWith, TurnsArrivals, TurnsOver, TurnsAt, HasTurn}
use Rattle.fl_world_refines.specs.Laws.{StepsAgree}
use Rattle.fl_world_refines.proofs.Tests.{lt_true}
use Rattle.fl_cores_joined.specs.Rings.{FacingSide, Truly}
use Rattle.fl_cores_joined.specs.Joined.{JoinedCore, in_world, IsJoined, AreWhole}
use Rattle.fl_cores_joined.specs.Steps.{HappensAt}
use Rattle.fl_cores_joined.specs.Laws.{MachineDoes, IsTheMachines}
use Rattle.fl_cores_joined.proofs.Mapped.{turns}
use Rattle.fl_cores_joined.proofs.Renumbered.{inlet_is, arrivals_same}
use Rattle.fl_cores_joined.proofs.Joining.{moved_to}
use Rattle.fl_cores_joined.proofs.Stepping.{begun, ended_whole, there_is, finish, lent_side, noted, turn_noted, IsGood, takes_map}
use Rattle.fl_cores_joined.proofs.Over.{ring_over, queue_over, core_over}

abbrev at : ℕ → ℕ → DispatcherId
at n d = record { core = n; place = d }

due_there : (o : Option TheDispatcher) (e : ℕ) → due_in o ≡ Some e → (d : TheDispatcher) × (o ≡ Some d)
due_there None e q = absurd (cc)
due_there (Some d) e q = (d, refl)

-- a turn of the end that is due is what the world's dispatcher comes to
has_turn : (w w2 : TheWorld) (n d e : ℕ) (k : TheCore) (a : Answer) → slice_get w.cores n ≡ Some k → due k.board d ≡ Some e → TurnsAt (at n d) e w a w2
    → HasTurn (at n d) w a w2
has_turn w w2 n d e k a core_is is_due had =
    let there = due_there (slice_get k.board.dispatchers d) e is_due in
    let has : has_dispatcher w (at n d) ≡ true =
    ap (λ (o : Option TheCore). given o false λ (c : TheCore). nat_lt d (length c.board.dispatchers)) core_is ∙ lt_true d (length k.board.dispatchers) (within k.board.dispatchers d there.0 there.1) in
    let is : due_at w (at n d) ≡ Some e = ap (λ (o : Option TheCore). given o None λ (c : TheCore). due c.board d) core_is ∙ is_due in
    subst (λ b. If (not b) (Refuses 92 w a w2) (Given (due_at w (at n d)) (DoesNothing w a w2) (λ i. TurnsAt (at n d) i w a w2))) (sym has)
    (subst (λ o. Given o (DoesNothing w a w2) (λ i. TurnsAt (at n d) i w a w2)) (sym is) had)

module _ (law : StepsAgree) (d : ℕ) (name : EndId) (from : Inlet) (answer : TurnAnswer) (n : ℕ) (jobs : List CoreJob) (xs ys : List JoinedCore)
    (h : HappensAt jobs n (turned d name from answer) xs ys) (s : State) (w : TheWorld) (joined : IsJoined w xs) (shows : Shows w s) (whole : AreWhole xs)
    (still : AreWhole ys) (m : TheRun FacingSide) (same : h.after ≡ noted jobs n (turned d name from answer) xs ys h m) (e : ℕ)
    (place_is : place_of h.beside.core name ≡ Some e) (is_due : due h.beside.core.board d ≡ Some e) (sound : IsSoundAt h.beside name) where
  abbrev x : JoinedCore
  x = begun jobs n (turned d name from answer) xs ys h

  -- the end that has the turn is sound
  ready : {T : Type 0} (takes : T → Look → T → Type 0) (c : TheBoard) (p q : T)
      → Turns takes d e (over h.beside.core.board p) (Ok answer) (over c q) → Holds h.beside.core.board e (λ z. IsEnd z.end)
  ready takes c p q had = (had.seat, had.seat_is, sound e had.seat place_is had.seat_is)

  does_over : (w2 : TheWorld) (there : Inlet) → inlet_of (in_world x) e ≡ Some there
      → TurnsOver there n (as_turn d e name (turn_answer name answer)) w w2 → HasTurn (at n d) w (turn_answer name answer) w2
  does_over w2 there takes had =
      let core_is = there_is jobs n (turned d name from answer) xs ys h w joined in
      has_turn w w2 n d e (in_world x) (turn_answer name answer) core_is is_due
      (name, there, record { core = in_world x; core_is = core_is; due_is = is_due; name_is = place_is; inlet_is = takes }, had)

  over_side : (i : ℕ) → inlet_of h.beside.core e ≡ Some (inlet.Side i)
      → OnRing i h.beside (λ k p k2 q. OnBoard k (λ b c. Turns (Truly SharedTakes) d e (over b p) (Ok answer) (over c q)) k2) m
      → MachineDoes (turn (at n d)) (turn_answer name answer) s ys
  over_side i takes on =
      let it = ring_over w jobs n (turned d name from answer) xs ys h joined whole m
      (ended_whole jobs n (turned d name from answer) xs ys h m same still) i
      (λ k p k2 q. OnBoard k (λ b c. Turns (Truly SharedTakes) d e (over b p) (Ok answer) (over c q)) k2)
      (TurnsWith SideTakes (as_turn d e name (turn_answer name answer)))
      (λ which p q good event.
      let k = turns (IsGood p.across) (lent_side which) (Truly SharedTakes) SideTakes (takes_map which p.across) d e h.beside.core.board m.core.board p q
      (Ok answer) good event.event in (
        (
          answer,
          ready (Truly SharedTakes) m.core.board p q event.event,
          record { event = k.0; rest = ap (renumbered x.sides x.queues) event.rest },
          refl,
        ),
        k.1,
      ))
      on in
      let there = inlet_is x.sides x.queues h.beside.core e (inlet.Side i) takes
      ∙ ap (λ (j : ℕ). Some (inlet.Side j)) (moved_to x.sides i it.number it.number_is) in
      finish jobs n (turned d name from answer) xs ys h law (turn (at n d)) (turn_answer name answer) s w it.world m shows same it.they_make it.bindings
      (does_over it.world (inlet.Side it.number) there (inl it.over))

  over_queue : (i : ℕ) → inlet_of h.beside.core e ≡ Some (inlet.Queue i)
      → OnQueue i h.beside (λ k p k2 q. OnBoard k (λ b c. Turns QueueTakes d e (over b p) (Ok answer) (over c q)) k2) m
      → MachineDoes (turn (at n d)) (turn_answer name answer) s ys
  over_queue i takes on =
      let it = queue_over w jobs n (turned d name from answer) xs ys h joined whole m
      (ended_whole jobs n (turned d name from answer) xs ys h m same still) i
      (λ k p k2 q. OnBoard k (λ b c. Turns QueueTakes d e (over b p) (Ok answer) (over c q)) k2)
      (TurnsWith QueueTakes (as_turn d e name (turn_answer name answer)))
      (λ p q event. (
        answer,
        ready QueueTakes m.core.board p q event.event,
        record { event = event.event; rest = ap (renumbered x.sides x.queues) event.rest },
        refl,
      ))
      on in
      let there = inlet_is x.sides x.queues h.beside.core e (inlet.Queue i) takes
      ∙ ap (λ (j : ℕ). Some (inlet.Queue j)) (moved_to x.queues i it.number it.number_is) in
      finish jobs n (turned d name from answer) xs ys h law (turn (at n d)) (turn_answer name answer) s w it.world m shows same it.they_make it.bindings
      (does_over it.world (inlet.Queue it.number) there (inl it.over))

  over_arrivals : inlet_of h.beside.core e ≡ Some inlet.Arrivals
      → OnCore h.beside (λ k k2. OverArrivals k e (λ b p c q. Turns QueueTakes d e (over b p) (Ok answer) (over c q)) k2) m
      → MachineDoes (turn (at n d)) (turn_answer name answer) s ys
  over_arrivals takes on =
      let it = core_over w jobs n (turned d name from answer) xs ys h joined whole m
      (ended_whole jobs n (turned d name from answer) xs ys h m same still)
      (λ k k2. OverArrivals k e (λ b p c q. Turns QueueTakes d e (over b p) (Ok answer) (over c q)) k2)
      (TurnsArrivals (as_turn d e name (turn_answer name answer)))
      (λ event. (
        answer,
        ready QueueTakes m.core.board event.before event.after event.event,
        record {
          place = event.place;
          place_is = arrivals_same x.sides x.queues h.beside.core e ∙ event.place_is;
          before = event.before;
          before_is = event.before_is;
          after = event.after;
          event = event.event;
          rest = ap (renumbered x.sides x.queues) event.rest;
        },
        refl,
      ))
      on in
      finish jobs n (turned d name from answer) xs ys h law (turn (at n d)) (turn_answer name answer) s w it.world m shows same it.they_make it.bindings
      (does_over it.world inlet.Arrivals (inlet_is x.sides x.queues h.beside.core e inlet.Arrivals takes) it.over)

pub turns_are : StepsAgree → (n d : ℕ) (name : EndId) (from : Inlet) (answer : TurnAnswer)
    → IsTheMachines (turned d name from answer) n (turn (at n d)) (turn_answer name answer)
turns_are law n d name (inlet.Side i) answer jobs xs ys s show whole still h =
    let (m, (e, found, is_due, on), same, sound, acts, known) = h.happens in
    let (take, take_is, its, is, none) = h.in_place in
    over_side law d name (inlet.Side i) answer n jobs xs ys h s show.world show.joined show.shows whole still m (turn_noted name answer m h.after same) e found
    is_due acts i (takes_from h.beside d e take (inlet.Side i) is_due take_is is) on
turns_are law n d name (inlet.Queue i) answer jobs xs ys s show whole still h =
    let (m, (e, found, is_due, on), same, sound, acts, known) = h.happens in
    let (take, take_is, its, is, none) = h.in_place in
    over_queue law d name (inlet.Queue i) answer n jobs xs ys h s show.world show.joined show.shows whole still m (turn_noted name answer m h.after same) e found
    is_due acts i (takes_from h.beside d e take (inlet.Queue i) is_due take_is is) on
turns_are law n d name inlet.Arrivals answer jobs xs ys s show whole still h =
    let (m, (e, found, is_due, on), same, sound, acts, known) = h.happens in
    let (take, take_is, its, is, none) = h.in_place in
    over_arrivals law d name inlet.Arrivals answer n jobs xs ys h s show.world show.joined show.shows whole still m (turn_noted name answer m h.after same) e found
    is_due acts (takes_from h.beside d e take inlet.Arrivals is_due take_is is) on
