-- What a running core does, with all its sides and queues, under other numbers of bindings.
use Rattle.std.proofs.Common.{◌≡◌, ◌≢◌, ◌∙◌, ◌<◌, ◌≤◌, ◌∷◌, ℕ, refl, subst, inl, inr, arith, Bool, List, Some, ap, false, length, slice_get, slice_set, sym, true}
use Rattle.fl_base.specs.Control.{bare, circuit_of, with_circuit}
use Rattle.fl_base.specs.Numbered.{most_bindings}
use Rattle.fl_base.specs.declared.fragment.Frag.{Frag}
use Rattle.fl_base.specs.declared.identity.Circuit.{Circuit}
use Rattle.fl_base.specs.declared.identity.EndId.{EndId}
use Rattle.fl_base.specs.declared.identity.LinkId.{LinkId}
use Rattle.fl_base.specs.declared.identity.MsgNo.{MsgNo}
use Rattle.fl_core.specs.BoardEvents.{Acks, ChangesEnd, Holds}
use Rattle.fl_core.specs.BoardTurns.{Turns}
use Rattle.fl_core.specs.BoardView.{TheBoard}
use Rattle.fl_core.specs.Ends.{OnBoard, OverArrivals, WritesAt, at_side}
use Rattle.fl_core.specs.Hearing.{HearsFrag, Offers, TakesHeard}
use Rattle.fl_core.specs.Links.{LooksAhead}
use Rattle.fl_core.specs.Making.{asked}
use Rattle.fl_core.specs.View.{TheCore, place_of}
use Rattle.fl_core.specs.declared.answer.LinkFront.{LinkFront}
use Rattle.fl_core.specs.declared.answer.MonitorAnswer.{MonitorAnswer}
use Rattle.fl_core.specs.declared.answer.MonitorWrite.{MonitorWrite}
use Rattle.fl_core.specs.declared.board_fault.BoardFault.{BoardFault}
use Rattle.fl_core.specs.declared.core_job.OpenRequest.{OpenRequest}
use Rattle.fl_core.specs.declared.fault.LinkReceiveFault.{LinkReceiveFault}
use Rattle.fl_core.specs.declared.fault.OpenFault.{OpenFault}
use Rattle.fl_core.specs.declared.turn_answer.AckAnswer.{AckAnswer}
use Rattle.fl_core.specs.declared.turn_answer.TurnAnswer.{TurnAnswer}
use Rattle.fl_core_run.specs.Run.{TheRun}
use Rattle.fl_cores_joined.proofs.Joining.{long_set}
use Rattle.fl_cores_joined.specs.Rings.{FacingSide, Truly}
use Rattle.fl_endpoint.specs.Events.{Calls, SetsRule}
use Rattle.fl_endpoint.specs.declared.answer.WriteAnswer.{WriteAnswer}
use Rattle.fl_endpoint.specs.declared.fault.EndFault.{EndFault}
use Rattle.fl_hop.specs.declared.forward.ForwardOutcome.{ForwardOutcome}
use Rattle.fl_link.specs.Queue.{QueuePuts, QueueTakes, TheQueue}
use Rattle.fl_ring.specs.SharedSeats.{front_seen}
use Rattle.fl_ring.specs.SharedSides.{SharedPuts, SharedTakes}
use Rattle.fl_value_data.specs.Value.{TheCall}
use Rattle.fl_world_refines.proofs.FramesBase.{same_some}
use Rattle.fl_world_refines.specs.View.{ring_at}
use Rattle.std.specs.Prelude.{Err, Ok, Result}
use Rattle.fl_link.specs.Looks.{Look, placed, no_room, spent, found}
use Rattle.fl_hop.specs.declared.forward.ForwardOutcome.TheVariants as outcome
use Rattle.fl_core.specs.declared.answer.LinkFront.TheVariants as front
use Rattle.fl_core.specs.declared.answer.MonitorAnswer.TheVariants as answered
use Rattle.fl_core.specs.declared.wiring.Outlet.TheVariants as outlet
use Rattle.fl_core.specs.declared.wiring.Inlet.TheVariants as inlet
use Rattle.fl_endpoint.specs.declared.answer.WriteAnswer.TheVariants as write
use Rattle.fl_core_run.specs.LogEntries.{looked, passed, arrived, heard, said, told, opened, called, ruled, wrote, acked, turned, OnRing, OnQueue, OnCore, Does}
use Rattle.fl_hop.proofs.Lists.{set_cases, set_here, within, at_within}
use Rattle.fl_cores_joined.specs.Steps.{true_ways}
use Rattle.fl_core.specs.BoardTurns.{over}
use Rattle.fl_core_run.specs.LogEntries.{PutsAt, IsCopyOf}
use Rattle.fl_core.specs.BoardView.{due}
use Rattle.fl_cores_joined.specs.Renamed.{Renaming, end_under, request_under, heard_under, CoreUnder, FragUnder}
use Rattle.fl_cores_joined.proofs.RenamedSteps.{Beside, SideBeside, Goes, puts, finds_no_room, is_spent, takes_it, stays, goes_on_as_it_is}
use Rattle.fl_cores_joined.proofs.RenamedSides.{calls_stay}
use Rattle.fl_cores_joined.proofs.RenamedLinks.{board_is, After, IsLastLook, looks_last, looks_message, looks_onward, looks_arrival, arrives_there, writes_there, tells_there}
use Rattle.fl_cores_joined.proofs.RenamedEnds.{BoardAfter, on_board, over_arrivals, writes_same, writes_on_link}
use Rattle.fl_cores_joined.proofs.RenamedHears.{hears_there, asks_there}

module _ (r : Renaming) (links : ℕ → Bool) (sides : List ℕ) where
  pub record Runs (s t : TheRun FacingSide) : Type 0 where
    pub core : CoreUnder r s.core t.core
    pub count : length t.rings ≡ length s.rings
    pub rings : (i number : ℕ) (p q : FacingSide) → slice_get sides i ≡ Some number → slice_get s.rings i ≡ Some p
        → slice_get t.rings i ≡ Some q → SideBeside r (links (ring_at number)) p q
    pub queues : t.queues ≡ s.queues
    pub offers : t.offers ≡ s.offers

  -- what it left, and the event there
  pub record Done (m : TheRun FacingSide) (Event : TheRun FacingSide → Type 0) : Type 0 where
    pub run : TheRun FacingSide
    pub under : Runs m run
    pub event : Event run

  pub record SideDone (b : Bool) (k2 : TheCore) (q : FacingSide) (Event : TheCore → FacingSide → Type 0) : Type 0 where
    pub core : TheCore
    pub under : CoreUnder r k2 core
    pub side : FacingSide
    pub beside : SideBeside r b q side
    pub event : Event core side

  same_sides : (k number : ℕ) (p a q z : FacingSide) → k ≡ number → p ≡ a → q ≡ z → SideBeside r (links (ring_at number)) a z
      → SideBeside r (links (ring_at k)) p q
  same_sides k number p a q z ks ps qs h =
      subst (λ (x : ℕ). SideBeside r (links (ring_at x)) p q) (sym ks)
      (subst (λ (x : FacingSide). SideBeside r (links (ring_at number)) x q) (sym ps)
      (subst (λ (x : FacingSide). SideBeside r (links (ring_at number)) a x) (sym qs) h))

  module _ (s t m : TheRun FacingSide) (u : Runs s t) where
    -- ---- over a side

    module _ (n number : ℕ) (number_is : slice_get sides n ≡ Some number) (Event Event2 : TheCore → FacingSide → TheCore → FacingSide → Type 0) where
      module _ (lift : (p q pp : FacingSide) → SideBeside r (links (ring_at number)) p pp → Event s.core p m.core q
          → SideDone (links (ring_at number)) m.core q (λ c z. Event2 t.core pp c z)) (h : OnRing n s Event m) where
        found_there : (pp : FacingSide) × (slice_get t.rings n ≡ Some pp)
        found_there =
            let less = within s.rings n h.before h.before_is in
            let count = u.count in
            at_within t.rings n (omega (arith, less, count))

        lifted : SideDone (links (ring_at number)) m.core h.after (λ c z. Event2 t.core found_there.0 c z)
        lifted = lift h.before h.after found_there.0 (u.rings n number h.before found_there.0 number_is h.before_is found_there.1) h.event

        abbrev left : TheRun FacingSide
        left = record t { core = lifted.core; rings = slice_set t.rings n lifted.side }

        each_side : (i k : ℕ) (p q : FacingSide) → slice_get sides i ≡ Some k → slice_get m.rings i ≡ Some p → slice_get left.rings i ≡ Some q
            → SideBeside r (links (ring_at k)) p q
        each_side i k p q k_is p_is q_is =
            elim (set_cases s.rings n h.after i p (ap (λ (x : TheRun FacingSide). slice_get x.rings i) (sym h.rest) ∙ p_is)) [
              | inl (place, same) ↦
                  same_sides k number p h.after q lifted.side
                  (same_some (slice_get sides n) k number (ap (slice_get sides) (sym place) ∙ k_is) number_is) same
                  (same_some (slice_get (slice_set t.rings n lifted.side) n) q lifted.side (ap (slice_get (slice_set t.rings n lifted.side)) (sym place) ∙ q_is)
                  (set_here t.rings n found_there.0 lifted.side found_there.1)) lifted.beside
              | inr (other, was) ↦ elim (set_cases t.rings n lifted.side i q q_is) [
                | inl (place, same) ↦ absurd (other place)
                | inr (others, stood) ↦ u.rings i k p q k_is was stood
              ]
            ]

        on_ring : Done m (λ x. OnRing n t Event2 x)
        on_ring = record {
          run = left;
          under = record {
            core = lifted.under;
            count = long_set t.rings n lifted.side ∙ u.count ∙ sym (long_set s.rings n h.after) ∙ sym (ap (λ (x : TheRun FacingSide). length x.rings) h.rest);
            rings = each_side;
            queues = u.queues ∙ sym (ap (λ (x : TheRun FacingSide). x.queues) h.rest);
            offers = u.offers ∙ sym (ap (λ (x : TheRun FacingSide). x.offers) h.rest);
          };
          event = record { before = found_there.0; before_is = found_there.1; after = lifted.side; event = lifted.event; rest = refl };
        }

      -- of a link
      pub on_link : links (ring_at number) ≡ true
          → ((p q pp : FacingSide) (b : Beside r p pp) → Event s.core p m.core q → After r s.core t.core u.core m.core q (λ c z. Event2 t.core pp c z))
          → OnRing n s Event m → Done m (λ x. OnRing n t Event2 x)
      on_link yes_is lift h =
          on_ring
          (λ p q pp beside event.
          let it = lift p q pp (subst (λ (b : Bool). SideBeside r b p pp) yes_is beside) event in
          record {
            core = it.core;
            under = it.under;
            side = it.side;
            beside = subst (λ (b : Bool). SideBeside r b q it.side) (sym yes_is) it.beside;
            event = it.event;
          }) h

      -- of a binding
      pub on_own : links (ring_at number) ≡ false
          → ((p q : FacingSide) → Event s.core p m.core q → BoardAfter r s.core t.core u.core m.core (λ c. Event2 t.core p c q))
          → OnRing n s Event m → Done m (λ x. OnRing n t Event2 x)
      on_own no_is lift h =
          on_ring
          (λ p q pp beside event.
          let it = lift p q event in
          let same : pp ≡ p = subst (λ (b : Bool). SideBeside r b p pp) no_is beside in
          record {
            core = it.core;
            under = it.under;
            side = q;
            beside = subst (λ (b : Bool). SideBeside r b q q) (sym no_is) refl;
            event = subst (λ (z : FacingSide). Event2 t.core z it.core q) (sym same) it.event;
          }) h

    -- ---- over a queue, or by the core alone

    rings_stay : m.rings ≡ s.rings → (i k : ℕ) (p q : FacingSide) → slice_get sides i ≡ Some k → slice_get m.rings i ≡ Some p → slice_get t.rings i ≡ Some q
        → SideBeside r (links (ring_at k)) p q
    rings_stay same i k p q k_is p_is q_is = u.rings i k p q k_is (ap (λ (xs : List FacingSide). slice_get xs i) (sym same) ∙ p_is) q_is

    pub on_queue : (n : ℕ) (Event Event2 : TheCore → TheQueue → TheCore → TheQueue → Type 0)
        → ((p q : TheQueue) → Event s.core p m.core q → BoardAfter r s.core t.core u.core m.core (λ c. Event2 t.core p c q))
        → OnQueue n s Event m → Done m (λ x. OnQueue n t Event2 x)
    on_queue n Event Event2 lift h =
        let it = lift h.before h.after h.event in
        let same : m.rings ≡ s.rings = ap (λ (x : TheRun FacingSide). x.rings) h.rest in
        record {
          run = record t { core = it.core; queues = slice_set t.queues n h.after };
          under = record {
            core = it.under;
            count = u.count ∙ sym (ap (λ (xs : List FacingSide). length xs) same);
            rings = rings_stay same;
            queues = ap (λ (qs : List TheQueue). slice_set qs n h.after) u.queues ∙ sym (ap (λ (x : TheRun FacingSide). x.queues) h.rest);
            offers = u.offers ∙ sym (ap (λ (x : TheRun FacingSide). x.offers) h.rest);
          };
          event = record {
            before = h.before;
            before_is = ap (λ (qs : List TheQueue). slice_get qs n) u.queues ∙ h.before_is;
            after = h.after;
            event = it.event;
            rest = refl;
          };
        }

    pub on_core : (Event Event2 : TheCore → TheCore → Type 0)
        → (Event s.core m.core → BoardAfter r s.core t.core u.core m.core (λ c. Event2 t.core c))
        → OnCore s Event m → Done m (λ x. OnCore t Event2 x)
    on_core Event Event2 lift h =
        let it = lift h.event in
        let same : m.rings ≡ s.rings = ap (λ (x : TheRun FacingSide). x.rings) h.rest in
        record {
          run = record t { core = it.core };
          under = record {
            core = it.under;
            count = u.count ∙ sym (ap (λ (xs : List FacingSide). length xs) same);
            rings = rings_stay same;
            queues = u.queues ∙ sym (ap (λ (x : TheRun FacingSide). x.queues) h.rest);
            offers = u.offers ∙ sym (ap (λ (x : TheRun FacingSide). x.offers) h.rest);
          };
          event = record { event = it.event; rest = refl };
        }

  -- ---- events over a link

  -- side n is that of a link
  pub record IsLinks (n : ℕ) : Type 0 where
    pub number : ℕ
    pub number_is : slice_get sides n ≡ Some number
    pub link : links (ring_at number) ≡ true

  -- or of a ring of a binding
  pub record IsOwn (n : ℕ) : Type 0 where
    pub number : ℕ
    pub number_is : slice_get sides n ≡ Some number
    pub own : links (ring_at number) ≡ false

  module _ (s t m : TheRun FacingSide) (u : Runs s t) where
    module _ (n : ℕ) (at : IsLinks n) (l : LinkId) where
      pub looked_last : (what : Result LinkFront LinkReceiveFault) → IsLastLook what → Does true_ways (looked n l what) s m
          → Done m (λ x. Does true_ways (looked n l what) t x)
      looked_last what last h =
          on_link s t m u n at.number at.number_is _ _ at.link
          (λ p q pp b event. looks_last r s.core t.core u.core p q pp b m.core l.0 what last event) h

      pub looked_onward : (frag : Frag) (to : ℕ) (c : Circuit) → Does true_ways (looked n l (Ok (front.Onward frag to c))) s m
          → Done m (λ x. Does true_ways (looked n l (Ok (front.Onward frag to c))) t x)
      looked_onward frag to c h =
          on_link s t m u n at.number at.number_is _ _ at.link
          (λ p q pp b event. looks_onward r s.core t.core u.core p q pp b m.core l.0 frag to c event) h

      pub looked_arrival : (frag : Frag) (e : EndId) → Does true_ways (looked n l (Ok (front.Arrival frag e))) s m
          → Done m (λ x. Does true_ways (looked n l (Ok (front.Arrival frag (end_under r e)))) t x)
      looked_arrival frag e h =
          on_link s t m u n at.number at.number_is _ _ at.link
          (λ p q pp b event. looks_arrival r s.core t.core u.core p q pp b m.core l.0 frag e event) h

      -- whichever message it is there
      pub looked_message : (frag : Frag) → Does true_ways (looked n l (Ok (front.Message frag))) s m
          → (g : Frag) × FragUnder r frag g × Done m (λ x. Does true_ways (looked n l (Ok (front.Message g))) t x)
      looked_message frag h =
          let d = on_link s t m u n at.number at.number_is _
          (λ k p k2 q. (g : Frag) × FragUnder r frag g
          × LooksAhead (Truly SharedTakes) (λ (x : FacingSide). front_seen x.side.peeked) l.0 (at_side k p) (Ok (front.Message g)) (at_side k2 q)) at.link
          (λ p q pp b event.
          let (g, under, it) = looks_message r s.core t.core u.core p q pp b m.core l.0 frag event in
          record { core = it.core; under = it.under; side = it.side; beside = it.beside; event = (g, under, it.event) }) h in (
            d.event.event.0,
            d.event.event.1,
            record {
              run = d.run;
              under = d.under;
              event = record {
                before = d.event.before;
                before_is = d.event.before_is;
                after = d.event.after;
                event = d.event.event.2;
                rest = d.event.rest;
              };
            },
          )

      pub arrived_so : (frag : Frag) (e : EndId) (answer : Result ForwardOutcome LinkReceiveFault) → circuit_of frag.control ≢ 0
          → Does true_ways (arrived n l frag e answer) s m → Done m (λ x. Does true_ways (arrived n l frag (end_under r e) answer) t x)
      arrived_so frag e answer number h =
          on_link s t m u n at.number at.number_is _ _ at.link
          (λ p q pp b event. arrives_there r s.core t.core u.core p q pp b m.core l.0 frag e answer number event) h

      pub said_so : (answer : MonitorWrite) → Does true_ways (said n l answer) s m → Done m (λ x. Does true_ways (said n l answer) t x)
      said_so answer h =
          on_link s t m u n at.number at.number_is _ _ at.link
          (λ p q pp b event. writes_there r s.core t.core u.core p q pp b m.core l.0 answer event) h

      pub told_so : (answer : AckAnswer) → Does true_ways (told n l answer) s m → Done m (λ x. Does true_ways (told n l answer) t x)
      told_so answer h =
          on_link s t m u n at.number at.number_is _ _ at.link
          (λ p q pp b event. tells_there r s.core t.core u.core p q pp b m.core answer event.0 event.1) h

      -- a message is heard, whichever it is there
      taken_so : (f g : Frag) (answer : Result MonitorAnswer LinkReceiveFault) (p q pp : FacingSide) → Beside r p pp → FragUnder r f g
          → TakesHeard (Truly SharedTakes) f p answer q → (z : FacingSide) × Beside r q z × TakesHeard (Truly SharedTakes) g pp (heard_under r answer) z
      taken_so f g (Ok answered.Full) p q pp b renamed same = (pp, stays r p q pp b same, refl)
      taken_so f g (Ok answered.Done) p q pp b renamed step = let it = takes_it r p q pp b f g renamed step in (it.left, it.beside, it.goes)
      taken_so f g (Ok (answered.Opened e)) p q pp b renamed step = let it = takes_it r p q pp b f g renamed step in (it.left, it.beside, it.goes)
      taken_so f g (Ok (answered.OpeningRefused e reason)) p q pp b renamed step =
          let it = takes_it r p q pp b f g renamed step in (it.left, it.beside, it.goes)
      taken_so f g (Err fault) p q pp b renamed same = (pp, stays r p q pp b same, refl)

      pub heard_so : (f g : Frag) (answer : Result MonitorAnswer LinkReceiveFault) → FragUnder r f g → length s.core.places ≡ 2048
          → Does true_ways (heard n l f answer) s m → Done m (λ x. Does true_ways (heard n l g (heard_under r answer)) t x)
      heard_so f g answer renamed slots h =
          on_link s t m u n at.number at.number_is _ _ at.link
          (λ p q pp b event.
          let it = hears_there r s.offers l s.core t.core u.core slots f g answer m.core renamed event.0 in
          let (z, beside, taken) = taken_so f g answer p q pp b renamed event.1 in
          record {
            core = it.core;
            under = it.under;
            side = z;
            beside = beside;
            event = (heard_with answer it.core it.event, taken);
          }) h
        where
          heard_with : (a : Result MonitorAnswer LinkReceiveFault) (c : TheCore) → HearsFrag s.offers l g t.core (heard_under r a) c
              → HearsFrag t.offers l g t.core (heard_under r a) c
          heard_with a c q = subst (λ (o : Offers). HearsFrag o l g t.core (heard_under r a) c) (sym u.offers) q

    -- ---- events of the core, and of its ends

    pub opened_so : (name : EndId) (request : OpenRequest) (answer : Result ℕ OpenFault) → request.opening.binding < most_bindings
        → length s.core.places ≡ 2048
        → Does true_ways (opened name request answer) s m → Done m (λ x. Does true_ways (opened (end_under r name) (request_under r request) answer) t x)
    opened_so name request answer few slots h =
        on_core s t m u _ _
        (λ event.
        let it = asks_there r s.core t.core u.core slots (asked request.dispatcher event.program request.link request.opening) answer m.core few event.asks in
        record {
          core = it.core;
          under = it.under;
          event = record {
            program = event.program;
            copy = subst (λ (o : Offers). IsCopyOf o.programs request.interface event.program) (sym u.offers) event.copy;
            asks = it.event;
          };
        }) h

    at_there : (name : EndId) (e : ℕ) → place_of s.core name ≡ Some e → place_of t.core (end_under r name) ≡ Some e
    at_there name e at = u.core.places name ∙ at

    pub called_so : (name : EndId) (c : TheCall) (answer : Result (Unit {0}) EndFault) → Does true_ways (called name c answer) s m
        → Done m (λ x. Does true_ways (called (end_under r name) c answer) t x)
    called_so name c answer (e, at, h) =
        let d = on_core s t m u _ (λ k k2. OnBoard k (λ b b2. ChangesEnd b e (λ x y. Calls x c answer y) b2) k2)
        (λ event. on_board r s.core t.core u.core (λ b b2. ChangesEnd b e (λ x y. Calls x c answer y) b2) m.core event) h in
        record { run = d.run; under = d.under; event = (e, at_there name e at, d.event) }

    pub ruled_so : (name : EndId) (msg reply : MsgNo) (answer : Result (Unit {0}) EndFault) → Does true_ways (ruled name msg reply answer) s m
        → Done m (λ x. Does true_ways (ruled (end_under r name) msg reply answer) t x)
    ruled_so name msg reply answer (e, at, h) =
        let d = on_core s t m u _ (λ k k2. OnBoard k (λ b b2. ChangesEnd b e (λ x y. SetsRule x msg.0 reply.0 answer y) b2) k2)
        (λ event. on_board r s.core t.core u.core (λ b b2. ChangesEnd b e (λ x y. SetsRule x msg.0 reply.0 answer y) b2) m.core event) h in
        record { run = d.run; under = d.under; event = (e, at_there name e at, d.event) }

    pub wrote_queue : (name : EndId) (n : ℕ) (answer : Result WriteAnswer EndFault) → Does true_ways (wrote name (outlet.Queue n) answer) s m
        → Done m (λ x. Does true_ways (wrote (end_under r name) (outlet.Queue n) answer) t x)
    wrote_queue name n answer (e, at, h) =
        let d = on_queue s t m u n _ (λ k p k2 q. WritesAt QueuePuts e (at_side k p) answer (at_side k2 q))
        (λ p q event. writes_same r s.core t.core u.core e m.core answer QueuePuts p q event) h in
        record { run = d.run; under = d.under; event = (e, at_there name e at, d.event) }

    pub wrote_ring : (name : EndId) (n : ℕ) (answer : Result WriteAnswer EndFault) → IsOwn n → Does true_ways (wrote name (outlet.Side n) answer) s m
        → Done m (λ x. Does true_ways (wrote (end_under r name) (outlet.Side n) answer) t x)
    wrote_ring name n answer own (e, at, h) =
        let d = on_own s t m u n own.number own.number_is _ (λ k p k2 q. WritesAt (Truly SharedPuts) e (at_side k p) answer (at_side k2 q)) own.own
        (λ p q event. writes_same r s.core t.core u.core e m.core answer (Truly SharedPuts) p q event) h in
        record { run = d.run; under = d.under; event = (e, at_there name e at, d.event) }

    -- each fragment that the end at place e has still to write is of a circuit
    pub wrote_link : (name : EndId) (n : ℕ) (answer : Result WriteAnswer EndFault) → IsLinks n → (h : Does true_ways (wrote name (outlet.Side n) answer) s m)
        → ((f : Frag) (rest : List Frag) (number count : ℕ) → answer ≡ Ok (write.Written number count)
        → h.2.event.writes.seat.end.outgoing.unwritten ≡ f ∷ rest → circuit_of f.control ≢ 0)
        → Done m (λ x. Does true_ways (wrote (end_under r name) (outlet.Side n) answer) t x)
    wrote_link name n answer is (e, at, h) call =
        let d = on_link s t m u n is.number is.number_is
        (λ k p k2 q. (g : WritesAt (Truly SharedPuts) e (at_side k p) answer (at_side k2 q))
        × ((f : Frag) (rest : List Frag) (number count : ℕ) → answer ≡ Ok (write.Written number count) → g.writes.seat.end.outgoing.unwritten ≡ f ∷ rest
        → circuit_of f.control ≢ 0))
        (λ k p k2 q. WritesAt (Truly SharedPuts) e (at_side k p) answer (at_side k2 q)) is.link
        (λ p q pp b event. writes_on_link r s.core t.core u.core e m.core answer p q pp b event.0 event.1)
        (record { before = h.before; before_is = h.before_is; after = h.after; event = (h.event, call); rest = h.rest }) in
        record { run = d.run; under = d.under; event = (e, at_there name e at, d.event) }

    pub acked_so : (name : EndId) (n : ℕ) (answer : Result AckAnswer BoardFault) → IsOwn n → Does true_ways (acked name n answer) s m
        → Done m (λ x. Does true_ways (acked (end_under r name) n answer) t x)
    acked_so name n answer own (e, at, h) =
        let d = on_own s t m u n own.number own.number_is _
        (λ k p k2 q. Holds k.board e (λ x. Acks (Truly SharedTakes) x.kind x.end p answer q) × (k2 ≡ k)) own.own
        (λ p q event.
        let (seat, seat_is, acks_it) = event.0 in
        record {
          core = t.core;
          under = subst (λ (c : TheCore). CoreUnder r c t.core) (sym event.1) u.core;
          event = ((seat, ap (λ (b : TheBoard). slice_get b.seats e) (board_is r s.core t.core u.core) ∙ seat_is, acks_it), refl);
        }) h in
        record { run = d.run; under = d.under; event = (e, at_there name e at, d.event) }

    due_there : (d e : ℕ) → due s.core.board d ≡ Some e → due t.core.board d ≡ Some e
    due_there d e is = ap (λ (b : TheBoard). due b d) (board_is r s.core t.core u.core) ∙ is

    pub turned_queue : (d : ℕ) (name : EndId) (n : ℕ) (answer : TurnAnswer) → Does true_ways (turned d name (inlet.Queue n) answer) s m
        → Done m (λ x. Does true_ways (turned d (end_under r name) (inlet.Queue n) answer) t x)
    turned_queue d name n answer (e, at, is, h) =
        let it = on_queue s t m u n _ (λ k p k2 q. OnBoard k (λ b c. Turns QueueTakes d e (over b p) (Ok answer) (over c q)) k2)
        (λ p q event. on_board r s.core t.core u.core (λ b c. Turns QueueTakes d e (over b p) (Ok answer) (over c q)) m.core event) h in
        record { run = it.run; under = it.under; event = (e, at_there name e at, due_there d e is, it.event) }

    pub turned_ring : (d : ℕ) (name : EndId) (n : ℕ) (answer : TurnAnswer) → IsOwn n → Does true_ways (turned d name (inlet.Side n) answer) s m
        → Done m (λ x. Does true_ways (turned d (end_under r name) (inlet.Side n) answer) t x)
    turned_ring d name n answer own (e, at, is, h) =
        let it = on_own s t m u n own.number own.number_is _
        (λ k p k2 q. OnBoard k (λ b c. Turns (Truly SharedTakes) d e (over b p) (Ok answer) (over c q)) k2) own.own
        (λ p q event. on_board r s.core t.core u.core (λ b c. Turns (Truly SharedTakes) d e (over b p) (Ok answer) (over c q)) m.core event) h in
        record { run = it.run; under = it.under; event = (e, at_there name e at, due_there d e is, it.event) }

    pub turned_arrivals : (d : ℕ) (name : EndId) (answer : TurnAnswer) → Does true_ways (turned d name inlet.Arrivals answer) s m
        → Done m (λ x. Does true_ways (turned d (end_under r name) inlet.Arrivals answer) t x)
    turned_arrivals d name answer (e, at, is, h) =
        let it = on_core s t m u _ (λ k k2. OverArrivals k e (λ b p c q. Turns QueueTakes d e (over b p) (Ok answer) (over c q)) k2)
        (λ event. over_arrivals r s.core t.core u.core e (λ b p c q. Turns QueueTakes d e (over b p) (Ok answer) (over c q)) m.core event) h in
        record { run = it.run; under = it.under; event = (e, at_there name e at, due_there d e is, it.event) }

  -- ---- a fragment passes on, from a link to a link

  put_alone : (s t m : TheRun FacingSide) (u : Runs s t) (n : ℕ) (at : IsLinks n) (look : Look)
      → ((p q pp : FacingSide) → Beside r p pp → Truly SharedPuts p look q → Goes r SharedPuts pp look q)
      → PutsAt true_ways n look s m → Done m (λ x. PutsAt true_ways n look t x)
  put_alone s t m u n at look step h =
      on_link s t m u n at.number at.number_is _ _ at.link
      (λ p q pp b event.
      let it = step p q pp b event.0 in
      record {
        core = t.core;
        under = subst (λ (c : TheCore). CoreUnder r c t.core) (sym event.1) u.core;
        side = it.left;
        beside = it.beside;
        event = (it.goes, refl);
      }) h

  pub passed_so : (s t m : TheRun FacingSide) (u : Runs s t) (n to : ℕ) (frag : Frag) (c : Circuit) (o : ForwardOutcome) → IsLinks n → IsLinks to
      → circuit_of frag.control ≢ 0 → c.0 ≢ 0 → c.0 ≤ 2046 → Does true_ways (passed n to frag c o) s m
      → Done m (λ x. Does true_ways (passed n to frag c o) t x)
  passed_so s t m u n to frag c outcome.Moved from onto number some few (mid, put, take) =
      let one = put_alone s t mid u to onto (placed (bare (with_circuit c.0 frag)))
      (λ p q pp b step. puts r p q pp b (bare (with_circuit c.0 frag)) (bare (with_circuit c.0 frag)) (goes_on_as_it_is r frag c.0 some few) step) put in
      let two = on_link mid one.run m one.under n from.number from.number_is
      (λ k p k2 q. Truly SharedTakes p (found (bare frag)) q × (k2 ≡ k))
      (λ k p k2 q. Truly SharedTakes p (found (bare frag)) q × (k2 ≡ k)) from.link
      (λ p q pp b event.
      let it = takes_it r p q pp b frag frag (calls_stay r frag number) event.0 in
      record {
        core = one.run.core;
        under = subst (λ (k : TheCore). CoreUnder r k one.run.core) (sym event.1) one.under.core;
        side = it.left;
        beside = it.beside;
        event = (it.goes, refl);
      }) take in
      record { run = two.run; under = two.under; event = (one.run, one.event, two.event) }
  passed_so s t m u n to frag c outcome.Full from onto number some few h =
      put_alone s t m u to onto no_room (λ p q pp b step. finds_no_room r p q pp b step) h
  passed_so s t m u n to frag c outcome.Spent from onto number some few h =
      put_alone s t m u to onto spent (λ p q pp b step. is_spent r p q pp b step) h
