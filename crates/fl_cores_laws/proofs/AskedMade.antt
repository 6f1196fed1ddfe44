-- An end that is made in a log was asked for: by what was heard, or by a job.
use Rattle.std.proofs.Common.{◌≡◌, ◌⊎◌, inl, inr, refl, sym, ap, ◌∙◌, subst, ℕ, ◌<◌, ◌==◌, ◌&&◌, nat_lt, not, is_some, if◌then◌else◌, List, [], ◌∷◌, ◌++◌, length, slice_get, slice_set}
use Rattle.std.proofs.Common.{Option, Some, None, Bool, true, false, Result, Ok, Err}
use Rattle.std.proofs.lemmas.Bool.{ltb-true}
use Rattle.fl_base.specs.declared.fragment.Frag.{Frag}
use Rattle.fl_base.specs.declared.identity.EndId.{EndId}
use Rattle.fl_base.specs.declared.identity.LinkId.{LinkId}
use Rattle.fl_base.specs.declared.identity.Circuit.{Circuit as Number}
use Rattle.fl_base.specs.Control.{circuit_of, bare}
use Rattle.fl_wire.specs.declared.fault.WireFault.TheVariants as wiring
use Rattle.fl_compile.specs.declared.program.Program.{Program}
use Rattle.fl_compile.specs.Programs.{program_of}
use Rattle.fl_endpoint.specs.View.{TheEnd}
use Rattle.fl_hop.specs.declared.forward.ForwardOutcome.{ForwardOutcome}
use Rattle.fl_hop.specs.declared.forward.ForwardOutcome.TheVariants.{Moved, Full, Spent}
use Rattle.fl_hop.specs.OfCircuit.{as_carried, of_circuit}
use Rattle.fl_hop.specs.Stretch.{TableStep, heard as hop_heard, taken_from}
use Rattle.fl_hop.proofs.Laws.{is_eq}
use Rattle.fl_core.proofs.BoardPlaces.{one_stands}
use Rattle.fl_core.specs.BoardView.{TheEndAtChannel, TheBoard}
use Rattle.fl_monitor.specs.declared.opening.Opening.{Opening}
use Rattle.fl_monitor.specs.Fates.{comes_along}
use Rattle.fl_monitor.specs.Hearing.{ComesTo, opening_of}
use Rattle.fl_monitor.specs.Monitors.{TheMonitor, can_say}
use Rattle.fl_monitor.specs.Saying.{Says}
use Rattle.fl_monitor.specs.declared.heard.MessageOutcome.{MessageOutcome}
use Rattle.fl_monitor.specs.declared.heard.MessageOutcome.TheVariants as outcome
use Rattle.fl_monitor.specs.declared.message.MonitorMessage.{MonitorMessage}
use Rattle.fl_monitor.proofs.Single.{says_the_same}
use Rattle.fl_core.specs.View.{TheCore, place_of, place_in, slot_of, client_of, server_of, with_monitor, arriving_at}
use Rattle.fl_core.specs.Sound.{IsCore}
use Rattle.fl_core.specs.Links.{LooksAhead, inbound, ArrivesAt, MonitorWrites}
use Rattle.fl_nameserv.specs.Registrations.{TheRegistration, by_iref}
use Rattle.fl_core.specs.Hearing.{Offers, has_place, known_for, offer_for, IsCopyFor, HearsAll, offering, Follows, BindsIf}
use Rattle.fl_core.specs.Making.{asked, Asks}
use Rattle.fl_core.specs.declared.answer.LinkFront.{LinkFront}
use Rattle.fl_core.specs.declared.answer.LinkFront.TheVariants as ahead
use Rattle.fl_core.specs.declared.answer.MonitorWrite.{MonitorWrite}
use Rattle.fl_core.specs.declared.answer.MonitorWrite.TheVariants as said_as
use Rattle.fl_core.specs.declared.answer.MonitorAnswer.{MonitorAnswer}
use Rattle.fl_core.specs.declared.answer.MonitorAnswer.TheVariants as heard_as
use Rattle.fl_core.specs.declared.fault.LinkReceiveFault.{LinkReceiveFault}
use Rattle.fl_core.specs.declared.fault.LinkReceiveFault.TheVariants as link
use Rattle.fl_core.specs.declared.fault.OpenFault.{OpenFault}
use Rattle.fl_core.specs.declared.fault.OpenFault.TheVariants as opening
use Rattle.fl_core.specs.declared.wiring.ArrivalPlace.{ArrivalPlace}
use Rattle.fl_core.specs.declared.wiring.Outlet.TheVariants as outlet
use Rattle.fl_core.specs.declared.wiring.Inlet.TheVariants as inlet
use Rattle.fl_core.specs.Ends.{at_side}
use Rattle.fl_core.proofs.Named.{put_elsewhere, here_or_not}
use Rattle.fl_core.proofs.Offers.{made_for, made_new, offer_found}
use Rattle.fl_core.specs.declared.core_job.CoreJob.{CoreJob}
use Rattle.fl_core.specs.declared.core_job.OpenRequest.{OpenRequest}
use Rattle.fl_core_run.specs.Run.{SideRelations, TheRun}
use Rattle.fl_core_run.specs.LogEntries.{LogEntry, looked, passed, arrived, heard, said, told, opened, called, ruled, wrote, acked, turned, Does, IsCopyOf}
use Rattle.fl_core_run_laws.specs.Logs.{InPlace, Goes}
use Rattle.fl_core_run_laws.proofs.Aside.{core_aside}
use Rattle.fl_core_run_laws.proofs.Carrying.{IsHere, five, log_goes}
use Rattle.fl_core_run_laws.proofs.Laning.{steps_of, event_steps}
use Rattle.fl_core_run_laws.proofs.Seating.{HasEnd, lists_same, Sits}
use Rattle.fl_core_run_laws.proofs.Stepping.{log_steps}
use Rattle.fl_cores_laws.specs.Named.{Has}
use Rattle.fl_cores_laws.specs.Asked.{SatAt, IsServedBy, IsOpenedBy}
use Rattle.fl_cores_laws.proofs.Named.{has_first, has_last}
use Rattle.fl_cores_laws.proofs.Added.{added_there, added_seat, sits_last}
use Rattle.fl_cores_laws.proofs.Logged.{heard_joins, eq_true}
use Rattle.fl_cores_laws.proofs.Zero.{carried_zero, says_zero}
use Rattle.fl_cores_laws.proofs.Asked.{asks_of, came_along, came_more}
use Rattle.fl_cores_laws.proofs.AskedLaid.{Laid, laid_along, does_laid}
use Rattle.fl_cores_laws.proofs.AskedProgress.{job_there, JobsStay, event_jobs, progress_before, offers_stay}

-- an end of this name was made, and sits at a dispatcher, of which this holds
record MadeBy (name : EndId) (How : ℕ → TheEnd → Type 0) (k : TheCore) : Type 0 where
  pub place : ℕ
  pub end : TheEnd
  pub here : IsHere name place end k
  pub dispatcher : ℕ
  pub at : here.has.seat.dispatcher ≡ dispatcher
  pub how : How dispatcher end

first_test : (a b c : Bool) → (a && b && c) ≡ true → a ≡ true
first_test true b c h = refl
first_test false b c h = absurd (cc)

same_value : {X : Type 0} (a b : X) → Some a ≡ Some b → a ≡ b
same_value a b is = cc

-- a message on a link, by its route, asks for the server's end of this name, at a service of this core's, of which these are the program and the dispatcher
record ForOffer (o : Offers) (k : TheCore) (l : LinkId) (msg : MonitorMessage) (name : EndId) (program : Program) (d : ℕ) : Type 0 where
  pub opening : Opening
  pub opening_is : opening_of msg ≡ Some opening
  pub along : comes_along k.monitor.circuits l.0 opening.path ≡ true
  pub name_is : name ≡ server_of opening.binding
  pub registration : TheRegistration
  pub service : by_iref opening.service.0 o.names ≡ Some registration
  pub core_is : registration.service.core.0 ≡ k.monitor.circuits.core
  pub dispatcher : registration.service.dispatcher ≡ d
  pub source : Program
  pub source_is : slice_get o.programs registration.service.interface ≡ Some source
  pub same : program_of program ≡ program_of source

-- ---- at a core where no end of the name is

module _ (name : EndId) (k : TheCore) (absent : place_of k name ≡ None) where
  abbrev Absent : TheCore → Type 0
  Absent k2 = place_of k2 name ≡ None

  pub places_stay : (k2 : TheCore) → k2.places ≡ k.places → place_of k2 name ≡ None
  places_stay k2 same = ap (λ (xs : List (Option ℕ)). place_in xs name) same ∙ absent

  pub alike : (k2 : TheCore) → k2 ≡ k → place_of k2 name ≡ None
  alike k2 same = places_stay k2 (ap (λ (c : TheCore). c.places) same)

  ahead_none : {S : Type 0} (w : SideRelations S) (l : ℕ) (p : S) (answer : Result LinkFront LinkReceiveFault) (k2 : TheCore) (q : S) → LooksAhead w.takes w.front l (at_side k p) answer (at_side k2 q) → Absent k2
  ahead_none w l p (Ok ahead.Nothing) k2 q h = alike k2 h.1
  ahead_none w l p (Ok ahead.Acknowledged) k2 q h = alike k2 h.1
  ahead_none w l p (Ok (ahead.Message frag)) k2 q h = alike k2 h.1
  ahead_none w l p (Ok (ahead.Onward frag side c)) k2 q h = alike k2 h.1
  ahead_none w l p (Ok (ahead.Arrival frag n)) k2 q h = alike k2 h.1
  ahead_none w l p (Err link.Failed) k2 q h = alike k2 h.1
  ahead_none w l p (Err link.Misrouted) k2 q h = places_stay k2 (ap (λ (c : TheCore). c.places) h.1)
  ahead_none w l p (Err link.Marked) k2 q h = places_stay k2 (ap (λ (c : TheCore). c.places) h.1)
  ahead_none w l p (Err (link.Wire f)) k2 q h = absurd h
  ahead_none w l p (Err link.Memory) k2 q h = absurd h

  arrives_none : {S : Type 0} (w : SideRelations S) (l : ℕ) (frag : Frag) (n : EndId) (p : S) (answer : Result ForwardOutcome LinkReceiveFault) (k2 : TheCore) (q : S) → ArrivesAt w.takes (inbound l frag n) (at_side k p) answer (at_side k2 q) → Absent k2
  arrives_none w l frag n p (Ok result) k2 q h = places_stay k2 (ap (λ (c : TheCore). c.places) h.rest)
  arrives_none w l frag n p (Err link.Misrouted) k2 q h = places_stay k2 (ap (λ (c : TheCore). c.places) h.1)
  arrives_none w l frag n p (Err link.Failed) k2 q h = absurd h
  arrives_none w l frag n p (Err link.Marked) k2 q h = absurd h
  arrives_none w l frag n p (Err (link.Wire f)) k2 q h = absurd h
  arrives_none w l frag n p (Err link.Memory) k2 q h = absurd h

  says_none : {S : Type 0} (w : SideRelations S) (l : ℕ) (p : S) (answer : MonitorWrite) (k2 : TheCore) (q : S) → MonitorWrites w.puts l (at_side k p) answer (at_side k2 q) → Absent k2
  says_none w l p said_as.Written k2 q h = places_stay k2 (ap (λ (c : TheCore). c.places) h.4)
  says_none w l p said_as.Full k2 q h = alike k2 h.2
  says_none w l p said_as.Spent k2 q h = alike k2 h.2
  says_none w l p said_as.Nothing k2 q h = alike k2 h.1

  binds_none : (m : TheMonitor) (o : Option ArrivalPlace) (c : Number) (k2 : TheCore) → BindsIf o c (with_monitor k m) k2 → Absent k2
  binds_none m None c k2 h = places_stay k2 (ap (λ (y : TheCore). y.places) h)
  binds_none m (Some at) c k2 h = places_stay k2 (ap (λ (y : TheCore). y.places) h.rest)

  -- ---- an end is made

  module _ (core : IsCore k) where
    module _ (How : ℕ → TheEnd → Type 0) (k2 : TheCore) (place : ℕ) (new : EndId) (x : TheEnd) (d : ℕ) (has : HasEnd k2.board place x)
        (seat : (y : TheEndAtChannel) × (slice_get k2.board.seats place ≡ Some y) × (y.dispatcher ≡ d)) (how : name ≡ new → How d x) (last : place ≡ length k.board.seats)
        (few : new.binding < 1024) (places : k2.places ≡ slice_set k.places (slot_of new) (Some place)) where
      sits : name ≡ new → Sits k2.places name place
      sits same = subst (λ (n : EndId). Sits k2.places n place) (sym same) (sits_last k core place new last few k2.places places)

      -- at the last place: this one, or another
      one_made : (place_of k2 name ≡ None) ⊎ MadeBy name How k2
      one_made = elim (here_or_not name new) [
        | inl same ↦ inr (record {
          place = place;
          end = x;
          here = record { has = has; sits = sits same };
          dispatcher = d;
          at = ap (λ (y : TheEndAtChannel). y.dispatcher) (one_stands k2.board.seats place has.seat seat.0 has.seat_is seat.1) ∙ seat.2;
          how = how same;
        })
        | inr other ↦ inl (ap (λ (xs : List (Option ℕ)). place_in xs name) places ∙ put_elsewhere k.places new name (Some place) other ∙ absent)
      ]

    -- ---- by a message

    module _ (o : Offers) (l : LinkId) (msg : MonitorMessage) where
      abbrev Comes : TheCore → Type 0
      Comes k2 = (place_of k2 name ≡ None) ⊎ MadeBy name (λ d x. ForOffer o k l msg name x.program d) k2

      -- the offer for which an end is made
      for_offer : (h : MessageOutcome) → ComesTo (known_for o k msg) k.monitor.circuits l msg h → (binding : ℕ) (opening : Opening) → opening_of msg ≡ Some opening → binding ≡ opening.binding
          → (registration : TheRegistration) → by_iref opening.service.0 o.names ≡ Some registration → (d : ℕ) → registration.service.dispatcher ≡ d
          → (program : Program) → IsCopyFor o.programs (offer_for o k msg) program → name ≡ server_of binding → ForOffer o k l msg name program d
      for_offer h comes binding opening opening_is binding_is registration found d dispatcher_is program it named =
          let f = offer_found o k msg it.offered it.offered_is in
          let openings : opening ≡ f.opening = same_value opening f.opening (sym opening_is ∙ f.opening_is) in
          record {
            opening = f.opening;
            opening_is = f.opening_is;
            along = came_along (known_for o k msg) k.monitor.circuits l msg h f.opening comes f.opening_is;
            name_is = named ∙ ap server_of (binding_is ∙ ap (λ (x : Opening). x.binding) openings);
            registration = f.registration;
            service = f.service;
            core_is = sym (eq_true f.registration.service.core.0 k.monitor.circuits.core
                (first_test (f.registration.service.core.0 == k.monitor.circuits.core) (has_place k.board f.registration.service.dispatcher) (nat_lt f.registration.service.interface (length o.programs)) f.may));
            dispatcher = ap (λ (r : TheRegistration). r.service.dispatcher) (same_value f.registration registration
                (sym f.service ∙ ap (λ (x : Opening). by_iref x.service.0 o.names) (sym openings) ∙ found)) ∙ dispatcher_is;
            source = it.source;
            source_is = ap (slice_get o.programs) (sym f.interface) ∙ it.source_is;
            same = it.same;
          }

      follows_come : (m : TheMonitor) (h : MessageOutcome) (answered : MonitorAnswer) (k2 : TheCore) → ComesTo (known_for o k msg) k.monitor.circuits l msg h
          → Follows (offering o.programs (offer_for o k msg) l) h (with_monitor k m) answered k2 → Comes k2
      follows_come m (outcome.ServerMade binding dispatcher c) answered k2 comes f =
          let new = made_for (known_for o k msg) k.monitor.circuits l msg (outcome.ServerMade binding dispatcher c) _ comes refl in
          let few = made_new o k msg _ new in
          let put = added_seat k.board f.1.added dispatcher f.1.end _ _ f.1.adds in
          one_made (λ d x. ForOffer o k l msg name x.program d) k2 f.1.end (server_of binding) _ dispatcher
          (lists_same f.1.added k2.board f.1.end f.1.end _ _ f.1.joins.1 (added_there k.board f.1.added dispatcher f.1.end _ _ f.1.adds))
          (put.0, ap (λ (b : TheBoard). slice_get b.seats f.1.end) f.1.joins.1.board ∙ put.1, put.2)
          (λ same. for_offer (outcome.ServerMade binding dispatcher c) comes binding new.opening new.opening_is new.binding new.registration new.service dispatcher
          (sym new.dispatcher) f.1.program f.1.program_is same) f.1.adds.0 few.0 (ap (λ (y : TheCore). y.places) f.1.rest)
      follows_come m (outcome.EndOpened n c) answered k2 comes f = inl (binds_none m (arriving_at (with_monitor k m) n) c k2 f.1)
      follows_come m (outcome.EndRefused n reason) answered k2 comes f = inl (places_stay k2 (ap (λ (y : TheCore). y.places) f.1))
      follows_come m (outcome.OpeningWentOn binding n c) answered k2 comes f = inl (places_stay k2 (ap (λ (y : TheCore). y.places) f.1))
      follows_come m (outcome.OpeningFailed binding reason) answered k2 comes f = inl (places_stay k2 (ap (λ (y : TheCore). y.places) f.1))
      follows_come m (outcome.AnswerWentOn binding n c) answered k2 comes f = inl (places_stay k2 (ap (λ (y : TheCore). y.places) f.1))

      all_come : (answered : MonitorAnswer) (k2 : TheCore) → HearsAll o l msg k answered k2 → Comes k2
      all_come answered k2 h = follows_come h.monitor h.heard answered k2 h.hears.0 h.follows

-- ---- one event

module _ {S : Type 0} (w : SideRelations S) (jobs : List CoreJob) (name : EndId) where
  -- an end was made, as was asked for
  abbrev MadeIn : TheRun S → TheRun S → List TableStep → List LogEntry → Type 0
  MadeIn s m steps log = MadeBy name (λ d x. IsServedBy s (λ l. of_circuit 0 (taken_from l steps)) name x.program d ⊎ IsOpenedBy jobs s log name x.program d) m.core

  abbrev ComesBy : TheRun S → TheRun S → List TableStep → List LogEntry → Type 0
  ComesBy s m steps log = (place_of m.core name ≡ None) ⊎ MadeIn s m steps log

  -- by a message that was heard
  module _ (s m : TheRun S) (l : LinkId) (frag : Frag) (msg : MonitorMessage) (says_it : Says frag msg) (zero : circuit_of frag.control ≡ 0) where
    abbrev steps_heard : List TableStep
    steps_heard = steps_of s.core.monitor.circuits (hop_heard l.0) (frag ∷ [])

    took_it : Has (as_carried (bare frag)) (of_circuit 0 (taken_from l.0 steps_heard))
    took_it =
        let one : taken_from l.0 steps_heard ≡ bare frag ∷ [] = ap (λ (b : Bool). (if b then bare frag ∷ [] else []) ++ []) (is_eq l.0 l.0 refl) in
        subst (λ (xs : List Frag). Has (as_carried (bare frag)) xs) (sym (ap (of_circuit 0) one ∙ says_zero frag msg says_it)) (inl refl)

    served : (program : Program) (d : ℕ) → ForOffer s.offers s.core l msg name program d → IsServedBy s (λ i. of_circuit 0 (taken_from i steps_heard)) name program d
    served program d f =
        let now : Says (as_carried (bare frag)) msg = says_the_same frag (as_carried (bare frag)) msg (carried_zero frag zero) says_it in
        record {
          opening = f.opening;
          came = record { link = l; frag = as_carried (bare frag); has = took_it; asks = asks_of (as_carried (bare frag)) msg f.opening now f.opening_is; along = f.along };
          name_is = f.name_is;
          registration = f.registration;
          service = f.service;
          core_is = f.core_is;
          dispatcher = f.dispatcher;
          source = f.source;
          source_is = f.source_is;
          same = f.same;
        }

    by_message : (log : List LogEntry) → (place_of m.core name ≡ None) ⊎ MadeBy name (λ d x. ForOffer s.offers s.core l msg name x.program d) m.core → ComesBy s m steps_heard log
    by_message log (inl still) = inl still
    by_message log (inr a) =
        inr (record { place = a.place; end = a.end; here = a.here; dispatcher = a.dispatcher; at = a.at; how = inl (served a.end.program a.dispatcher a.how) })

  module _ (s m : TheRun S) (core : IsCore s.core) (absent : place_of s.core name ≡ None) where
    hears_come : (n : ℕ) (l : LinkId) (frag : Frag) (answer : Result MonitorAnswer LinkReceiveFault) (by : InPlace jobs s (heard n l frag answer)) (h : Does w (heard n l frag answer) s m)
        → ComesBy s m (event_steps w jobs (heard n l frag answer) s m by h) (heard n l frag answer ∷ [])
    hears_come n l frag (Ok heard_as.Full) by h = inl (alike name s.core absent m.core h.event.0.2.1)
    hears_come n l frag (Ok heard_as.Done) by h =
        by_message s m l frag h.event.0.0 h.event.0.1 by.1 _ (all_come name s.core absent core s.offers l h.event.0.0 heard_as.Done m.core h.event.0.2)
    hears_come n l frag (Ok (heard_as.Opened e)) by h =
        by_message s m l frag h.event.0.0 h.event.0.1 by.1 _ (all_come name s.core absent core s.offers l h.event.0.0 (heard_as.Opened e) m.core h.event.0.2)
    hears_come n l frag (Ok (heard_as.OpeningRefused e reason)) by h =
        by_message s m l frag h.event.0.0 h.event.0.1 by.1 _ (all_come name s.core absent core s.offers l h.event.0.0 (heard_as.OpeningRefused e reason) m.core h.event.0.2)
    hears_come n l frag (Err (link.Wire wiring.Memory)) by h = absurd h.event.0
    hears_come n l frag (Err (link.Wire wiring.NotFirst)) by h = inl (places_stay name s.core absent m.core (ap (λ (x : TheCore). x.places) h.event.0.1))
    hears_come n l frag (Err (link.Wire wiring.FirstInside)) by h = inl (places_stay name s.core absent m.core (ap (λ (x : TheCore). x.places) h.event.0.1))
    hears_come n l frag (Err (link.Wire wiring.UnknownMessage)) by h = inl (places_stay name s.core absent m.core (ap (λ (x : TheCore). x.places) h.event.0.1))
    hears_come n l frag (Err (link.Wire wiring.NotZero)) by h = inl (places_stay name s.core absent m.core (ap (λ (x : TheCore). x.places) h.event.0.1))
    hears_come n l frag (Err (link.Wire wiring.OutOfType)) by h = inl (places_stay name s.core absent m.core (ap (λ (x : TheCore). x.places) h.event.0.1))
    hears_come n l frag (Err (link.Wire wiring.TooLong)) by h = inl (places_stay name s.core absent m.core (ap (λ (x : TheCore). x.places) h.event.0.1))
    hears_come n l frag (Err link.Memory) by h = inl (alike name s.core absent m.core h.event.0)
    hears_come n l frag (Err link.Failed) by h = absurd h.event.0.2
    hears_come n l frag (Err link.Misrouted) by h = inl (places_stay name s.core absent m.core (ap (λ (x : TheCore). x.places) h.event.0.2.1))
    hears_come n l frag (Err link.Marked) by h = absurd h.event.0.2

    -- by a job
    opens_come : (n : EndId) (request : OpenRequest) (answer : Result ℕ OpenFault) (program : Program) → InPlace jobs s (opened n request answer) → request.opening.binding < 1024
        → IsCopyOf s.offers.programs request.interface program → Asks (asked request.dispatcher program request.link request.opening) s.core answer m.core → ComesBy s m [] (opened n request answer ∷ [])
    opens_come n request (Ok place) program by few copy h =
        let j = job_there jobs s n request by.0 in
        one_made name s.core absent core _ m.core place (client_of request.opening.binding) _ request.dispatcher
        (added_there s.core.board m.core.board request.dispatcher place _ _ h.adds) (added_seat s.core.board m.core.board request.dispatcher place _ _ h.adds)
        (λ same. inr (record {
          opener = n;
          progress = j.progress;
          progress_is = j.progress_is;
          turn = j.turn;
          place = j.place;
          place_is = j.place_is;
          request = request;
          job_is = j.job_is;
          at = place;
          done = inl refl;
          name_is = same;
          dispatcher = refl;
          source = copy.source;
          source_is = copy.source_is;
          same = copy.same;
        })) h.adds.0 few (ap (λ (y : TheCore). y.places) h.rest)
    opens_come n request (Err (opening.Board fault)) program by few copy h = inl (alike name s.core absent m.core h.1)
    opens_come n request (Err (opening.Monitor fault)) program by few copy h = inl (alike name s.core absent m.core h.2)

    does_come : (log_entry : LogEntry) (by : InPlace jobs s log_entry) (h : Does w log_entry s m) → ComesBy s m (event_steps w jobs log_entry s m by h) (log_entry ∷ [])
    does_come (looked n l answer) by h = inl (ahead_none name s.core absent w l.0 h.before answer m.core h.after h.event)
    does_come (passed n i frag c Moved) by h = inl (alike name s.core absent m.core (h.2.event.1 ∙ h.1.event.1))
    does_come (passed n i frag c Full) by h = inl (alike name s.core absent m.core h.event.1)
    does_come (passed n i frag c Spent) by h = inl (alike name s.core absent m.core h.event.1)
    does_come (arrived n l frag end answer) by h = inl (arrives_none name s.core absent w l.0 frag end h.before answer m.core h.after h.event)
    does_come (heard n l frag answer) by h = hears_come n l frag answer by h
    does_come (said n l answer) by h = inl (says_none name s.core absent w l.0 h.before answer m.core h.after h.event)
    does_come (told n l answer) by h = inl (alike name s.core absent m.core h.event.1)
    does_come (opened n request answer) by h =
        let tests = five (nat_lt request.dispatcher (length s.core.board.dispatchers)) (nat_lt request.interface (length s.offers.programs)) (nat_lt request.opening.binding 1024)
        (not (is_some (place_of s.core (client_of request.opening.binding)))) (can_say s.core.monitor.outboxes request.link.0) by.1 in
        opens_come n request answer h.event.program by (ltb-true request.opening.binding 1024 tests.0) h.event.copy h.event.asks
    does_come (called n c answer) by h = inl (places_stay name s.core absent m.core (ap (λ (y : TheCore). y.places) h.2.event.rest))
    does_come (ruled n msg reply answer) by h = inl (places_stay name s.core absent m.core (ap (λ (y : TheCore). y.places) h.2.event.rest))
    does_come (wrote n (outlet.Queue i) answer) by h = inl (places_stay name s.core absent m.core (ap (λ (y : TheCore). y.places) h.2.event.rest))
    does_come (wrote n (outlet.Side i) answer) by h = inl (places_stay name s.core absent m.core (ap (λ (y : TheCore). y.places) h.2.event.rest))
    does_come (acked n i answer) by h = inl (alike name s.core absent m.core h.2.event.1)
    does_come (turned d n (inlet.Queue i) answer) by h = inl (places_stay name s.core absent m.core (ap (λ (y : TheCore). y.places) h.3.event.rest))
    does_come (turned d n (inlet.Side i) answer) by h = inl (places_stay name s.core absent m.core (ap (λ (y : TheCore). y.places) h.3.event.rest))
    does_come (turned d n inlet.Arrivals answer) by h = inl (places_stay name s.core absent m.core (ap (λ (y : TheCore). y.places) h.3.event.rest))

  -- ---- a log

  abbrev IsMade : TheRun S → List TableStep → List LogEntry → Program → ℕ → Type 0
  IsMade s steps log program d = IsServedBy s (λ l. of_circuit 0 (taken_from l steps)) name program d ⊎ IsOpenedBy jobs s log name program d

  -- an event comes before
  module _ (log_entry : LogEntry) (log : List LogEntry) (s u : TheRun S) (first rest : List TableStep) (program : Program) (d : ℕ) (offers : u.offers ≡ s.offers)
      (laid : Laid s.core.monitor.circuits u.core.monitor.circuits) (stay : JobsStay s.progresses u.progresses) where
    later : IsMade u rest log program d → IsMade s (first ++ rest) (log_entry ∷ log) program d
    later (inl x) = inl (record {
      opening = x.opening;
      came = record {
        link = x.came.link;
        frag = x.came.frag;
        has = subst (Has x.came.frag) (sym (heard_joins (λ l. []) first rest x.came.link.0))
            (has_last x.came.frag (of_circuit 0 (taken_from x.came.link.0 first)) (of_circuit 0 (taken_from x.came.link.0 rest)) x.came.has);
        asks = x.came.asks;
        along = sym (laid_along s.core.monitor.circuits u.core.monitor.circuits laid x.came.link.0 x.opening.path) ∙ x.came.along;
      };
      name_is = x.name_is;
      registration = x.registration;
      service = ap (λ (o : Offers). by_iref x.opening.service.0 o.names) (sym offers) ∙ x.service;
      core_is = x.core_is ∙ laid.core;
      dispatcher = x.dispatcher;
      source = x.source;
      source_is = ap (λ (o : Offers). slice_get o.programs x.registration.service.interface) (sym offers) ∙ x.source_is;
      same = x.same;
    })
    later (inr x) =
        let before = progress_before s u x.opener x.progress stay x.progress_is in
        inr (record {
          opener = x.opener;
          progress = before.0;
          progress_is = before.1;
          turn = x.turn;
          place = x.place;
          place_is = ap (λ (places : List ℕ). slice_get places x.turn) (sym before.2) ∙ x.place_is;
          request = x.request;
          job_is = x.job_is;
          at = x.at;
          done = inr x.done;
          name_is = x.name_is;
          dispatcher = x.dispatcher;
          source = x.source;
          source_is = ap (λ (o : Offers). slice_get o.programs x.request.interface) (sym offers) ∙ x.source_is;
          same = x.same;
        })

  -- it is the event, and others follow
  now : (log_entry : LogEntry) (log : List LogEntry) (s : TheRun S) (first rest : List TableStep) (program : Program) (d : ℕ) → IsMade s first (log_entry ∷ []) program d
      → IsMade s (first ++ rest) (log_entry ∷ log) program d
  now log_entry log s first rest program d (inl x) = inl (record {
    opening = x.opening;
    came = came_more s.core.monitor.circuits (λ l. of_circuit 0 (taken_from l first)) (λ l. of_circuit 0 (taken_from l (first ++ rest)))
        (λ l f has. subst (Has f) (sym (heard_joins (λ i. []) first rest l)) (has_first f (of_circuit 0 (taken_from l first)) (of_circuit 0 (taken_from l rest)) has)) x.opening x.came;
    name_is = x.name_is;
    registration = x.registration;
    service = x.service;
    core_is = x.core_is;
    dispatcher = x.dispatcher;
    source = x.source;
    source_is = x.source_is;
    same = x.same;
  })
  now log_entry log s first rest program d (inr x) = inr (record {
    opener = x.opener;
    progress = x.progress;
    progress_is = x.progress_is;
    turn = x.turn;
    place = x.place;
    place_is = x.place_is;
    request = x.request;
    job_is = x.job_is;
    at = x.at;
    done = elim x.done [ inl same ↦ inl same | inr none ↦ absurd none ];
    name_is = x.name_is;
    dispatcher = x.dispatcher;
    source = x.source;
    source_is = x.source_is;
    same = x.same;
  })

  -- the end that was made has its program in the end
  keeps_program : (log : List LogEntry) (u t : TheRun S) (h : Goes w jobs u log t) (place : ℕ) (x : TheEnd) → IsHere name place x u.core → (e : ℕ) (seat : TheEndAtChannel) → place_of t.core name ≡ Some e
      → slice_get t.core.board.seats e ≡ Some seat → x.program ≡ seat.end.program
  keeps_program log u t h place x here e seat at there =
      let after = log_goes w jobs name place log u t x here h in
      let same : place ≡ e = same_value place e (sym after.sits.here ∙ at) in
      let stood : slice_get t.core.board.seats e ≡ Some after.has.seat = subst (λ (i : ℕ). slice_get t.core.board.seats i ≡ Some after.has.seat) same after.has.seat_is in
      let seats : after.has.seat ≡ seat = one_stands t.core.board.seats e after.has.seat seat stood there in
      sym (sym (ap (λ (y : TheEndAtChannel). y.end.program) seats) ∙ ap (λ (y : TheEnd). y.program) after.has.end_is ∙ after.goes.program)

  pub log_made : (log : List LogEntry) (s t : TheRun S) (h : Goes w jobs s log t) → place_of s.core name ≡ None → (e : ℕ) (seat : TheEndAtChannel) → place_of t.core name ≡ Some e
      → slice_get t.core.board.seats e ≡ Some seat → (d : ℕ) × SatAt w jobs t name d × IsMade s (log_steps w jobs log s t h) log seat.end.program d
  log_made [] s t h absent e seat at there = absurd (let no : Some e ≡ None = sym at ∙ ap (λ (x : TheRun S). place_of x.core name) h ∙ absent in cc)
  log_made (log_entry ∷ log) s t h absent e seat at there =
      let m = h.1.0 in
      let u = h.0 in
      let aside : u.core ≡ m.core = core_aside m u log_entry h.1.2 in
      let first = event_steps w jobs log_entry s m h.2 h.1.1 in
      let rest = log_steps w jobs log u t h.3 in
      elim (does_come s m h.1.3.core absent log_entry h.2 h.1.1) [
        | inl still ↦
            (let laid : Laid s.core.monitor.circuits u.core.monitor.circuits = subst (λ (k : TheCore). Laid s.core.monitor.circuits k.monitor.circuits) (sym aside) (does_laid w log_entry s m h.1.1) in
            let (d, sat, made) = log_made log u t h.3 (ap (λ (k : TheCore). place_of k name) aside ∙ still) e seat at there in (
              d,
              sat,
              later log_entry log s u first rest seat.end.program d (offers_stay w log_entry s m u h.1.1 h.1.2) laid (event_jobs w log_entry s m u h.1.1 h.1.2) made,
            ))
        | inr a ↦
            (let here : IsHere name a.place a.end u.core = subst (λ (k : TheCore). IsHere name a.place a.end k) (sym aside) a.here in
            let program = keeps_program log u t h.3 a.place a.end here e seat at there in (
              a.dispatcher,
              record {
                moment = u;
                log = log;
                goes = h.3;
                place = a.place;
                place_is = ap (λ (k : TheCore). place_of k name) aside ∙ a.here.sits.here;
                seat = a.here.has.seat;
                seat_is = ap (λ (k : TheCore). slice_get k.board.seats a.place) aside ∙ a.here.has.seat_is;
                dispatcher_is = a.at;
              },
              now log_entry log s first rest seat.end.program a.dispatcher (subst (λ (p : Program). IsMade s first (log_entry ∷ []) p a.dispatcher) program a.how),
            ))
      ]

  -- an end that isn't there in the beginning isn't in the end, or was asked for
  pub log_comes : (log : List LogEntry) (s t : TheRun S) (h : Goes w jobs s log t) → place_of s.core name ≡ None
      → (place_of t.core name ≡ None) ⊎ ((program : Program) × (d : ℕ) × IsMade s (log_steps w jobs log s t h) log program d)
  log_comes [] s t h absent = inl (ap (λ (x : TheRun S). place_of x.core name) h ∙ absent)
  log_comes (log_entry ∷ log) s t h absent =
      let m = h.1.0 in
      let u = h.0 in
      let aside : u.core ≡ m.core = core_aside m u log_entry h.1.2 in
      let first = event_steps w jobs log_entry s m h.2 h.1.1 in
      let rest = log_steps w jobs log u t h.3 in
      elim (does_come s m h.1.3.core absent log_entry h.2 h.1.1) [
        | inl still ↦
            (let laid : Laid s.core.monitor.circuits u.core.monitor.circuits = subst (λ (k : TheCore). Laid s.core.monitor.circuits k.monitor.circuits) (sym aside) (does_laid w log_entry s m h.1.1) in
            elim (log_comes log u t h.3 (ap (λ (k : TheCore). place_of k name) aside ∙ still)) [
              | inl none ↦ inl none
              | inr made ↦ inr (made.0, made.1, later log_entry log s u first rest made.0 made.1 (offers_stay w log_entry s m u h.1.1 h.1.2) laid (event_jobs w log_entry s m u h.1.1 h.1.2) made.2)
            ])
        | inr a ↦ inr (a.end.program, a.dispatcher, now log_entry log s first rest a.end.program a.dispatcher a.how)
      ]
