-- A message that a core hears, and a circuit that it asks for, under other numbers of bindings.
use Rattle.std.proofs.Common.{◌≡◌, ◌∙◌, ◌==◌, ◌&&◌, ◌||◌, ◌<◌, ◌∷◌, ◌++◌, [], ℕ, refl, subst, inl, inr, arith, List, None, Option, Some, ap, false, length, if◌then◌else◌, nat_lt, option_map, slice_get, slice_set, suc, sym, true, zero}
use Rattle.fl_base.specs.Given.{given}
use Rattle.fl_base.specs.Numbered.{most_bindings}
use Rattle.fl_base.specs.declared.fragment.Frag.{Frag}
use Rattle.fl_base.specs.declared.identity.Circuit.{Circuit}
use Rattle.fl_base.specs.declared.identity.LinkId.{LinkId}
use Rattle.fl_core.specs.BoardEvents.{Adds, ChangesEnd}
use Rattle.fl_core.specs.BoardView.{TheBoard}
use Rattle.fl_core.specs.Hearing.{BindsIf, HearsAll, HearsFrag, HearsMessage, Offering, Offers, has_end, has_place, here_for, known_for, offer_for, offer_of, offering}
use Rattle.fl_core.specs.Making.{Asked, Asks, HasPlace, asked}
use Rattle.fl_core.specs.View.{TheCore, arriving_at, client_of, server_of, with_board, with_circuit_wired_end, with_failed, with_monitor}
use Rattle.fl_core.specs.declared.answer.MonitorAnswer.{MonitorAnswer}
use Rattle.fl_core.specs.declared.fault.LinkReceiveFault.{LinkReceiveFault}
use Rattle.fl_core.specs.declared.fault.OpenFault.{OpenFault}
use Rattle.fl_core.specs.declared.hearing.OfferedService.{OfferedService}
use Rattle.fl_core.specs.declared.wiring.ArrivalPlace.{ArrivalPlace}
use Rattle.fl_endpoint.specs.View.{bound, fresh}
use Rattle.fl_hop.specs.Numbers.{after_opening, next_own}
use Rattle.fl_hop.specs.Openings.{open_fault}
use Rattle.fl_hop.specs.Table.{TheCircuits}
use Rattle.fl_hop.specs.declared.entry.HopTarget.{HopTarget}
use Rattle.fl_link.specs.Queue.{TheQueue}
use Rattle.fl_monitor.proofs.Calls.{widths_fit}
use Rattle.fl_monitor.proofs.Same.{refused_the_same}
use Rattle.fl_monitor.proofs.Single.{frag_for, frags_are, says_bare, says_no_other, says_the_same, says_what_is_written}
use Rattle.fl_monitor.specs.Fates.{Known}
use Rattle.fl_monitor.specs.Hearing.{ComesTo, IsMisrouted, heard_by, opened_at, refused_at, table_after}
use Rattle.fl_monitor.specs.Intermon.{HasWidths, call_for, intermon}
use Rattle.fl_monitor.specs.Monitors.{AllSaid, Hears, IsQueuedMessage, Opens, TheMonitor, can_say, may_say}
use Rattle.fl_monitor.specs.Outboxes.{IsFragOf}
use Rattle.fl_monitor.specs.Saying.{Refuses, Says}
use Rattle.fl_monitor.specs.declared.decision.OpeningDecision.{OpeningDecision}
use Rattle.fl_monitor.specs.declared.fault.MonitorFault.{MonitorFault}
use Rattle.fl_monitor.specs.declared.heard.MessageOutcome.{MessageOutcome}
use Rattle.fl_monitor.specs.declared.hearing.LinkMessage.{LinkMessage}
use Rattle.fl_monitor.specs.declared.message.MonitorMessage.{MonitorMessage}
use Rattle.fl_monitor.specs.declared.opening.Opening.{Opening}
use Rattle.fl_nameserv.specs.Registrations.{by_iref}
use Rattle.fl_wire.proofs.Unread.{one_fits}
use Rattle.fl_wire.specs.Payload.{frags_of}
use Rattle.fl_wire.specs.Reading.{IsWrong}
use Rattle.fl_wire.specs.declared.fault.WireFault.{WireFault}
use Rattle.std.proofs.lemmas.Bool.Decides.{nat_tests}
use Rattle.std.specs.List.{AllZip}
use Rattle.std.specs.Prelude.{Err, Ok, Result, is_some}
use Rattle.fl_hop.specs.declared.entry.HopTarget.TheVariants.{Link, End}
use Rattle.fl_base.specs.declared.identity.Side.TheVariants.{Client}
use Rattle.fl_value_data.specs.declared.value.PlanNo.TheVariants.{One}
use Rattle.fl_wire.specs.declared.fault.WireFault.TheVariants as wiring
use Rattle.fl_monitor.specs.declared.decision.OpeningDecision.TheVariants.{GoesOn, EndsAt, Fails}
use Rattle.fl_monitor.specs.declared.heard.MessageOutcome.TheVariants as outcome
use Rattle.fl_monitor.specs.declared.message.MonitorMessage.TheVariants.{OpenCircuit, CircuitOpened, CircuitRefused}
use Rattle.fl_monitor.specs.declared.fault.MonitorFault.TheVariants as monitor
use Rattle.fl_monitor.specs.Hearing.{says}
use Rattle.fl_monitor.specs.Fates.{fate}
use Rattle.fl_hop.specs.Openings.{opened}
use Rattle.fl_monitor.specs.Monitors.{asks}
use Rattle.fl_core.specs.declared.answer.MonitorAnswer.TheVariants as answered
use Rattle.fl_core.specs.declared.fault.LinkReceiveFault.TheVariants as link
use Rattle.fl_core.specs.declared.fault.OpenFault.TheVariants as opening
use Rattle.fl_core.specs.Hearing.{Follows}
use Rattle.fl_core.specs.declared.kind.ChannelKind.TheVariants.{Queue}
use Rattle.fl_cores_joined.specs.Renamed.{Renaming, opening_under, message_under, outcome_under, circuits_under, told_under, heard_under, CoreUnder, FragUnder, SaysRenamed}
use Rattle.fl_cores_joined.proofs.RenamedTable.{fault_there, entry_there, after_there}
use Rattle.fl_cores_joined.proofs.RenamedMessages.{comes_there, misrouted_there, says_there, said_under, few_in_place}
use Rattle.fl_cores_joined.proofs.RenamedPlaces.{ends_made}
use Rattle.fl_cores_joined.proofs.RenamedSteps.{zip_set, zip_more, zip_at, zip_long}
use Rattle.fl_cores_joined.proofs.RenamedLinks.{board_is, arrivals_are, failed_so, board_so, monitor_so, arriving_so}
use Rattle.fl_cores_joined.proofs.RenamedEnds.{BoardAfter}

-- ---- what a fragment says

-- a fragment that says a message isn't refused
said_not_refused : (f : Frag) (m : MonitorMessage) → Says f m → IsWrong One intermon (f ∷ []) → ⊥
said_not_refused f m s wrong =
    wrong (call_for m ∷ []) [] (one_fits intermon (call_for m) (widths_fit m s.widths))
    (ap (λ (fs : List Frag). fs ++ []) (frags_are m s.widths) ∙ ap (λ (g : Frag). g ∷ []) (sym (says_bare f m s)))

module _ (r : Renaming) where
  says_under : (f g : Frag) (m : MonitorMessage) → FragUnder r f g → Says f m → Says g (message_under r m)
  says_under f g m (inl (same, none)) s = subst (Says g) (sym (none m s)) (says_the_same f g m same s)
  says_under f g m (inr x) s = subst (λ (n : MonitorMessage). Says g (message_under r n)) (says_no_other f x.message m x.says s) x.under

  refused_under : (f g : Frag) (fault : WireFault) → FragUnder r f g → Refuses f fault → Refuses g fault
  refused_under f g fault (inl (same, none)) h = refused_the_same f g fault same h
  refused_under f g fault (inr x) h = absurd (said_not_refused f x.message x.says (wrong fault h))
    where
      wrong : (e : WireFault) → Refuses f e → IsWrong One intermon (f ∷ [])
      wrong wiring.NotFirst q = q.1
      wrong wiring.FirstInside q = q.1
      wrong wiring.UnknownMessage q = q.1
      wrong wiring.NotZero q = q.1
      wrong wiring.OutOfType q = q.1
      wrong wiring.TooLong q = q.1
      wrong wiring.Memory q = absurd q

  -- ---- what is said

  -- of a number that a binding may have: each that is named is
  abbrev pub IsFew : MonitorMessage → Type 0
  IsFew (OpenCircuit c binding service path) = binding < most_bindings
  IsFew m = Unit {0}

  widths_under : (m : MonitorMessage) → IsFew m → HasWidths m → HasWidths (message_under r m)
  widths_under (OpenCircuit c binding service path) few (a, b, s, p) = (a, (let less = r.few binding few in omega (arith, less)), s, p)
  widths_under (CircuitOpened c) few h = h
  widths_under (CircuitRefused c reason) few h = h

  -- the fragment of a message is that of the renamed one
  frag_there : (f : Frag) (m : MonitorMessage) → IsFew m → IsFragOf f m → (g : Frag) × IsFragOf g (message_under r m) × SaysRenamed r f g
  frag_there f m few h =
      let wide = widths_under m few h.widths in
      let is : frag_for (message_under r m) ∷ [] ≡ frags_of One intermon (call_for (message_under r m)) = sym (frags_are (message_under r m) wide) in (
        frag_for (message_under r m),
        record { widths = wide; written = is },
        record {
          message = m;
          says = says_what_is_written f m h.widths h.written;
          under = says_what_is_written (frag_for (message_under r m)) (message_under r m) wide is;
        },
      )

  abbrev pub Boxes : List (List Frag) → List (List Frag) → Type 0
  Boxes xs ys = AllZip (AllZip (SaysRenamed r)) xs ys

  record BoxesAfter (after : List (List Frag)) (Event : List (List Frag) → Type 0) : Type 0 where
    boxes : List (List Frag)
    under : Boxes after boxes
    event : Event boxes

  queued_there : (s : LinkMessage) (before after boxes : List (List Frag)) → Boxes before boxes → IsFew s.message → IsQueuedMessage s before after
      → BoxesAfter after (λ z. IsQueuedMessage (said_under r s) boxes z)
  queued_there s before after boxes h few q =
      let (box, box_is, both) = zip_at (AllZip (SaysRenamed r)) before boxes s.link.0 q.outbox h q.there in
      let (g, is, renamed) = frag_there q.frag s.message few q.is in
      record {
        boxes = slice_set boxes s.link.0 (box ++ g ∷ []);
        under =
            subst (λ (xs : List (List Frag)). Boxes xs (slice_set boxes s.link.0 (box ++ g ∷ []))) (sym q.more)
            (zip_set (AllZip (SaysRenamed r)) before boxes s.link.0 (q.outbox ++ q.frag ∷ []) (box ++ g ∷ []) h
            (zip_more (SaysRenamed r) q.outbox box q.frag g both renamed));
        event = record { outbox = box; there = box_is; frag = g; is = is; more = refl };
      }

  abbrev FewSaid : Option LinkMessage → Type 0
  FewSaid None = Unit {0}
  FewSaid (Some s) = IsFew s.message

  all_said_there : (o : Option LinkMessage) (before after boxes : List (List Frag)) → Boxes before boxes → FewSaid o → AllSaid o before after
      → BoxesAfter after (λ z. AllSaid (option_map (said_under r) o) boxes z)
  all_said_there None before after boxes h few same =
      record { boxes = boxes; under = subst (λ (xs : List (List Frag)). Boxes xs boxes) (sym same) h; event = refl }
  all_said_there (Some s) before after boxes h few q = queued_there s before after boxes h few q

  -- there is room for it or there isn't, alike
  pub room_there : (xs ys : List (List Frag)) (l : ℕ) → Boxes xs ys → can_say ys l ≡ can_say xs l
  room_there [] [] l h = refl
  room_there [] (y ∷ ys) l h = absurd h
  room_there (x ∷ xs) [] l h = absurd h
  room_there (x ∷ xs) (y ∷ ys) zero h = ap (λ (n : ℕ). nat_lt n 64) (zip_long (SaysRenamed r) x y h.0)
  room_there (x ∷ xs) (y ∷ ys) (suc l) h = room_there xs ys l h.1

  may_say_there : (o : Option LinkMessage) (xs ys : List (List Frag)) → Boxes xs ys → may_say (option_map (said_under r) o) ys ≡ may_say o xs
  may_say_there None xs ys h = refl
  may_say_there (Some s) xs ys h = room_there xs ys s.link.0 h

  -- ---- the message that is said then is of a number that may be

  less_of : (a : ℕ) → nat_lt a most_bindings ≡ true → a < most_bindings
  less_of a h = grind (arith, nat_tests, h)

  few_heard : (k : Known) (t : TheCircuits) (l : LinkId) (m : MonitorMessage) (out : MessageOutcome) → ComesTo k t l m out → FewSaid (says l m out)
  few_heard k t l (OpenCircuit c binding service path) (outcome.OpeningWentOn b n d) (place, is) =
      let o : Opening = record { binding = binding; service = service; path = path } in
      less_of binding (few_in_place k t l.0 c.0 o place)
  few_heard k t l (OpenCircuit c binding service path) (outcome.AnswerWentOn b n d) (place, is) =
      let o : Opening = record { binding = binding; service = service; path = path } in
      less_of binding (few_in_place k t l.0 c.0 o place)
  few_heard k t l (CircuitOpened c) (outcome.OpeningWentOn b n d) h = tt
  few_heard k t l (CircuitRefused c reason) (outcome.OpeningWentOn b n d) h = tt
  few_heard k t l (CircuitOpened c) (outcome.AnswerWentOn b n d) h = tt
  few_heard k t l (CircuitRefused c reason) (outcome.AnswerWentOn b n d) h = tt
  few_heard k t l m (outcome.ServerMade b dispatcher c) h = tt
  few_heard k t l m (outcome.OpeningFailed b reason) h = tt
  few_heard k t l m (outcome.EndOpened e c) h = tt
  few_heard k t l m (outcome.EndRefused e reason) h = tt

  -- a server's end is made for the binding of an opening in its place
  few_made : (k : Known) (t : TheCircuits) (l : LinkId) (m : MonitorMessage) (b dispatcher : ℕ) (c : Circuit)
      → ComesTo k t l m (outcome.ServerMade b dispatcher c) → b < most_bindings
  few_made k t l (OpenCircuit c binding service path) b dispatcher d (place, is) =
      let o : Opening = record { binding = binding; service = service; path = path } in
      let same = made_of (fate k t l.0 o) is in
      subst (λ (n : ℕ). n < most_bindings) (sym same) (less_of binding (few_in_place k t l.0 c.0 o place))
    where
      made_of : (f : OpeningDecision) → outcome.ServerMade b dispatcher d ≡ heard_by binding c f → b ≡ binding
      made_of (GoesOn n e) h = absurd (cc)
      made_of (EndsAt at) h = cc
      made_of (Fails fault) h = absurd (cc)
  few_made k t l (CircuitOpened c) b dispatcher d (hop, waits, is) = absurd (none hop.way is)
    where
      none : (w : HopTarget) → outcome.ServerMade b dispatcher d ≡ opened_at c hop.binding w → ⊥
      none (Link n e) h = absurd (cc)
      none (End e) h = absurd (cc)
  few_made k t l (CircuitRefused c reason) b dispatcher d (hop, waits, is) = absurd (none hop.way is)
    where
      none : (w : HopTarget) → outcome.ServerMade b dispatcher d ≡ refused_at reason hop.binding w → ⊥
      none (Link n e) h = absurd (cc)
      none (End e) h = absurd (cc)

  -- ---- a core hears a message

  module _ (o : Offers) (l : LinkId) (k kk : TheCore) (u : CoreUnder r k kk) (slots : length k.places ≡ 2048) where
    core_same : kk.monitor.circuits.core ≡ k.monitor.circuits.core
    core_same = ap (λ (t : TheCircuits). t.core) u.circuits

    ends_there : (binding : ℕ) → has_end kk (r.to binding) ≡ has_end k binding
    ends_there binding = λ i. is_some (u.places (client_of binding) i) || is_some (u.places (server_of binding) i)

    offers_there : (iref : ℕ) → offer_of o kk iref ≡ offer_of o k iref
    offers_there iref =
        let board = board_is r k kk u in
        let core = core_same in
        λ i. given (by_iref iref o.names) None λ s.
        if (s.service.core.0 == core i) && has_place (board i) s.service.dispatcher && nat_lt s.service.interface (length o.programs)
        then Some (record { dispatcher = s.service.dispatcher; interface = s.service.interface }) else None

    offer_there : (m : MonitorMessage) → offer_for o kk (message_under r m) ≡ offer_for o k m
    offer_there (OpenCircuit c binding service path) = offers_there service.0
    offer_there (CircuitOpened c) = refl
    offer_there (CircuitRefused c reason) = refl

    here_there : (m : MonitorMessage) → here_for o kk (message_under r m) ≡ here_for o k m
    here_there (OpenCircuit c binding service path) =
        let one = ends_there binding in
        let two = offers_there service.0 in
        λ i. record { has_end = one i; has_place = is_some (two i) }
    here_there (CircuitOpened c) = refl
    here_there (CircuitRefused c reason) = refl

    comes : (m : MonitorMessage) (out : MessageOutcome) → ComesTo (known_for o k m) k.monitor.circuits l m out
        → ComesTo (known_for o kk (message_under r m)) kk.monitor.circuits l (message_under r m) (outcome_under r out)
    comes m out h =
        subst (λ (t : TheCircuits). ComesTo (known_for o kk (message_under r m)) t l (message_under r m) (outcome_under r out)) (sym u.circuits)
        (comes_there r (known_for o k m) (known_for o kk (message_under r m)) k.monitor.circuits l m out refl (here_there m) h)

    strays : (m : MonitorMessage) → IsMisrouted (known_for o k m) k.monitor.circuits l m
        → IsMisrouted (known_for o kk (message_under r m)) kk.monitor.circuits l (message_under r m)
    strays m h =
        subst (λ (t : TheCircuits). IsMisrouted (known_for o kk (message_under r m)) t l (message_under r m)) (sym u.circuits)
        (misrouted_there r (known_for o k m) (known_for o kk (message_under r m)) k.monitor.circuits l m refl (here_there m) h)

    may : (m : MonitorMessage) (out : MessageOutcome)
        → may_say (says l (message_under r m) (outcome_under r out)) kk.monitor.outboxes ≡ may_say (says l m out) k.monitor.outboxes
    may m out =
        ap (λ (s : Option LinkMessage). may_say s kk.monitor.outboxes) (says_there r l m out)
        ∙ may_say_there (says l m out) k.monitor.outboxes kk.monitor.outboxes u.outboxes

    -- what the monitor comes to
    record Heard (m : MonitorMessage) (out : MessageOutcome) (after : TheMonitor) : Type 0 where
      left : TheMonitor
      under : CoreUnder r (with_monitor k after) (with_monitor kk left)
      hears : Hears (known_for o kk (message_under r m)) l (message_under r m) kk.monitor (Ok (outcome_under r out)) left

    heard_so : (m : MonitorMessage) (out : MessageOutcome) (n : TheMonitor) → Hears (known_for o k m) l m k.monitor (Ok out) n → Heard m out n
    heard_so m out n (comes_to, room, circuits_are, said) =
        let table : TheCircuits = table_after kk.monitor.circuits l (message_under r m) (outcome_under r out) in
        let boxes = all_said_there (says l m out) k.monitor.outboxes n.outboxes kk.monitor.outboxes u.outboxes
        (few_heard (known_for o k m) k.monitor.circuits l m out comes_to) said in
        let left : TheMonitor = record { circuits = table; outboxes = boxes.boxes } in
        record {
          left = left;
          under =
              monitor_so r k kk u n left
              (ap (λ (t : TheCircuits). table_after t l (message_under r m) (outcome_under r out)) u.circuits
              ∙ after_there r k.monitor.circuits l m out ∙ ap (circuits_under r) (sym circuits_are))
              boxes.under;
          hears = (
            comes m out comes_to,
            may m out ∙ room,
            refl,
            subst (λ (s : Option LinkMessage). AllSaid s kk.monitor.outboxes boxes.boxes) (sym (says_there r l m out)) boxes.event,
          );
        }

    -- ---- and what follows

    binds_there : (at : Option ArrivalPlace) (c : Circuit) (a aa k2 : TheCore) (v : CoreUnder r a aa) → BindsIf at c a k2
        → BoardAfter r a aa v k2 (λ z. BindsIf at c aa z)
    binds_there None c a aa k2 v same =
        record { core = aa; under = subst (λ (z : TheCore). CoreUnder r z aa) (sym same) v; event = refl }
    binds_there (Some at) c a aa k2 v h = record {
      core = with_board aa k2.board;
      under = subst (λ (z : TheCore). CoreUnder r z (with_board aa k2.board)) (sym h.rest) (board_so r a aa v k2.board);
      event = record {
        bound_board = h.bound_board;
        binds = subst (λ (b : TheBoard). ChangesEnd b at.end (λ s t. t ≡ bound s c.0) h.bound_board) (sym (board_is r a aa v)) h.binds;
        queue = h.queue;
        queue_is = ap (λ (qs : List TheQueue). slice_get qs at.queue) (arrivals_are r a aa v) ∙ h.queue_is;
        answer = h.answer;
        registers = h.registers;
        rest = refl;
      };
    }

    record FollowsSo (x : Offering) (out : MessageOutcome) (aa : TheCore) (told : MonitorAnswer) (k2 : TheCore) : Type 0 where
      core : TheCore
      under : CoreUnder r k2 core
      follows : Follows x (outcome_under r out) aa (told_under r told) core

    stays_so : (a aa k2 : TheCore) → CoreUnder r a aa → k2 ≡ a → CoreUnder r k2 aa
    stays_so a aa k2 v same = subst (λ (z : TheCore). CoreUnder r z aa) (sym same) v

    follows_so : (x : Offering) (out : MessageOutcome) (a aa : TheCore) (told : MonitorAnswer) (k2 : TheCore) → CoreUnder r a aa → length a.places ≡ 2048
        → ((b dispatcher : ℕ) (c : Circuit) → out ≡ outcome.ServerMade b dispatcher c → b < most_bindings)
        → Follows x out a told k2 → FollowsSo x out aa told k2
    follows_so x (outcome.ServerMade b dispatcher c) a aa told k2 v long few (is, h) = record {
      core = with_circuit_wired_end aa k2.board h.end (server_of (r.to b)) x.link;
      under =
          subst (λ (z : TheCore). CoreUnder r z (with_circuit_wired_end aa k2.board h.end (server_of (r.to b)) x.link)) (sym h.rest)
          (ends_made r a aa k2.board h.end (server_of b) x.link v long (few b dispatcher c refl));
      follows = (
        ap (told_under r) is,
        record {
          program = h.program;
          program_is = h.program_is;
          end = h.end;
          added = h.added;
          adds = subst (λ (d : TheBoard). Adds d dispatcher (fresh h.program (Some c.0)) Queue (Ok h.end) h.added) (sym (board_is r a aa v)) h.adds;
          joins = h.joins;
          rest = refl;
        },
      );
    }
    follows_so x (outcome.EndOpened e c) a aa told k2 v long few (is, h) =
        let it = binds_there (arriving_at a e) c a aa k2 v h in
        record {
          core = it.core;
          under = it.under;
          follows = (
            ap (told_under r) is,
            subst (λ (at : Option ArrivalPlace). BindsIf at c aa it.core) (sym (arriving_so r a aa v e)) it.event,
          );
        }
    follows_so x (outcome.EndRefused e reason) a aa told k2 v long few (is, same) =
        record { core = aa; under = stays_so a aa k2 v same; follows = (ap (told_under r) is, refl) }
    follows_so x (outcome.OpeningWentOn b n c) a aa told k2 v long few (is, same) =
        record { core = aa; under = stays_so a aa k2 v same; follows = (ap (told_under r) is, refl) }
    follows_so x (outcome.OpeningFailed b reason) a aa told k2 v long few (is, same) =
        record { core = aa; under = stays_so a aa k2 v same; follows = (ap (told_under r) is, refl) }
    follows_so x (outcome.AnswerWentOn b n c) a aa told k2 v long few (is, same) =
        record { core = aa; under = stays_so a aa k2 v same; follows = (ap (told_under r) is, refl) }

    all_heard : (m : MonitorMessage) (told : MonitorAnswer) (k2 : TheCore) → HearsAll o l m k told k2
        → BoardAfter r k kk u k2 (λ z. HearsAll o l (message_under r m) kk (told_under r told) z)
    all_heard m told k2 h =
        let it = heard_so m h.heard h.monitor h.hears in
        let next = follows_so (offering o.programs (offer_for o k m) l) h.heard (with_monitor k h.monitor) (with_monitor kk it.left) told k2 it.under slots
        (λ b dispatcher c same. few_made (known_for o k m) k.monitor.circuits l m b dispatcher c
        (subst (ComesTo (known_for o k m) k.monitor.circuits l m) same h.hears.0)) h.follows in
        record {
          core = next.core;
          under = next.under;
          event = record {
            heard = outcome_under r h.heard;
            monitor = it.left;
            hears = it.hears;
            follows =
                subst (λ (f : Option OfferedService). Follows (offering o.programs f l) (outcome_under r h.heard) (with_monitor kk it.left)
                (told_under r told) next.core)
                (sym (offer_there m)) next.follows;
          };
        }

    -- ---- by the answer

    message_so : (m : MonitorMessage) (answer : Result MonitorAnswer LinkReceiveFault) (k2 : TheCore) → HearsMessage o l m k answer k2
        → BoardAfter r k kk u k2 (λ z. HearsMessage o l (message_under r m) kk (heard_under r answer) z)
    message_so m (Ok answered.Full) k2 ((out, comes_to, full, same), stood) = record {
      core = kk;
      under = stays_so k kk k2 u stood;
      event = ((outcome_under r out, comes m out comes_to, may m out ∙ full, refl), refl);
    }
    message_so m (Ok answered.Done) k2 h = all_heard m answered.Done k2 h
    message_so m (Ok (answered.Opened e)) k2 h = all_heard m (answered.Opened e) k2 h
    message_so m (Ok (answered.OpeningRefused e reason)) k2 h = all_heard m (answered.OpeningRefused e reason) k2 h
    message_so m (Err link.Misrouted) k2 ((none, same), failed) = record {
      core = with_failed kk l.0;
      under = stays_so (with_failed k l.0) (with_failed kk l.0) k2 (failed_so r k kk u l.0) failed;
      event = ((strays m none, refl), refl);
    }
    message_so m (Err link.Memory) k2 h = record { core = kk; under = stays_so k kk k2 u h; event = refl }
    message_so m (Err link.Failed) k2 h = absurd h
    message_so m (Err link.Marked) k2 h = absurd h
    message_so m (Err (link.Wire fault)) k2 h = absurd h

    by_message : (f g : Frag) (answer : Result MonitorAnswer LinkReceiveFault) (k2 : TheCore) → FragUnder r f g
        → ((m : MonitorMessage) × Says f m × HearsMessage o l m k answer k2)
        → BoardAfter r k kk u k2 (λ z. (m : MonitorMessage) × Says g m × HearsMessage o l m kk (heard_under r answer) z)
    by_message f g answer k2 renamed (m, says_it, h) =
        let it = message_so m answer k2 h in
        record { core = it.core; under = it.under; event = (message_under r m, says_under f g m renamed says_it, it.event) }

    refused_so : (f g : Frag) (fault : WireFault) (k2 : TheCore) → FragUnder r f g → Refuses f fault × (k2 ≡ with_failed k l.0)
        → BoardAfter r k kk u k2 (λ z. Refuses g fault × (z ≡ with_failed kk l.0))
    refused_so f g fault k2 renamed (refuses, failed) = record {
      core = with_failed kk l.0;
      under = stays_so (with_failed k l.0) (with_failed kk l.0) k2 (failed_so r k kk u l.0) failed;
      event = (refused_under f g fault renamed refuses, refl);
    }

    pub hears_there : (f g : Frag) (answer : Result MonitorAnswer LinkReceiveFault) (k2 : TheCore) → FragUnder r f g → HearsFrag o l f k answer k2
        → BoardAfter r k kk u k2 (λ z. HearsFrag o l g kk (heard_under r answer) z)
    hears_there f g (Err (link.Wire wiring.Memory)) k2 renamed h = absurd h
    hears_there f g (Err (link.Wire wiring.NotFirst)) k2 renamed h = refused_so f g wiring.NotFirst k2 renamed h
    hears_there f g (Err (link.Wire wiring.FirstInside)) k2 renamed h = refused_so f g wiring.FirstInside k2 renamed h
    hears_there f g (Err (link.Wire wiring.UnknownMessage)) k2 renamed h = refused_so f g wiring.UnknownMessage k2 renamed h
    hears_there f g (Err (link.Wire wiring.NotZero)) k2 renamed h = refused_so f g wiring.NotZero k2 renamed h
    hears_there f g (Err (link.Wire wiring.OutOfType)) k2 renamed h = refused_so f g wiring.OutOfType k2 renamed h
    hears_there f g (Err (link.Wire wiring.TooLong)) k2 renamed h = refused_so f g wiring.TooLong k2 renamed h
    hears_there f g (Err link.Memory) k2 renamed h = record { core = kk; under = stays_so k kk k2 u h; event = refl }
    hears_there f g (Err link.Failed) k2 renamed h = by_message f g (Err link.Failed) k2 renamed h
    hears_there f g (Err link.Misrouted) k2 renamed h = by_message f g (Err link.Misrouted) k2 renamed h
    hears_there f g (Err link.Marked) k2 renamed h = by_message f g (Err link.Marked) k2 renamed h
    hears_there f g (Ok answered.Full) k2 renamed h = by_message f g (Ok answered.Full) k2 renamed h
    hears_there f g (Ok answered.Done) k2 renamed h = by_message f g (Ok answered.Done) k2 renamed h
    hears_there f g (Ok (answered.Opened e)) k2 renamed h = by_message f g (Ok (answered.Opened e)) k2 renamed h
    hears_there f g (Ok (answered.OpeningRefused e reason)) k2 renamed h = by_message f g (Ok (answered.OpeningRefused e reason)) k2 renamed h

  -- ---- a core asks for a circuit

  opened_there : (t : TheCircuits) (l : LinkId) (c : Circuit) (binding : ℕ)
      → opened (circuits_under r t) l c (r.to binding) ≡ circuits_under r (opened t l c binding)
  opened_there t l c binding = sym (entry_there r (after_opening t l.0) binding false (End (record { binding = binding; side = Client })) (Link l c))

  module _ (k kk : TheCore) (u : CoreUnder r k kk) (slots : length k.places ≡ 2048) where
    fault_so : (l binding : ℕ) → open_fault kk.monitor.circuits l (r.to binding) ≡ open_fault k.monitor.circuits l binding
    fault_so l binding = ap (λ (t : TheCircuits). open_fault t l (r.to binding)) u.circuits ∙ fault_there r k.monitor.circuits l binding

    can_so : (l : ℕ) → can_say kk.monitor.outboxes l ≡ can_say k.monitor.outboxes l
    can_so l = room_there k.monitor.outboxes kk.monitor.outboxes l u.outboxes

    -- what the monitor comes to
    record Opened (l : LinkId) (o : Opening) (c : Circuit) (n : TheMonitor) : Type 0 where
      left : TheMonitor
      circuits_are : left.circuits ≡ circuits_under r n.circuits
      boxes_are : Boxes n.outboxes left.outboxes
      opens : Opens l (opening_under r o) kk.monitor (Ok c) left

    opens_so : (l : LinkId) (o : Opening) (c : Circuit) (n : TheMonitor) → o.binding < most_bindings → Opens l o k.monitor (Ok c) n → Opened l o c n
    opens_so l o c n few (none, room, next, circuits_are, said) =
        let table : TheCircuits = opened kk.monitor.circuits l c (r.to o.binding) in
        let boxes = queued_there (record { link = l; message = asks c o }) k.monitor.outboxes n.outboxes kk.monitor.outboxes u.outboxes few said in
        let number : next_own kk.monitor.circuits l.0 ≡ next_own k.monitor.circuits l.0 = ap (λ (t : TheCircuits). next_own t l.0) u.circuits in
        record {
          left = record { circuits = table; outboxes = boxes.boxes };
          circuits_are =
              ap (λ (t : TheCircuits). opened t l c (r.to o.binding)) u.circuits ∙ opened_there k.monitor.circuits l c o.binding
              ∙ ap (circuits_under r) (sym circuits_are);
          boxes_are = boxes.under;
          opens = (fault_so l.0 o.binding ∙ none, can_so l.0 ∙ room, number ∙ next, refl, boxes.event);
        }

    refuses_so : (l : LinkId) (o : Opening) (fault : MonitorFault) → Opens l o k.monitor (Err fault) k.monitor
        → Opens l (opening_under r o) kk.monitor (Err fault) kk.monitor
    refuses_so l o monitor.OutboxFull (none, full, is) = (fault_so l.0 o.binding ∙ none, can_so l.0 ∙ full, refl)
    refuses_so l o monitor.Memory (none, room, is) = (fault_so l.0 o.binding ∙ none, can_so l.0 ∙ room, refl)
    refuses_so l o monitor.Misrouted (due, is) = (fault_so l.0 o.binding ∙ due, refl)
    refuses_so l o monitor.NoRoute (due, is) = (fault_so l.0 o.binding ∙ due, refl)
    refuses_so l o monitor.UsedUp (due, is) = (fault_so l.0 o.binding ∙ due, refl)
    refuses_so l o monitor.Differs (due, is) = absurd due
    refuses_so l o monitor.PlansDiffer (due, is) = absurd due

    abbrev asked_under : Asked → Asked
    asked_under a = asked a.dispatcher a.program a.link (opening_under r a.opening)

    pub asks_there : (a : Asked) (answer : Result ℕ OpenFault) (k2 : TheCore) → a.opening.binding < most_bindings → Asks a k answer k2
        → BoardAfter r k kk u k2 (λ z. Asks (asked a.dispatcher a.program a.link (opening_under r a.opening)) kk answer z)
    asks_there a (Ok e) k2 few h =
        let it = opens_so a.link a.opening h.circuit k2.monitor few h.opens in
        let made = ends_made r k kk k2.board e (client_of a.opening.binding) a.link u slots few in
        let base : TheCore = with_circuit_wired_end k k2.board e (client_of a.opening.binding) a.link in
        let other : TheCore = with_circuit_wired_end kk k2.board e (client_of (r.to a.opening.binding)) a.link in
        record {
          core = with_monitor other it.left;
          under =
              subst (λ (z : TheCore). CoreUnder r z (with_monitor other it.left)) (sym h.rest)
              (monitor_so r base other made k2.monitor it.left it.circuits_are it.boxes_are);
          event = record {
            adds = subst (λ (b : TheBoard). Adds b a.dispatcher (fresh a.program None) Queue (Ok e) k2.board) (sym (board_is r k kk u)) h.adds;
            circuit = h.circuit;
            opens = it.opens;
            rest = refl;
          };
        }
    asks_there a (Err (opening.Board fault)) k2 few (adds, same) = record {
      core = kk;
      under = subst (λ (z : TheCore). CoreUnder r z kk) (sym same) u;
      event = (subst (λ (b : TheBoard). Adds b a.dispatcher (fresh a.program None) Queue (Err fault) b) (sym (board_is r k kk u)) adds, refl);
    }
    asks_there a (Err (opening.Monitor fault)) k2 few (place, opens, same) = record {
      core = kk;
      under = subst (λ (z : TheCore). CoreUnder r z kk) (sym same) u;
      event = (
        subst (λ (b : TheBoard). HasPlace b a.dispatcher) (sym (board_is r k kk u)) place,
        refuses_so a.link a.opening fault opens,
        refl,
      );
    }
