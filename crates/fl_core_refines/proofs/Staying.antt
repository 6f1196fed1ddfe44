-- What each log entry leaves of a cut: its dispatchers are as many, its programs are the same, and an end that isn't bound accepted nothing.
use Rattle.std.proofs.Common.{◌≡◌, inl, inr, refl, sym, ◌∙◌, ap, subst, ℕ, ◌<◌, nat_le, not, Bool, true, false, if◌then◌else◌, List, [], ◌∷◌, ◌++◌, length, slice_get, slice_set, Option, Some, None}
use Rattle.std.specs.Prelude.{Result, Ok, Err, is_some}
use Rattle.std.proofs.lemmas.List.{length-set}
use Rattle.std.proofs.lemmas.Bool.{false≢true}
use Rattle.fl_base.specs.declared.identity.EndId.{EndId}
use Rattle.fl_base.specs.declared.identity.LinkId.{LinkId}
use Rattle.fl_base.specs.Given.{given}
use Rattle.fl_value_data.specs.Value.{TheCall, call_of}
use Rattle.fl_value_data.specs.Fits.{fits_of}
use Rattle.fl_hop.proofs.Lists.{set_cases, push_cases}
use Rattle.fl_hop.specs.declared.forward.ForwardOutcome.{ForwardOutcome}
use Rattle.fl_hop.specs.declared.forward.ForwardOutcome.TheVariants.{Moved, Full, Spent}
use Rattle.fl_endpoint.specs.declared.fault.EndFault.{EndFault}
use Rattle.fl_endpoint.specs.declared.fault.EndFault.TheVariants as end
use Rattle.fl_endpoint.specs.declared.answer.WriteAnswer.{WriteAnswer}
use Rattle.fl_endpoint.specs.declared.answer.WriteAnswer.TheVariants as write
use Rattle.fl_core.specs.declared.turn_answer.TurnAnswer.{TurnAnswer}
use Rattle.fl_core.specs.declared.turn_answer.TurnAnswer.TheVariants as turn
use Rattle.fl_core.specs.declared.answer.LinkFront.{LinkFront}
use Rattle.fl_core.specs.declared.answer.MonitorAnswer.{MonitorAnswer}
use Rattle.fl_core.specs.declared.answer.MonitorAnswer.TheVariants as answer
use Rattle.fl_core.specs.declared.answer.MonitorWrite.{MonitorWrite}
use Rattle.fl_core.specs.declared.answer.MonitorWrite.TheVariants as said_as
use Rattle.fl_core.specs.declared.fault.LinkReceiveFault.{LinkReceiveFault}
use Rattle.fl_core.specs.declared.fault.LinkReceiveFault.TheVariants as link
use Rattle.fl_core.specs.declared.wiring.Inlet.TheVariants as inlet
use Rattle.fl_core.specs.declared.wiring.Outlet.TheVariants as outlet
use Rattle.fl_core_run.specs.LogEntries.{LogEntry, looked, passed, arrived, heard, said, told, opened, called, ruled, wrote, acked, turned}
use Rattle.fl_model.specs.Given.{changed_at}
use Rattle.fl_model.specs.Events.{refused, accepted}
use Rattle.fl_model.specs.Calls.{Planned}
use Rattle.fl_world_refines.specs.EndLaws.{with_out}
use Rattle.fl_model.specs.Ends.{End, Seat, Taken, whole, a_part, accepts, is_bound, is_busy, rule_at, accepts_or_waits, replies}
use Rattle.fl_model.specs.Monitors.{Service, Heard, no_outbox, misrouted, opening_went_on, server_made, opening_failed, answer_went_on, end_opened, end_refused}
use Rattle.fl_model.specs.State.{State, StepOutcome as MachineOutcome, answers, change_out}
use Rattle.fl_model.specs.Waits.{Dispatcher, Due, pending, polled, no_one, due}
use Rattle.fl_model.specs.Worlds.{start_with}
use Rattle.fl_core_refines.specs.CutSides.{PutOutcome, Places}
use Rattle.fl_core_refines.specs.CutEnds.{EndCut, MachineCalls, Calls, SetsRule, Writes, wrote_next}
use Rattle.fl_core_refines.specs.Cut.{QueueCut, CoreCut}
use Rattle.fl_core_refines.specs.CutEvents.{QueuePlaces, TurnPlace, SideKind, Turns, triggers_seat, triggers_end, HasTurn}
use Rattle.fl_core_refines.specs.CutLinks.{LooksOver, FragAtSide, ArrivesOver, SaysOver}
use Rattle.fl_core_refines.specs.CutHearing.{registers_seat, ReceivedRequest, request_of, ThenFollows, Hears, hearing, said_of, bound_to, IsUnbound}
use Rattle.fl_core_refines.specs.CutDoes.{CutActs, CutDoes}
use Rattle.fl_core_refines.specs.CutReady.{EndsAreQuiet, Serves}
use Rattle.fl_hop.specs.Table.{TheCircuits}
use Rattle.fl_core_refines.proofs.Hearing.{beside, opening_beside, hears_keeps}

pub record Stays (a b : CoreCut) : Type 0 where
  pub number : b.core.circuits.core ≡ a.core.circuits.core
  pub links : (i : ℕ) → beside b.core.circuits i ≡ beside a.core.circuits i
  pub waits : length b.core.dispatchers ≡ length a.core.dispatchers
  pub plans : b.plans ≡ a.plans
  pub quiet : EndsAreQuiet a.ends → EndsAreQuiet b.ends

-- what is shown of the cut that an event names holds of the one that it leads to
pub by : (a b c : CoreCut) → b ≡ c → Stays a c → Stays a b
by a b c e h = subst (Stays a) (sym e) h

pub itself : (a : CoreCut) → Stays a a
itself a = record { number = refl; links = λ i. refl; waits = refl; plans = refl; quiet = λ q. q }

then_stays : (a m b : CoreCut) → Stays a m → Stays m b → Stays a b
then_stays a m b h k = record {
  number = k.number ∙ h.number;
  links = λ i. k.links i ∙ h.links i;
  waits = k.waits ∙ h.waits;
  plans = k.plans ∙ h.plans;
  quiet = λ q. k.quiet (h.quiet q);
}

-- ---- lists

length_changed : {X : Type 0} (xs : List X) (n : ℕ) (f : X → X) → length (changed_at n f xs) ≡ length xs
length_changed {X} xs n f = at (slice_get xs n) where
  at : (o : Option X) → length (given o xs λ x. slice_set xs n (f x)) ≡ length xs
  at None = refl
  at (Some x) = length-set xs n (f x)

triggered_long : (o : Option ℕ) (ends : List EndCut) (waits : List Dispatcher) → length (triggers_end o ends waits) ≡ length waits
triggered_long None ends waits = refl
triggered_long (Some place) ends waits = at (slice_get ends place) where
  seated : (s : Option Seat) → length (triggers_seat s waits) ≡ length waits
  seated None = refl
  seated (Some s) = length_changed waits s.dispatcher.place _

  at : (x : Option EndCut) → length (given x waits λ y. triggers_seat y.end.seat waits) ≡ length waits
  at None = refl
  at (Some x) = seated x.end.seat

registered_long : (s : Option Seat) (x : QueueCut) (waits : List Dispatcher) → length (registers_seat s x waits) ≡ length waits
registered_long None x waits = refl
registered_long (Some s) x waits = length_changed waits s.dispatcher.place _

-- one end changed, that is as quiet as it was
quiet_set : (ends : List EndCut) (place : ℕ) (y : EndCut) → (y.end.circuit ≡ None → IsUnbound y) → EndsAreQuiet ends → EndsAreQuiet (slice_set ends place y)
quiet_set ends place y h all n x at = elim (set_cases ends place y n x at) [
  | inl (here, same) ↦ subst (λ (z : EndCut). z.end.circuit ≡ None → IsUnbound z) (sym same) h
  | inr (other, there) ↦ all n x there
]

-- one end more
quiet_more : (ends : List EndCut) (y : EndCut) → (y.end.circuit ≡ None → IsUnbound y) → EndsAreQuiet ends → EndsAreQuiet (ends ++ y ∷ [])
quiet_more ends y h all n x at = elim (push_cases ends y n x at) [
  | inl there ↦ all n x there
  | inr (last, same) ↦ subst (λ (z : EndCut). z.end.circuit ≡ None → IsUnbound z) (sym same) h
]

-- ---- ends

abbrev IsQuiet : EndCut → Type 0
IsQuiet x = x.end.circuit ≡ None → IsUnbound x

-- a bound end is quiet, whatever it accepted
bound_quiet : (x : EndCut) → is_bound x.end ≡ true → IsQuiet x
bound_quiet x b none = absurd (false≢true (sym (ap is_some none) ∙ b))

-- what has become a bound end
becomes_bound : (y z : EndCut) → y ≡ z → is_bound z.end ≡ true → IsQuiet y
becomes_bound y z e b = subst IsQuiet (sym e) (bound_quiet z b)

same_quiet : (x y : EndCut) → y ≡ x → IsQuiet x → IsQuiet y
same_quiet x y e h = subst IsQuiet (sym e) h

-- the machine accepts calls of bound ends alone
accepted_bound : (x : EndCut) (c : TheCall) (z : State) → MachineCalls x c z → is_bound x.end ≡ true
accepted_bound x c z h =
    cases (nat_le (length x.planned.interface.messages) c.msg) (not (fits_of x.planned.interface c)) (is_bound x.end) (is_busy x.planned x.end.out) (ap (λ (o : MachineOutcome). o.answer) h) where
      cases : (most fits bound busy : Bool)
          → (if most then answers z (refused 41) else if fits then answers z (refused 42) else if not bound then answers z (refused 43)
          else if busy then answers z (refused 40) else answers (change_out x.wired_end.name (accepts c) z) accepted).answer ≡ accepted → bound ≡ true
      cases true fits bound busy e = absurd (cc)
      cases false true bound busy e = absurd (cc)
      cases false false false busy e = absurd (cc)
      cases false false true busy e = refl

calls_quiet : (x y : EndCut) (c : TheCall) (r : Result (Unit {0}) EndFault) → Calls c r x y → IsQuiet x → IsQuiet y
calls_quiet x y c (Ok done) h q =
    becomes_bound y (record x { end = with_out (accepts c) x.end }) h.1 (accepted_bound x c (start_with 1) (h.0 (start_with 1)))
calls_quiet x y c (Err end.Memory) h q = same_quiet x y h q
calls_quiet x y c (Err end.Failed) h q = same_quiet x y h.1 q
calls_quiet x y c (Err end.UnknownMessage) h q = same_quiet x y h.1 q
calls_quiet x y c (Err end.Misfit) h q = same_quiet x y h.1 q
calls_quiet x y c (Err end.NotBound) h q = same_quiet x y h.1 q
calls_quiet x y c (Err end.Busy) h q = same_quiet x y h.1 q
calls_quiet x y c (Err end.Spent) h q = same_quiet x y h.1 q
calls_quiet x y c (Err (end.Wire fault)) h q = same_quiet x y h.1 q

rules_quiet : (x y : EndCut) (msg reply : ℕ) (r : Result (Unit {0}) EndFault) → SetsRule msg reply r x y → IsQuiet x → IsQuiet y
rules_quiet x y msg reply (Ok done) h q =
    subst IsQuiet (sym h.2) (λ none. (let u = q none in record { circuit = u.circuit; accepted = u.accepted; waiting = u.waiting; sound = u.sound }))
rules_quiet x y msg reply (Err end.UnknownMessage) h q = same_quiet x y h.1 q
rules_quiet x y msg reply (Err end.Misfit) h q = same_quiet x y h.2 q
rules_quiet x y msg reply (Err end.Memory) h q = absurd h
rules_quiet x y msg reply (Err end.Failed) h q = absurd h
rules_quiet x y msg reply (Err end.NotBound) h q = absurd h
rules_quiet x y msg reply (Err end.Busy) h q = absurd h
rules_quiet x y msg reply (Err end.Spent) h q = absurd h
rules_quiet x y msg reply (Err (end.Wire fault)) h q = absurd h

module _ {P : Type 0} (places : Rattle.fl_model.specs.Rings.Label → PutOutcome → P → P → Type 0) where
  writes_quiet : (x y : EndCut) (v w : P) (r : Result WriteAnswer EndFault) → Writes places r x v y w → IsQuiet x → IsQuiet y
  writes_quiet x y v w (Ok (write.Written number count)) h q = becomes_bound y (wrote_next x) h.3 h.0.0
  writes_quiet x y v w (Ok write.Full) h q = same_quiet x y h.3 q
  writes_quiet x y v w (Ok write.Nothing) h q = same_quiet x y h.3 q
  writes_quiet x y v w (Err end.Spent) h q = same_quiet x y h.3 q
  writes_quiet x y v w (Err end.NotBound) h q = same_quiet x y h.2 q
  writes_quiet x y v w (Err end.Failed) h q = same_quiet x y h.2 q
  writes_quiet x y v w (Err end.UnknownMessage) h q = absurd h
  writes_quiet x y v w (Err end.Misfit) h q = absurd h
  writes_quiet x y v w (Err end.Busy) h q = absurd h
  writes_quiet x y v w (Err end.Memory) h q = absurd h
  writes_quiet x y v w (Err (end.Wire fault)) h q = absurd h

-- a reply changes no circuit
replied_circuit : (i : Planned) (t : Taken) (x : End) → (replies i t x).circuit ≡ x.circuit
replied_circuit i a_part x = refl
replied_circuit i (whole c) x = ruled_by (rule_at x.rules c.msg) where
  ruled_by : (o : Option ℕ) → (given o x λ msg. record x { out = accepts_or_waits i (record { msg = msg; args = c.args }) x.out }).circuit ≡ x.circuit
  ruled_by None = refl
  ruled_by (Some msg) = refl

module _ {P : Type 0} (g : SideKind P) where
  -- what an end takes it takes bound
  turns_quiet : (d : Due) (r : TurnAnswer) (a b : TurnPlace P) → Turns g d r a b → IsQuiet a.end → IsQuiet b.end
  turns_quiet (pending c) (turn.Handle call) a b h q =
      becomes_bound b.end _ h.1.1.after (ap is_some (replied_circuit a.end.planned (whole (call_of call)) a.end.end) ∙ h.0.0)
  turns_quiet (pending c) turn.Part a b h q =
      becomes_bound b.end _ h.1.1.after (ap is_some (replied_circuit a.end.planned a_part a.end.end) ∙ h.0.0)
  turns_quiet (pending c) turn.Quiet a b h q = same_quiet a.end b.end h.1 q
  turns_quiet (pending c) turn.Nothing a b h q = same_quiet a.end b.end h.1 q
  turns_quiet (pending c) turn.Full a b h q = same_quiet a.end b.end h.2 q
  turns_quiet (pending c) (turn.Refused fault) a b h q = becomes_bound b.end (record a.end { failed = true }) h.1.1.after h.0.0
  turns_quiet (pending c) turn.Ready a b h q = absurd h
  turns_quiet (polled c) turn.Ready a b h q = same_quiet a.end b.end h.0 q
  turns_quiet (polled c) turn.Quiet a b h q = same_quiet a.end b.end h.0 q
  turns_quiet (polled c) (turn.Handle call) a b h q = absurd h
  turns_quiet (polled c) turn.Part a b h q = absurd h
  turns_quiet (polled c) turn.Nothing a b h q = absurd h
  turns_quiet (polled c) turn.Full a b h q = absurd h
  turns_quiet (polled c) (turn.Refused fault) a b h q = absurd h
  turns_quiet no_one r a b h q = absurd h

  -- a dispatcher's turn
  turn_stays : (d n : ℕ) (name : EndId) (r : TurnAnswer) (a b : CoreCut) (xs ys : List P)
      → HasTurn g (record { dispatcher = d; end = name; from = n; answer = r }) a xs b.core.dispatchers (record { ends = b.ends; sides = ys })
      → b.core.circuits ≡ a.core.circuits → b.plans ≡ a.plans → Stays a b
  turn_stays d n name r a b xs ys h circuits plans =
      let location : TurnPlace P = record { waits = h.waits; end = h.at.end; side = h.side } in
      record {
        number = ap (λ (t : TheCircuits). t.core) circuits;
        links = λ i. ap (λ (t : TheCircuits). beside t i) circuits;
        waits = ap length h.waits_are ∙ length-set a.core.dispatchers d h.after.waits;
        plans = plans;
        quiet = λ q. subst EndsAreQuiet (sym h.ends_are)
            (quiet_set a.ends h.at.place h.after.end (turns_quiet (due h.waits) r location h.after h.turns (q h.at.place h.at.end h.at.end_is)) q);
      }

-- ---- log entries

looks_stay : (n : ℕ) (l : LinkId) (r : Result LinkFront LinkReceiveFault) (a b : CoreCut) → LooksOver n l r a b → Stays a b
looks_stay n l r a b h = by a b _ h.rest (record { number = refl; links = λ i. refl; waits = refl; plans = refl; quiet = λ q. q })

arrives_stay : (x : FragAtSide) (name : EndId) (r : Result ForwardOutcome LinkReceiveFault) (a b : CoreCut) → ArrivesOver x name r a b → Stays a b
arrives_stay x name (Ok Moved) a b h =
    by a b _ h.3 (record { number = refl; links = λ i. refl; waits = triggered_long _ a.ends a.core.dispatchers; plans = refl; quiet = λ q. q })
arrives_stay x name (Ok Full) a b h = by a b _ h.2 (itself a)
arrives_stay x name (Ok Spent) a b h = absurd h
arrives_stay x name (Err link.Misrouted) a b h = by a b _ h (record { number = refl; links = λ i. refl; waits = refl; plans = refl; quiet = λ q. q })
arrives_stay x name (Err link.Failed) a b h = absurd h
arrives_stay x name (Err link.Marked) a b h = absurd h
arrives_stay x name (Err link.Memory) a b h = absurd h
arrives_stay x name (Err (link.Wire fault)) a b h = absurd h

says_stay : (n : ℕ) (l : LinkId) (r : MonitorWrite) (a b : CoreCut) → SaysOver n l r a b → Stays a b
says_stay n l said_as.Written a b h = by a b _ h.3 (record { number = refl; links = λ i. refl; waits = refl; plans = refl; quiet = λ q. q })
says_stay n l said_as.Full a b h = by a b _ h.3 (record { number = refl; links = λ i. refl; waits = refl; plans = refl; quiet = λ q. q })
says_stay n l said_as.Spent a b h = by a b _ h.3 (record { number = refl; links = λ i. refl; waits = refl; plans = refl; quiet = λ q. q })
says_stay n l said_as.Nothing a b h = by a b _ h.1 (itself a)

pub acts_stay : (log_entry : LogEntry) (a b : CoreCut) → CutActs log_entry a b → Stays a b
acts_stay (looked n l r) a b h = looks_stay n l r a b h
acts_stay (passed n m frag c Moved) a b h = by a b _ h.4 (record { number = refl; links = λ i. refl; waits = refl; plans = refl; quiet = λ q. q })
acts_stay (passed n m frag c Full) a b h = by a b _ h.2 (record { number = refl; links = λ i. refl; waits = refl; plans = refl; quiet = λ q. q })
acts_stay (passed n m frag c Spent) a b h = by a b _ h.2 (record { number = refl; links = λ i. refl; waits = refl; plans = refl; quiet = λ q. q })
acts_stay (arrived n l frag name r) a b h = arrives_stay (record { side = n; link = l; frag = frag }) name r a b h
acts_stay (said n l r) a b h = says_stay n l r a b h
acts_stay (told n l r) a b h = by a b _ h.1 (record { number = refl; links = λ i. refl; waits = refl; plans = refl; quiet = λ q. q })
acts_stay (called name c r) a b h = by a b _ h.rest (record {
  number = refl;
  links = λ i. refl;
  waits = refl;
  plans = refl;
  quiet = λ q. quiet_set a.ends h.at.place h.after (calls_quiet h.at.end h.after c r h.event (q h.at.place h.at.end h.at.end_is)) q;
})
acts_stay (ruled name msg reply r) a b h = by a b _ h.rest (record {
  number = refl;
  links = λ i. refl;
  waits = refl;
  plans = refl;
  quiet = λ q. quiet_set a.ends h.at.place h.after (rules_quiet h.at.end h.after msg.0 reply.0 r h.event (q h.at.place h.at.end h.at.end_is)) q;
})
acts_stay (wrote name (outlet.Side n) r) a b h = record {
  number = ap (λ (c : CoreCut). c.core.circuits.core) h.1;
  links = λ i. ap (λ (c : CoreCut). beside c.core.circuits i) h.1;
  waits = ap (λ (c : CoreCut). length c.core.dispatchers) h.1;
  plans = ap (λ (c : CoreCut). c.plans) h.1;
  quiet = λ q. subst EndsAreQuiet (sym h.0.ends_are)
      (quiet_set a.ends h.0.at.place h.0.after (writes_quiet Places h.0.at.end h.0.after h.0.side h.0.side_after r h.0.event (q h.0.at.place h.0.at.end h.0.at.end_is)) q);
}
acts_stay (wrote name (outlet.Queue n) r) a b h = record {
  number = ap (λ (c : CoreCut). c.core.circuits.core) h.1;
  links = λ i. ap (λ (c : CoreCut). beside c.core.circuits i) h.1;
  waits = ap (λ (c : CoreCut). length c.core.dispatchers) h.1 ∙ triggered_long _ b.ends a.core.dispatchers;
  plans = ap (λ (c : CoreCut). c.plans) h.1;
  quiet = λ q. subst EndsAreQuiet (sym h.0.ends_are)
      (quiet_set a.ends h.0.at.place h.0.after (writes_quiet QueuePlaces h.0.at.end h.0.after h.0.side h.0.side_after r h.0.event (q h.0.at.place h.0.at.end h.0.at.end_is)) q);
}
acts_stay (acked name n r) a b h = by a b _ h.rest (record { number = refl; links = λ i. refl; waits = refl; plans = refl; quiet = λ q. q })
acts_stay (turned d name (inlet.Side n) r) a b h =
    turn_stays _ d n name r a b a.sides b.sides h.0 (ap (λ (c : CoreCut). c.core.circuits) h.1) (ap (λ (c : CoreCut). c.plans) h.1)
acts_stay (turned d name (inlet.Queue n) r) a b h =
    turn_stays _ d n name r a b a.queues b.queues h.0 (ap (λ (c : CoreCut). c.core.circuits) h.1) (ap (λ (c : CoreCut). c.plans) h.1)
acts_stay (turned d name inlet.Arrivals r) a b h =
    turn_stays _ d h.number name r a b a.arrivals b.arrivals h.turn (ap (λ (c : CoreCut). c.core.circuits) h.rest) (ap (λ (c : CoreCut). c.plans) h.rest)
acts_stay (opened name request (Ok e)) a b h =
    let made : Stays a h.opened = by a h.opened _ h.opened_is (record {
      number = refl;
      links = λ i. refl;
      waits = length-set a.core.dispatchers request.dispatcher _;
      plans = refl;
      quiet = λ q. quiet_more a.ends _ (λ none. record { circuit = refl; accepted = refl; waiting = refl; sound = refl }) q;
    }) in
    by a b _ h.rest (record {
      number = made.number;
      links = λ i. opening_beside h.opened.core.circuits.links request.link.0 i ∙ made.links i;
      waits = made.waits;
      plans = made.plans;
      quiet = made.quiet;
    })
acts_stay (opened name request (Err fault)) a b h = by a b _ h.1 (itself a)
acts_stay (heard n l frag r) a b h = absurd h

-- ---- a message

-- what follows it
follows_stay : (request : ReceivedRequest) (w : Heard) (r : MonitorAnswer) (a b : CoreCut) → ThenFollows request w r a b → Stays a b
follows_stay request (opening_went_on n c) r a b h = by a b _ h.1 (itself a)
follows_stay request (opening_failed n fault) r a b h = by a b _ h.1 (itself a)
follows_stay request (answer_went_on n) r a b h = by a b _ h.1 (itself a)
follows_stay request (server_made n d c) r a b h =
    let m = h.1 in
    let made : Stays a m.made = by a m.made _ m.made_is (record {
      number = refl;
      links = λ i. refl;
      waits = length-set a.core.dispatchers d.place _;
      plans = refl;
      quiet = λ q. quiet_more a.ends (bound_to c m.end) (bound_quiet (bound_to c m.end) refl) q;
    }) in
    by a b _ m.rest (record {
      number = made.number;
      links = made.links;
      waits = registered_long m.end.end.seat _ m.made.core.dispatchers ∙ made.waits;
      plans = made.plans;
      quiet = made.quiet;
    })
follows_stay request (end_opened e c) r a b (is, inl x) = by a b _ x.rest (record {
  number = refl;
  links = λ i. refl;
  waits = registered_long x.at.end.end.seat x.queue a.core.dispatchers;
  plans = refl;
  quiet = λ q. quiet_set a.ends x.at.place (bound_to c x.at.end) (bound_quiet (bound_to c x.at.end) refl) q;
})
follows_stay request (end_opened e c) r a b (is, inr x) = by a b _ x.1 (itself a)
follows_stay request (end_refused e fault) r a b h = by a b _ h.1 (itself a)
follows_stay request no_outbox r a b h = absurd h
follows_stay request misrouted r a b h = absurd h

hears_stay : (services : List Service) (x : FragAtSide) (r : MonitorAnswer) (a b : CoreCut) → Hears services x r a b → Stays a b
hears_stay services x r a b h =
    let keeps = hears_keeps services x.link.0 (said_of h.message) a.core in
    then_stays a h.middle b
    (by a h.middle _ h.middle_is (record { number = keeps.number; links = keeps.links; waits = ap length keeps.waits; plans = refl; quiet = λ q. q }))
    (follows_stay (request_of services x.link h.message) (hearing services x.link.0 h.message a).heard r h.middle b h.follows)

pub does_stay : (services : List Service) (log_entry : LogEntry) (a b : CoreCut) → CutDoes services log_entry a b → Stays a b
does_stay services (heard n l frag (Ok answer.Full)) a b h = by a b _ h.3 (itself a)
does_stay services (heard n l frag (Ok answer.Done)) a b h = hears_stay services (record { side = n; link = l; frag = frag }) answer.Done a b h
does_stay services (heard n l frag (Ok (answer.Opened e))) a b h = hears_stay services (record { side = n; link = l; frag = frag }) (answer.Opened e) a b h
does_stay services (heard n l frag (Ok (answer.OpeningRefused e reason))) a b h = hears_stay services (record { side = n; link = l; frag = frag }) (answer.OpeningRefused e reason) a b h
does_stay services (heard n l frag (Err link.Memory)) a b h = by a b _ h (itself a)
does_stay services (heard n l frag (Err link.Misrouted)) a b h = by a b _ h (record { number = refl; links = λ i. refl; waits = refl; plans = refl; quiet = λ q. q })
does_stay services (heard n l frag (Err link.Failed)) a b h = by a b _ h (record { number = refl; links = λ i. refl; waits = refl; plans = refl; quiet = λ q. q })
does_stay services (heard n l frag (Err link.Marked)) a b h = by a b _ h (record { number = refl; links = λ i. refl; waits = refl; plans = refl; quiet = λ q. q })
does_stay services (heard n l frag (Err (link.Wire fault))) a b h = by a b _ h (record { number = refl; links = λ i. refl; waits = refl; plans = refl; quiet = λ q. q })
does_stay services (looked n l r) a b h = acts_stay (looked n l r) a b h
does_stay services (passed n m frag c r) a b h = acts_stay (passed n m frag c r) a b h
does_stay services (arrived n l frag name r) a b h = acts_stay (arrived n l frag name r) a b h
does_stay services (said n l r) a b h = acts_stay (said n l r) a b h
does_stay services (told n l r) a b h = acts_stay (told n l r) a b h
does_stay services (opened name request r) a b h = acts_stay (opened name request r) a b h
does_stay services (called name c r) a b h = acts_stay (called name c r) a b h
does_stay services (ruled name msg reply r) a b h = acts_stay (ruled name msg reply r) a b h
does_stay services (wrote name out r) a b h = acts_stay (wrote name out r) a b h
does_stay services (acked name n r) a b h = acts_stay (acked name n r) a b h
does_stay services (turned d name from r) a b h = acts_stay (turned d name from r) a b h

-- services are served still
pub still_serves : (services : List Service) (a b : CoreCut) → Stays a b → Serves services a → Serves services b
still_serves services a b h serves n x at here =
    let was = serves n x at (here ∙ h.number) in
    (subst (λ (m : ℕ). x.dispatcher.place < m) (sym h.waits) was.0, subst (λ (m : ℕ). x.interface < m) (sym (ap length h.plans)) was.1)
