-- Ends of a core's cut that its run made: until then no event is at an end of that name, and then it is a new one.
use Rattle.std.proofs.Common.{◌≡◌, ◌⊎◌, inl, inr, refl, sym, ◌∙◌, ap, subst, ℕ, zero, suc, ◌+◌, Bool, true, false, if◌then◌else◌}
use Rattle.std.proofs.Common.{List, [], ◌∷◌, ◌++◌, length, map, replicate, slice_get, slice_set, Option, Some, None, Result, Ok, Err, arith}
use Rattle.std.proofs.lemmas.List.{length-replicate}
use Rattle.fl_base.specs.declared.identity.EndId.{EndId}
use Rattle.fl_base.specs.declared.identity.LinkId.{LinkId}
use Rattle.fl_value_data.specs.declared.value.Call.{Call}
use Rattle.fl_value_data.specs.Value.{TheCall, call_of}
use Rattle.fl_hop.proofs.Lists.{set_cases, push_cases}
use Rattle.fl_hop.specs.Stretch.{same_end}
use Rattle.fl_hop.specs.declared.forward.ForwardOutcome.{ForwardOutcome}
use Rattle.fl_hop.specs.declared.forward.ForwardOutcome.TheVariants.{Moved, Full, Spent}
use Rattle.fl_endpoint.specs.declared.fault.EndFault.{EndFault}
use Rattle.fl_endpoint.specs.declared.fault.EndFault.TheVariants as end
use Rattle.fl_endpoint.specs.declared.answer.WriteAnswer.{WriteAnswer}
use Rattle.fl_endpoint.specs.declared.answer.WriteAnswer.TheVariants as write
use Rattle.fl_core.specs.declared.turn_answer.TurnAnswer.{TurnAnswer}
use Rattle.fl_core.specs.declared.turn_answer.TurnAnswer.TheVariants as turn
use Rattle.fl_core.specs.declared.answer.MonitorAnswer.{MonitorAnswer}
use Rattle.fl_core.specs.declared.answer.MonitorAnswer.TheVariants as answer
use Rattle.fl_core.specs.declared.answer.MonitorWrite.{MonitorWrite}
use Rattle.fl_core.specs.declared.answer.MonitorWrite.TheVariants as said_as
use Rattle.fl_core.specs.declared.fault.LinkReceiveFault.{LinkReceiveFault}
use Rattle.fl_core.specs.declared.fault.LinkReceiveFault.TheVariants as link
use Rattle.fl_core.specs.declared.core_job.CoreJob.{CoreJob}
use Rattle.fl_core.specs.declared.wiring.Inlet.{Inlet}
use Rattle.fl_core.specs.declared.wiring.Inlet.TheVariants as inlet
use Rattle.fl_core.specs.declared.wiring.Outlet.TheVariants as outlet
use Rattle.fl_core.specs.declared.wiring.WiredEnd.{WiredEnd}
use Rattle.fl_core.specs.Sound.{IsCore}
use Rattle.fl_core.specs.View.{place_in, place_of}
use Rattle.fl_monitor.specs.declared.message.MonitorMessage.{MonitorMessage}
use Rattle.fl_core_run.specs.LogEntries.{LogEntry, looked, passed, arrived, heard, said, told, opened, called, ruled, wrote, acked, turned}
use Rattle.fl_core_run.specs.Run.{TheRun}
use Rattle.fl_core_run_laws.specs.Carried.{rules_by, rules_in, rules_at, reply_in, sent_in, sent_at, calls_handled}
use Rattle.fl_core_run_laws.specs.Logs.{call_in, handled_in, handled_at}
use Rattle.fl_core_run_laws.specs.Made.{made_by}
use Rattle.fl_core_run_laws.proofs.Handling.{one_end}
use Rattle.fl_ring.specs.SharedSides.{TheSide}
use Rattle.fl_model.specs.Monitors.{Service, Heard, no_outbox, misrouted, opening_went_on, server_made, opening_failed, answer_went_on, end_opened, end_refused}
use Rattle.fl_model.specs.Rings.{Label}
use Rattle.fl_model.specs.Waits.{Due, pending, polled, no_one, due}
use Rattle.fl_core_refines.specs.CutSides.{PutOutcome, Places}
use Rattle.fl_core_refines.specs.CutEnds.{EndCut, Calls, SetsRule, Writes}
use Rattle.fl_core_refines.specs.Cut.{CoreCut, ShowsCut}
use Rattle.fl_core_refines.specs.CutEvents.{QueuePlaces, TurnPlace, SideKind, Turns, EndAt, HasTurn}
use Rattle.fl_core_refines.specs.CutLinks.{FragAtSide, ArrivesOver, SaysOver}
use Rattle.fl_core_refines.specs.CutHearing.{route_length, request_of, ThenFollows, Hears, hearing, bound_to}
use Rattle.fl_core_refines.specs.CutDoes.{CutActs, CutDoes}
use Rattle.fl_core_turned.specs.TurnEvents.{Event, log_of}
use Rattle.fl_core_turned.specs.Turned.{CutMoment, moment, Follows, AllFollow}
use Rattle.fl_cores.proofs.FollowsSent.{all_of, IsOk, at_home, ends_go, shows_last}

-- ---- new ends

-- nothing was done with it
pub record IsNew (x : EndCut) : Type 0 where
  pub sent : all_of x ≡ []
  pub came : x.came.accepted ≡ []
  pub number : ℕ
  pub rules : x.end.rules ≡ replicate number None
  pub stations : ℕ
  pub passed : x.end.out.passed ≡ replicate (suc stations) 0

new_ok : (x : EndCut) → x.end.out.waiting ≡ [] → (n : ℕ) → x.end.out.passed ≡ replicate (suc n) 0 → IsOk x
new_ok x none n is =
    let long : length x.end.out.passed ≡ suc n = ap length is ∙ length-replicate (suc n) 0 in
    record { stations = omega (arith, long); busy = λ some. absurd (some none) }

-- ---- by one log entry ends keep their names, and one may be new

-- an end that stood at this place had that name before, or it is new
abbrev Comes : List EndCut → List EndCut → Type 0
Comes xs ys = (q : ℕ) (y : EndCut) → slice_get ys q ≡ Some y → ((x : EndCut) × ((slice_get xs q ≡ Some x) × (x.wired_end ≡ y.wired_end))) ⊎ (IsNew y × (y.end.out.waiting ≡ []))

same_ends : (xs ys : List EndCut) → ys ≡ xs → Comes xs ys
same_ends xs ys same q y at = inl (y, (ap (λ (es : List EndCut). slice_get es q) (sym same) ∙ at, refl))

set_ends : (xs ys : List EndCut) (place : ℕ) (x z : EndCut) → ys ≡ slice_set xs place z → slice_get xs place ≡ Some x → z.wired_end ≡ x.wired_end → Comes xs ys
set_ends xs ys place x z same at wired q y y_is = elim (set_cases xs place z q y (ap (λ (es : List EndCut). slice_get es q) (sym same) ∙ y_is)) [
  | inl (here, is) ↦ inl (x, (ap (slice_get xs) here ∙ at, sym wired ∙ ap (λ (u : EndCut). u.wired_end) (sym is)))
  | inr (other, there) ↦ inl (y, (there, refl))
]

more_ends : (xs ys : List EndCut) (z : EndCut) → ys ≡ xs ++ z ∷ [] → IsNew z → z.end.out.waiting ≡ [] → Comes xs ys
more_ends xs ys z same new none q y y_is = elim (push_cases xs z q y (ap (λ (es : List EndCut). slice_get es q) (sym same) ∙ y_is)) [
  | inl there ↦ inl (y, (there, refl))
  | inr (last, is) ↦ inr (subst (λ (u : EndCut). IsNew u × (u.end.out.waiting ≡ [])) (sym is) (new, none))
]

calls_name : (x y : EndCut) (c : TheCall) (r : Result (Unit {0}) EndFault) → Calls c r x y → y.wired_end ≡ x.wired_end
calls_name x y c (Ok done) h = ap (λ (u : EndCut). u.wired_end) h.1
calls_name x y c (Err end.Memory) h = ap (λ (u : EndCut). u.wired_end) h
calls_name x y c (Err end.Failed) h = ap (λ (u : EndCut). u.wired_end) h.1
calls_name x y c (Err end.UnknownMessage) h = ap (λ (u : EndCut). u.wired_end) h.1
calls_name x y c (Err end.Misfit) h = ap (λ (u : EndCut). u.wired_end) h.1
calls_name x y c (Err end.NotBound) h = ap (λ (u : EndCut). u.wired_end) h.1
calls_name x y c (Err end.Busy) h = ap (λ (u : EndCut). u.wired_end) h.1
calls_name x y c (Err end.Spent) h = ap (λ (u : EndCut). u.wired_end) h.1
calls_name x y c (Err (end.Wire fault)) h = ap (λ (u : EndCut). u.wired_end) h.1

rules_name : (x y : EndCut) (msg reply : ℕ) (r : Result (Unit {0}) EndFault) → SetsRule msg reply r x y → y.wired_end ≡ x.wired_end
rules_name x y msg reply (Ok done) h = ap (λ (u : EndCut). u.wired_end) h.2
rules_name x y msg reply (Err end.UnknownMessage) h = ap (λ (u : EndCut). u.wired_end) h.1
rules_name x y msg reply (Err end.Misfit) h = ap (λ (u : EndCut). u.wired_end) h.2
rules_name x y msg reply (Err end.Memory) h = absurd h
rules_name x y msg reply (Err end.Failed) h = absurd h
rules_name x y msg reply (Err end.NotBound) h = absurd h
rules_name x y msg reply (Err end.Busy) h = absurd h
rules_name x y msg reply (Err end.Spent) h = absurd h
rules_name x y msg reply (Err (end.Wire fault)) h = absurd h

module _ {P : Type 0} (places : Label → PutOutcome → P → P → Type 0) where
  writes_name : (x y : EndCut) (v w : P) (r : Result WriteAnswer EndFault) → Writes places r x v y w → y.wired_end ≡ x.wired_end
  writes_name x y v w (Ok (write.Written number count)) h = ap (λ (u : EndCut). u.wired_end) h.3
  writes_name x y v w (Ok write.Full) h = ap (λ (u : EndCut). u.wired_end) h.3
  writes_name x y v w (Ok write.Nothing) h = ap (λ (u : EndCut). u.wired_end) h.3
  writes_name x y v w (Err end.Spent) h = ap (λ (u : EndCut). u.wired_end) h.3
  writes_name x y v w (Err end.NotBound) h = ap (λ (u : EndCut). u.wired_end) h.2
  writes_name x y v w (Err end.Failed) h = ap (λ (u : EndCut). u.wired_end) h.2
  writes_name x y v w (Err end.UnknownMessage) h = absurd h
  writes_name x y v w (Err end.Misfit) h = absurd h
  writes_name x y v w (Err end.Busy) h = absurd h
  writes_name x y v w (Err end.Memory) h = absurd h
  writes_name x y v w (Err (end.Wire fault)) h = absurd h

module _ {P : Type 0} (g : SideKind P) where
  turns_name : (d : Due) (r : TurnAnswer) (a b : TurnPlace P) → Turns g d r a b → b.end.wired_end ≡ a.end.wired_end
  turns_name (pending c) (turn.Handle call) a b h = ap (λ (u : EndCut). u.wired_end) h.1.1.after
  turns_name (pending c) turn.Part a b h = ap (λ (u : EndCut). u.wired_end) h.1.1.after
  turns_name (pending c) turn.Quiet a b h = ap (λ (u : EndCut). u.wired_end) h.1
  turns_name (pending c) turn.Nothing a b h = ap (λ (u : EndCut). u.wired_end) h.1
  turns_name (pending c) turn.Full a b h = ap (λ (u : EndCut). u.wired_end) h.2
  turns_name (pending c) (turn.Refused fault) a b h = ap (λ (u : EndCut). u.wired_end) h.1.1.after
  turns_name (pending c) turn.Ready a b h = absurd h
  turns_name (polled c) turn.Ready a b h = ap (λ (u : EndCut). u.wired_end) h.0
  turns_name (polled c) turn.Quiet a b h = ap (λ (u : EndCut). u.wired_end) h.0
  turns_name (polled c) (turn.Handle call) a b h = absurd h
  turns_name (polled c) turn.Part a b h = absurd h
  turns_name (polled c) turn.Nothing a b h = absurd h
  turns_name (polled c) turn.Full a b h = absurd h
  turns_name (polled c) (turn.Refused fault) a b h = absurd h
  turns_name no_one r a b h = absurd h

  turn_comes : (d n : ℕ) (name : EndId) (r : TurnAnswer) (a b : CoreCut) (xs ys : List P)
      → HasTurn g (record { dispatcher = d; end = name; from = n; answer = r }) a xs b.core.dispatchers (record { ends = b.ends; sides = ys }) → Comes a.ends b.ends
  turn_comes d n name r a b xs ys h =
      set_ends a.ends b.ends h.at.place h.at.end h.after.end h.ends_are h.at.end_is
      (turns_name (due h.waits) r (record { waits = h.waits; end = h.at.end; side = h.side }) h.after h.turns)

module _ (a b : CoreCut) where
  arrives_come : (incoming : FragAtSide) (name : EndId) (r : Result ForwardOutcome LinkReceiveFault) → ArrivesOver incoming name r a b → Comes a.ends b.ends
  arrives_come incoming name (Ok Moved) h = same_ends a.ends b.ends (ap (λ (c : CoreCut). c.ends) h.3)
  arrives_come incoming name (Ok Full) h = same_ends a.ends b.ends (ap (λ (c : CoreCut). c.ends) h.2)
  arrives_come incoming name (Ok Spent) h = absurd h
  arrives_come incoming name (Err link.Misrouted) h = same_ends a.ends b.ends (ap (λ (c : CoreCut). c.ends) h)
  arrives_come incoming name (Err link.Failed) h = absurd h
  arrives_come incoming name (Err link.Marked) h = absurd h
  arrives_come incoming name (Err link.Memory) h = absurd h
  arrives_come incoming name (Err (link.Wire fault)) h = absurd h

  says_come : (n : ℕ) (l : LinkId) (r : MonitorWrite) → SaysOver n l r a b → Comes a.ends b.ends
  says_come n l said_as.Written h = same_ends a.ends b.ends (ap (λ (c : CoreCut). c.ends) h.3)
  says_come n l said_as.Full h = same_ends a.ends b.ends (ap (λ (c : CoreCut). c.ends) h.3)
  says_come n l said_as.Spent h = same_ends a.ends b.ends (ap (λ (c : CoreCut). c.ends) h.3)
  says_come n l said_as.Nothing h = same_ends a.ends b.ends (ap (λ (c : CoreCut). c.ends) h.1)

  some_stations : (n : ℕ) → n + 1 ≡ suc n
  some_stations n = omega arith

  acts_come : (log_entry : LogEntry) → CutActs log_entry a b → Comes a.ends b.ends
  acts_come (looked n l r) h = same_ends a.ends b.ends (ap (λ (c : CoreCut). c.ends) h.rest)
  acts_come (passed n m frag c Moved) h = same_ends a.ends b.ends (ap (λ (k : CoreCut). k.ends) h.4)
  acts_come (passed n m frag c Full) h = same_ends a.ends b.ends (ap (λ (k : CoreCut). k.ends) h.2)
  acts_come (passed n m frag c Spent) h = same_ends a.ends b.ends (ap (λ (k : CoreCut). k.ends) h.2)
  acts_come (arrived n l frag name r) h = arrives_come (record { side = n; link = l; frag = frag }) name r h
  acts_come (said n l r) h = says_come n l r h
  acts_come (told n l r) h = same_ends a.ends b.ends (ap (λ (c : CoreCut). c.ends) h.1)
  acts_come (called name c r) h =
      set_ends a.ends b.ends h.at.place h.at.end h.after (ap (λ (k : CoreCut). k.ends) h.rest) h.at.end_is (calls_name h.at.end h.after c r h.event)
  acts_come (ruled name msg reply r) h =
      set_ends a.ends b.ends h.at.place h.at.end h.after (ap (λ (k : CoreCut). k.ends) h.rest) h.at.end_is (rules_name h.at.end h.after msg.0 reply.0 r h.event)
  acts_come (wrote name (outlet.Side n) r) h =
      set_ends a.ends b.ends h.0.at.place h.0.at.end h.0.after h.0.ends_are h.0.at.end_is
      (writes_name Places h.0.at.end h.0.after h.0.side h.0.side_after r h.0.event)
  acts_come (wrote name (outlet.Queue n) r) h =
      set_ends a.ends b.ends h.0.at.place h.0.at.end h.0.after h.0.ends_are h.0.at.end_is
      (writes_name QueuePlaces h.0.at.end h.0.after h.0.side h.0.side_after r h.0.event)
  acts_come (acked name n r) h = same_ends a.ends b.ends (ap (λ (c : CoreCut). c.ends) h.rest)
  acts_come (turned d name (inlet.Side n) r) h = turn_comes _ d n name r a b a.sides b.sides h.0
  acts_come (turned d name (inlet.Queue n) r) h = turn_comes _ d n name r a b a.queues b.queues h.0
  acts_come (turned d name inlet.Arrivals r) h = turn_comes _ d h.number name r a b a.arrivals b.arrivals h.turn
  acts_come (opened name request (Ok n)) h =
      more_ends a.ends b.ends _ (ap (λ (c : CoreCut). c.ends) h.rest ∙ ap (λ (c : CoreCut). c.ends) h.opened_is)
      (record {
        sent = refl;
        came = refl;
        number = length h.planned.interface.messages;
        rules = refl;
        stations = length request.opening.path;
        passed = ap (λ (k : ℕ). replicate k 0) (some_stations (length request.opening.path));
      })
      refl
  acts_come (opened name request (Err fault)) h = same_ends a.ends b.ends (ap (λ (c : CoreCut). c.ends) h.1)
  acts_come (heard n l frag r) h = absurd h

  follows_come : (services : List Service) (l : LinkId) (m : MonitorMessage) (w : Heard) (r : MonitorAnswer) → ThenFollows (request_of services l m) w r a b → Comes a.ends b.ends
  follows_come services l m (opening_went_on n c) r h = same_ends a.ends b.ends (ap (λ (k : CoreCut). k.ends) h.1)
  follows_come services l m (opening_failed n fault) r h = same_ends a.ends b.ends (ap (λ (k : CoreCut). k.ends) h.1)
  follows_come services l m (answer_went_on n) r h = same_ends a.ends b.ends (ap (λ (k : CoreCut). k.ends) h.1)
  follows_come services l m (server_made n d c) r h =
      let x = h.1 in
      more_ends a.ends b.ends (bound_to c x.end) (ap (λ (k : CoreCut). k.ends) x.rest ∙ ap (λ (k : CoreCut). k.ends) x.made_is)
      (record {
        sent = ap all_of x.end_is;
        came = ap (λ (u : EndCut). u.came.accepted) x.end_is;
        number = length x.planned.interface.messages;
        rules = ap (λ (u : EndCut). u.end.rules) x.end_is;
        stations = route_length m;
        passed = ap (λ (u : EndCut). u.end.out.passed) x.end_is
            ∙ ap (λ (k : ℕ). replicate k 0) (some_stations (route_length m));
      })
      (ap (λ (u : EndCut). u.end.out.waiting) x.end_is)
  follows_come services l m (end_opened f c) r (is, inl y) =
      set_ends a.ends b.ends y.at.place y.at.end (bound_to c y.at.end) (ap (λ (k : CoreCut). k.ends) y.rest) y.at.end_is refl
  follows_come services l m (end_opened f c) r (is, inr y) = same_ends a.ends b.ends (ap (λ (k : CoreCut). k.ends) y.1)
  follows_come services l m (end_refused f fault) r h = same_ends a.ends b.ends (ap (λ (k : CoreCut). k.ends) h.1)
  follows_come services l m no_outbox r h = absurd h
  follows_come services l m misrouted r h = absurd h

hears_come : (services : List Service) (incoming : FragAtSide) (r : MonitorAnswer) (a b : CoreCut) → Hears services incoming r a b → Comes a.ends b.ends
hears_come services incoming r a b h =
    subst (λ (es : List EndCut). Comes es b.ends) (ap (λ (c : CoreCut). c.ends) h.middle_is)
    (follows_come h.middle b services incoming.link h.message (hearing services incoming.link.0 h.message a).heard r h.follows)

does_come : (services : List Service) (log_entry : LogEntry) (a b : CoreCut) → CutDoes services log_entry a b → Comes a.ends b.ends
does_come services (heard n l frag (Ok answer.Full)) a b h = same_ends a.ends b.ends (ap (λ (c : CoreCut). c.ends) h.3)
does_come services (heard n l frag (Ok answer.Done)) a b h = hears_come services (record { side = n; link = l; frag = frag }) answer.Done a b h
does_come services (heard n l frag (Ok (answer.Opened f))) a b h = hears_come services (record { side = n; link = l; frag = frag }) (answer.Opened f) a b h
does_come services (heard n l frag (Ok (answer.OpeningRefused f reason))) a b h =
    hears_come services (record { side = n; link = l; frag = frag }) (answer.OpeningRefused f reason) a b h
does_come services (heard n l frag (Err link.Memory)) a b h = same_ends a.ends b.ends (ap (λ (c : CoreCut). c.ends) h)
does_come services (heard n l frag (Err link.Misrouted)) a b h = same_ends a.ends b.ends (ap (λ (c : CoreCut). c.ends) h)
does_come services (heard n l frag (Err link.Failed)) a b h = same_ends a.ends b.ends (ap (λ (c : CoreCut). c.ends) h)
does_come services (heard n l frag (Err link.Marked)) a b h = same_ends a.ends b.ends (ap (λ (c : CoreCut). c.ends) h)
does_come services (heard n l frag (Err (link.Wire fault))) a b h = same_ends a.ends b.ends (ap (λ (c : CoreCut). c.ends) h)
does_come services (looked n l r) a b h = acts_come a b (looked n l r) h
does_come services (passed n m frag c r) a b h = acts_come a b (passed n m frag c r) h
does_come services (arrived n l frag name r) a b h = acts_come a b (arrived n l frag name r) h
does_come services (said n l r) a b h = acts_come a b (said n l r) h
does_come services (told n l r) a b h = acts_come a b (told n l r) h
does_come services (opened name request r) a b h = acts_come a b (opened name request r) h
does_come services (called name c r) a b h = acts_come a b (called name c r) h
does_come services (ruled name msg reply r) a b h = acts_come a b (ruled name msg reply r) h
does_come services (wrote name out r) a b h = acts_come a b (wrote name out r) h
does_come services (acked name n r) a b h = acts_come a b (acked name n r) h
does_come services (turned d name from r) a b h = acts_come a b (turned d name from r) h

-- ---- no event is at an end that isn't there

-- nothing of the log entry is at the end of a name
record IsAside (e : EndId) (log_entry : LogEntry) : Type 0 where
  pub sent : (rules : List (Option ℕ)) → sent_in e rules log_entry ≡ []
  pub handled : handled_in e log_entry ≡ []
  pub rules : (rules : List (Option ℕ)) → rules_in e rules log_entry ≡ rules

not_there : (e name : EndId) (a : CoreCut) → place_in a.places e ≡ None → EndAt a name → (b : Bool) → same_end name e ≡ b → same_end name e ≡ false
not_there e name a none at false q = q
not_there e name a none at true q =
    let clash : None ≡ Some at.place = sym none ∙ ap (place_in a.places) (sym (one_end name e q)) ∙ at.place_is in
    absurd (cc)

module _ (services : List Service) (e : EndId) (a b : CoreCut) (none : place_in a.places e ≡ None) where
  other : (name : EndId) → EndAt a name → same_end name e ≡ false
  other name at = not_there e name a none at (same_end name e) refl

  turn_aside : (d : ℕ) (name : EndId) (from : Inlet) (r : TurnAnswer) → same_end name e ≡ false → IsAside e (turned d name from r)
  turn_aside d name from r q = record {
    sent = λ rules. ap (λ (t : Bool). if t then reply_in rules r else []) q;
    handled = ap (λ (t : Bool). if t then call_in r else []) q;
    rules = λ rules. refl;
  }

  does_aside : (log_entry : LogEntry) → CutDoes services log_entry a b → IsAside e log_entry
  does_aside (heard n l frag r) h = record { sent = λ rules. refl; handled = refl; rules = λ rules. refl }
  does_aside (looked n l r) h = record { sent = λ rules. refl; handled = refl; rules = λ rules. refl }
  does_aside (passed n m frag c r) h = record { sent = λ rules. refl; handled = refl; rules = λ rules. refl }
  does_aside (arrived n l frag name r) h = record { sent = λ rules. refl; handled = refl; rules = λ rules. refl }
  does_aside (said n l r) h = record { sent = λ rules. refl; handled = refl; rules = λ rules. refl }
  does_aside (told n l r) h = record { sent = λ rules. refl; handled = refl; rules = λ rules. refl }
  does_aside (opened name request r) h = record { sent = λ rules. refl; handled = refl; rules = λ rules. refl }
  does_aside (called name c r) h = record {
    sent = λ rules. ap (λ (t : Bool). if t then made_by c r else []) (other name h.at);
    handled = refl;
    rules = λ rules. refl;
  }
  does_aside (ruled name msg reply r) h = record {
    sent = λ rules. refl;
    handled = refl;
    rules = λ rules. ap (λ (t : Bool). if t then rules_by msg reply r rules else rules) (other name h.at);
  }
  does_aside (wrote name out r) h = record { sent = λ rules. refl; handled = refl; rules = λ rules. refl }
  does_aside (acked name n r) h = record { sent = λ rules. refl; handled = refl; rules = λ rules. refl }
  does_aside (turned d name (inlet.Side n) r) h = turn_aside d name (inlet.Side n) r (other name h.0.at)
  does_aside (turned d name (inlet.Queue n) r) h = turn_aside d name (inlet.Queue n) r (other name h.0.at)
  does_aside (turned d name inlet.Arrivals r) h = turn_aside d name inlet.Arrivals r (other name h.turn.at)

-- ---- an end of which there was none

-- what stands in the end under the name, of which there was none at first
pub record Made (e : EndId) (log : List LogEntry) (p : ℕ) (ends : List EndCut) : Type 0 where
  pub number : ℕ
  pub after : EndCut
  pub after_is : slice_get ends p ≡ Some after
  pub name_is : after.wired_end.name ≡ e
  pub sent : all_of after ≡ sent_at e (replicate number None) log
  pub came : after.came.accepted ≡ calls_handled e log
  pub rules : after.end.rules ≡ rules_at e (replicate number None) log

-- where an end of a name is, by where that is said to be
pub record IsThere (e : EndId) (p : ℕ) (a : CoreCut) : Type 0 where
  pub end : EndCut
  pub end_is : slice_get a.ends p ≡ Some end
  pub name_is : end.wired_end.name ≡ e

map_back : (xs : List EndCut) (n : ℕ) (w : WiredEnd) → slice_get (map (λ (x : EndCut). x.wired_end) xs) n ≡ Some w
    → (x : EndCut) × (slice_get xs n ≡ Some x) × (x.wired_end ≡ w)
map_back [] n w q = absurd (cc)
map_back (x ∷ xs) zero w q = (x, refl, (let same : Some x.wired_end ≡ Some w = q in cc))
map_back (x ∷ xs) (suc n) w q = map_back xs n w q

pub is_there : (e : EndId) (p : ℕ) (a : CoreCut) (s : TheRun TheSide) → ShowsCut a s → IsCore s.core → place_in a.places e ≡ Some p → IsThere e p a
is_there e p a s shows core at =
    let place : place_of s.core e ≡ Some p = ap (λ (places : List (Option ℕ)). place_in places e) (sym shows.places) ∙ at in
    let it = core.placed e p place in
    let x = map_back a.ends p it.wired_end (ap (λ (ws : List WiredEnd). slice_get ws p) shows.wired_ends ∙ it.wired_end_is) in
    record { end = x.0; end_is = x.1; name_is = ap (λ (w : WiredEnd). w.name) x.2 ∙ it.name_is }

-- the end that has come to be there is new
fresh : (e : EndId) (p : ℕ) (a b : CoreCut) (s : TheRun TheSide) → ShowsCut a s → IsCore s.core → place_in a.places e ≡ None → Comes a.ends b.ends
    → (it : IsThere e p b) → IsNew it.end × (it.end.end.out.waiting ≡ [])
fresh e p a b s shows core none comes it = elim (comes p it.end it.end_is) [
  | inl old ↦
      (let name : old.0.wired_end.name ≡ e = ap (λ (w : WiredEnd). w.name) old.1.1 ∙ it.name_is in
      let clash : None ≡ Some p = sym none ∙ ap (place_in a.places) (sym name) ∙ at_home a s p old.0 shows core old.1.0 in
      absurd (cc))
  | inr new ↦ new
]

module _ (services : List Service) (jobs : List CoreJob) (e : EndId) where
  -- from the event on by which it was made
  since : (a b : CutMoment) (events : List (Event TheSide)) (p : ℕ) → ShowsCut a.cut a.run → AllFollow services jobs events a b → (it : IsThere e p a.cut)
      → IsNew it.end → it.end.end.out.waiting ≡ [] → Made e (log_of events) p b.cut.ends
  since a b events p shows all it new none =
      let went = ends_go services jobs events a b shows all e p it.end it.end_is it.name_is (new_ok it.end none new.stations new.passed) in
      record {
        number = new.number;
        after = went.after;
        after_is = went.after_is;
        name_is = ap (λ (w : WiredEnd). w.name) went.goes.wired_end ∙ it.name_is;
        sent = went.goes.sent ∙ ap (λ (cs : List TheCall). cs ++ sent_at e it.end.end.rules (log_of events)) new.sent
            ∙ ap (λ (rules : List (Option ℕ)). sent_at e rules (log_of events)) new.rules;
        came = went.goes.came ∙ ap (λ (cs : List TheCall). cs ++ calls_handled e (log_of events)) new.came;
        rules = went.goes.rules ∙ ap (λ (rules : List (Option ℕ)). rules_at e rules (log_of events)) new.rules;
      }

  -- before it no event was at an end of that name
  before : (y : LogEntry) (log : List LogEntry) (p : ℕ) (ends : List EndCut) → IsAside e y → Made e log p ends → Made e (y ∷ log) p ends
  before y log p ends aside made =
      let none : List (Option ℕ) = replicate made.number None in
      record {
        number = made.number;
        after = made.after;
        after_is = made.after_is;
        name_is = made.name_is;
        sent = made.sent
            ∙ ap (λ (rules : List (Option ℕ)). sent_at e rules log) (sym (aside.rules none))
            ∙ ap (λ (cs : List TheCall). cs ++ sent_at e (rules_in e none y) log) (sym (aside.sent none));
        came = made.came ∙ ap (λ (cs : List Call). map call_of (cs ++ handled_at e log)) (sym aside.handled);
        rules = made.rules ∙ ap (λ (rules : List (Option ℕ)). rules_at e rules log) (sym (aside.rules none));
      }

  -- by one event: there is none still, or there is a new one
  made_step : (y : Event TheSide) (events : List (Event TheSide)) (a b : CutMoment) (cut : CoreCut) → ShowsCut a.cut a.run
      → Follows services jobs y.log_entry a (moment y.run cut) → AllFollow services jobs events (moment y.run cut) b → IsCore b.run.core
      → place_in a.cut.places e ≡ None → (p : ℕ) → place_in b.cut.places e ≡ Some p
      → (place_in cut.places e ≡ None → Made e (log_of events) p b.cut.ends) → Made e (log_of (y ∷ events)) p b.cut.ends
  made_step y events a b cut shows first rest core none p at onward = by (place_in cut.places e) refl
    where
      aside : IsAside e y.log_entry
      aside = does_aside services e a.cut cut none y.log_entry first.does

      sound : (events : List (Event TheSide)) → AllFollow services jobs events (moment y.run cut) b → IsCore y.run.core
      sound [] all = subst (λ (m : CutMoment). IsCore m.run.core) all core
      sound (z ∷ events) all = all.1.happens.3.core

      new_there : (q : ℕ) → place_in cut.places e ≡ Some q → Made e (log_of (y ∷ events)) q b.cut.ends
      new_there q here =
          let it = is_there e q cut y.run first.shows (sound events rest) here in
          let new = fresh e q a.cut cut a.run shows first.happens.3.core none (does_come services y.log_entry a.cut cut first.does) it in
          before y.log_entry (log_of events) q b.cut.ends aside (since (moment y.run cut) b events q first.shows rest it new.0 new.1)

      -- it stays where it was made
      same : (q : ℕ) → Made e (log_of (y ∷ events)) q b.cut.ends → Made e (log_of (y ∷ events)) p b.cut.ends
      same q made =
          let there : place_in b.cut.places e ≡ Some q
          = ap (place_in b.cut.places) (sym made.name_is)
          ∙ at_home b.cut b.run q made.after (shows_last services jobs events (moment y.run cut) b first.shows rest) core made.after_is in
          let both : Some q ≡ Some p = sym there ∙ at in
          let one : q ≡ p = cc in
          subst (λ (k : ℕ). Made e (log_of (y ∷ events)) k b.cut.ends) one made

      by : (o : Option ℕ) → place_in cut.places e ≡ o → Made e (log_of (y ∷ events)) p b.cut.ends
      by None still = before y.log_entry (log_of events) p b.cut.ends aside (onward still)
      by (Some q) here = same q (new_there q here)

  pub made_goes : (events : List (Event TheSide)) (a b : CutMoment) → ShowsCut a.cut a.run → AllFollow services jobs events a b → IsCore b.run.core
      → place_in a.cut.places e ≡ None → (p : ℕ) → place_in b.cut.places e ≡ Some p → Made e (log_of events) p b.cut.ends
  made_goes [] a b shows all core none p at =
      let clash : None ≡ Some p = sym none ∙ ap (λ (m : CutMoment). place_in m.cut.places e) (sym all) ∙ at in
      absurd (cc)
  made_goes (y ∷ events) a b shows (cut, first, rest) core none p at =
      made_step y events a b cut shows first rest core none p at
      (λ still. made_goes events (moment y.run cut) b first.shows rest core still p at)
