-- What a core's log makes of an end of its cut: it came to send just what the log tells, and the calls that came are those that it handled.
use Rattle.std.proofs.Common.{◌≡◌, ◌≢◌, inl, inr, refl, sym, ◌∙◌, ap, subst, ℕ, zero, suc, ◌+◌, ◌<◌, ◌≤◌, ◌==◌, ◌&&◌, nat_le, nat_lt, not, arith, Bool, true, false, if◌then◌else◌, List, [], ◌∷◌, ◌++◌}
use Rattle.std.proofs.Common.{append_assoc, length, map, slice_get, slice_set, Option, Some, None, Result, Ok, Err}
use Rattle.std.specs.Option.{option_map}
use Rattle.std.proofs.lemmas.Bool.Decides.{nat_tests}
use Rattle.std.proofs.lemmas.List.{append-nil, length-set, map-append}
use Rattle.fl_base.specs.declared.identity.EndId.{EndId}
use Rattle.fl_base.specs.declared.identity.LinkId.{LinkId}
use Rattle.fl_base.specs.declared.identity.MsgNo.{MsgNo}
use Rattle.fl_base.specs.declared.identity.Side.{Side}
use Rattle.fl_base.specs.declared.identity.Side.TheVariants.{Client, Server}
use Rattle.fl_base.specs.Given.{given}
use Rattle.fl_value_data.specs.declared.value.Call.{Call}
use Rattle.fl_value_data.specs.Fits.{fits_of}
use Rattle.fl_value_data.specs.Value.{TheCall, call_of}
use Rattle.fl_hop.specs.Stretch.{same_side, same_end}
use Rattle.fl_hop.specs.declared.forward.ForwardOutcome.{ForwardOutcome}
use Rattle.fl_hop.specs.declared.forward.ForwardOutcome.TheVariants.{Moved, Full, Spent}
use Rattle.fl_endpoint.specs.declared.fault.EndFault.{EndFault}
use Rattle.fl_endpoint.specs.declared.fault.EndFault.TheVariants as end
use Rattle.fl_endpoint.specs.declared.answer.WriteAnswer.{WriteAnswer}
use Rattle.fl_endpoint.specs.declared.answer.WriteAnswer.TheVariants as write
use Rattle.fl_endpoint.specs.Accounts.{followed}
use Rattle.fl_endpoint.specs.View.{reply_to, rule_in}
use Rattle.fl_core.proofs.BoardPlaces.{one_stands, set_here, set_elsewhere}
use Rattle.fl_core.specs.declared.turn_answer.TurnAnswer.{TurnAnswer}
use Rattle.fl_core.specs.declared.turn_answer.TurnAnswer.TheVariants as turn
use Rattle.fl_core.specs.declared.answer.MonitorAnswer.{MonitorAnswer}
use Rattle.fl_core.specs.declared.answer.MonitorAnswer.TheVariants as answer
use Rattle.fl_core.specs.declared.answer.MonitorWrite.{MonitorWrite}
use Rattle.fl_core.specs.declared.answer.MonitorWrite.TheVariants as said_as
use Rattle.fl_core.specs.declared.fault.LinkReceiveFault.{LinkReceiveFault}
use Rattle.fl_core.specs.declared.fault.LinkReceiveFault.TheVariants as link
use Rattle.fl_core.specs.declared.core_job.CoreJob.{CoreJob}
use Rattle.fl_core.specs.declared.wiring.Inlet.TheVariants as inlet
use Rattle.fl_core.specs.declared.wiring.Outlet.TheVariants as outlet
use Rattle.fl_core.specs.declared.wiring.WiredEnd.{WiredEnd}
use Rattle.fl_core.specs.Sound.{IsCore}
use Rattle.fl_core.specs.View.{place_in}
use Rattle.fl_core_run.specs.LogEntries.{LogEntry, looked, passed, arrived, heard, said, told, opened, called, ruled, wrote, acked, turned}
use Rattle.fl_core_run.specs.Run.{TheRun}
use Rattle.fl_core_run_laws.specs.Carried.{rules_by, rules_in, rules_at, reply_in, sent_in, sent_at, calls_handled}
use Rattle.fl_core_run_laws.specs.Logs.{call_in, handled_in, handled_at}
use Rattle.fl_core_run_laws.specs.Made.{made_by}
use Rattle.fl_core_run_laws.proofs.Handling.{one_end}
use Rattle.fl_ring.specs.SharedSides.{TheSide}
use Rattle.fl_model.specs.Events.{nothing, refused, accepted}
use Rattle.fl_model.specs.Given.{changed_at}
use Rattle.fl_model.specs.Calls.{Planned, fragments, total}
use Rattle.fl_model.specs.Rings.{Label, there_is_room}
use Rattle.fl_model.specs.Ends.{Direction, written_of, passes, accepts_waiting, goes_on, Wrote, writes_by, writes, End, whole, accepts, is_bound, is_busy, rule_at, accepts_or_waits, replies, with_rule}
use Rattle.fl_model.specs.Monitors.{Service, Heard, no_outbox, misrouted, opening_went_on, server_made, opening_failed, answer_went_on, end_opened, end_refused}
use Rattle.fl_model.specs.State.{State, StepOutcome, answers, change_out}
use Rattle.fl_model.specs.Waits.{Due, pending, polled, no_one, due}
use Rattle.fl_model.specs.Worlds.{start_with}
use Rattle.fl_model_laws.proofs.Replies.{written_grows, total_push, some_fragments}
use Rattle.fl_world_refines.specs.EndLaws.{with_out}
use Rattle.fl_world_refines.proofs.TurningShowings.{replies_rules}
use Rattle.fl_core_refines.specs.CutSides.{PutOutcome, Places}
use Rattle.fl_core_refines.specs.CutEnds.{EndCut, MachineCalls, Calls, SetsRule, Writes, wrote_next}
use Rattle.fl_core_refines.specs.Cut.{CoreCut, ShowsCut}
use Rattle.fl_core_refines.specs.CutEvents.{QueuePlaces, TurnPlace, SideKind, Turns, EndAt, HasTurn}
use Rattle.fl_core_refines.specs.CutLinks.{FragAtSide, ArrivesOver, SaysOver}
use Rattle.fl_core_refines.specs.CutHearing.{ReceivedRequest, request_of, ThenFollows, Hears, hearing, bound_to}
use Rattle.fl_core_refines.specs.CutDoes.{CutActs, CutDoes}
use Rattle.fl_core_turned.specs.TurnEvents.{Event, log_of}
use Rattle.fl_core_turned.specs.Turned.{CutMoment, moment, AllFollow}
use Rattle.fl_core_refines.proofs.Progress.{get_some}
use Rattle.fl_cores.proofs.OneSends.{one_more, none_wait, writes_all, reply_on, reply_all}

-- ---- one end

abbrev pub all_of : EndCut → List TheCall
all_of x = x.end.out.accepted ++ x.end.out.waiting

-- replies wait only while it is busy
pub record IsOk (x : EndCut) : Type 0 where
  pub stations : 1 ≤ length x.end.out.passed
  pub busy : x.end.out.waiting ≢ [] → is_busy x.planned x.end.out ≡ true

-- it came to send these calls more, and so many came; its rules are these now
pub record Goes (x y : EndCut) (more came_more : List TheCall) (now : List (Option ℕ)) : Type 0 where
  pub wired_end : y.wired_end ≡ x.wired_end
  pub sent : all_of y ≡ all_of x ++ more
  pub came : y.came.accepted ≡ x.came.accepted ++ came_more
  pub rules : y.end.rules ≡ now
  pub ok : IsOk y

rests : (x : EndCut) → IsOk x → Goes x x [] [] x.end.rules
rests x ok = record { wired_end = refl; sent = sym (append-nil (all_of x)); came = sym (append-nil x.came.accepted); rules = refl; ok = ok }

alike_ok : (x y : EndCut) → y.planned ≡ x.planned → y.end.out ≡ x.end.out → IsOk x → IsOk y
alike_ok x y planned out ok = record {
  stations = subst (λ (d : Direction). 1 ≤ length d.passed) (sym out) ok.stations;
  busy = λ some.
      ap (λ (i : Planned). is_busy i y.end.out) planned
      ∙ ap (is_busy x.planned) out
      ∙ ok.busy (λ none. some (ap (λ (d : Direction). d.waiting) out ∙ none));
}

-- nothing of its calls has changed
alike : (x y : EndCut) (now : List (Option ℕ)) → y.wired_end ≡ x.wired_end → y.planned ≡ x.planned → y.end.out ≡ x.end.out → y.came.accepted ≡ x.came.accepted
    → y.end.rules ≡ now → IsOk x → Goes x y [] [] now
alike x y now wired planned out came rules ok = record {
  wired_end = wired;
  sent = ap (λ (d : Direction). d.accepted ++ d.waiting) out ∙ sym (append-nil (all_of x));
  came = came ∙ sym (append-nil x.came.accepted);
  rules = rules;
  ok = alike_ok x y planned out ok;
}

stays : (x y : EndCut) → y ≡ x → IsOk x → Goes x y [] [] x.end.rules
stays x y q ok = subst (λ (z : EndCut). Goes x z [] [] x.end.rules) (sym q) (rests x ok)

to : (x y z : EndCut) (more came_more : List TheCall) (now : List (Option ℕ)) → y ≡ z → Goes x z more came_more now → Goes x y more came_more now
to x y z more came_more now q h = subst (λ (u : EndCut). Goes x u more came_more now) (sym q) h

-- the machine accepts calls of ends alone that aren't busy
accepted_free : (x : EndCut) (c : TheCall) (z : State) → MachineCalls x c z → is_busy x.planned x.end.out ≡ false
accepted_free x c z h =
    cases (nat_le (length x.planned.interface.messages) c.msg) (not (fits_of x.planned.interface c)) (is_bound x.end) (is_busy x.planned x.end.out) (ap (λ (o : StepOutcome). o.answer) h) where
      cases : (most fits bound busy : Bool)
          → (if most then answers z (refused 41) else if fits then answers z (refused 42) else if not bound then answers z (refused 43)
          else if busy then answers z (refused 40) else answers (change_out x.wired_end.name (accepts c) z) accepted).answer ≡ accepted → busy ≡ false
      cases true fits bound busy e = absurd (cc)
      cases false true bound busy e = absurd (cc)
      cases false false false busy e = absurd (cc)
      cases false false true true e = absurd (cc)
      cases false false true false e = refl

calls_go : (x y : EndCut) (c : TheCall) (r : Result (Unit {0}) EndFault) → Calls c r x y → IsOk x → Goes x y (made_by c r) [] x.end.rules
calls_go x y c (Ok done) h ok =
    let free = accepted_free x c (start_with 1) (h.0 (start_with 1)) in
    let none = none_wait (is_busy x.planned x.end.out) x.end.out.waiting ok.busy free in
    to x y (record x { end = with_out (accepts c) x.end }) (c ∷ []) [] x.end.rules h.1 (record {
      wired_end = refl;
      sent = one_more x.end.out.accepted x.end.out.waiting c none;
      came = sym (append-nil x.came.accepted);
      rules = refl;
      ok = record { stations = ok.stations; busy = λ some. absurd (some none) };
    })
calls_go x y c (Err end.Memory) h ok = stays x y h ok
calls_go x y c (Err end.Failed) h ok = stays x y h.1 ok
calls_go x y c (Err end.UnknownMessage) h ok = stays x y h.1 ok
calls_go x y c (Err end.Misfit) h ok = stays x y h.1 ok
calls_go x y c (Err end.NotBound) h ok = stays x y h.1 ok
calls_go x y c (Err end.Busy) h ok = stays x y h.1 ok
calls_go x y c (Err end.Spent) h ok = stays x y h.1 ok
calls_go x y c (Err (end.Wire fault)) h ok = stays x y h.1 ok

rules_go : (x y : EndCut) (msg reply : MsgNo) (r : Result (Unit {0}) EndFault) → SetsRule msg.0 reply.0 r x y → IsOk x
    → Goes x y [] [] (rules_by msg reply r x.end.rules)
rules_go x y msg reply (Ok done) h ok =
    to x y (record x { end = with_rule msg.0 reply.0 x.end }) [] [] (slice_set x.end.rules msg.0 (Some reply.0)) h.2
    (alike x (record x { end = with_rule msg.0 reply.0 x.end }) (slice_set x.end.rules msg.0 (Some reply.0)) refl refl refl refl refl ok)
rules_go x y msg reply (Err end.UnknownMessage) h ok = stays x y h.1 ok
rules_go x y msg reply (Err end.Misfit) h ok = stays x y h.2 ok
rules_go x y msg reply (Err end.Memory) h ok = absurd h
rules_go x y msg reply (Err end.Failed) h ok = absurd h
rules_go x y msg reply (Err end.NotBound) h ok = absurd h
rules_go x y msg reply (Err end.Busy) h ok = absurd h
rules_go x y msg reply (Err end.Spent) h ok = absurd h
rules_go x y msg reply (Err (end.Wire fault)) h ok = absurd h

long_set : (xs : List ℕ) (n y : ℕ) → length (slice_set xs n y) ≡ length xs
long_set xs n y = length-set xs n y

long_passed : (xs : List ℕ) → length (changed_at 0 (λ n. n + 1) xs) ≡ length xs
long_passed xs = by (slice_get xs 0)
  where
    by : (o : Option ℕ) → length (given o xs λ x. slice_set xs 0 (x + 1)) ≡ length xs
    by None = refl
    by (Some x) = long_set xs 0 (x + 1)

is_less : (a b : ℕ) → nat_lt a b ≡ true → a < b
is_less a b q = grind (arith, nat_tests, q)

says_less : (a b : ℕ) → a < b → nat_lt a b ≡ true
says_less a b q = grind (arith, nat_tests, q)

-- behind a write the first reply that waited is what keeps the end busy
next_busy : (i : Planned) (d : Direction) (ws : List TheCall) → d.waiting ≡ ws → written_of d ≤ total i d.accepted
    → (accepts_waiting ws d).waiting ≢ [] → is_busy i (accepts_waiting ws d) ≡ true
next_busy i d [] q few some = absurd (some q)
next_busy i d (c ∷ cs) q few some =
    let longer : total i (d.accepted ++ c ∷ []) ≡ total i d.accepted + fragments i c = total_push i d.accepted c in
    let one : 1 ≤ fragments i c = some_fragments i c in
    says_less (written_of d) (total i (d.accepted ++ c ∷ [])) (omega (arith, longer, one, few))

goes_busy : (i : Planned) (d : Direction) → written_of d ≤ total i d.accepted → (goes_on i d).waiting ≢ [] → is_busy i (goes_on i d) ≡ true
goes_busy i d few = by (is_busy i d) refl
  where
    by : (b : Bool) → is_busy i d ≡ b → (if b then d else accepts_waiting d.waiting d).waiting ≢ [] → is_busy i (if b then d else accepts_waiting d.waiting d) ≡ true
    by true q some = q
    by false q some = next_busy i d d.waiting refl few some

next_long : (d : Direction) (ws : List TheCall) → (accepts_waiting ws d).passed ≡ d.passed
next_long d [] = refl
next_long d (c ∷ cs) = refl

goes_long : (i : Planned) (d : Direction) → (goes_on i d).passed ≡ d.passed
goes_long i d = by (is_busy i d)
  where
    by : (b : Bool) → (if b then d else accepts_waiting d.waiting d).passed ≡ d.passed
    by true = refl
    by false = next_long d d.waiting

abbrev idle : Direction → Wrote
idle d = record { direction = d; answer = nothing }

-- what a busy end's direction is then
writes_are : (i : Planned) (d : Direction) → is_busy i d ≡ true → (writes i d there_is_room).direction ≡ goes_on i (passes 0 d)
writes_are i d q = ap (λ (b : Bool). (if b then writes_by i d there_is_room else idle d).direction) q

wrote_ok : (x : EndCut) → is_busy x.planned x.end.out ≡ true → IsOk x → IsOk (wrote_next x)
wrote_ok x q ok =
    let d : Direction = passes 0 x.end.out in
    let grows : written_of d ≡ written_of x.end.out + 1 = written_grows x.end.out ok.stations in
    let below : written_of x.end.out < total x.planned x.end.out.accepted = is_less (written_of x.end.out) (total x.planned x.end.out.accepted) q in
    let few : written_of d ≤ total x.planned d.accepted = omega (arith, grows, below) in
    let long : length (goes_on x.planned d).passed ≡ length x.end.out.passed = ap length (goes_long x.planned d) ∙ long_passed x.end.out.passed in
    let stations : 1 ≤ length x.end.out.passed = ok.stations in
    let goes : IsOk (record x { end = record x.end { out = goes_on x.planned d } })
    = record { stations = omega (arith, long, stations); busy = goes_busy x.planned d few } in
    alike_ok (record x { end = record x.end { out = goes_on x.planned d } }) (wrote_next x) refl (writes_are x.planned x.end.out q) goes

replied_ok : (x : EndCut) (c : TheCall) → IsOk x → IsOk (record x { end = replies x.planned (whole c) x.end })
replied_ok x c ok = by (rule_at x.end.rules c.msg)
  where
    waits : (r : TheCall) (b : Bool) → is_busy x.planned x.end.out ≡ b
        → IsOk (record x { end = record x.end { out = if b then record x.end.out { waiting = x.end.out.waiting ++ r ∷ [] } else accepts r x.end.out } })
    waits r true q = record { stations = ok.stations; busy = λ some. q }
    waits r false q = record {
      stations = ok.stations;
      busy = λ some. absurd (some (none_wait (is_busy x.planned x.end.out) x.end.out.waiting ok.busy q));
    }

    by : (o : Option ℕ)
        → IsOk (record x { end = given o x.end λ msg. record x.end { out = accepts_or_waits x.planned (record { msg = msg; args = c.args }) x.end.out } })
    by None = ok
    by (Some msg) = waits (record { msg = msg; args = c.args }) (is_busy x.planned x.end.out) refl

module _ {P : Type 0} (places : Label → PutOutcome → P → P → Type 0) where
  writes_go : (x y : EndCut) (v w : P) (r : Result WriteAnswer EndFault) → Writes places r x v y w → IsOk x → Goes x y [] [] x.end.rules
  writes_go x y v w (Ok (write.Written number count)) h ok =
      to x y (wrote_next x) [] [] x.end.rules h.3 (record {
        wired_end = refl;
        sent = writes_all x.planned x.end.out ∙ sym (append-nil (all_of x));
        came = sym (append-nil x.came.accepted);
        rules = refl;
        ok = wrote_ok x h.0.1 ok;
      })
  writes_go x y v w (Ok write.Full) h ok = stays x y h.3 ok
  writes_go x y v w (Ok write.Nothing) h ok = stays x y h.3 ok
  writes_go x y v w (Err end.Spent) h ok = stays x y h.3 ok
  writes_go x y v w (Err end.NotBound) h ok = stays x y h.2 ok
  writes_go x y v w (Err end.Failed) h ok = stays x y h.2 ok
  writes_go x y v w (Err end.UnknownMessage) h ok = absurd h
  writes_go x y v w (Err end.Misfit) h ok = absurd h
  writes_go x y v w (Err end.Busy) h ok = absurd h
  writes_go x y v w (Err end.Memory) h ok = absurd h
  writes_go x y v w (Err (end.Wire fault)) h ok = absurd h

-- the reply by rule, as the machine finds it, and as the end's own view does
abbrev reply_as : TheCall → ℕ → TheCall
reply_as c msg = record { msg = msg; args = c.args }

same_reply : (rules : List (Option ℕ)) (c : TheCall) → reply_on c (rule_at rules c.msg) ≡ followed (reply_to rules c) []
same_reply rules c = by (slice_get rules c.msg)
  where
    by : (o : Option (Option ℕ)) → reply_on c (given o None λ rule. rule) ≡ followed (option_map (reply_as c) (rule_in o)) []
    by None = refl
    by (Some None) = refl
    by (Some (Some reply)) = refl

replied_all : (x : EndCut) (c : TheCall) → IsOk x
    → (replies x.planned (whole c) x.end).out.accepted ++ (replies x.planned (whole c) x.end).out.waiting ≡ all_of x ++ reply_on c (rule_at x.end.rules c.msg)
replied_all x c ok = by (rule_at x.end.rules c.msg)
  where
    by : (o : Option ℕ) → (given o x.end λ msg. record x.end { out = accepts_or_waits x.planned (record { msg = msg; args = c.args }) x.end.out }).out.accepted
        ++ (given o x.end λ msg. record x.end { out = accepts_or_waits x.planned (record { msg = msg; args = c.args }) x.end.out }).out.waiting
        ≡ all_of x ++ reply_on c o
    by None = sym (append-nil (all_of x))
    by (Some msg) = reply_all x.planned (record { msg = msg; args = c.args }) x.end.out ok.busy

takes_whole : (x : EndCut) (c : TheCall) (y : EndCut)
    → y.wired_end ≡ x.wired_end → y.planned ≡ x.planned → y.end ≡ replies x.planned (whole c) x.end → y.came.accepted ≡ x.came.accepted ++ c ∷ [] → IsOk x
    → Goes x y (followed (reply_to x.end.rules c) []) (c ∷ []) x.end.rules
takes_whole x c y wired planned now came ok = record {
  wired_end = wired;
  sent = ap (λ (u : End). u.out.accepted ++ u.out.waiting) now ∙ replied_all x c ok ∙ ap (λ (cs : List TheCall). all_of x ++ cs) (same_reply x.end.rules c);
  came = came;
  rules = ap (λ (u : End). u.rules) now ∙ replies_rules x.planned (whole c) x.end;
  ok = alike_ok (record x { end = replies x.planned (whole c) x.end }) y planned (ap (λ (u : End). u.out) now) (replied_ok x c ok);
}

module _ {P : Type 0} (g : SideKind P) where
  turns_go : (d : Due) (r : TurnAnswer) (a b : TurnPlace P) → Turns g d r a b → IsOk a.end
      → Goes a.end b.end (reply_in a.end.end.rules r) (map call_of (call_in r)) a.end.end.rules
  turns_go (pending c) (turn.Handle call) a b h ok =
      let after = h.1.1.after in
      takes_whole a.end (call_of call) b.end
      (ap (λ (u : EndCut). u.wired_end) after) (ap (λ (u : EndCut). u.planned) after) (ap (λ (u : EndCut). u.end) after) (ap (λ (u : EndCut). u.came.accepted) after) ok
  turns_go (pending c) turn.Part a b h ok =
      let after = h.1.1.after in
      alike a.end b.end a.end.end.rules (ap (λ (u : EndCut). u.wired_end) after) (ap (λ (u : EndCut). u.planned) after) (ap (λ (u : EndCut). u.end.out) after)
      (ap (λ (u : EndCut). u.came.accepted) after) (ap (λ (u : EndCut). u.end.rules) after) ok
  turns_go (pending c) turn.Quiet a b h ok = stays a.end b.end h.1 ok
  turns_go (pending c) turn.Nothing a b h ok = stays a.end b.end h.1 ok
  turns_go (pending c) turn.Full a b h ok = stays a.end b.end h.2 ok
  turns_go (pending c) (turn.Refused fault) a b h ok =
      let after = h.1.1.after in
      alike a.end b.end a.end.end.rules (ap (λ (u : EndCut). u.wired_end) after) (ap (λ (u : EndCut). u.planned) after) (ap (λ (u : EndCut). u.end.out) after)
      (ap (λ (u : EndCut). u.came.accepted) after) (ap (λ (u : EndCut). u.end.rules) after) ok
  turns_go (pending c) turn.Ready a b h ok = absurd h
  turns_go (polled c) turn.Ready a b h ok = stays a.end b.end h.0 ok
  turns_go (polled c) turn.Quiet a b h ok = stays a.end b.end h.0 ok
  turns_go (polled c) (turn.Handle call) a b h ok = absurd h
  turns_go (polled c) turn.Part a b h ok = absurd h
  turns_go (polled c) turn.Nothing a b h ok = absurd h
  turns_go (polled c) turn.Full a b h ok = absurd h
  turns_go (polled c) (turn.Refused fault) a b h ok = absurd h
  turns_go no_one r a b h ok = absurd h

-- ---- at its place

pub record GoesAt (p : ℕ) (x : EndCut) (ends : List EndCut) (more came_more : List TheCall) (now : List (Option ℕ)) : Type 0 where
  pub after : EndCut
  pub after_is : slice_get ends p ≡ Some after
  pub goes : Goes x after more came_more now

pushed : {X : Type 0} (xs : List X) (y : X) (n : ℕ) (x : X) → slice_get xs n ≡ Some x → slice_get (xs ++ y ∷ []) n ≡ Some x
pushed [] y n x q = absurd (cc)
pushed (z ∷ xs) y zero x q = q
pushed (z ∷ xs) y (suc n) x q = pushed xs y n x q

side_self : (s : Side) → same_side s s ≡ true
side_self Client = refl
side_self Server = refl

end_self : (e : EndId) → same_end e e ≡ true
end_self e =
    let binding : (e.binding == e.binding) ≡ true = grind (arith, nat_tests) in
    ap (λ (b : Bool). b && same_side e.side e.side) binding ∙ side_self e.side

same_place : (p q : ℕ) (o : Option ℕ) → o ≡ Some p → o ≡ Some q → p ≡ q
same_place p q o h k = let both : Some p ≡ Some q = sym h ∙ k in cc

module _ (e : EndId) (p : ℕ) (x : EndCut) (a : CoreCut) (at : slice_get a.ends p ≡ Some x) (name_is : x.wired_end.name ≡ e) (here : place_in a.places e ≡ Some p) (ok : IsOk x) where
  unchanged : (ends : List EndCut) → ends ≡ a.ends → GoesAt p x ends [] [] x.end.rules
  unchanged ends same = record { after = x; after_is = ap (λ (es : List EndCut). slice_get es p) same ∙ at; goes = rests x ok }

  more_ends : (ends : List EndCut) (y : EndCut) → ends ≡ a.ends ++ y ∷ [] → GoesAt p x ends [] [] x.end.rules
  more_ends ends y same = record { after = x; after_is = ap (λ (es : List EndCut). slice_get es p) same ∙ pushed a.ends y p x at; goes = rests x ok }

  -- an end of some name has changed
  module _ (name : EndId) (it : EndAt a name) (y : EndCut) (ends : List EndCut) (ends_are : ends ≡ slice_set a.ends it.place y) where
    own_place : name ≡ e → (it.place ≡ p) × (it.end ≡ x)
    own_place same =
        let place = same_place it.place p (place_in a.places name) it.place_is (ap (place_in a.places) same ∙ here) in
        (place, one_stands a.ends p it.end x (ap (slice_get a.ends) (sym place) ∙ it.end_is) at)

    of_own : (more came_more : List TheCall) (now : List (Option ℕ)) → name ≡ e → (it.end ≡ x → Goes x y more came_more now) → GoesAt p x ends more came_more now
    of_own more came_more now same goes =
        let own = own_place same in
        record {
          after = y;
          after_is = ap (λ (es : List EndCut). slice_get es p) ends_are ∙ ap (λ (n : ℕ). slice_get (slice_set a.ends n y) p) own.0 ∙ set_here a.ends p x y at;
          goes = goes own.1;
        }

    of_other : same_end name e ≡ false → GoesAt p x ends [] [] x.end.rules
    of_other other =
        let away : p ≢ it.place = λ place.
        let own : it.end ≡ x = one_stands a.ends p it.end x (ap (slice_get a.ends) place ∙ it.end_is) at in
        let same : e ≡ name = sym name_is ∙ ap (λ (u : EndCut). u.wired_end.name) (sym own) ∙ it.name_is in
        let clash : true ≡ false = sym (end_self e) ∙ ap (λ (n : EndId). same_end n e) same ∙ other in
        absurd (cc) in
        record {
          after = x;
          after_is = ap (λ (es : List EndCut). slice_get es p) ends_are ∙ set_elsewhere a.ends it.place p y away ∙ at;
          goes = rests x ok;
        }

    by_name : (t : Bool) → same_end name e ≡ t → (more came_more : List TheCall) (now : List (Option ℕ)) → (it.end ≡ x → Goes x y more came_more now)
        → GoesAt p x ends (if t then more else []) (if t then came_more else []) (if t then now else x.end.rules)
    by_name true q more came_more now goes = of_own more came_more now (one_end name e q) goes
    by_name false q more came_more now goes = of_other q

  -- told in other words
  to_at : (ends : List EndCut) (m m2 k k2 : List TheCall) (r r2 : List (Option ℕ)) → m ≡ m2 → k ≡ k2 → r ≡ r2 → GoesAt p x ends m k r → GoesAt p x ends m2 k2 r2
  to_at ends m m2 k k2 r r2 q s t h = record {
    after = h.after;
    after_is = h.after_is;
    goes = record {
      wired_end = h.goes.wired_end;
      sent = h.goes.sent ∙ ap (λ (cs : List TheCall). all_of x ++ cs) q;
      came = h.goes.came ∙ ap (λ (cs : List TheCall). x.came.accepted ++ cs) s;
      rules = h.goes.rules ∙ t;
      ok = h.goes.ok;
    };
  }

-- ---- one log entry

same_if : {X : Type 0} (t : Bool) (z : X) → (if t then z else z) ≡ z
same_if true z = refl
same_if false z = refl

map_if : (t : Bool) (cs : List Call) → (if t then map call_of cs else []) ≡ map call_of (if t then cs else [])
map_if true cs = refl
map_if false cs = refl

abbrev Went : EndId → ℕ → EndCut → LogEntry → List EndCut → Type 0
Went e p x log_entry ends = GoesAt p x ends (sent_in e x.end.rules log_entry) (map call_of (handled_in e log_entry)) (rules_in e x.end.rules log_entry)

module _ (e : EndId) (p : ℕ) (x : EndCut) (name_is : x.wired_end.name ≡ e) (ok : IsOk x) where
  -- an end of some name came to send these more, and handled those; and its rules stayed
  some_end : (a b : CoreCut) → slice_get a.ends p ≡ Some x → place_in a.places e ≡ Some p → (name : EndId) (it : EndAt a name) (y : EndCut) → b.ends ≡ slice_set a.ends it.place y
      → (more : List TheCall) (handled : List Call) → (it.end ≡ x → Goes x y more (map call_of handled) x.end.rules)
      → GoesAt p x b.ends (if same_end name e then more else []) (map call_of (if same_end name e then handled else [])) x.end.rules
  some_end a b at here name it y ends_are more handled goes =
      let t = same_end name e in
      to_at e p x a at name_is here ok b.ends (if t then more else []) (if t then more else []) (if t then map call_of handled else [])
      (map call_of (if t then handled else [])) (if t then x.end.rules else x.end.rules) x.end.rules
      refl (map_if t handled) (same_if t x.end.rules)
      (by_name e p x a at name_is here ok name it y b.ends ends_are t refl more (map call_of handled) x.end.rules goes)

  -- nothing of its calls or rules changed
  some_rest : (a b : CoreCut) → slice_get a.ends p ≡ Some x → place_in a.places e ≡ Some p → (name : EndId) (it : EndAt a name) (y : EndCut) → b.ends ≡ slice_set a.ends it.place y
      → (it.end ≡ x → Goes x y [] [] x.end.rules) → GoesAt p x b.ends [] [] x.end.rules
  some_rest a b at here name it y ends_are goes =
      let t = same_end name e in
      to_at e p x a at name_is here ok b.ends (if t then [] else []) [] (if t then [] else []) [] (if t then x.end.rules else x.end.rules) x.end.rules
      (same_if t []) (same_if t []) (same_if t x.end.rules)
      (by_name e p x a at name_is here ok name it y b.ends ends_are t refl [] [] x.end.rules goes)

  module _ (a b : CoreCut) (at : slice_get a.ends p ≡ Some x) (here : place_in a.places e ≡ Some p) where
    still : b.ends ≡ a.ends → GoesAt p x b.ends [] [] x.end.rules
    still same = unchanged e p x a at name_is here ok b.ends same

    arrives : (incoming : FragAtSide) (name : EndId) (r : Result ForwardOutcome LinkReceiveFault) → ArrivesOver incoming name r a b → GoesAt p x b.ends [] [] x.end.rules
    arrives incoming name (Ok Moved) h = still (ap (λ (c : CoreCut). c.ends) h.3)
    arrives incoming name (Ok Full) h = still (ap (λ (c : CoreCut). c.ends) h.2)
    arrives incoming name (Ok Spent) h = absurd h
    arrives incoming name (Err link.Misrouted) h = still (ap (λ (c : CoreCut). c.ends) h)
    arrives incoming name (Err link.Failed) h = absurd h
    arrives incoming name (Err link.Marked) h = absurd h
    arrives incoming name (Err link.Memory) h = absurd h
    arrives incoming name (Err (link.Wire fault)) h = absurd h

    says : (n : ℕ) (l : LinkId) (r : MonitorWrite) → SaysOver n l r a b → GoesAt p x b.ends [] [] x.end.rules
    says n l said_as.Written h = still (ap (λ (c : CoreCut). c.ends) h.3)
    says n l said_as.Full h = still (ap (λ (c : CoreCut). c.ends) h.3)
    says n l said_as.Spent h = still (ap (λ (c : CoreCut). c.ends) h.3)
    says n l said_as.Nothing h = still (ap (λ (c : CoreCut). c.ends) h.1)

    turn_goes : {P : Type 0} (g : SideKind P) (d n : ℕ) (name : EndId) (r : TurnAnswer) (xs ys : List P)
        → HasTurn g (record { dispatcher = d; end = name; from = n; answer = r }) a xs b.core.dispatchers (record { ends = b.ends; sides = ys })
        → GoesAt p x b.ends (if same_end name e then reply_in x.end.rules r else []) (map call_of (if same_end name e then call_in r else [])) x.end.rules
    turn_goes g d n name r xs ys h =
        some_end a b at here name h.at h.after.end h.ends_are (reply_in x.end.rules r) (call_in r)
        (λ own. turns_go g (due h.waits) r (record { waits = h.waits; end = x; side = h.side }) h.after
        (subst (λ (u : EndCut). Turns g (due h.waits) r (record { waits = h.waits; end = u; side = h.side }) h.after) own h.turns) ok)

    acts : (log_entry : LogEntry) → CutActs log_entry a b → Went e p x log_entry b.ends
    acts (looked n l r) h = still (ap (λ (c : CoreCut). c.ends) h.rest)
    acts (passed n m frag c Moved) h = still (ap (λ (k : CoreCut). k.ends) h.4)
    acts (passed n m frag c Full) h = still (ap (λ (k : CoreCut). k.ends) h.2)
    acts (passed n m frag c Spent) h = still (ap (λ (k : CoreCut). k.ends) h.2)
    acts (arrived n l frag name r) h = arrives (record { side = n; link = l; frag = frag }) name r h
    acts (said n l r) h = says n l r h
    acts (told n l r) h = still (ap (λ (c : CoreCut). c.ends) h.1)
    acts (called name c r) h =
        let t = same_end name e in
        to_at e p x a at name_is here ok b.ends (if t then made_by c r else []) (if t then made_by c r else []) (if t then [] else []) []
        (if t then x.end.rules else x.end.rules) x.end.rules refl (same_if t []) (same_if t x.end.rules)
        (by_name e p x a at name_is here ok name h.at h.after b.ends (ap (λ (k : CoreCut). k.ends) h.rest) t refl (made_by c r) [] x.end.rules
        (λ own. calls_go x h.after c r (subst (λ (u : EndCut). Calls c r u h.after) own h.event) ok))
    acts (ruled name msg reply r) h =
        let t = same_end name e in
        to_at e p x a at name_is here ok b.ends (if t then [] else []) [] (if t then [] else []) []
        (if t then rules_by msg reply r x.end.rules else x.end.rules) (if t then rules_by msg reply r x.end.rules else x.end.rules)
        (same_if t []) (same_if t []) refl
        (by_name e p x a at name_is here ok name h.at h.after b.ends (ap (λ (k : CoreCut). k.ends) h.rest) t refl [] [] (rules_by msg reply r x.end.rules)
        (λ own. rules_go x h.after msg reply r (subst (λ (u : EndCut). SetsRule msg.0 reply.0 r u h.after) own h.event) ok))
    acts (wrote name (outlet.Side n) r) h =
        some_rest a b at here name h.0.at h.0.after h.0.ends_are
        (λ own. writes_go Places x h.0.after h.0.side h.0.side_after r (subst (λ (u : EndCut). Writes Places r u h.0.side h.0.after h.0.side_after) own h.0.event) ok)
    acts (wrote name (outlet.Queue n) r) h =
        some_rest a b at here name h.0.at h.0.after h.0.ends_are
        (λ own. writes_go QueuePlaces x h.0.after h.0.side h.0.side_after r
        (subst (λ (u : EndCut). Writes QueuePlaces r u h.0.side h.0.after h.0.side_after) own h.0.event) ok)
    acts (acked name n r) h = still (ap (λ (c : CoreCut). c.ends) h.rest)
    acts (turned d name (inlet.Side n) r) h = turn_goes _ d n name r a.sides b.sides h.0
    acts (turned d name (inlet.Queue n) r) h = turn_goes _ d n name r a.queues b.queues h.0
    acts (turned d name inlet.Arrivals r) h = turn_goes _ d h.number name r a.arrivals b.arrivals h.turn
    acts (opened name request (Ok n)) h =
        more_ends e p x a at name_is here ok b.ends _ (ap (λ (c : CoreCut). c.ends) h.rest ∙ ap (λ (c : CoreCut). c.ends) h.opened_is)
    acts (opened name request (Err fault)) h = still (ap (λ (c : CoreCut). c.ends) h.1)
    acts (heard n l frag r) h = absurd h

    -- what follows a message
    follows : (request : ReceivedRequest) (w : Heard) (r : MonitorAnswer) → ThenFollows request w r a b → GoesAt p x b.ends [] [] x.end.rules
    follows request (opening_went_on n c) r h = still (ap (λ (k : CoreCut). k.ends) h.1)
    follows request (opening_failed n fault) r h = still (ap (λ (k : CoreCut). k.ends) h.1)
    follows request (answer_went_on n) r h = still (ap (λ (k : CoreCut). k.ends) h.1)
    follows request (server_made n d c) r h =
        let m = h.1 in
        more_ends e p x a at name_is here ok b.ends (bound_to c m.end) (ap (λ (k : CoreCut). k.ends) m.rest ∙ ap (λ (k : CoreCut). k.ends) m.made_is)
    follows request (end_opened f c) r (is, inl y) =
        some_rest a b at here f y.at (bound_to c y.at.end) (ap (λ (k : CoreCut). k.ends) y.rest)
        (λ own. alike x (bound_to c y.at.end) x.end.rules (ap (λ (u : EndCut). u.wired_end) own) (ap (λ (u : EndCut). u.planned) own) (ap (λ (u : EndCut). u.end.out) own)
        (ap (λ (u : EndCut). u.came.accepted) own) (ap (λ (u : EndCut). u.end.rules) own) ok)
    follows request (end_opened f c) r (is, inr y) = still (ap (λ (k : CoreCut). k.ends) y.1)
    follows request (end_refused f fault) r h = still (ap (λ (k : CoreCut). k.ends) h.1)
    follows request no_outbox r h = absurd h
    follows request misrouted r h = absurd h

  hears_go : (services : List Service) (incoming : FragAtSide) (r : MonitorAnswer) (a b : CoreCut) → slice_get a.ends p ≡ Some x → place_in a.places e ≡ Some p
      → Hears services incoming r a b → GoesAt p x b.ends [] [] x.end.rules
  hears_go services incoming r a b at here h =
      follows h.middle b (ap (λ (c : CoreCut). slice_get c.ends p) h.middle_is ∙ at) (ap (λ (c : CoreCut). place_in c.places e) h.middle_is ∙ here)
      (request_of services incoming.link h.message) (hearing services incoming.link.0 h.message a).heard r h.follows

  does_go : (services : List Service) (log_entry : LogEntry) (a b : CoreCut) → slice_get a.ends p ≡ Some x → place_in a.places e ≡ Some p
      → CutDoes services log_entry a b → Went e p x log_entry b.ends
  does_go services (heard n l frag (Ok answer.Full)) a b at here h = still a b at here (ap (λ (c : CoreCut). c.ends) h.3)
  does_go services (heard n l frag (Ok answer.Done)) a b at here h = hears_go services (record { side = n; link = l; frag = frag }) answer.Done a b at here h
  does_go services (heard n l frag (Ok (answer.Opened f))) a b at here h =
      hears_go services (record { side = n; link = l; frag = frag }) (answer.Opened f) a b at here h
  does_go services (heard n l frag (Ok (answer.OpeningRefused f reason))) a b at here h =
      hears_go services (record { side = n; link = l; frag = frag }) (answer.OpeningRefused f reason) a b at here h
  does_go services (heard n l frag (Err link.Memory)) a b at here h = still a b at here (ap (λ (c : CoreCut). c.ends) h)
  does_go services (heard n l frag (Err link.Misrouted)) a b at here h = still a b at here (ap (λ (c : CoreCut). c.ends) h)
  does_go services (heard n l frag (Err link.Failed)) a b at here h = still a b at here (ap (λ (c : CoreCut). c.ends) h)
  does_go services (heard n l frag (Err link.Marked)) a b at here h = still a b at here (ap (λ (c : CoreCut). c.ends) h)
  does_go services (heard n l frag (Err (link.Wire fault))) a b at here h = still a b at here (ap (λ (c : CoreCut). c.ends) h)
  does_go services (looked n l r) a b at here h = acts a b at here (looked n l r) h
  does_go services (passed n m frag c r) a b at here h = acts a b at here (passed n m frag c r) h
  does_go services (arrived n l frag name r) a b at here h = acts a b at here (arrived n l frag name r) h
  does_go services (said n l r) a b at here h = acts a b at here (said n l r) h
  does_go services (told n l r) a b at here h = acts a b at here (told n l r) h
  does_go services (opened name request r) a b at here h = acts a b at here (opened name request r) h
  does_go services (called name c r) a b at here h = acts a b at here (called name c r) h
  does_go services (ruled name msg reply r) a b at here h = acts a b at here (ruled name msg reply r) h
  does_go services (wrote name out r) a b at here h = acts a b at here (wrote name out r) h
  does_go services (acked name n r) a b at here h = acts a b at here (acked name n r) h
  does_go services (turned d name from r) a b at here h = acts a b at here (turned d name from r) h

-- ---- a log

then_goes : (x y z : EndCut) (m m2 k k2 : List TheCall) (r r2 : List (Option ℕ)) → Goes x y m k r → Goes y z m2 k2 r2 → Goes x z (m ++ m2) (k ++ k2) r2
then_goes x y z m m2 k k2 r r2 f g = record {
  wired_end = g.wired_end ∙ f.wired_end;
  sent = g.sent ∙ ap (λ (cs : List TheCall). cs ++ m2) f.sent ∙ append_assoc (all_of x) m m2;
  came = g.came ∙ ap (λ (cs : List TheCall). cs ++ k2) f.came ∙ append_assoc x.came.accepted k k2;
  rules = g.rules;
  ok = g.ok;
}

-- where an end of a cut is, by its name
pub at_home : (a : CoreCut) (s : TheRun TheSide) (p : ℕ) (x : EndCut) → ShowsCut a s → IsCore s.core → slice_get a.ends p ≡ Some x → place_in a.places x.wired_end.name ≡ Some p
at_home a s p x shows core at =
    let wired : slice_get s.core.wired_ends p ≡ Some x.wired_end
    = ap (λ (ws : List WiredEnd). slice_get ws p) (sym shows.wired_ends) ∙ get_some (λ (u : EndCut). u.wired_end) a.ends p x at in
    ap (λ (places : List (Option ℕ)). place_in places x.wired_end.name) shows.places ∙ core.named p x.wired_end wired

pub ends_go : (services : List Service) (jobs : List CoreJob) (events : List (Event TheSide)) (a b : CutMoment) → ShowsCut a.cut a.run → AllFollow services jobs events a b
    → (e : EndId) (p : ℕ) (x : EndCut) → slice_get a.cut.ends p ≡ Some x → x.wired_end.name ≡ e → IsOk x
    → GoesAt p x b.cut.ends (sent_at e x.end.rules (log_of events)) (calls_handled e (log_of events)) (rules_at e x.end.rules (log_of events))
ends_go services jobs [] a b shows all e p x at name_is ok = record {
  after = x;
  after_is = ap (λ (m : CutMoment). slice_get m.cut.ends p) all ∙ at;
  goes = rests x ok;
}
ends_go services jobs (y ∷ events) a b shows all e p x at name_is ok =
    let (cut, first, rest) = all in
    let here : place_in a.cut.places e ≡ Some p
    = ap (place_in a.cut.places) (sym name_is) ∙ at_home a.cut a.run p x shows first.happens.3.core at in
    let one = does_go e p x name_is ok services y.log_entry a.cut cut at here first.does in
    let more = ends_go services jobs events (moment y.run cut) b first.shows rest e p one.after one.after_is (ap (λ (w : WiredEnd). w.name) one.goes.wired_end ∙ name_is) one.goes.ok in
    let handled : map call_of (handled_in e y.log_entry) ++ calls_handled e (log_of events) ≡ calls_handled e (log_of (y ∷ events))
    = sym (map-append call_of (handled_in e y.log_entry) (handled_at e (log_of events))) in
    let both = then_goes x one.after more.after (sent_in e x.end.rules y.log_entry) (sent_at e one.after.end.rules (log_of events))
    (map call_of (handled_in e y.log_entry)) (calls_handled e (log_of events)) (rules_in e x.end.rules y.log_entry)
    (rules_at e one.after.end.rules (log_of events)) one.goes more.goes in
    record {
      after = more.after;
      after_is = more.after_is;
      goes = record {
        wired_end = both.wired_end;
        sent = both.sent ∙ ap (λ (rules : List (Option ℕ)). all_of x ++ (sent_in e x.end.rules y.log_entry ++ sent_at e rules (log_of events))) one.goes.rules;
        came = both.came ∙ ap (λ (cs : List TheCall). x.came.accepted ++ cs) handled;
        rules = both.rules ∙ ap (λ (rules : List (Option ℕ)). rules_at e rules (log_of events)) one.goes.rules;
        ok = both.ok;
      };
    }

-- and what the core shows in the end
pub shows_last : (services : List Service) (jobs : List CoreJob) (events : List (Event TheSide)) (a b : CutMoment) → ShowsCut a.cut a.run → AllFollow services jobs events a b
    → ShowsCut b.cut b.run
shows_last services jobs [] a b shows all = subst (λ (m : CutMoment). ShowsCut m.cut m.run) (sym all) shows
shows_last services jobs (x ∷ events) a b shows (cut, first, rest) = shows_last services jobs events (moment x.run cut) b first.shows rest
