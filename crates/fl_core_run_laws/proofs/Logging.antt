-- Turns as a log.
use Rattle.std.proofs.Common.{◌≡◌, ◌≢◌, refl, sym, ap, ◌∙◌, subst, ℕ, zero, suc, ◌≤◌, ◌+◌, ◌==◌, if◌then◌else◌, nat_lt, inl, inr, List, [], ◌∷◌, ◌++◌, length, slice_set}
use Rattle.std.proofs.Common.{Option, Some, None, Bool, true, false, Result, Ok, Err, arith}
use Rattle.std.proofs.lemmas.Bool.Decides.{nat_tests}
use Rattle.std.proofs.lemmas.List.{length-set}
use Rattle.fl_base.specs.declared.fragment.Frag.{Frag}
use Rattle.fl_base.specs.declared.identity.EndId.{EndId}
use Rattle.fl_base.specs.declared.identity.MsgNo.{MsgNo}
use Rattle.fl_base.specs.Control.{circuit_of}
use Rattle.fl_base.specs.declared.identity.LinkId.{LinkId}
use Rattle.fl_base.specs.Given.{given}
use Rattle.fl_value_data.specs.Value.{call_of}
use Rattle.fl_value_data.specs.declared.value.Call.{Call as AnyCall}
use Rattle.fl_core.specs.declared.turn_answer.TurnAnswer.{TurnAnswer}
use Rattle.fl_core.specs.declared.turn_answer.TurnAnswer.TheVariants.{Handle, Part, Ready, Quiet, Full, Nothing, Refused}
use Rattle.fl_core.specs.declared.answer.LinkFront.{LinkFront}
use Rattle.fl_core.specs.declared.answer.LinkFront.TheVariants as ahead
use Rattle.fl_core.specs.declared.fault.LinkReceiveFault.{LinkReceiveFault}
use Rattle.fl_hop.specs.declared.entry.HopTarget.{HopTarget}
use Rattle.fl_hop.specs.declared.entry.HopTarget.TheVariants.{Link, End}
use Rattle.fl_hop.specs.Forward.{IsOther}
use Rattle.fl_hop.specs.Later.{way_at}
use Rattle.fl_core.specs.View.{TheCore, place_of, side_of_link}
use Rattle.fl_core.specs.declared.core_job.CoreJob.{CoreJob}
use Rattle.fl_core.specs.declared.core_job.CoreJob.TheVariants as job
use Rattle.fl_core.specs.declared.core_job.OpenRequest.{OpenRequest}
use Rattle.fl_core_run.specs.declared.lent.LentTakeEnd.{LentTakeEnd}
use Rattle.fl_core_run.specs.declared.lent.LentPutEnd.{LentPutEnd}
use Rattle.fl_core_run.specs.declared.lent.LentRingEnd.{LentRingEnd}
use Rattle.fl_core_run.specs.declared.plan.TurnPlan.{TurnPlan}
use Rattle.fl_core_run.specs.Run.{SideRelations, TheRun, next_job, lent_link_side, lent_post, lent_due, lent_ring_end}
use Rattle.fl_core_run.specs.LogEntries.{LogEntry, looked, passed, arrived, heard, said, told, opened, called, ruled, wrote, acked, turned, Does, Happens}
use Rattle.fl_core_run.specs.Steps.{HandsOut, ForwardsOver, Forwards, SaysOver, Says, TellsOver, Tells, may_ask, OpensIf, CallsAt, Tries, WritesFrom, Serves, AcksFrom, Acknowledges, reply_rule, RulesAt, awaits, due_turn, TurnsIf, TurnsAt, TakesTurn}
use Rattle.fl_core_run.specs.Turn.{Swept, At, OneTurn, Turned}
use Rattle.fl_core.specs.Jobs.{calls_of_job}
use Rattle.fl_core_run_laws.specs.Logs.{LeadsTo, GoesOnOver, InPlace, Goes, IsSeen, AreSeen, handled_by, handles_in, handles, Logged}

-- ---- logs join

abbrev none : ℕ → ℕ
none d = 0

goes_join : {S : Type 0} (w : SideRelations S) (jobs : List CoreJob) (xs ys : List LogEntry) (s m t : TheRun S) → Goes w jobs s xs m → Goes w jobs m ys t → Goes w jobs s (xs ++ ys) t
goes_join w jobs [] ys s m t a b = subst (λ (x : TheRun _). Goes w jobs x ys t) a b
goes_join w jobs (d ∷ xs) ys s m t a b = (a.0, a.1, a.2, goes_join w jobs xs ys a.0 m t a.3 b)

handles_join : (d : ℕ) (xs ys : List LogEntry) → handles d (xs ++ ys) ≡ handles d xs + handles d ys
handles_join d [] ys = omega arith
handles_join d (x ∷ xs) ys = let rest = handles_join d xs ys in omega (arith, rest)

-- what needs no look needs none behind any event
is_seen : (before : Option LogEntry) (log_entry : LogEntry) → IsSeen None log_entry → IsSeen before log_entry
is_seen before (passed n m frag c outcome) h = absurd (let none = h.1 in cc)
is_seen before (arrived n l frag e answer) h = absurd (cc)
is_seen before (heard n l frag answer) h = absurd (cc)
is_seen before (looked n l answer) h = tt
is_seen before (said n l answer) h = tt
is_seen before (told n l answer) h = tt
is_seen before (opened name request answer) h = tt
is_seen before (called name c answer) h = tt
is_seen before (ruled name msg reply answer) h = tt
is_seen before (wrote name out answer) h = tt
is_seen before (acked name n answer) h = tt
is_seen before (turned d name from answer) h = tt

seen_join : (before : Option LogEntry) (xs ys : List LogEntry) → AreSeen before xs → AreSeen None ys → AreSeen before (xs ++ ys)
seen_join before [] [] a b = tt
seen_join before [] (y ∷ ys) a b = (is_seen before y b.0, b.1)
seen_join before (x ∷ xs) ys a b = (a.0, seen_join (Some x) xs ys a.1 b)

pub logged_then : {S : Type 0} (w : SideRelations S) (jobs : List CoreJob) (f g h : ℕ → ℕ) (s m t : TheRun S) → ((d : ℕ) → f d + g d ≤ h d)
    → Logged w jobs f s m → Logged w jobs g m t → Logged w jobs h s t
logged_then w jobs f g h s m t sum a b = record {
  log = a.log ++ b.log;
  goes = goes_join w jobs a.log b.log s m t a.goes b.goes;
  few = λ d. let one = a.few d in let two = b.few d in let both = handles_join d a.log b.log in let all = sum d in omega (arith, one, two, both, all);
  seen = seen_join None a.log b.log a.seen b.seen;
}

-- with no calls handled
abbrev Plain : {S : Type 0} → SideRelations S → List CoreJob → TheRun S → TheRun S → Type 0
Plain w jobs s t = Logged w jobs none s t

plain_then : {S : Type 0} (w : SideRelations S) (jobs : List CoreJob) (s m t : TheRun S) → Plain w jobs s m → Plain w jobs m t → Plain w jobs s t
plain_then w jobs s m t a b = logged_then w jobs none none none s m t (λ d. omega arith) a b

nothing : {S : Type 0} (w : SideRelations S) (jobs : List CoreJob) (s t : TheRun S) → t ≡ s → Plain w jobs s t
nothing w jobs s t same = record { log = []; goes = same; few = λ d. omega arith; seen = tt }

one_by : {S : Type 0} (w : SideRelations S) (jobs : List CoreJob) (log_entry : LogEntry) (s t : TheRun S) → ((d : ℕ) → handles_in d log_entry ≡ 0) → IsSeen None log_entry
    → InPlace jobs s log_entry → Happens w log_entry s t → Plain w jobs s t
one_by w jobs log_entry s t nobody seen by h =
    record { log = log_entry ∷ []; goes = (t, h, by, refl); few = λ d. let zero_of = nobody d in omega (arith, zero_of); seen = (seen, tt) }

-- ---- for each link

-- what a look found is in its place
abbrev Foreseen : {S : Type 0} → ℕ → LinkId → Result LinkFront LinkReceiveFault → TheRun S → Type 0
Foreseen n l (Ok (ahead.Message frag)) m = (lent_link_side m l ≡ Some n) × (circuit_of frag.control ≡ 0)
Foreseen n l (Ok (ahead.Onward frag to c)) m = GoesOnOver m n to frag c
Foreseen n l (Ok (ahead.Arrival frag e)) m = LeadsTo m n l frag (End e)
Foreseen n l found m = Unit {0}

module _ {S : Type 0} (s m : TheRun S) (core : m.core ≡ s.core) (many : length m.rings ≡ length s.rings) where
  link_side_stays : (n : ℕ) (l : LinkId) → lent_link_side s l ≡ Some n → lent_link_side m l ≡ Some n
  link_side_stays n l link_side =
      ap (λ (k : TheCore). given (side_of_link k.link_sides l.0) None (λ (i : ℕ). if nat_lt i (length m.rings) then Some i else None)) core
      ∙ ap (λ (r : ℕ). given (side_of_link s.core.link_sides l.0) None (λ (i : ℕ). if nat_lt i r then Some i else None)) many ∙ link_side

  leads : (n : ℕ) (l : LinkId) (frag : Frag) (way : HopTarget) → lent_link_side s l ≡ Some n → circuit_of frag.control ≢ 0
      → way_at s.core.monitor.circuits l.0 (circuit_of frag.control) ≡ Some way → IsOther s.core.monitor.circuits l.0 way → LeadsTo m n l frag way
  leads n l frag way link_side number way_is other = record {
    link_side = link_side_stays n l link_side;
    number = number;
    way_is = ap (λ (k : TheCore). way_at k.monitor.circuits l.0 (circuit_of frag.control)) core ∙ way_is;
    other = subst (λ (k : TheCore). IsOther k.monitor.circuits l.0 way) (sym core) other;
  }

many_rings : {S : Type 0} (s m : TheRun S) (n : ℕ) (after : S) → m ≡ record s { core = m.core; rings = slice_set s.rings n after } → length m.rings ≡ length s.rings
many_rings s m n after rest = ap (λ (x : TheRun _). length x.rings) rest ∙ length-set s.rings n after

foreseen : {S : Type 0} (w : SideRelations S) (n : ℕ) (l : LinkId) (found : Result LinkFront LinkReceiveFault) (s m : TheRun S) → lent_link_side s l ≡ Some n → Does w (looked n l found) s m → Foreseen n l found m
foreseen w n l (Ok ahead.Nothing) s m link_side h = tt
foreseen w n l (Ok ahead.Acknowledged) s m link_side h = tt
foreseen w n l (Ok (ahead.Message frag)) s m link_side h = (link_side_stays s m h.event.1 (many_rings s m n h.after h.rest) n l link_side, h.event.0.finds.2)
foreseen w n l (Ok (ahead.Onward frag to c)) s m link_side h =
    let f = h.event.0.seen.finds in
    record {
      link = l;
      onward = h.event.0.link;
      leads = leads s m h.event.1 (many_rings s m n h.after h.rest) n l frag (Link h.event.0.link c) link_side f.2 f.3 f.5;
      side = ap (λ (k : TheCore). side_of_link k.link_sides h.event.0.link.0) h.event.1 ∙ h.event.0.side_is;
    }
foreseen w n l (Ok (ahead.Arrival frag e)) s m link_side h =
    let f = h.event.0.finds in
    leads s m h.event.1 (many_rings s m n h.after h.rest) n l frag (End e) link_side f.2 f.3 f.5
foreseen w n l (Err fault) s m link_side h = tt

module _ {S : Type 0} (w : SideRelations S) (jobs : List CoreJob) where
  one : (log_entry : LogEntry) (s t : TheRun S) → ((d : ℕ) → handles_in d log_entry ≡ 0) → IsSeen None log_entry → InPlace jobs s log_entry → Happens w log_entry s t
      → Plain w jobs s t
  one log_entry s t nobody seen by h = one_by w jobs log_entry s t nobody seen by h

  -- what comes directly behind this event, with no calls handled
  record Behind (before : LogEntry) (s t : TheRun S) : Type 0 where
    log : List LogEntry
    goes : Goes w jobs s log t
    few : (d : ℕ) → handles d log ≡ 0
    seen : AreSeen (Some before) log

  nothing_behind : (before : LogEntry) (s t : TheRun S) → t ≡ s → Behind before s t
  nothing_behind before s t h = record { log = []; goes = h; few = λ d. refl; seen = tt }

  one_behind : (before log_entry : LogEntry) (s t : TheRun S) → ((d : ℕ) → handles d (log_entry ∷ []) ≡ 0) → IsSeen (Some before) log_entry → InPlace jobs s log_entry
      → Happens w log_entry s t → Behind before s t
  one_behind before log_entry s t nobody seen by h = record { log = log_entry ∷ []; goes = (t, h, by, refl); few = nobody; seen = (seen, tt) }

  hands_out : (n : ℕ) (l : LinkId) (found : Result LinkFront LinkReceiveFault) (s t : TheRun S) → Foreseen n l found s → HandsOut w n l found s t
      → Behind (looked n l found) s t
  hands_out n l (Ok ahead.Nothing) s t by h = nothing_behind _ s t h
  hands_out n l (Ok ahead.Acknowledged) s t by h = nothing_behind _ s t h
  hands_out n l (Ok (ahead.Message frag)) s t by h = one_behind _ (heard n l frag h.0) s t (λ d. refl) refl by h.1
  hands_out n l (Ok (ahead.Onward frag to c)) s t by (inl h) = one_behind _ (passed n to frag c h.0) s t (λ d. refl) (l, refl) by h.1
  hands_out n l (Ok (ahead.Onward frag to c)) s t by (inr h) = nothing_behind _ s t h.1
  hands_out n l (Ok (ahead.Arrival frag e)) s t by h = one_behind _ (arrived n l frag e h.0) s t (λ d. refl) refl by h.1
  hands_out n l (Err fault) s t by h = nothing_behind _ s t h

  forwards_over : (l : LinkId) (o : Option ℕ) (s t : TheRun S) → lent_link_side s l ≡ o → ForwardsOver w l o s t → Plain w jobs s t
  forwards_over l None s t link_side h = nothing w jobs s t h
  forwards_over l (Some n) s t link_side h =
      let seen : Foreseen n l h.0 h.1 = subst (λ (x : TheRun S). Foreseen n l h.0 x) (sym h.2.2) (foreseen w n l h.0 s h.2.0 link_side h.2.1) in
      let behind = hands_out n l h.0 h.1 t seen h.3 in
      record {
        log = looked n l h.0 ∷ behind.log;
        goes = (h.1, h.2, link_side, behind.goes);
        few = λ d. let none_of = behind.few d in omega (arith, none_of);
        seen = (tt, behind.seen);
      }

  forwards : (l : LinkId) (s t : TheRun S) → Forwards w l s t → Plain w jobs s t
  forwards l s t h = forwards_over l (lent_link_side s l) s t refl h

  says_over : (l : LinkId) (o : Option ℕ) (s t : TheRun S) → lent_link_side s l ≡ o → SaysOver w l o s t → Plain w jobs s t
  says_over l None s t link_side h = nothing w jobs s t h
  says_over l (Some n) s t link_side h = one (said n l h.0) s t (λ d. refl) tt link_side h.1

  says : (l : LinkId) (s t : TheRun S) → Says w l s t → Plain w jobs s t
  says l s t h = says_over l (lent_link_side s l) s t refl h

  tells_over : (l : LinkId) (o : Option ℕ) (s t : TheRun S) → lent_link_side s l ≡ o → TellsOver w l o s t → Plain w jobs s t
  tells_over l None s t link_side h = nothing w jobs s t h
  tells_over l (Some n) s t link_side h = one (told n l h.0) s t (λ d. refl) tt link_side h.1

  tells : (l : LinkId) (s t : TheRun S) → Tells w l s t → Plain w jobs s t
  tells l s t h = tells_over l (lent_link_side s l) s t refl h

  -- ---- for each end

  opens : (b : Bool) (name : EndId) (request : OpenRequest) (s t : TheRun S) → next_job jobs s name ≡ Some (job.Open request) → may_ask s request ≡ b → OpensIf w b name request s t → Plain w jobs s t
  opens false name request s t next may h = nothing w jobs s t h
  opens true name request s t next may h = one (opened name request h.0) s t (λ d. refl) tt (next, may) h.1

  calls : (name : EndId) (e : EndId) (call : AnyCall) (o : Option ℕ) (s t : TheRun S) → next_job jobs s name ≡ Some (job.Call e call) → CallsAt w name call o s t → Plain w jobs s t
  calls name e call None s t next h = nothing w jobs s t h
  calls name e call (Some place) s t next h = one (called name (call_of call) h.0) s t (λ d. refl) tt (ap calls_of_job next) h.1

  sets_rule : (name : EndId) (e : EndId) (msg reply : MsgNo) (o : Option ℕ) (s t : TheRun S) → next_job jobs s name ≡ Some (job.Reply e msg reply) → RulesAt w (reply_rule name msg reply) o s t
      → Plain w jobs s t
  sets_rule name e msg reply None s t next h = nothing w jobs s t h
  sets_rule name e msg reply (Some place) s t next h = one (ruled name msg reply h.0) s t (λ d. refl) tt (e, next) h.1

  tries : (name : EndId) (o : Option CoreJob) (s t : TheRun S) → next_job jobs s name ≡ o → Tries w name o s t → Plain w jobs s t
  tries name None s t next h = nothing w jobs s t h
  tries name (Some (job.Open request)) s t next h = opens (may_ask s request) name request s t next refl h
  tries name (Some (job.Call e call)) s t next h = calls name e call (place_of s.core name) s t next h
  tries name (Some (job.Reply e msg reply)) s t next h = sets_rule name e msg reply (place_of s.core name) s t next h

  writes : (name : EndId) (o : Option LentPutEnd) (s t : TheRun S) → lent_post s name ≡ o → WritesFrom w name o s t → Plain w jobs s t
  writes name None s t post h = nothing w jobs s t h
  writes name (Some p) s t post h = one (wrote name p.outlet h.0) s t (λ d. refl) tt (p, post, refl) h.1

  serves : (name : EndId) (s t : TheRun S) → Serves w jobs name s t → Plain w jobs s t
  serves name s t h =
      plain_then w jobs s h.0 t (tries name (next_job jobs s name) s h.0 refl h.1) (writes name (lent_post h.0 name) h.0 t refl h.2)

  acks_from : (name : EndId) (o : Option LentRingEnd) (s t : TheRun S) → lent_ring_end s name ≡ o → AcksFrom w name o s t → Plain w jobs s t
  acks_from name None s t ring_end h = nothing w jobs s t h
  acks_from name (Some b) s t ring_end h = one (acked name b.side h.0) s t (λ d. refl) tt (b, ring_end, refl) h.1

  acks : (name : EndId) (s t : TheRun S) → Acknowledges w name s t → Plain w jobs s t
  acks name s t h = acks_from name (lent_ring_end s name) s t refl h

  -- ---- sweeps

  swept : {X : Type 0} (xs : List X) (step : X → TheRun S → TheRun S → Type 0) → ((x : X) (s t : TheRun S) → step x s t → Plain w jobs s t)
      → (k : ℕ) (s t : TheRun S) → Swept (At xs step) k s t → Plain w jobs s t
  swept xs step each zero s t h = nothing w jobs s t h
  swept xs step each (suc k) s t h = plain_then w jobs s h.0 t (swept xs step each k s h.0 h.1) (each h.2.0 h.0 t h.2.2)

  -- ---- turns of dispatchers

  -- at most one call, and by this dispatcher
  at_most : (e d : ℕ) (answer : TurnAnswer) (b : Bool) → (if b then handled_by 1 answer else 0) ≤ (if b then 1 else 0)
  at_most e d (Handle call) true = omega arith
  at_most e d Part true = omega arith
  at_most e d Ready true = omega arith
  at_most e d Quiet true = omega arith
  at_most e d Full true = omega arith
  at_most e d Nothing true = omega arith
  at_most e d (Refused fault) true = omega arith
  at_most e d answer false = omega arith

  weaker : (f g : ℕ → ℕ) (s t : TheRun S) → ((d : ℕ) → f d ≤ g d) → Logged w jobs f s t → Logged w jobs g s t
  weaker f g s t more h = record { log = h.log; goes = h.goes; few = λ d. let one_of = h.few d in let all = more d in omega (arith, one_of, all); seen = h.seen }

  least : (b : Bool) → 0 ≤ (if b then 1 else 0)
  least true = omega arith
  least false = omega arith

  takes_none : (e : ℕ) (s t : TheRun S) → t ≡ s → Logged w jobs (λ d. if e == d then 1 else 0) s t
  takes_none e s t h = record { log = []; goes = h; few = λ d. least (e == d); seen = tt }

  turns_if : (b : Bool) (e : ℕ) (name : EndId) (due : LentTakeEnd) (s t : TheRun S) → lent_due s e ≡ Some due → place_of s.core name ≡ Some due.end → awaits jobs s name ≡ b
      → TurnsIf w b (due_turn e name due) s t → Logged w jobs (λ d. if e == d then 1 else 0) s t
  turns_if true e name due s t is place waits h = takes_none e s t h
  turns_if false e name due s t is place waits h = record {
    log = turned e name due.inlet h.0 ∷ [];
    goes = (t, h.1, (due, is, place, refl, waits), refl);
    few = λ d. let most = at_most e d h.0 (e == d) in omega (arith, most);
    seen = (tt, tt);
  }

  takes_turn : (e : ℕ) (o : Option LentTakeEnd) (s t : TheRun S) → lent_due s e ≡ o → TurnsAt w jobs e o s t → Logged w jobs (λ d. if e == d then 1 else 0) s t
  takes_turn e None s t is h = takes_none e s t h
  takes_turn e (Some due) s t is h = turns_if (awaits jobs s h.0) e h.0 due s t is h.1 refl h.2

  below_by : (k d : ℕ) (a b c : Bool) → nat_lt d k ≡ a → (k == d) ≡ b → nat_lt d (suc k) ≡ c → (if a then 1 else 0) + (if b then 1 else 0) ≤ (if c then 1 else 0)
  below_by k d false false c la eb lc = omega (arith, least c)
  below_by k d true true c la eb lc = absurd (grind (arith, nat_tests, la, eb))
  below_by k d true false true la eb lc = omega arith
  below_by k d false true true la eb lc = omega arith
  below_by k d true false false la eb lc = absurd (grind (arith, nat_tests, la, lc))
  below_by k d false true false la eb lc = absurd (grind (arith, nat_tests, eb, lc))

  below : (k d : ℕ) → (if nat_lt d k then 1 else 0) + (if k == d then 1 else 0) ≤ (if nat_lt d (suc k) then 1 else 0)
  below k d = below_by k d (nat_lt d k) (k == d) (nat_lt d (suc k)) refl refl refl

  turns : (k : ℕ) (s t : TheRun S) → Swept (TakesTurn w jobs) k s t → Logged w jobs (λ d. if nat_lt d k then 1 else 0) s t
  turns zero s t h = record { log = []; goes = h; few = λ d. least (nat_lt d 0); seen = tt }
  turns (suc k) s t h =
      logged_then w jobs (λ d. if nat_lt d k then 1 else 0) (λ d. if k == d then 1 else 0) (λ d. if nat_lt d (suc k) then 1 else 0) s h.0 t (below k)
      (turns k s h.0 h.1) (takes_turn k (lent_due h.0 k) h.0 t refl h.2)

  -- ---- turns of the core

  at_most_one : (b : Bool) → (if b then 1 else 0) + 0 ≤ 1
  at_most_one true = omega arith
  at_most_one false = omega arith

  turn : (plan : TurnPlan) (s t : TheRun S) → OneTurn w plan jobs s t → Logged w jobs (λ d. 1) s t
  turn plan s t h =
      let a : Plain w jobs s h.forwarded = swept plan.links.items (Forwards w) forwards (length plan.links.items) s h.forwarded h.forwards in
      let b : Plain w jobs h.forwarded h.said = swept plan.links.items (Says w) says (length plan.links.items) h.forwarded h.said h.says in
      let c : Plain w jobs h.said h.served = swept plan.ends.items (Serves w jobs) serves (length plan.ends.items) h.said h.served h.serves in
      let e : Plain w jobs h.turned h.told = swept plan.links.items (Tells w) tells (length plan.links.items) h.turned h.told h.tells in
      let f : Plain w jobs h.told t = swept plan.ends.items (Acknowledges w) acks (length plan.ends.items) h.told t h.acks in
      let before : Plain w jobs s h.served = plain_then w jobs s h.said h.served (plain_then w jobs s h.forwarded h.said a b) c in
      let after : Plain w jobs h.turned t = plain_then w jobs h.turned h.told t e f in
      let mid : Logged w jobs (λ d. if nat_lt d plan.dispatchers then 1 else 0) s h.turned =
      logged_then w jobs none (λ d. if nat_lt d plan.dispatchers then 1 else 0) (λ d. if nat_lt d plan.dispatchers then 1 else 0) s h.served h.turned (λ d. omega arith) before
      (turns plan.dispatchers h.served h.turned h.turns) in
      logged_then w jobs (λ d. if nat_lt d plan.dispatchers then 1 else 0) none (λ d. 1) s h.turned t (λ d. at_most_one (nat_lt d plan.dispatchers)) mid after

  pub all_turns : (plan : TurnPlan) (k : ℕ) (s t : TheRun S) → Turned w plan jobs k s t → Logged w jobs (λ d. k) s t
  all_turns plan zero s t h = nothing w jobs s t h
  all_turns plan (suc k) s t h =
      logged_then w jobs (λ d. k) (λ d. 1) (λ d. suc k) s h.0 t (λ d. omega arith) (all_turns plan k s h.0 h.1) (turn plan h.0 t h.2)

pub turns_logged : {S : Type 0} (w : SideRelations S) (plan : TurnPlan) (jobs : List CoreJob) (k : ℕ) (s t : TheRun S) → Turned w plan jobs k s t → Logged w jobs (λ d. k) s t
turns_logged w plan jobs k s t h = all_turns w jobs plan k s t h
