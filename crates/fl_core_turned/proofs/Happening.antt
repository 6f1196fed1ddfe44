-- The events of turns happen one after another, each in its place, and memory is refused to none.
use Rattle.std.proofs.Common.{◌≡◌, ◌≢◌, refl, sym, ap, ◌∙◌, subst, ℕ, zero, suc, if◌then◌else◌, nat_lt, inl, inr, List, [], ◌∷◌, ◌++◌, length, slice_set}
use Rattle.std.proofs.Common.{Option, Some, None, Bool, true, false, Result, Ok, Err}
use Rattle.std.proofs.lemmas.List.{length-set}
use Rattle.fl_base.specs.declared.fragment.Frag.{Frag}
use Rattle.fl_base.specs.declared.identity.EndId.{EndId}
use Rattle.fl_base.specs.declared.identity.LinkId.{LinkId}
use Rattle.fl_base.specs.declared.identity.MsgNo.{MsgNo}
use Rattle.fl_base.specs.Control.{circuit_of}
use Rattle.fl_base.specs.Given.{given}
use Rattle.fl_value_data.specs.Value.{call_of}
use Rattle.fl_value_data.specs.declared.value.Call.{Call}
use Rattle.fl_hop.specs.declared.entry.HopTarget.{HopTarget}
use Rattle.fl_hop.specs.declared.entry.HopTarget.TheVariants.{Link, End}
use Rattle.fl_hop.specs.Forward.{IsOther}
use Rattle.fl_hop.specs.Later.{way_at}
use Rattle.fl_core.specs.declared.answer.LinkFront.{LinkFront}
use Rattle.fl_core.specs.declared.answer.LinkFront.TheVariants as ahead
use Rattle.fl_core.specs.declared.fault.LinkReceiveFault.{LinkReceiveFault}
use Rattle.fl_core.specs.declared.core_job.CoreJob.{CoreJob}
use Rattle.fl_core.specs.declared.core_job.CoreJob.TheVariants as job
use Rattle.fl_core.specs.declared.core_job.OpenRequest.{OpenRequest}
use Rattle.fl_core.specs.Jobs.{calls_of_job}
use Rattle.fl_core.specs.View.{TheCore, place_of, side_of_link}
use Rattle.fl_core_run.specs.declared.lent.LentTakeEnd.{LentTakeEnd}
use Rattle.fl_core_run.specs.declared.lent.LentPutEnd.{LentPutEnd}
use Rattle.fl_core_run.specs.declared.lent.LentRingEnd.{LentRingEnd}
use Rattle.fl_core_run.specs.declared.plan.TurnPlan.{TurnPlan}
use Rattle.fl_core_run.specs.Run.{SideRelations, TheRun, next_job, lent_link_side, lent_post, lent_due, lent_ring_end}
use Rattle.fl_core_run.specs.LogEntries.{LogEntry, looked, passed, arrived, heard, said, told, opened, called, ruled, wrote, acked, turned, Does, Happens}
use Rattle.fl_core_run.specs.Steps.{HandsOut, ForwardsOver, Forwards, SaysOver, Says, TellsOver, Tells, may_ask, OpensIf, CallsAt, Tries, WritesFrom}
use Rattle.fl_core_run.specs.Steps.{Serves, AcksFrom, Acknowledges, reply_rule, RulesAt, awaits, due_turn, TurnsIf, TurnsAt, TakesTurn}
use Rattle.fl_core_run.specs.Turn.{Swept, At, OneTurn, Turned}
use Rattle.fl_core_run_laws.specs.Logs.{LeadsTo, GoesOnOver, InPlace, Goes}
use Rattle.fl_core_turned.specs.Reasons.{lacks_memory}
use Rattle.fl_core_turned.specs.TurnEvents.{Event, event, swept_events, each_events, handed_events, forward_events, said_events, told_events, opened_events, called_events, ruled_events, tried_events}
use Rattle.fl_core_turned.specs.TurnEvents.{wrote_events, served_events, acked_events, turned_if_events, turned_events, turn_events, log_of, events_of}

-- events, one after another, each in its place, and with memory
abbrev pub AllHappen : {S : Type 0} → SideRelations S → List CoreJob → TheRun S → List (Event S) → TheRun S → Type 0
AllHappen w jobs s [] t = t ≡ s
AllHappen w jobs s (x ∷ xs) t =
    Happens w x.log_entry s x.run × InPlace jobs s x.log_entry × (lacks_memory x.log_entry ≡ false) × AllHappen w jobs x.run xs t

all_join : {S : Type 0} (w : SideRelations S) (jobs : List CoreJob) (xs ys : List (Event S)) (s m t : TheRun S) → AllHappen w jobs s xs m → AllHappen w jobs m ys t
    → AllHappen w jobs s (xs ++ ys) t
all_join w jobs [] ys s m t a b = subst (λ (x : TheRun _). AllHappen w jobs x ys t) a b
all_join w jobs (x ∷ xs) ys s m t a b = (a.0, a.1, a.2, all_join w jobs xs ys x.run m t a.3 b)

pub all_go : {S : Type 0} (w : SideRelations S) (jobs : List CoreJob) (xs : List (Event S)) (s t : TheRun S) → AllHappen w jobs s xs t → Goes w jobs s (log_of xs) t
all_go w jobs [] s t h = h
all_go w jobs (x ∷ xs) s t h = (x.run, h.0, h.1, all_go w jobs xs x.run t h.3)

-- ---- what a look found is in its place

abbrev Foreseen : {S : Type 0} → ℕ → LinkId → Result LinkFront LinkReceiveFault → TheRun S → Type 0
Foreseen n l (Ok (ahead.Message frag)) m = (lent_link_side m l ≡ Some n) × (circuit_of frag.control ≡ 0)
Foreseen n l (Ok (ahead.Onward frag to c)) m = GoesOnOver m n to frag c
Foreseen n l (Ok (ahead.Arrival frag e)) m = LeadsTo m n l frag (End e)
Foreseen n l found m = Unit {0}

module _ {S : Type 0} (s m : TheRun S) (core : m.core ≡ s.core) (many : length m.rings ≡ length s.rings) where
  link_side_stays : (n : ℕ) (l : LinkId) → lent_link_side s l ≡ Some n → lent_link_side m l ≡ Some n
  link_side_stays n l link_side =
      ap (λ (k : TheCore). given (side_of_link k.link_sides l.0) None (λ (i : ℕ). if nat_lt i (length m.rings) then Some i else None)) core
      ∙ ap (λ (r : ℕ). given (side_of_link s.core.link_sides l.0) None (λ (i : ℕ). if nat_lt i r then Some i else None)) many ∙ link_side

  leads : (n : ℕ) (l : LinkId) (frag : Frag) (way : HopTarget) → lent_link_side s l ≡ Some n → circuit_of frag.control ≢ 0
      → way_at s.core.monitor.circuits l.0 (circuit_of frag.control) ≡ Some way → IsOther s.core.monitor.circuits l.0 way → LeadsTo m n l frag way
  leads n l frag way link_side number way_is other = record {
    link_side = link_side_stays n l link_side;
    number = number;
    way_is = ap (λ (k : TheCore). way_at k.monitor.circuits l.0 (circuit_of frag.control)) core ∙ way_is;
    other = subst (λ (k : TheCore). IsOther k.monitor.circuits l.0 way) (sym core) other;
  }

many_rings : {S : Type 0} (s m : TheRun S) (n : ℕ) (after : S) → m ≡ record s { core = m.core; rings = slice_set s.rings n after } → length m.rings ≡ length s.rings
many_rings s m n after rest = ap (λ (x : TheRun _). length x.rings) rest ∙ length-set s.rings n after

foreseen : {S : Type 0} (w : SideRelations S) (n : ℕ) (l : LinkId) (found : Result LinkFront LinkReceiveFault) (s m : TheRun S) → lent_link_side s l ≡ Some n
    → Does w (looked n l found) s m → Foreseen n l found m
foreseen w n l (Ok ahead.Nothing) s m link_side h = tt
foreseen w n l (Ok ahead.Acknowledged) s m link_side h = tt
foreseen w n l (Ok (ahead.Message frag)) s m link_side h = (link_side_stays s m h.event.1 (many_rings s m n h.after h.rest) n l link_side, h.event.0.finds.2)
foreseen w n l (Ok (ahead.Onward frag to c)) s m link_side h =
    let f = h.event.0.seen.finds in
    record {
      link = l;
      onward = h.event.0.link;
      leads = leads s m h.event.1 (many_rings s m n h.after h.rest) n l frag (Link h.event.0.link c) link_side f.2 f.3 f.5;
      side = ap (λ (k : TheCore). side_of_link k.link_sides h.event.0.link.0) h.event.1 ∙ h.event.0.side_is;
    }
foreseen w n l (Ok (ahead.Arrival frag e)) s m link_side h =
    let f = h.event.0.finds in
    leads s m h.event.1 (many_rings s m n h.after h.rest) n l frag (End e) link_side f.2 f.3 f.5
foreseen w n l (Err fault) s m link_side h = tt

-- ---- turns

module _ {S : Type 0} (w : SideRelations S) (jobs : List CoreJob) where
  joined : (xs ys : List (Event S)) (s m t : TheRun S) → AllHappen w jobs s xs m → AllHappen w jobs m ys t → AllHappen w jobs s (xs ++ ys) t
  joined xs ys s m t a b = all_join w jobs xs ys s m t a b

  one : (log_entry : LogEntry) (s t : TheRun S) → lacks_memory log_entry ≡ false → InPlace jobs s log_entry → Happens w log_entry s t
      → AllHappen w jobs s (event log_entry t ∷ []) t
  one log_entry s t remembers place h = (h, place, remembers, refl)

  -- ---- for a link

  handed : (n : ℕ) (l : LinkId) (found : Result LinkFront LinkReceiveFault) (s t : TheRun S) → Foreseen n l found s → (h : HandsOut w n l found s t)
      → AllHappen w jobs s (handed_events w jobs n l found s t h) t
  handed n l (Ok ahead.Nothing) s t seen h = h
  handed n l (Ok ahead.Acknowledged) s t seen h = h
  handed n l (Ok (ahead.Message frag)) s t seen h = one (heard n l frag h.0) s t h.2 seen h.1
  handed n l (Ok (ahead.Onward frag to c)) s t seen (inl h) = one (passed n to frag c h.0) s t refl seen h.1
  handed n l (Ok (ahead.Onward frag to c)) s t seen (inr h) = h.1
  handed n l (Ok (ahead.Arrival frag e)) s t seen h = one (arrived n l frag e h.0) s t refl seen h.1
  handed n l (Err fault) s t seen h = h

  forward : (l : LinkId) (o : Option ℕ) (s t : TheRun S) → lent_link_side s l ≡ o → (h : ForwardsOver w l o s t) → AllHappen w jobs s (forward_events w jobs l o s t h) t
  forward l None s t link_side h = h
  forward l (Some n) s t link_side h =
      let seen : Foreseen n l h.0 h.1 = subst (λ (x : TheRun S). Foreseen n l h.0 x) (sym h.2.2) (foreseen w n l h.0 s h.2.0 link_side h.2.1) in
      joined (event (looked n l h.0) h.1 ∷ []) (handed_events w jobs n l h.0 h.1 t h.3) s h.1 t (one (looked n l h.0) s h.1 refl link_side h.2) (handed n l h.0 h.1 t seen h.3)

  says : (l : LinkId) (o : Option ℕ) (s t : TheRun S) → lent_link_side s l ≡ o → (h : SaysOver w l o s t) → AllHappen w jobs s (said_events w jobs l o s t h) t
  says l None s t link_side h = h
  says l (Some n) s t link_side h = one (said n l h.0) s t refl link_side h.1

  tells : (l : LinkId) (o : Option ℕ) (s t : TheRun S) → lent_link_side s l ≡ o → (h : TellsOver w l o s t) → AllHappen w jobs s (told_events w jobs l o s t h) t
  tells l None s t link_side h = h
  tells l (Some n) s t link_side h = one (told n l h.0) s t refl link_side h.1

  -- ---- for an end

  opens : (b : Bool) (name : EndId) (request : OpenRequest) (s t : TheRun S) → next_job jobs s name ≡ Some (job.Open request) → may_ask s request ≡ b
      → (h : OpensIf w b name request s t) → AllHappen w jobs s (opened_events w jobs b name request s t h) t
  opens false name request s t next may h = h
  opens true name request s t next may h = one (opened name request h.0) s t h.2 (next, may) h.1

  calls : (name e : EndId) (call : Call) (o : Option ℕ) (s t : TheRun S) → next_job jobs s name ≡ Some (job.Call e call) → (h : CallsAt w name call o s t)
      → AllHappen w jobs s (called_events w jobs name call o s t h) t
  calls name e call None s t next h = h
  calls name e call (Some place) s t next h = one (called name (call_of call) h.0) s t h.2 (ap calls_of_job next) h.1

  rules : (name e : EndId) (msg reply : MsgNo) (o : Option ℕ) (s t : TheRun S) → next_job jobs s name ≡ Some (job.Reply e msg reply)
      → (h : RulesAt w (reply_rule name msg reply) o s t) → AllHappen w jobs s (ruled_events w jobs (reply_rule name msg reply) o s t h) t
  rules name e msg reply None s t next h = h
  rules name e msg reply (Some place) s t next h = one (ruled name msg reply h.0) s t refl (e, next) h.1

  tries : (name : EndId) (o : Option CoreJob) (s t : TheRun S) → next_job jobs s name ≡ o → (h : Tries w name o s t) → AllHappen w jobs s (tried_events w jobs name o s t h) t
  tries name None s t next h = h
  tries name (Some (job.Open request)) s t next h = opens (may_ask s request) name request s t next refl h
  tries name (Some (job.Call e call)) s t next h = calls name e call (place_of s.core name) s t next h
  tries name (Some (job.Reply e msg reply)) s t next h = rules name e msg reply (place_of s.core name) s t next h

  writes : (name : EndId) (o : Option LentPutEnd) (s t : TheRun S) → lent_post s name ≡ o → (h : WritesFrom w name o s t) → AllHappen w jobs s (wrote_events w jobs name o s t h) t
  writes name None s t post h = h
  writes name (Some p) s t post h = one (wrote name p.outlet h.0) s t refl (p, post, refl) h.1

  serves : (name : EndId) (s t : TheRun S) (h : Serves w jobs name s t) → AllHappen w jobs s (served_events w jobs name s t h) t
  serves name s t h =
      joined (tried_events w jobs name (next_job jobs s name) s h.0 h.1) (wrote_events w jobs name (lent_post h.0 name) h.0 t h.2) s h.0 t
      (tries name (next_job jobs s name) s h.0 refl h.1) (writes name (lent_post h.0 name) h.0 t refl h.2)

  acks : (name : EndId) (o : Option LentRingEnd) (s t : TheRun S) → lent_ring_end s name ≡ o → (h : AcksFrom w name o s t) → AllHappen w jobs s (acked_events w jobs name o s t h) t
  acks name None s t ring_end h = h
  acks name (Some b) s t ring_end h = one (acked name b.side h.0) s t refl (b, ring_end, refl) h.1

  -- ---- for a dispatcher

  turns_if : (b : Bool) (d : ℕ) (name : EndId) (due : LentTakeEnd) (s t : TheRun S) → lent_due s d ≡ Some due → place_of s.core name ≡ Some due.end
      → awaits jobs s name ≡ b → (h : TurnsIf w b (due_turn d name due) s t) → AllHappen w jobs s (turned_if_events w jobs b (due_turn d name due) s t h) t
  turns_if true d name due s t is place waits h = h
  turns_if false d name due s t is place waits h = one (turned d name due.inlet h.0) s t refl (due, is, place, refl, waits) h.1

  turns : (d : ℕ) (o : Option LentTakeEnd) (s t : TheRun S) → lent_due s d ≡ o → (h : TurnsAt w jobs d o s t) → AllHappen w jobs s (turned_events w jobs d o s t h) t
  turns d None s t is h = h
  turns d (Some due) s t is h = turns_if (awaits jobs s h.0) d h.0 due s t is h.1 refl h.2

  -- ---- steps in a row, and turns

  swept : (step : ℕ → TheRun S → TheRun S → Type 0) (events : (n : ℕ) (s t : TheRun S) → step n s t → List (Event S))
      → ((n : ℕ) (s t : TheRun S) (h : step n s t) → AllHappen w jobs s (events n s t h) t) → (k : ℕ) (s t : TheRun S) (h : Swept step k s t)
      → AllHappen w jobs s (swept_events step events k s t h) t
  swept step events each zero s t h = h
  swept step events each (suc k) s t h = joined (swept_events step events k s h.0 h.1) (events k h.0 t h.2) s h.0 t (swept step events each k s h.0 h.1) (each k h.0 t h.2)

  each_one : {X : Type 0} (xs : List X) (step : X → TheRun S → TheRun S → Type 0) (events : (x : X) (s t : TheRun S) → step x s t → List (Event S))
      → ((x : X) (s t : TheRun S) (h : step x s t) → AllHappen w jobs s (events x s t h) t) → (k : ℕ) (s t : TheRun S) (h : Swept (At xs step) k s t)
      → AllHappen w jobs s (each_events xs step events k s t h) t
  each_one xs step events each k s t h = swept (At xs step) (λ n u v one. events one.0 u v one.2) (λ n u v one. each one.0 u v one.2) k s t h

  turn : (plan : TurnPlan) (s t : TheRun S) (h : OneTurn w plan jobs s t) → AllHappen w jobs s (turn_events w jobs plan s t h) t
  turn plan s t h =
      let a = each_one plan.links.items (Forwards w) (λ l u v one. forward_events w jobs l (lent_link_side u l) u v one)
      (λ l u v one. forward l (lent_link_side u l) u v refl one) (length plan.links.items) s h.forwarded h.forwards in
      let b = each_one plan.links.items (Says w) (λ l u v one. said_events w jobs l (lent_link_side u l) u v one)
      (λ l u v one. says l (lent_link_side u l) u v refl one) (length plan.links.items) h.forwarded h.said h.says in
      let c = each_one plan.ends.items (Serves w jobs) (served_events w jobs) serves (length plan.ends.items) h.said h.served h.serves in
      let d = swept (TakesTurn w jobs) (λ n u v one. turned_events w jobs n (lent_due u n) u v one)
      (λ n u v one. turns n (lent_due u n) u v refl one) plan.dispatchers h.served h.turned h.turns in
      let e = each_one plan.links.items (Tells w) (λ l u v one. told_events w jobs l (lent_link_side u l) u v one)
      (λ l u v one. tells l (lent_link_side u l) u v refl one) (length plan.links.items) h.turned h.told h.tells in
      let f = each_one plan.ends.items (Acknowledges w) (λ name u v one. acked_events w jobs name (lent_ring_end u name) u v one)
      (λ name u v one. acks name (lent_ring_end u name) u v refl one) (length plan.ends.items) h.told t h.acks in
      joined _ _ s h.forwarded t a (joined _ _ h.forwarded h.said t b (joined _ _ h.said h.served t c (joined _ _ h.served h.turned t d (joined _ _ h.turned h.told t e f))))

  pub happened : (plan : TurnPlan) (k : ℕ) (s t : TheRun S) (h : Turned w plan jobs k s t) → AllHappen w jobs s (events_of w jobs plan k s t h) t
  happened plan k s t h = swept (λ n. OneTurn w plan jobs) (λ n u v one. turn_events w jobs plan u v one) (λ n u v one. turn plan u v one) k s t h
