-- Whole turns as a log in which no opening was refused as out of memory: a turn ends where memory is refused, so of whole turns it never is.
use Rattle.std.proofs.Common.{◌≡◌, ◌≢◌, refl, sym, ap, ◌∙◌, subst, ℕ, zero, suc, inl, inr, nat_lt, if◌then◌else◌, List, [], ◌∷◌, ◌++◌, length, slice_set}
use Rattle.std.proofs.Common.{Option, Some, None, Bool, true, false, Result, Ok, Err}
use Rattle.std.proofs.lemmas.List.{length-set}
use Rattle.fl_base.specs.declared.fragment.Frag.{Frag}
use Rattle.fl_base.specs.declared.identity.EndId.{EndId}
use Rattle.fl_base.specs.declared.identity.LinkId.{LinkId}
use Rattle.fl_base.specs.declared.identity.MsgNo.{MsgNo}
use Rattle.fl_base.specs.Control.{circuit_of}
use Rattle.fl_base.specs.Given.{given}
use Rattle.fl_value_data.specs.Value.{call_of}
use Rattle.fl_value_data.specs.declared.value.Call.{Call as AnyCall}
use Rattle.fl_core.specs.declared.answer.LinkFront.{LinkFront}
use Rattle.fl_core.specs.declared.answer.LinkFront.TheVariants as ahead
use Rattle.fl_core.specs.declared.fault.LinkReceiveFault.{LinkReceiveFault}
use Rattle.fl_hop.specs.declared.entry.HopTarget.{HopTarget}
use Rattle.fl_hop.specs.declared.entry.HopTarget.TheVariants.{Link, End}
use Rattle.fl_hop.specs.Forward.{IsOther}
use Rattle.fl_hop.specs.Later.{way_at}
use Rattle.fl_core.specs.View.{TheCore, place_of, side_of_link}
use Rattle.fl_core.specs.declared.core_job.CoreJob.{CoreJob}
use Rattle.fl_core.specs.declared.core_job.CoreJob.TheVariants as job
use Rattle.fl_core.specs.declared.core_job.OpenRequest.{OpenRequest}
use Rattle.fl_core_run.specs.declared.plan.TurnPlan.{TurnPlan}
use Rattle.fl_core_run.specs.declared.run.RunEnd.{RunEnd as EndOf}
use Rattle.fl_core_run.specs.declared.run.RunEnd.TheVariants.{Finished, Unfinished, Told}
use Rattle.fl_core_run.specs.Run.{SideRelations, TheRun, next_job, lent_link_side, lent_post, lent_due, lent_ring_end}
use Rattle.fl_core_run.specs.LogEntries.{LogEntry, looked, passed, arrived, heard, said, told, opened, called, ruled, wrote, acked, turned, Does, Happens}
use Rattle.fl_core_run.specs.Steps.{HandsOut, ForwardsOver, Forwards, SaysOver, Says, TellsOver, Tells, may_ask, OpensIf, CallsAt, Tries, WritesFrom, Serves, AcksFrom, Acknowledges, reply_rule, RulesAt, awaits, due_turn, TurnsIf, TurnsAt, TakesTurn}
use Rattle.fl_core_run.specs.Turn.{Swept, At, OneTurn, Turned}
use Rattle.fl_core.specs.Jobs.{calls_of_job}
use Rattle.fl_core_run.specs.Ran.{RunTask, GoesOn}
use Rattle.fl_core_run_laws.specs.Logs.{LeadsTo, GoesOnOver, InPlace, Goes, CountedAreTurns}
use Rattle.fl_cores_laws.specs.Cores.{shared_ways, IsAmple, AreAmple, CoresGoAmply}
use Rattle.fl_cores_laws.proofs.Whole.{goes_then}

-- what happened, where memory was never wanted for an opening
record Amply {S : Type 0} (w : SideRelations S) (jobs : List CoreJob) (s t : TheRun S) : Type 0 where
  pub log : List LogEntry
  pub goes : Goes w jobs s log t
  pub ample : AreAmple log

both_ample : (xs ys : List LogEntry) → AreAmple xs → AreAmple ys → AreAmple (xs ++ ys)
both_ample [] ys a b = b
both_ample (x ∷ xs) ys a b = (a.0, both_ample xs ys a.1 b)

-- ---- what a look found is in its place

abbrev Foreseen : {S : Type 0} → ℕ → LinkId → Result LinkFront LinkReceiveFault → TheRun S → Type 0
Foreseen n l (Ok (ahead.Message frag)) m = (lent_link_side m l ≡ Some n) × (circuit_of frag.control ≡ 0)
Foreseen n l (Ok (ahead.Onward frag to c)) m = GoesOnOver m n to frag c
Foreseen n l (Ok (ahead.Arrival frag e)) m = LeadsTo m n l frag (End e)
Foreseen n l found m = Unit {0}

module _ {S : Type 0} (s m : TheRun S) (core : m.core ≡ s.core) (many : length m.rings ≡ length s.rings) where
  link_side_stays : (n : ℕ) (l : LinkId) → lent_link_side s l ≡ Some n → lent_link_side m l ≡ Some n
  link_side_stays n l link_side =
      ap (λ (k : TheCore). given (side_of_link k.link_sides l.0) None (λ (i : ℕ). if nat_lt i (length m.rings) then Some i else None)) core
      ∙ ap (λ (r : ℕ). given (side_of_link s.core.link_sides l.0) None (λ (i : ℕ). if nat_lt i r then Some i else None)) many ∙ link_side

  leads : (n : ℕ) (l : LinkId) (frag : Frag) (way : HopTarget) → lent_link_side s l ≡ Some n → circuit_of frag.control ≢ 0
      → way_at s.core.monitor.circuits l.0 (circuit_of frag.control) ≡ Some way → IsOther s.core.monitor.circuits l.0 way → LeadsTo m n l frag way
  leads n l frag way link_side number way_is other = record {
    link_side = link_side_stays n l link_side;
    number = number;
    way_is = ap (λ (k : TheCore). way_at k.monitor.circuits l.0 (circuit_of frag.control)) core ∙ way_is;
    other = subst (λ (k : TheCore). IsOther k.monitor.circuits l.0 way) (sym core) other;
  }

many_rings : {S : Type 0} (s m : TheRun S) (n : ℕ) (after : S) → m ≡ record s { core = m.core; rings = slice_set s.rings n after } → length m.rings ≡ length s.rings
many_rings s m n after rest = ap (λ (x : TheRun _). length x.rings) rest ∙ length-set s.rings n after

foreseen : {S : Type 0} (w : SideRelations S) (n : ℕ) (l : LinkId) (found : Result LinkFront LinkReceiveFault) (s m : TheRun S) → lent_link_side s l ≡ Some n → Does w (looked n l found) s m → Foreseen n l found m
foreseen w n l (Ok ahead.Nothing) s m link_side h = tt
foreseen w n l (Ok ahead.Acknowledged) s m link_side h = tt
foreseen w n l (Ok (ahead.Message frag)) s m link_side h = (link_side_stays s m h.event.1 (many_rings s m n h.after h.rest) n l link_side, h.event.0.finds.2)
foreseen w n l (Ok (ahead.Onward frag to c)) s m link_side h =
    let f = h.event.0.seen.finds in
    record {
      link = l;
      onward = h.event.0.link;
      leads = leads s m h.event.1 (many_rings s m n h.after h.rest) n l frag (Link h.event.0.link c) link_side f.2 f.3 f.5;
      side = ap (λ (k : TheCore). side_of_link k.link_sides h.event.0.link.0) h.event.1 ∙ h.event.0.side_is;
    }
foreseen w n l (Ok (ahead.Arrival frag e)) s m link_side h =
    let f = h.event.0.finds in
    leads s m h.event.1 (many_rings s m n h.after h.rest) n l frag (End e) link_side f.2 f.3 f.5
foreseen w n l (Err fault) s m link_side h = tt

-- ---- step by step

module _ {S : Type 0} (w : SideRelations S) (jobs : List CoreJob) where
  abbrev Went : TheRun S → TheRun S → Type 0
  Went s t = Amply w jobs s t

  nothing : (s t : TheRun S) → t ≡ s → Went s t
  nothing s t same = record { log = []; goes = same; ample = tt }

  one : (log_entry : LogEntry) (s t : TheRun S) → IsAmple log_entry → InPlace jobs s log_entry → Happens w log_entry s t → Went s t
  one log_entry s t ample by h = record { log = log_entry ∷ []; goes = (t, h, by, refl); ample = (ample, tt) }

  next : (s m t : TheRun S) → Went s m → Went m t → Went s t
  next s m t a b = record { log = a.log ++ b.log; goes = goes_then w jobs a.log b.log s m t a.goes b.goes; ample = both_ample a.log b.log a.ample b.ample }

  -- ---- for each link

  hands_out : (n : ℕ) (l : LinkId) (found : Result LinkFront LinkReceiveFault) (s t : TheRun S) → Foreseen n l found s → HandsOut w n l found s t → Went s t
  hands_out n l (Ok ahead.Nothing) s t seen h = nothing s t h
  hands_out n l (Ok ahead.Acknowledged) s t seen h = nothing s t h
  hands_out n l (Ok (ahead.Message frag)) s t seen h = one (heard n l frag h.0) s t tt seen h.1
  hands_out n l (Ok (ahead.Onward frag to c)) s t seen (inl h) = one (passed n to frag c h.0) s t tt seen h.1
  hands_out n l (Ok (ahead.Onward frag to c)) s t seen (inr h) = nothing s t h.1
  hands_out n l (Ok (ahead.Arrival frag e)) s t seen h = one (arrived n l frag e h.0) s t tt seen h.1
  hands_out n l (Err fault) s t seen h = nothing s t h

  forwards_over : (l : LinkId) (o : Option ℕ) (s t : TheRun S) → lent_link_side s l ≡ o → ForwardsOver w l o s t → Went s t
  forwards_over l None s t link_side h = nothing s t h
  forwards_over l (Some n) s t link_side h =
      let seen : Foreseen n l h.0 h.1 = subst (λ (x : TheRun S). Foreseen n l h.0 x) (sym h.2.2) (foreseen w n l h.0 s h.2.0 link_side h.2.1) in
      next s h.1 t (one (looked n l h.0) s h.1 tt link_side h.2) (hands_out n l h.0 h.1 t seen h.3)

  forwards : (l : LinkId) (s t : TheRun S) → Forwards w l s t → Went s t
  forwards l s t h = forwards_over l (lent_link_side s l) s t refl h

  says_over : (l : LinkId) (o : Option ℕ) (s t : TheRun S) → lent_link_side s l ≡ o → SaysOver w l o s t → Went s t
  says_over l None s t link_side h = nothing s t h
  says_over l (Some n) s t link_side h = one (said n l h.0) s t tt link_side h.1

  says : (l : LinkId) (s t : TheRun S) → Says w l s t → Went s t
  says l s t h = says_over l (lent_link_side s l) s t refl h

  tells_over : (l : LinkId) (o : Option ℕ) (s t : TheRun S) → lent_link_side s l ≡ o → TellsOver w l o s t → Went s t
  tells_over l None s t link_side h = nothing s t h
  tells_over l (Some n) s t link_side h = one (told n l h.0) s t tt link_side h.1

  tells : (l : LinkId) (s t : TheRun S) → Tells w l s t → Went s t
  tells l s t h = tells_over l (lent_link_side s l) s t refl h

  -- ---- for each end

  opens : (b : Bool) (name : EndId) (request : OpenRequest) (s t : TheRun S) → next_job jobs s name ≡ Some (job.Open request) → may_ask s request ≡ b → OpensIf w b name request s t → Went s t
  opens false name request s t next may h = nothing s t h
  opens true name request s t next may h = one (opened name request h.0) s t h.2 (next, may) h.1

  calls : (name : EndId) (e : EndId) (call : AnyCall) (o : Option ℕ) (s t : TheRun S) → next_job jobs s name ≡ Some (job.Call e call) → CallsAt w name call o s t → Went s t
  calls name e call None s t next h = nothing s t h
  calls name e call (Some place) s t next h = one (called name (call_of call) h.0) s t tt (ap calls_of_job next) h.1

  sets_rule : (name : EndId) (e : EndId) (msg reply : MsgNo) (o : Option ℕ) (s t : TheRun S) → next_job jobs s name ≡ Some (job.Reply e msg reply)
      → RulesAt w (reply_rule name msg reply) o s t → Went s t
  sets_rule name e msg reply None s t next h = nothing s t h
  sets_rule name e msg reply (Some place) s t next h = one (ruled name msg reply h.0) s t tt (e, next) h.1

  tries : (name : EndId) (o : Option CoreJob) (s t : TheRun S) → next_job jobs s name ≡ o → Tries w name o s t → Went s t
  tries name None s t next h = nothing s t h
  tries name (Some (job.Open request)) s t next h = opens (may_ask s request) name request s t next refl h
  tries name (Some (job.Call e call)) s t next h = calls name e call (place_of s.core name) s t next h
  tries name (Some (job.Reply e msg reply)) s t next h = sets_rule name e msg reply (place_of s.core name) s t next h

  writes : (name : EndId) (o : Option _) (s t : TheRun S) → lent_post s name ≡ o → WritesFrom w name o s t → Went s t
  writes name None s t post h = nothing s t h
  writes name (Some p) s t post h = one (wrote name p.outlet h.0) s t tt (p, post, refl) h.1

  serves : (name : EndId) (s t : TheRun S) → Serves w jobs name s t → Went s t
  serves name s t h = next s h.0 t (tries name (next_job jobs s name) s h.0 refl h.1) (writes name (lent_post h.0 name) h.0 t refl h.2)

  acks_from : (name : EndId) (o : Option _) (s t : TheRun S) → lent_ring_end s name ≡ o → AcksFrom w name o s t → Went s t
  acks_from name None s t ring_end h = nothing s t h
  acks_from name (Some b) s t ring_end h = one (acked name b.side h.0) s t tt (b, ring_end, refl) h.1

  acks : (name : EndId) (s t : TheRun S) → Acknowledges w name s t → Went s t
  acks name s t h = acks_from name (lent_ring_end s name) s t refl h

  -- ---- for each dispatcher

  turns_if : (b : Bool) (d : ℕ) (name : EndId) (due : _) (s t : TheRun S) → lent_due s d ≡ Some due → place_of s.core name ≡ Some due.end → awaits jobs s name ≡ b
      → TurnsIf w b (due_turn d name due) s t → Went s t
  turns_if true d name due s t is place waits h = nothing s t h
  turns_if false d name due s t is place waits h = one (turned d name due.inlet h.0) s t tt (due, is, place, refl, waits) h.1

  takes_turn : (d : ℕ) (o : Option _) (s t : TheRun S) → lent_due s d ≡ o → TurnsAt w jobs d o s t → Went s t
  takes_turn d None s t is h = nothing s t h
  takes_turn d (Some due) s t is h = turns_if (awaits jobs s h.0) d h.0 due s t is h.1 refl h.2

  -- ---- sweeps and turns

  swept : (step : ℕ → TheRun S → TheRun S → Type 0) → ((n : ℕ) (s t : TheRun S) → step n s t → Went s t) → (k : ℕ) (s t : TheRun S) → Swept step k s t → Went s t
  swept step each zero s t h = nothing s t h
  swept step each (suc k) s t h = next s h.0 t (swept step each k s h.0 h.1) (each k h.0 t h.2)

  over : {X : Type 0} (xs : List X) (step : X → TheRun S → TheRun S → Type 0) → ((x : X) (s t : TheRun S) → step x s t → Went s t)
      → (s t : TheRun S) → Swept (At xs step) (length xs) s t → Went s t
  over xs step each s t h = swept (At xs step) (λ n s t at. each at.0 s t at.2) (length xs) s t h

  turn : (plan : TurnPlan) (s t : TheRun S) → OneTurn w plan jobs s t → Went s t
  turn plan s t h =
      next s h.forwarded t (over plan.links.items (Forwards w) forwards s h.forwarded h.forwards)
      (next h.forwarded h.said t (over plan.links.items (Says w) says h.forwarded h.said h.says)
      (next h.said h.served t (over plan.ends.items (Serves w jobs) serves h.said h.served h.serves)
      (next h.served h.turned t (swept (TakesTurn w jobs) (λ d s t h. takes_turn d (lent_due s d) s t refl h) plan.dispatchers h.served h.turned h.turns)
      (next h.turned h.told t (over plan.links.items (Tells w) tells h.turned h.told h.tells) (over plan.ends.items (Acknowledges w) acks h.told t h.acks)))))

  all_turns : (plan : TurnPlan) (k : ℕ) (s t : TheRun S) → Turned w plan jobs k s t → Went s t
  all_turns plan k s t h = swept (λ n. OneTurn w plan jobs) (λ n s t h. turn plan s t h) k s t h

-- ---- a run

on_by : {S : Type 0} (w : SideRelations S) (t : RunTask) (e : EndOf) (s u : TheRun S) → GoesOn w t e s u → Amply w t.jobs s u
on_by w t Finished s u h = all_turns w t.jobs t.plan h.0 s u h.1
on_by w t Unfinished s u h = nothing w t.jobs s u h
on_by w t Told s u h = nothing w t.jobs s u h

pub go_amply : CountedAreTurns shared_ways → CoresGoAmply
go_amply counted t a b part ran =
    let first = all_turns shared_ways t.jobs t.plan part.turns a.run ran.middle.run (counted t a ran.middle part ran.counted) in
    let more = on_by shared_ways t part.end ran.middle.run b.run ran.goes_on in
    let all = next shared_ways t.jobs a.run ran.middle.run b.run first more in
    (all.log, all.goes, all.ample)
