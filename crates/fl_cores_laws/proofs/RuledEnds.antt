-- The reply rules of an end that is made in a run are set before it handles a call.
use Rattle.std.proofs.Common.{◌≡◌, ◌≢◌, inl, inr, refl, sym, ap, ◌∙◌, subst, ℕ, zero, suc, ◌<◌, ◌==◌, if◌then◌else◌, List, [], ◌∷◌, length, replicate, map, take, drop, slice_get, slice_set, arith, rules}
use Rattle.std.proofs.Common.{Option, Some, None, IsSome, Bool, true, false, Result, Ok, Err}
use Rattle.std.proofs.lemmas.Bool.Decides.{nat_tests}
use Rattle.std.proofs.lemmas.List.{length-set, length-replicate}
use Rattle.std.proofs.lemmas.Option.{slice_get_within}
use Rattle.fl_base.specs.declared.identity.EndId.{EndId}
use Rattle.fl_base.specs.declared.identity.MsgNo.{MsgNo}
use Rattle.fl_base.specs.Given.{given}
use Rattle.fl_value_data.specs.Value.{call_of}
use Rattle.fl_interface.specs.Interface.{TheMessage, TheInterface}
use Rattle.fl_compile.specs.declared.program.Program.{Program}
use Rattle.fl_compile.specs.Programs.{program_of}
use Rattle.fl_core.proofs.BoardPlaces.{one_stands, set_here, set_elsewhere}
use Rattle.fl_core.specs.BoardView.{TheEndAtChannel}
use Rattle.fl_endpoint.specs.View.{TheEnd, interface_in, rule_in, rule_at as rule_of_end}
use Rattle.fl_endpoint.specs.Events.{SetsRule}
use Rattle.fl_endpoint.specs.declared.fault.EndFault.{EndFault}
use Rattle.fl_endpoint.specs.declared.fault.EndFault.TheVariants as fault
use Rattle.fl_hop.proofs.Lists.{at_within}
use Rattle.fl_core.specs.View.{place_of}
use Rattle.fl_core.specs.declared.core_job.CoreJob.{CoreJob}
use Rattle.fl_core.specs.declared.core_job.CoreJob.TheVariants as job
use Rattle.fl_core_run.specs.EndProgress.{TheEndProgress}
use Rattle.fl_core_run.specs.Run.{SideRelations, TheRun, next_job}
use Rattle.fl_core_run.specs.LogEntries.{LogEntry, looked, passed, arrived, heard, said, told, opened, called, ruled, wrote, acked, turned}
use Rattle.fl_core.specs.Jobs.{HasNoRule, RulesLead}
use Rattle.fl_core_run_laws.specs.Logs.{ProgressTellHandled, Goes}
use Rattle.fl_core_run_laws.specs.Made.{LogsMakeJobs, DoneAreFirst, progress_of}
use Rattle.fl_core_run_laws.specs.Carried.{rules_at}
use Rattle.fl_core_run_laws.specs.Flows.{Flows, LogsFlow, MadeCarries}
use Rattle.fl_core_run_laws.proofs.Carrying.{IsHere, log_goes}
use Rattle.fl_core_run_laws.proofs.Handling.{one_end}
use Rattle.fl_core_run_laws.proofs.Seating.{sits_first}
use Rattle.fl_cores_jobs.specs.EndWork.{rule_at, rule_behind, rule_by}
use Rattle.fl_cores_laws.specs.Cores.{shared_ways}
use Rattle.fl_cores_laws.specs.Rules.{FitsInterface, RulesFit, RulesAreSet}
use Rattle.fl_cores_laws.proofs.Progress.{handled_is}
use Rattle.fl_cores_laws.proofs.Ruled.{set_by, set_all, set_joins, next_of, next_at_progress, taken_first, set_none, IsTaken, happened, Left, none_left, AllTaken, Ruled, all_ruled}

-- ---- a rule that fits is set

fit_at : (i : TheInterface) (jobs : List CoreJob) (places : List ℕ) (k place : ℕ) → RulesFit i jobs places → slice_get places k ≡ Some place → FitsInterface i (slice_get jobs place)
fit_at i jobs [] k place fit at = absurd (cc)
fit_at i jobs (x ∷ places) zero place fit at = let same : x ≡ place = cc in subst (λ (p : ℕ). FitsInterface i (slice_get jobs p)) same fit.0
fit_at i jobs (x ∷ places) (suc k) place fit at = fit_at i jobs places k place fit.1 at

fit_by : (i : TheInterface) (jobs : List CoreJob) (places : List ℕ) (k : ℕ) (o : Option ℕ) → slice_get places k ≡ o → RulesFit i jobs places
    → FitsInterface i (given o None λ place. slice_get jobs place)
fit_by i jobs places k None at fit = tt
fit_by i jobs places k (Some place) at fit = fit_at i jobs places k place fit at

set_ok : (x : TheEnd) (m r : MsgNo) (answer : Result (Unit {0}) EndFault) (y : TheEnd) (e : EndId) → FitsInterface (interface_in x) (Some (job.Reply e m r))
    → SetsRule x m.0 r.0 answer y → (done : Unit {0}) × (answer ≡ Ok done)
set_ok x m r (Ok done) y e fit h = (done, refl)
set_ok x m r (Err fault.UnknownMessage) y e fit h = absurd (h.0 (fit.0, fit.1))
set_ok x m r (Err fault.Misfit) y e fit h = absurd (h.2 fit.2)
set_ok x m r (Err fault.NotBound) y e fit h = absurd h
set_ok x m r (Err fault.Failed) y e fit h = absurd h
set_ok x m r (Err fault.Busy) y e fit h = absurd h
set_ok x m r (Err fault.Memory) y e fit h = absurd h
set_ok x m r (Err fault.Spent) y e fit h = absurd h
set_ok x m r (Err (fault.Wire f)) y e fit h = absurd h

-- the end of this name at last
pub record EndsAs {S : Type 0} (t : TheRun S) (name : EndId) (seat : TheEndAtChannel) : Type 0 where
  pub place : ℕ
  pub place_is : place_of t.core name ≡ Some place
  pub seat_is : slice_get t.core.board.seats place ≡ Some seat

module _ {S : Type 0} (w : SideRelations S) (jobs : List CoreJob) (name : EndId) where
  -- its interface is the one that it had
  program_was : (log : List LogEntry) (s t : TheRun S) (h : Goes w jobs s log t) (seat : TheEndAtChannel) → EndsAs t name seat → (e : ℕ) (x : TheEndAtChannel) → (here : IsHere name e x.end s.core)
      → seat.end.program ≡ x.end.program
  program_was log s t h seat last e x here =
      let went = log_goes w jobs name e log s t x.end here h in
      let found : Some e ≡ Some last.place = sym went.sits.here ∙ last.place_is in
      let same : e ≡ last.place = cc in
      let one : went.has.seat ≡ seat =
      one_stands t.core.board.seats last.place went.has.seat seat (subst (λ (i : ℕ). slice_get t.core.board.seats i ≡ Some went.has.seat) same went.has.seat_is) last.seat_is in
      ap (λ (z : TheEndAtChannel). z.end.program) (sym one) ∙ ap (λ (z : TheEnd). z.program) went.has.end_is ∙ went.goes.program

  taken_now : (log_entry : LogEntry) (log : List LogEntry) (s t : TheRun S) (d : TheEndProgress) (h : Goes w jobs s (log_entry ∷ log) t) (seat : TheEndAtChannel) → EndsAs t name seat → progress_of s name ≡ Some d
      → RulesFit (interface_in seat.end) jobs d.jobs → IsTaken name log_entry
  taken_now (ruled e msg reply answer) log s t d h seat last is fit = λ one. (
      let same : e ≡ name = one_end e name one in
      let at : place_of s.core name ≡ Some h.1.1.0 = ap (place_of s.core) (sym same) ∙ h.1.1.1 in
      let x = h.1.1.2.event.event in
      let here : IsHere name h.1.1.0 x.seat.end s.core = record {
        has = record { seat = x.seat; seat_is = x.seat_is; end_is = refl };
        sits = sits_first s.core name h.1.1.0 h.1.3.core at;
      } in
      let program = program_was (ruled e msg reply answer ∷ log) s t h seat last h.1.1.0 x.seat here in
      let fits : FitsInterface (interface_in seat.end) (next_of jobs d) = fit_by (interface_in seat.end) jobs d.jobs d.done (slice_get d.jobs d.done) refl fit in
      let next : next_of jobs d ≡ Some (job.Reply h.2.0 msg reply) = sym (next_at_progress jobs s name d is) ∙ ap (next_job jobs s) (sym same) ∙ h.2.1 in
      let fits_now : FitsInterface (interface_in x.seat.end) (Some (job.Reply h.2.0 msg reply)) =
      subst (λ (p : Program). FitsInterface (program_of p).interface (Some (job.Reply h.2.0 msg reply))) program (subst (FitsInterface (interface_in seat.end)) next fits) in
      set_ok x.seat.end msg reply answer x.end h.2.0 fits_now x.event)
  taken_now (looked n l answer) log s t d h seat last is fit = tt
  taken_now (passed n k frag c outcome) log s t d h seat last is fit = tt
  taken_now (arrived n l frag e answer) log s t d h seat last is fit = tt
  taken_now (heard n l frag answer) log s t d h seat last is fit = tt
  taken_now (said n l answer) log s t d h seat last is fit = tt
  taken_now (told n l answer) log s t d h seat last is fit = tt
  taken_now (opened e request answer) log s t d h seat last is fit = tt
  taken_now (called e c answer) log s t d h seat last is fit = tt
  taken_now (wrote e out answer) log s t d h seat last is fit = tt
  taken_now (acked e n answer) log s t d h seat last is fit = tt
  taken_now (turned k e from answer) log s t d h seat last is fit = tt

  all_taken : (log : List LogEntry) (s t : TheRun S) (d : TheEndProgress) (h : Goes w jobs s log t) (seat : TheEndAtChannel) → EndsAs t name seat → progress_of s name ≡ Some d
      → RulesFit (interface_in seat.end) jobs d.jobs → AllTaken w jobs name log
  all_taken [] s t d h seat last is fit = tt
  all_taken (log_entry ∷ log) s t d h seat last is fit =
      let x = happened w jobs name log_entry s h.0 d is h.1 h.2 in (
        taken_now log_entry log s t d h seat last is fit,
        all_taken log h.0 t x.progress h.3 seat last x.progress_is (subst (RulesFit (interface_in seat.end) jobs) (sym x.jobs_same) fit),
      )

-- ---- the rules that jobs set, message by message

message_there : (i : TheInterface) (m : ℕ) (o : Option TheMessage) → slice_get i.messages m ≡ o → IsSome o → m < length i.messages
message_there i m None at some = absurd (search (rules, some))
message_there i m (Some x) at some = slice_get_within i.messages m x at

one_rule : (i : TheInterface) (o : Option CoreJob) (rules : List (Option ℕ)) (m : ℕ) → FitsInterface i o → length rules ≡ length i.messages
    → (rule_of_end (set_by o rules) m ≡ rule_behind m (rule_of_end rules m) o) × (length (set_by o rules) ≡ length i.messages)
one_rule i None rules m fit long = (refl, long)
one_rule i (Some (job.Open request)) rules m fit long = (refl, long)
one_rule i (Some (job.Call e call)) rules m fit long = (refl, long)
one_rule i (Some (job.Reply e msg reply)) rules m fit long = (by (msg.0 == m) refl, length-set rules msg.0 (Some reply.0) ∙ long) where
  by : (b : Bool) → (msg.0 == m) ≡ b → rule_in (slice_get (slice_set rules msg.0 (Some reply.0)) m) ≡ (if msg.0 == m then Some reply.0 else rule_in (slice_get rules m))
  by true is =
      let same : msg.0 ≡ m = grind (arith, nat_tests, is) in
      let below = message_there i msg.0 (slice_get i.messages msg.0) refl fit.0 in
      let (old, there) = at_within rules msg.0 (omega (arith, below, long)) in
      ap rule_in (subst (λ (k : ℕ). slice_get (slice_set rules msg.0 (Some reply.0)) k ≡ Some (Some reply.0)) same (set_here rules msg.0 old (Some reply.0) there))
      ∙ sym (ap (λ (b : Bool). if b then Some reply.0 else rule_in (slice_get rules m)) is)
  by false is =
      let ne : m ≢ msg.0 = λ e. absurd (grind (arith, nat_tests, is, e)) in
      ap rule_in (set_elsewhere rules msg.0 m (Some reply.0) ne)
      ∙ sym (ap (λ (b : Bool). if b then Some reply.0 else rule_in (slice_get rules m)) is)

all_rules : (i : TheInterface) (jobs : List CoreJob) (places : List ℕ) (rules : List (Option ℕ)) (m : ℕ) → RulesFit i jobs places → length rules ≡ length i.messages
    → rule_of_end (set_all jobs places rules) m ≡ rule_by jobs m (rule_of_end rules m) places
all_rules i jobs [] rules m fit long = refl
all_rules i jobs (place ∷ places) rules m fit long =
    let one = one_rule i (slice_get jobs place) rules m fit.0 long in
    all_rules i jobs places (set_by (slice_get jobs place) rules) m fit.1 one.1
    ∙ ap (λ (rule : Option ℕ). rule_by jobs m rule places) one.0

abbrev no_number : Option ℕ
no_number = None

none_at : (n m : ℕ) → rule_in (slice_get (replicate n no_number) m) ≡ None
none_at zero m = refl
none_at (suc n) zero = refl
none_at (suc n) (suc m) = none_at n m

-- ---- law

module _ (flow : LogsFlow shared_ways) (handled : ProgressTellHandled shared_ways) (made : LogsMakeJobs shared_ways) (first : DoneAreFirst shared_ways) where
  pub rules_are_set : RulesAreSet
  rules_are_set jobs d c e seat w h x = elim (none_left shared_ways jobs e c.log c.start c.finish h.progress w.goes h.progress_is lead) [
    | inl none ↦ inl (handled_is handled made first jobs d e c h w ∙ ap (map call_of) none)
    | inr left ↦ inr (λ m. are_set left m)
  ]
    where
      none_done : drop h.progress.done h.progress.jobs ≡ d.jobs
      none_done = ap (λ (n : ℕ). drop n h.progress.jobs) h.none_done ∙ h.jobs

      lead : RulesLead jobs (drop h.progress.done h.progress.jobs)
      lead = subst (RulesLead jobs) (sym none_done) x.lead

      fit : RulesFit (interface_in seat.end) jobs h.progress.jobs
      fit = subst (RulesFit (interface_in seat.end) jobs) (sym h.jobs) x.fit

      last : EndsAs c.finish e seat
      last = record { place = x.place; place_is = x.place_is; seat_is = x.seat_is }

      flows : Flows shared_ways c.start c.finish c.log
      flows = flow jobs c.start c.finish c.log w.core w.apart w.goes

      new : MadeCarries e c.log (record { put = flows.put e; took = flows.took e }) c.finish.core.board.seats x.place
      new = flows.made e x.place x.absent x.place_is

      after_is : new.carries.after ≡ seat
      after_is = one_stands c.finish.core.board.seats x.place new.carries.after seat new.carries.after_is x.seat_is

      had : List (Option ℕ)
      had = new.began.rules

      ruled_all : Ruled shared_ways jobs e c.log had h.progress c.finish
      ruled_all = all_ruled shared_ways jobs e c.log c.start c.finish h.progress had w.goes h.progress_is (all_taken shared_ways jobs e c.log c.start c.finish h.progress w.goes seat last h.progress_is fit)

      at_first : set_all jobs (take h.progress.done h.progress.jobs) had ≡ had
      at_first = ap (λ (n : ℕ). set_all jobs (take n h.progress.jobs) had) h.none_done

      program : seat.end.program ≡ new.began.program
      program = ap (λ (z : TheEndAtChannel). z.end.program) (sym after_is) ∙ new.carries.goes.program

      long : length had ≡ length (interface_in seat.end).messages
      long = ap length new.new.rules ∙ length-replicate (length (program_of new.began.program).interface.messages) None
          ∙ ap (λ (p : Program). length (program_of p).interface.messages) (sym program)

      none_had : (m : ℕ) → rule_of_end had m ≡ None
      none_had m = ap (λ (rs : List (Option ℕ)). rule_of_end rs m) new.new.rules ∙ none_at (length (program_of new.began.program).interface.messages) m

      are_set : Left shared_ways jobs e (HasNoRule jobs) c.finish → (m : ℕ) → rule_of_end seat.end.rules m ≡ rule_at d.rules m
      are_set left m =
          let both : Some left.progress ≡ Some ruled_all.progress = sym left.progress_is ∙ ruled_all.progress_is in
          let same : left.progress ≡ ruled_all.progress = cc in
          let none : HasNoRule jobs (drop ruled_all.progress.done ruled_all.progress.jobs) = subst (λ (y : TheEndProgress). HasNoRule jobs (drop y.done y.jobs)) same left.holds in
          let js = ruled_all.progress.jobs in
          let n = ruled_all.progress.done in
          let whole : set_all jobs (take n js) had ≡ set_all jobs js had =
          sym (ap (λ (xs : List ℕ). set_all jobs xs had) (taken_first js n) ∙ set_joins jobs (take n js) (drop n js) had ∙ set_none jobs (drop n js) (set_all jobs (take n js) had) none) in
          let rules_now : seat.end.rules ≡ set_all jobs d.jobs had =
          ap (λ (z : TheEndAtChannel). z.end.rules) (sym after_is) ∙ new.carries.rules
          ∙ ap (λ (rs : List (Option ℕ)). rules_at e rs c.log) (sym at_first) ∙ ruled_all.rules ∙ whole
          ∙ ap (λ (xs : List ℕ). set_all jobs xs had) (ruled_all.jobs_same ∙ h.jobs) in
          ap (λ (rs : List (Option ℕ)). rule_of_end rs m) rules_now
          ∙ all_rules (interface_in seat.end) jobs d.jobs had m x.fit long
          ∙ ap (λ (rule : Option ℕ). rule_by jobs m rule d.jobs) (none_had m)
          ∙ sym (x.set m)
