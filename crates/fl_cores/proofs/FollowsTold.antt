-- What a report tells of an end of a core's cut is what the machine's end accepted, and what came there.
use Rattle.std.proofs.Common.{◌≡◌, ◌⊎◌, inl, inr, refl, sym, ◌∙◌, ap, subst, ℕ, zero, suc, Bool, true, false, if◌then◌else◌, List, [], ◌∷◌, ◌++◌, length, replicate, slice_get}
use Rattle.std.proofs.Common.{Option, Some, None, arith}
use Rattle.std.specs.List.{flat_map, AllZip}
use Rattle.std.proofs.lemmas.List.{length-map}
use Rattle.fl_base.specs.declared.identity.EndId.{EndId}
use Rattle.fl_base.specs.declared.identity.Side.{Side}
use Rattle.fl_base.specs.declared.identity.Side.TheVariants.{Client, Server}
use Rattle.fl_value_data.specs.Value.{TheCall}
use Rattle.fl_ring.specs.SharedSides.{TheSide}
use Rattle.fl_endpoint.specs.Accounts.{replies_by}
use Rattle.fl_endpoint.specs.View.{TheOutgoing, has_rules}
use Rattle.fl_core.proofs.BoardPlaces.{one_stands}
use Rattle.fl_core.specs.BoardView.{TheEndAtChannel}
use Rattle.fl_core.specs.declared.core_job.CoreJob.{CoreJob}
use Rattle.fl_core.specs.declared.wiring.EndWiring.{EndWiring}
use Rattle.fl_core.specs.declared.wiring.EndWiring.TheVariants.{Queues, Ring}
use Rattle.fl_core.specs.declared.wiring.WiredEnd.{WiredEnd}
use Rattle.fl_core.specs.Jobs.{HasNoRule, RulesLead, calls_of_jobs}
use Rattle.fl_core.specs.Sound.{IsCore}
use Rattle.fl_core.specs.View.{place_in, place_of}
use Rattle.fl_core_run.specs.Accepted.{count_waiting, accepted_of}
use Rattle.fl_core_run.proofs.Accepting.{waiting_is}
use Rattle.fl_core_run.specs.LogEntries.{LogEntry, looked, passed, arrived, heard, said, told, opened, called, ruled, wrote, acked, turned}
use Rattle.fl_core_run.specs.Run.{TheRun}
use Rattle.fl_core_run_laws.specs.Carried.{rules_by, rules_in, rules_at, sets_rule, SetsNone, RulesFirst, RulesComeFirst, SentAreMade, SentAreReplies, sent_at, calls_handled}
use Rattle.fl_core_run_laws.specs.Logs.{Goes, ProgressTellHandled}
use Rattle.fl_core_run_laws.specs.Made.{LogsMakeJobs, DoneAreFirst, done_of, made_at}
use Rattle.fl_model.specs.Monitors.{Service}
use Rattle.fl_cores_file.specs.Jobs.{Job, own_calls}
use Rattle.fl_cores_file.specs.Report.{TheReport, at_end}
use Rattle.fl_cores_jobs.specs.declared.end_work.BindingCores.{BindingCores}
use Rattle.fl_cores_jobs.specs.EndWork.{TheEndWork, end_work_at, is_ruled, reply_by, IsEndWork}
use Rattle.fl_cores_jobs.specs.Joined.{core_of}
use Rattle.fl_cores_jobs.specs.State.{TheJoinedJobs}
use Rattle.fl_core_refines.specs.CutEnds.{EndCut}
use Rattle.fl_core_refines.specs.Cut.{ShowsSeat, ShowsCut}
use Rattle.fl_core_refines.specs.CutStart.{first_end}
use Rattle.fl_core_turned.specs.TurnEvents.{Event, log_of}
use Rattle.fl_core_turned.specs.Turned.{CutMoment, moment, AllFollow}
use Rattle.fl_cores_laws.specs.Bindings.{IsOffLinks}
use Rattle.fl_cores_laws.specs.Cores.{shared_ways, OneCore, Went}
use Rattle.fl_cores_laws.specs.Ends.{HasProgress, AreItsRules, StandsReady}
use Rattle.fl_cores_laws.specs.Told.{handled_by, sent_by, made_by}
use Rattle.fl_cores_laws.proofs.GivenWork.{calls_there, has_none, replies_are, made_unruled}
use Rattle.fl_cores_laws.proofs.Prefixes.{as_same, of_none}
use Rattle.fl_cores.proofs.FollowsProgress.{all_left, handled_is, done_is, done_first}
use Rattle.fl_cores.specs.Follows.{TellsEnd}
use Rattle.fl_cores.proofs.FollowsSent.{all_of, IsOk, at_home, ends_go, shows_last}
use Rattle.fl_cores.proofs.FollowsMade.{made_goes}
use Rattle.fl_cores.proofs.OneSends.{front}

-- ---- rules that stay

rules_stay_by : (name : EndId) (rules : List (Option ℕ)) (log_entry : LogEntry) → sets_rule name log_entry ≡ false → rules_in name rules log_entry ≡ rules
rules_stay_by name rules (ruled e msg reply answer) none = ap (λ (b : Bool). if b then rules_by msg reply answer rules else rules) none
rules_stay_by name rules (looked n l answer) none = refl
rules_stay_by name rules (passed n k frag c outcome) none = refl
rules_stay_by name rules (arrived n l frag e answer) none = refl
rules_stay_by name rules (heard n l frag answer) none = refl
rules_stay_by name rules (said n l answer) none = refl
rules_stay_by name rules (told n l answer) none = refl
rules_stay_by name rules (opened e request answer) none = refl
rules_stay_by name rules (called e c answer) none = refl
rules_stay_by name rules (wrote e out answer) none = refl
rules_stay_by name rules (acked e n answer) none = refl
rules_stay_by name rules (turned d e from answer) none = refl

rules_stay : (name : EndId) (rules : List (Option ℕ)) (log : List LogEntry) → SetsNone name log → rules_at name rules log ≡ rules
rules_stay name rules [] none = refl
rules_stay name rules (log_entry ∷ log) none =
    ap (λ (now : List (Option ℕ)). rules_at name now log) (rules_stay_by name rules log_entry none.0) ∙ rules_stay name rules log none.1

none_first : (name : EndId) (log : List LogEntry) → SetsNone name log → RulesFirst name log
none_first name [] none = tt
none_first name (log_entry ∷ log) none = (inr none.1, none_first name log none.1)

-- ---- what a log tells that an end came to send, its end's progress has

pub record SentLaws : Type 0 where
  pub handled : ProgressTellHandled shared_ways
  pub made : LogsMakeJobs shared_ways
  pub first : DoneAreFirst shared_ways
  pub rules : RulesComeFirst shared_ways
  pub sent_made : SentAreMade
  pub sent_replies : SentAreReplies

-- an end of these rules at first: it has those of its end's work before it handles a call, or has none and gets none
pub record RulesInTime (d : TheEndWork) (e : EndId) (had : List (Option ℕ)) (log : List LogEntry) : Type 0 where
  pub unruled : is_ruled d ≡ false → (has_rules had ≡ false) × SetsNone e log
  pub first : RulesFirst e log
  pub rules : (calls_handled e log ≡ []) ⊎ AreItsRules (rules_at e had log) d

module _ (l : SentLaws) (asked : List Job) (jobs : List CoreJob) (d : TheEndWork) (e : EndId) (c : OneCore) (k : IsEndWork asked jobs e d)
    (h : HasProgress d c.start e) (w : Went jobs c) where
  pub sets_none : HasNoRule jobs d.jobs → SetsNone e c.log
  sets_none none = (l.rules jobs c.start c.finish c.log e w.goes).1 (subst (λ (places : List ℕ). HasNoRule jobs places) (sym (all_left d c.start e h)) none)

  pub rules_lead : RulesLead jobs d.jobs → RulesFirst e c.log
  rules_lead lead = (l.rules jobs c.start c.finish c.log e w.goes).0 (subst (λ (places : List ℕ). RulesLead jobs places) (sym (all_left d c.start e h)) lead)

  pub handled_here : handled_by c.finish e ≡ calls_handled e c.log
  handled_here = handled_is l.handled l.made l.first jobs d e c h w

  done_here : done_of jobs c.finish e ≡ made_at e c.log
  done_here = done_is l.handled l.made l.first jobs d e c h w

  none_made : is_ruled d ≡ true → made_at e c.log ≡ []
  none_made q =
      sym done_here
      ∙ of_none (done_of jobs c.finish e) (own_calls asked e)
      (as_same (done_of jobs c.finish e) (done_of jobs c.finish e) (calls_of_jobs jobs d.jobs) (own_calls asked e) refl (calls_there asked jobs e d k)
      (done_first l.handled l.made l.first jobs d e c h w))
      (k.asked.alone (sym k.asked.ruled ∙ q))

  by_rules : (had : List (Option ℕ)) → (calls_handled e c.log ≡ []) ⊎ AreItsRules (rules_at e had c.log) d
      → replies_by (rules_at e had c.log) (calls_handled e c.log) ≡ flat_map (reply_by d.rules) (calls_handled e c.log)
  by_rules had (inl none) = ap (replies_by (rules_at e had c.log)) none ∙ sym (ap (flat_map (reply_by d.rules)) none)
  by_rules had (inr same) = replies_are (rules_at e had c.log) d (calls_handled e c.log) same

  sent_told : (had : List (Option ℕ)) → RulesInTime d e had c.log → (b : Bool) → is_ruled d ≡ b → sent_at e had c.log ≡ sent_by jobs d c.finish e
  sent_told had u false q =
      l.sent_made e had c.log (u.unruled q).0 (u.unruled q).1
      ∙ sym done_here
      ∙ sym (made_unruled d (done_of jobs c.finish e) (handled_by c.finish e) q)
  sent_told had u true q =
      l.sent_replies e had c.log (none_made q) u.first
      ∙ by_rules had u.rules
      ∙ ap (flat_map (reply_by d.rules)) (sym handled_here)
      ∙ ap (λ (done : List TheCall). done ++ flat_map (reply_by d.rules) (handled_by c.finish e)) (sym (done_here ∙ none_made q))

-- ---- an end that stood there as its core's run began

-- ready, on some wiring
pub record Ready (jobs : List CoreJob) (d : TheEndWork) (t : TheRun TheSide) (e : EndId) : Type 0 where
  pub wiring : EndWiring
  pub stands : StandsReady jobs d t e wiring

same_core : (c d : OneCore) (n : ℕ) (cores : List OneCore) → slice_get cores n ≡ Some c → slice_get cores n ≡ Some d → c ≡ d
same_core c d n cores p q = one_stands cores n c d p q

an_end : ℕ → Side → EndId
an_end n side = record { binding = n; side = side }

module _ (j : TheJoinedJobs) (cores : List OneCore) where
  abbrev IsReadyAt : ℕ → Side → OneCore → Type 0
  IsReadyAt n side c = Ready j.jobs (end_work_at j.end_works (record { binding = n; side = side })) c.start (record { binding = n; side = side })

  ready_by : (n : ℕ) (y : BindingCores) (c : OneCore) (side : Side) → slice_get cores (core_of side y) ≡ Some c → (x : IsOffLinks j cores n y) → IsReadyAt n side c
  ready_by n y c Client c_is x =
      let same : x.client ≡ c = same_core x.client c y.client cores x.cores.client c_is in
      elim x.joined [
        | inl q ↦ subst (IsReadyAt n Client) same (record { wiring = Queues q.1.forth q.1.back; stands = q.1.client })
        | inr q ↦ subst (IsReadyAt n Client) same (record { wiring = Ring q.one; stands = q.client })
      ]
  ready_by n y c Server c_is x =
      let same : x.server ≡ c = same_core x.server c y.server cores x.cores.server c_is in
      elim x.joined [
        | inl q ↦ subst (IsReadyAt n Server) (q.0 ∙ same) (record { wiring = Queues q.1.back q.1.forth; stands = q.1.server })
        | inr q ↦ subst (IsReadyAt n Server) same (record { wiring = Ring q.two; stands = q.server })
      ]

  pub ready_at : (e : EndId) (y : BindingCores) (c : OneCore) → slice_get cores (core_of e.side y) ≡ Some c → IsOffLinks j cores e.binding y
      → Ready j.jobs (end_work_at j.end_works e) c.start e
  ready_at e y c c_is x = ready_by e.binding y c e.side c_is x

-- it handled nothing, or has the rules of its end's work in the end
pub record HasRules (d : TheEndWork) (t : TheRun TheSide) (e : EndId) : Type 0 where
  pub place : ℕ
  pub place_is : place_of t.core e ≡ Some place
  pub seat : TheEndAtChannel
  pub seat_is : slice_get t.core.board.seats place ≡ Some seat
  pub rules : AreItsRules seat.end.rules d

abbrev pub RuledLast : TheEndWork → TheRun TheSide → EndId → Type 0
RuledLast d t e = (handled_by t e ≡ []) ⊎ HasRules d t e

abbrev no_rule : Option ℕ
no_rule = None

none_set : (n : ℕ) → has_rules (replicate n no_rule) ≡ false
none_set zero = refl
none_set (suc n) = none_set n

one_number : (n m : ℕ) → Some n ≡ Some m → n ≡ m
one_number n m q = cc

-- ---- events, as a log and on cuts

pub goes_by : (services : List Service) (jobs : List CoreJob) (events : List (Event TheSide)) (a b : CutMoment) → AllFollow services jobs events a b
    → Goes shared_ways jobs a.run (log_of events) b.run
goes_by services jobs [] a b all = ap (λ (m : CutMoment). m.run) all
goes_by services jobs (x ∷ events) a b (cut, first, rest) = (x.run, first.happens, first.in_place, goes_by services jobs events (moment x.run cut) b rest)

-- what stands at a place of the second of two lists that go together
pub record Across {A B : Type 0} (R : A → B → Type 0) (x : A) (ys : List B) (n : ℕ) : Type 0 where
  pub there : B
  pub there_is : slice_get ys n ≡ Some there
  pub holds : R x there

pub across : {A B : Type 0} (R : A → B → Type 0) (xs : List A) (ys : List B) (n : ℕ) (x : A) → AllZip R xs ys → slice_get xs n ≡ Some x → Across R x ys n
across R [] ys n x all q = absurd (cc)
across R (y ∷ xs) [] n x all q = absurd all
across R (y ∷ xs) (z ∷ ys) zero x all q =
    record { there = z; there_is = refl; holds = subst (λ u. R u z) (one_stands (y ∷ xs) zero y x refl q) all.0 }
across R (y ∷ xs) (z ∷ ys) (suc n) x all q =
    let it = across R xs ys n x all.1 q in
    record { there = it.there; there_is = it.there_is; holds = it.holds }

-- ---- one end

pub first_ok : (number : ℕ) (wired_end : WiredEnd) (first : TheEndAtChannel) → IsOk (first_end number wired_end first)
first_ok number wired_end first = record { stations = omega arith; busy = λ some. absurd (some refl) }

-- an end of a core's run, which followed the machine, and what is known of its progress
module _ (l : SentLaws) (asked : List Job) (j : TheJoinedJobs) (r : TheReport) (services : List Service) (events : List (Event TheSide)) (a b : CutMoment)
    (shows : ShowsCut a.cut a.run) (all : AllFollow services j.jobs events a b)
    (core : IsCore a.run.core) (core_last : IsCore b.run.core) (went : Went j.jobs (record { start = a.run; log = log_of events; finish = b.run }))
    (e : EndId) (k : IsEndWork asked j.jobs e (end_work_at j.end_works e)) (progress : HasProgress (end_work_at j.end_works e) a.run e)
    (told_made : at_end r.made e ≡ made_by j.jobs (end_work_at j.end_works e) b.run e) (told_handled : at_end r.handled e ≡ handled_by b.run e) where
  abbrev d : TheEndWork
  d = end_work_at j.end_works e

  abbrev log : List LogEntry
  log = log_of events

  abbrev c : OneCore
  c = record { start = a.run; log = log_of events; finish = b.run }

  last : ShowsCut b.cut b.run
  last = shows_last services j.jobs events a b shows all

  module _ (p : ℕ) (x : EndCut) (is : slice_get b.cut.ends p ≡ Some x) (name_is : x.wired_end.name ≡ e) where
    seat : Across (ShowsSeat b.run.core.monitor.circuits.core) x b.run.core.board.seats p
    seat = across (ShowsSeat b.run.core.monitor.circuits.core) b.cut.ends b.run.core.board.seats p x last.ends is

    pub place_last : place_of b.run.core e ≡ Some p
    place_last =
        ap (λ (places : List (Option ℕ)). place_in places e) (sym last.places)
        ∙ ap (place_in b.cut.places) (sym name_is) ∙ at_home b.cut b.run p x last core_last is

    waits : count_waiting b.run e ≡ length x.end.out.waiting
    waits =
        waiting_is b.run e p seat.there place_last seat.there_is
        ∙ ap (λ (o : TheOutgoing). length o.waiting) seat.holds.shows.outgoing
        ∙ length-map x.end.out.waiting _

    tells : all_of x ≡ sent_by j.jobs d b.run e → x.came.accepted ≡ calls_handled e log → TellsEnd r x
    tells sent came = record {
      made = ap (at_end r.made) name_is ∙ told_made
          ∙ ap (λ (n : ℕ). accepted_of n (sent_by j.jobs d b.run e)) waits
          ∙ ap (accepted_of (length x.end.out.waiting)) (sym sent)
          ∙ front x.end.out.accepted x.end.out.waiting;
      handled = ap (at_end r.handled) name_is ∙ told_handled ∙ handled_here l asked j.jobs d e c k progress went ∙ sym came;
    }

    -- ---- that stood there as the run began

    pub told_there : (number : ℕ) (wired_end : WiredEnd) (first : TheEndAtChannel) → wired_end.name ≡ e → slice_get a.run.core.board.seats p ≡ Some first
        → place_of a.run.core e ≡ Some p → slice_get a.cut.ends p ≡ Some (first_end number wired_end first) → Ready j.jobs d a.run e → TellsEnd r x
    told_there number wired_end first named first_is place_is at ready =
        let on = ends_go services j.jobs events a b shows all e p (first_end number wired_end first) at named (first_ok number wired_end first) in
        let same : on.after ≡ x = one_stands b.cut.ends p on.after x on.after_is is in
        let both : Some ready.stands.place ≡ Some p = sym ready.stands.place_is ∙ place_is in
        let place : ready.stands.place ≡ p = one_number ready.stands.place p both in
        let seated : ready.stands.seat ≡ first
        = one_stands a.run.core.board.seats p ready.stands.seat first (ap (slice_get a.run.core.board.seats) (sym place) ∙ ready.stands.seat_is) first_is in
        let its : AreItsRules first.end.rules d = subst (λ (s : TheEndAtChannel). AreItsRules s.end.rules d) seated ready.stands.rules in
        let none = sets_none l asked j.jobs d e c k progress went ready.stands.no_more in
        let in_time : RulesInTime d e first.end.rules log = record {
          unruled = λ q. (has_none first.end.rules d its q, none);
          first = none_first e log none;
          rules = inr (subst (λ (rules : List (Option ℕ)). AreItsRules rules d) (sym (rules_stay e first.end.rules log none)) its);
        } in
        tells
        (ap all_of (sym same) ∙ on.goes.sent ∙ sent_told l asked j.jobs d e c k progress went first.end.rules in_time (is_ruled d) refl)
        (ap (λ (u : EndCut). u.came.accepted) (sym same) ∙ on.goes.came)

    -- ---- that was made in the run

    pub told_new : place_of a.run.core e ≡ None → RulesLead j.jobs d.jobs → (is_ruled d ≡ false → HasNoRule j.jobs d.jobs) → RuledLast d b.run e → TellsEnd r x
    told_new absent lead none ruled_last =
        let away : place_in a.cut.places e ≡ None = ap (λ (places : List (Option ℕ)). place_in places e) shows.places ∙ absent in
        let here : place_in b.cut.places e ≡ Some p = ap (λ (places : List (Option ℕ)). place_in places e) last.places ∙ place_last in
        let m = made_goes services j.jobs e events a b shows all core_last away p here in
        let had : List (Option ℕ) = replicate m.number None in
        let same : m.after ≡ x = one_stands b.cut.ends p m.after x m.after_is is in
        let rules_now : seat.there.end.rules ≡ rules_at e had log = seat.holds.shows.rules ∙ ap (λ (u : EndCut). u.end.rules) (sym same) ∙ m.rules in
        let in_time : RulesInTime d e had log = record {
          unruled = λ q. (none_set m.number, sets_none l asked j.jobs d e c k progress went (none q));
          first = rules_lead l asked j.jobs d e c k progress went lead;
          rules = elim ruled_last [
            | inl silent ↦ inl (sym (handled_here l asked j.jobs d e c k progress went) ∙ silent)
            | inr y ↦
                (let place : y.place ≡ p = one_number y.place p (sym y.place_is ∙ place_last) in
                let one : y.seat ≡ seat.there
                = one_stands b.run.core.board.seats p y.seat seat.there (ap (slice_get b.run.core.board.seats) (sym place) ∙ y.seat_is) seat.there_is in
                inr (subst (λ (rules : List (Option ℕ)). AreItsRules rules d) (ap (λ (s : TheEndAtChannel). s.end.rules) one ∙ rules_now) y.rules))
          ];
        } in
        tells
        (ap all_of (sym same) ∙ m.sent ∙ sent_told l asked j.jobs d e c k progress went had in_time (is_ruled d) refl)
        (ap (λ (u : EndCut). u.came.accepted) (sym same) ∙ m.came)
