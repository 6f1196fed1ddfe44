-- What an end handled in its core's turns stands at its progress, and so in the report.
use Rattle.std.proofs.Common.{◌≡◌, ◌≢◌, refl, sym, ◌∙◌, ap, ℕ, zero, suc, ◌<◌, ◌==◌, ◌&&◌, Bool, true, false, if◌then◌else◌, List, [], ◌∷◌, ◌++◌, length, map, slice_get, Option, Some, None, arith}
use Rattle.std.specs.Prelude.{Ok, Err}
use Rattle.std.specs.List.{AllZip}
use Rattle.std.proofs.lemmas.Bool.{eq-eqb, eqb-true}
use Rattle.std.proofs.lemmas.List.{map-append}
use Rattle.fl_base.specs.declared.identity.EndId.{EndId}
use Rattle.fl_base.specs.declared.identity.Side.{Side}
use Rattle.fl_base.specs.declared.identity.Side.TheVariants.{Client, Server}
use Rattle.fl_base.specs.Given.{given}
use Rattle.fl_value_data.specs.Value.{TheCall, call_of}
use Rattle.fl_value_data.specs.declared.value.Call.{Call}
use Rattle.fl_hop.proofs.Lists.{at_within}
use Rattle.fl_hop.specs.Stretch.{same_side, same_end}
use Rattle.fl_ring.specs.SharedSides.{TheSide}
use Rattle.fl_endpoint.specs.declared.answer.WriteAnswer.TheVariants as write
use Rattle.fl_hop.specs.declared.forward.ForwardOutcome.TheVariants as outcome
use Rattle.fl_core.specs.declared.answer.LinkFront.TheVariants as front
use Rattle.fl_core.specs.declared.answer.MonitorAnswer.TheVariants as answered
use Rattle.fl_core.specs.declared.answer.MonitorWrite.TheVariants as written
use Rattle.fl_core.specs.declared.turn_answer.AckAnswer.TheVariants as ack
use Rattle.fl_core.specs.declared.core_job.CoreJob.{CoreJob}
use Rattle.fl_core.specs.declared.turn_answer.TurnAnswer.{TurnAnswer}
use Rattle.fl_core.specs.declared.turn_answer.TurnAnswer.TheVariants as turn
use Rattle.fl_core_run.specs.EndProgress.{TheEndProgress, progress_place}
use Rattle.fl_core_run.specs.LogEntries.{LogEntry, looked, passed, arrived, heard, said, told, opened, called, ruled, wrote, acked, turned}
use Rattle.fl_core_run.specs.Run.{TheRun}
use Rattle.fl_core_run_laws.specs.Logs.{call_in, handled_in, handled_at, handled_of, in_progress, Goes}
use Rattle.fl_core_run_laws.proofs.Handling.{progresses_tell}
use Rattle.fl_core_turned.specs.TurnEvents.{Event, event, log_of}
use Rattle.fl_core_turned.specs.Turned.{shared_ways}
use Rattle.fl_model.specs.Runs.{Exchange, calls_handled, same_side as same_side_there, same_end as same_end_there, handled_in as handled_there}
use Rattle.fl_world_refines.specs.Taking.{turn_answer}
use Rattle.fl_world_refines.proofs.PassingLists.{some_is}
use Rattle.fl_cores_fork.specs.Runs.{TheCoreThread, TheFinishedCore, RanTo}
use Rattle.fl_cores_jobs.specs.declared.end_work.BindingCores.{BindingCores}
use Rattle.fl_cores_jobs.specs.Joined.{core_of, core_at}
use Rattle.fl_cores_laws.specs.EndedBegins.{Ran}
use Rattle.fl_cores_laws.specs.EndedCores.{OneCore}
use Rattle.fl_cores_laws.proofs.Complete.{core_below}
use Rattle.fl_cores_laws.proofs.EndedProgress.{has_place, is_some_by}
use Rattle.fl_cores.specs.Behind.{core_of as one_core, cores_of, joined_in, cores_in}
use Rattle.fl_cores.specs.Outcomes.{ReportsAreOfRuns}
use Rattle.fl_cores.specs.Promised.{Reports}
use Rattle.fl_cores_file.specs.Jobs.{Job}
use Rattle.fl_cores_file.specs.Report.{TheReport, at_end}
use Rattle.fl_world.specs.Booting.{TheConfig}
use Rattle.fl_cores_joined.specs.Joined.{JoinedCore, alone}
use Rattle.fl_cores_joined.specs.Steps.{Moment, does, forwards, Follows, Interleaves, asks, forward_asks}
use Rattle.fl_cores_joined.specs.Runs.{asked_in}
use Rattle.fl_cores_whole.specs.Whole.{begun, events_at}

-- ---- whether two ends are one, as logs and as the machine ask it

turned_round : (a b : ℕ) → (a == b) ≡ (b == a)
turned_round a b = by (a == b) (b == a) refl refl
  where
    by : (x y : Bool) → (a == b) ≡ x → (b == a) ≡ y → (a == b) ≡ (b == a)
    by true true p q = p ∙ sym q
    by false false p q = p ∙ sym q
    by true false p q = absurd (let e : true ≡ false = sym (eq-eqb b a (sym (eqb-true a b p))) ∙ q in cc)
    by false true p q = absurd (let e : true ≡ false = sym (eq-eqb a b (sym (eqb-true b a q))) ∙ p in cc)

ends_alike : (e f : EndId) → same_end e f ≡ same_end_there f e
ends_alike e f = by e.side f.side
  where
    by : (a b : Side) → ((e.binding == f.binding) && same_side a b) ≡ ((f.binding == e.binding) && same_side_there b a)
    by Client Client = ap (λ (x : Bool). x && true) (turned_round e.binding f.binding)
    by Client Server = ap (λ (x : Bool). x && false) (turned_round e.binding f.binding)
    by Server Client = ap (λ (x : Bool). x && false) (turned_round e.binding f.binding)
    by Server Server = ap (λ (x : Bool). x && true) (turned_round e.binding f.binding)

none_either : {X : Type 0} (b : Bool) → (if b then (let none : List X = [] in none) else []) ≡ []
none_either true = refl
none_either false = refl

-- ---- an event, and what is asked of the machine for it

module _ (e : EndId) where
  abbrev calls : List Exchange → List TheCall
  calls xs = calls_handled e xs

  abbrev logged : LogEntry → List TheCall
  logged log_entry = map call_of (handled_in e log_entry)

  by_answer : (name : EndId) (answer : TurnAnswer) → handled_there e (turn_answer name answer) ≡ map call_of (if same_end name e then call_in answer else [])
  by_answer name (turn.Handle call) =
      sym (ap (λ (b : Bool). map call_of (if b then call ∷ [] else [])) (ends_alike name e) ∙ one (same_end_there e name))
    where
      one : (b : Bool) → map call_of (if b then call ∷ [] else []) ≡ (if b then call_of call ∷ [] else [])
      one true = refl
      one false = refl
  by_answer name turn.Part = sym (ap (map call_of) (none_either (same_end name e)))
  by_answer name turn.Ready = sym (ap (map call_of) (none_either (same_end name e)))
  by_answer name turn.Quiet = sym (ap (map call_of) (none_either (same_end name e)))
  by_answer name turn.Full = sym (ap (map call_of) (none_either (same_end name e)))
  by_answer name turn.Nothing = sym (ap (map call_of) (none_either (same_end name e)))
  by_answer name (turn.Refused fault) = sym (ap (map call_of) (none_either (same_end name e)))

  -- but for a turn nothing is handled
  of_event : (m : ℕ) (r : TheRun TheSide) (log_entry : LogEntry) (zs : List Exchange) → calls (asks m r log_entry ++ zs) ≡ logged log_entry ++ calls zs
  of_event m r (looked side l (Ok front.Nothing)) zs = refl
  of_event m r (looked side l (Ok front.Acknowledged)) zs = refl
  of_event m r (looked side l (Ok (front.Message frag))) zs = refl
  of_event m r (looked side l (Ok (front.Onward frag to c))) zs = refl
  of_event m r (looked side l (Ok (front.Arrival frag name))) zs = refl
  of_event m r (looked side l (Err fault)) zs = refl
  of_event m r (passed side to frag c outcome) zs = refl
  of_event m r (arrived side l frag name answer) zs = refl
  of_event m r (heard side l frag answer) zs = refl
  of_event m r (said side l written.Written) zs = refl
  of_event m r (said side l written.Full) zs = refl
  of_event m r (said side l written.Spent) zs = refl
  of_event m r (said side l written.Nothing) zs = refl
  of_event m r (told side l ack.Done) zs = refl
  of_event m r (told side l ack.Nothing) zs = refl
  of_event m r (told side l ack.Full) zs = refl
  of_event m r (opened name request (Ok place)) zs = refl
  of_event m r (opened name request (Err fault)) zs = refl
  of_event m r (called name c (Ok done)) zs = refl
  of_event m r (called name c (Err fault)) zs = refl
  of_event m r (ruled name msg reply (Ok done)) zs = refl
  of_event m r (ruled name msg reply (Err fault)) zs = refl
  of_event m r (wrote name out (Ok (write.Written number count))) zs = refl
  of_event m r (wrote name out (Ok write.Full)) zs = refl
  of_event m r (wrote name out (Ok write.Nothing)) zs = refl
  of_event m r (wrote name out (Err fault)) zs = refl
  of_event m r (acked name side (Ok ack.Done)) zs = refl
  of_event m r (acked name side (Ok ack.Nothing)) zs = refl
  of_event m r (acked name side (Ok ack.Full)) zs = refl
  of_event m r (acked name side (Err fault)) zs = refl
  of_event m r (turned d name from answer) zs = ap (λ (l : List TheCall). l ++ calls zs) (by_answer name answer)

  of_forward : (m : ℕ) (r : TheRun TheSide) (look follows : LogEntry) (zs : List Exchange) → Follows look follows
      → calls (forward_asks m r look follows ++ zs) ≡ calls zs
  of_forward m r (looked i l (Ok (front.Message frag))) (heard a b f (Ok answered.Full)) zs h = refl
  of_forward m r (looked i l (Ok (front.Message frag))) (heard a b f (Ok answered.Done)) zs h = refl
  of_forward m r (looked i l (Ok (front.Message frag))) (heard a b f (Ok (answered.Opened name))) zs h = refl
  of_forward m r (looked i l (Ok (front.Message frag))) (heard a b f (Ok (answered.OpeningRefused name reason))) zs h = refl
  of_forward m r (looked i l (Ok (front.Message frag))) (heard a b f (Err fault)) zs h = refl
  of_forward m r (looked i l (Ok (front.Onward frag to c))) (passed a b f d outcome.Moved) zs h = refl
  of_forward m r (looked i l (Ok (front.Onward frag to c))) (passed a b f d outcome.Full) zs h = refl
  of_forward m r (looked i l (Ok (front.Onward frag to c))) (passed a b f d outcome.Spent) zs h = refl
  of_forward m r (looked i l (Ok (front.Arrival frag name))) (arrived a b f d (Ok outcome.Moved)) zs h = refl
  of_forward m r (looked i l (Ok (front.Arrival frag name))) (arrived a b f d (Ok outcome.Full)) zs h = refl
  of_forward m r (looked i l (Ok (front.Arrival frag name))) (arrived a b f d (Ok outcome.Spent)) zs h = refl
  of_forward m r (looked i l (Ok (front.Arrival frag name))) (arrived a b f d (Err fault)) zs h = refl
  of_forward m r look follows zs h = absurd h

  -- ---- and the same in a log

  one_logged : (b : Bool) (x : Event TheSide) (xs : List (Event TheSide))
      → map call_of (handled_at e (log_of ((if b then x ∷ [] else []) ++ xs))) ≡ (if b then logged x.log_entry else []) ++ map call_of (handled_at e (log_of xs))
  one_logged true x xs = map-append call_of (handled_in e x.log_entry) (handled_at e (log_of xs))
  one_logged false x xs = refl

  two_logged : (b : Bool) (x y : Event TheSide) (xs : List (Event TheSide)) → handled_in e x.log_entry ≡ [] → handled_in e y.log_entry ≡ []
      → map call_of (handled_at e (log_of ((if b then x ∷ y ∷ [] else []) ++ xs))) ≡ map call_of (handled_at e (log_of xs))
  two_logged true x y xs p q = λ j. map call_of (p j ++ (q j ++ handled_at e (log_of xs)))
  two_logged false x y xs p q = refl

  record HandleNothing (look follows : LogEntry) : Type 0 where
    first : handled_in e look ≡ []
    second : handled_in e follows ≡ []

  forwards_handle_nothing : (look follows : LogEntry) → Follows look follows → HandleNothing look follows
  forwards_handle_nothing (looked i l (Ok (front.Message frag))) (heard a b f answer) h = record { first = refl; second = refl }
  forwards_handle_nothing (looked i l (Ok (front.Onward frag to c))) (passed a b f d outcome) h = record { first = refl; second = refl }
  forwards_handle_nothing (looked i l (Ok (front.Arrival frag name))) (arrived a b f d answer) h = record { first = refl; second = refl }
  forwards_handle_nothing look follows h = absurd h

  -- ---- an interleaving in which no other core than n handles a call there

  module _ (n : ℕ) (jobs : List CoreJob) where
    abbrev handled_by : ℕ → (moments : List Moment) (xs ys : List JoinedCore) → Interleaves jobs xs moments ys → List TheCall
    handled_by m moments xs ys h = map call_of (handled_at e (log_of (events_at m jobs xs moments ys h)))

    -- where the first is none, so are the others
    none_later : (xs ys : List TheCall) → xs ++ ys ≡ [] → (xs ≡ []) × (ys ≡ [])
    none_later [] ys none = (refl, none)
    none_later (x ∷ xs) ys none = absurd (let e = ap length none in omega (arith, e))

    abbrev Elsewhere : (moments : List Moment) (xs ys : List JoinedCore) → Interleaves jobs xs moments ys → Type 0
    Elsewhere moments xs ys h = (m : ℕ) → m ≢ n → handled_by m moments xs ys h ≡ []

    -- of an event of core m that core alone has it
    at_one : (m k : ℕ) (x : Event TheSide) (events : List (Event TheSide))
        → map call_of (handled_at e (log_of ((if m == k then x ∷ [] else []) ++ events))) ≡ []
        → map call_of (handled_at e (log_of events)) ≡ []
    at_one m k x events none =
        (none_later (if m == k then logged x.log_entry else []) (map call_of (handled_at e (log_of events))) (sym (one_logged (m == k) x events) ∙ none)).1

    alike : (m : ℕ) → (m == m) ≡ true
    alike m = eq-eqb m m refl

    this_one : (m : ℕ) (x : Event TheSide) (events : List (Event TheSide))
        → map call_of (handled_at e (log_of ((if m == m then x ∷ [] else []) ++ events))) ≡ []
        → logged x.log_entry ≡ []
    this_one m x events none =
        ap (λ (b : Bool). if b then logged x.log_entry else []) (sym (alike m))
        ∙ (none_later (if m == m then logged x.log_entry else []) (map call_of (handled_at e (log_of events))) (sym (one_logged (m == m) x events) ∙ none)).0

    pub of_all : (moments : List Moment) (xs ys : List JoinedCore) (h : Interleaves jobs xs moments ys) → Elsewhere moments xs ys h
        → calls (asked_in jobs xs moments ys h) ≡ handled_by n moments xs ys h
    of_all [] xs ys h none = refl
    of_all (does m log_entry ∷ moments) xs ys h none =
        let x = event log_entry (alone h.1.1.after) in
        let events = λ (k : ℕ). events_at k jobs h.0 moments ys h.2 in
        of_event m h.1.1.before.run log_entry (asked_in jobs h.0 moments ys h.2)
        ∙ ap (λ (l : List TheCall). logged log_entry ++ l) (of_all moments h.0 ys h.2 (λ k other. at_one m k x (events k) (none k other)))
        ∙ ap (λ (l : List TheCall). l ++ handled_by n moments h.0 ys h.2) (its (m == n) refl (λ other. this_one m x (events m) (none m other)))
        ∙ sym (one_logged (m == n) x (events n))
      where
        its : (b : Bool) → (m == n) ≡ b → (m ≢ n → logged log_entry ≡ []) → logged log_entry ≡ (if m == n then logged log_entry else [])
        its true is at = ap (λ (b : Bool). if b then logged log_entry else []) (sym is)
        its false is at =
            at (λ same. let clash : true ≡ false = sym (eq-eqb m n same) ∙ is in absurd (cc))
            ∙ ap (λ (b : Bool). if b then logged log_entry else []) (sym is)
    of_all (forwards m look follows ∷ moments) xs ys h none =
        let first = event look (alone h.1.1.1.after) in
        let second = event follows (alone h.1.1.2.after) in
        let quiet = forwards_handle_nothing look follows h.1.0 in
        let events = λ (k : ℕ). events_at k jobs h.0 moments ys h.2 in
        of_forward m h.1.1.1.before.run look follows (asked_in jobs h.0 moments ys h.2) h.1.0
        ∙ of_all moments h.0 ys h.2 (λ k other. sym (two_logged (m == k) first second (events k) quiet.first quiet.second) ∙ none k other)
        ∙ sym (two_logged (m == n) first second (events n) quiet.first quiet.second)

-- ---- a core's progress, and what is told of it

-- a core, as a report has it
record Reported (cores : List OneCore) (n : ℕ) (s : TheCoreThread) (o : TheFinishedCore) : Type 0 where
  core : OneCore
  core_is : slice_get cores n ≡ Some core
  began : core.begin.run ≡ s.run
  ended : core.finish ≡ o.run

reported : (jobs : List CoreJob) (limit : ℕ) (threads : List TheCoreThread) (outcomes : List TheFinishedCore) (ran : AllZip (RanTo jobs limit) threads outcomes)
    (n : ℕ) (s : TheCoreThread) (o : TheFinishedCore) → slice_get threads n ≡ Some s → slice_get outcomes n ≡ Some o
    → Reported (cores_of jobs limit threads outcomes ran) n s o
reported jobs limit [] outcomes ran n s o s_is o_is = absurd (cc)
reported jobs limit (t ∷ threads) [] ran n s o s_is o_is = absurd (cc)
reported jobs limit (t ∷ threads) (u ∷ outcomes) ran zero s o s_is o_is =
    record {
      core = one_core jobs limit t u ran.0;
      core_is = refl;
      began = ap (λ (z : TheCoreThread). z.run) (some_is t s s_is);
      ended = ap (λ (z : TheFinishedCore). z.run) (some_is u o o_is);
    }
reported jobs limit (t ∷ threads) (u ∷ outcomes) ran (suc n) s o s_is o_is =
    let it = reported jobs limit threads outcomes ran.1 n s o s_is o_is in
    record { core = it.core; core_is = it.core_is; began = it.began; ended = it.ended }

cores_long : (jobs : List CoreJob) (limit : ℕ) (threads : List TheCoreThread) (outcomes : List TheFinishedCore) (ran : AllZip (RanTo jobs limit) threads outcomes)
    → (length (cores_of jobs limit threads outcomes ran) ≡ length threads) × (length (cores_of jobs limit threads outcomes ran) ≡ length outcomes)
cores_long jobs limit [] [] ran = (refl, refl)
cores_long jobs limit [] (o ∷ outcomes) ran = absurd ran
cores_long jobs limit (s ∷ threads) [] ran = absurd ran
cores_long jobs limit (s ∷ threads) (o ∷ outcomes) ran = let it = cores_long jobs limit threads outcomes ran.1 in (ap suc it.0, ap suc it.1)

-- the core of an end is one of so many
within_cores : (cores : ℕ) (bindings : List BindingCores) (e : EndId) (n : ℕ)
    → ((b : BindingCores) → slice_get bindings e.binding ≡ Some b → core_of e.side b < cores) → core_at bindings e ≡ Some n → n < cores
within_cores cores bindings e n below at = by (slice_get bindings e.binding) refl at
  where
    by : (o : Option BindingCores) → slice_get bindings e.binding ≡ o → given o None (λ (b : BindingCores). Some (core_of e.side b)) ≡ Some n → n < cores
    by None is h = absurd (cc)
    by (Some b) is h = (let less = below b is in let same : core_of e.side b ≡ n = some_is (core_of e.side b) n h in omega (arith, less, same))

none_handled : (o : Option ℕ) (progresses : List TheEndProgress) (d : TheEndProgress) → given o None (λ k. slice_get progresses k) ≡ Some d → d.handled ≡ []
    → given o [] (λ k. in_progress (slice_get progresses k)) ≡ []
none_handled None progresses d is none = absurd (cc)
none_handled (Some k) progresses d is none = ap in_progress is ∙ none

-- the log of core n in a run, which is what this order has of it
pub record OwnLog (jobs : List CoreJob) (s : TheCoreThread) (o : TheFinishedCore) (in_order : List LogEntry) : Type 0 where
  pub log : List LogEntry
  pub log_is : in_order ≡ log
  pub goes : Goes shared_ways jobs s.run log o.run

module _ {c : TheConfig} {jobs : List Job} {limit : ℕ} {r : TheReport} (w : Reports c jobs limit r) where
  -- so it is of each core
  abbrev pub OwnLogs : (moments : List Moment) (ys : List JoinedCore) → Interleaves (joined_in w).jobs (begun w) moments ys → Type 0
  OwnLogs moments ys h = (n : ℕ) (s : TheCoreThread) (o : TheFinishedCore) → slice_get w.ran.ran.ran.core_threads n ≡ Some s
      → slice_get w.ran.ran.ran.outcomes n ≡ Some o
      → OwnLog (joined_in w).jobs s o (log_of (events_at n (joined_in w).jobs (begun w) moments ys h))

-- an end's own core handled just what is told
pub own_calls_are_told : ReportsAreOfRuns → (c : TheConfig) (jobs : List Job) (limit : ℕ) (r : TheReport) (w : Reports c jobs limit r)
    (moments : List Moment) (ys : List JoinedCore) (h : Interleaves (joined_in w).jobs (begun w) moments ys)
    → OwnLogs w moments ys h → (n : ℕ) (e : EndId) → core_at (joined_in w).bindings e ≡ Some n
    → map call_of (handled_at e (log_of (events_at n (joined_in w).jobs (begun w) moments ys h))) ≡ at_end r.handled e
own_calls_are_told runs c jobs limit r w moments ys h own_logs n e own =
    ap (λ (log : List LogEntry). map call_of (handled_at e log)) its.log_is
    ∙ sym (ap (map call_of) handled)
    ∙ sym (ran.progresses.handled e n core.core own core.core_is ∙ ap (λ (t : TheRun TheSide). map call_of (handled_of t e)) core.ended)
  where
    ran : Ran jobs (joined_in w) limit (cores_in w) r
    ran = runs c jobs limit r w

    long : (length (cores_in w) ≡ length w.ran.ran.ran.core_threads) × (length (cores_in w) ≡ length w.ran.ran.ran.outcomes)
    long = cores_long (joined_in w).jobs limit w.ran.ran.ran.core_threads w.ran.ran.ran.outcomes w.ran.ran.ran.ran

    few : n < length (cores_in w)
    few = within_cores (length (cores_in w)) (joined_in w).bindings e n
        (λ b is. core_below (length (cores_in w)) (joined_in w).bindings (joined_in w).owners ran.joined.bindings e.side e.binding b is) own

    s : (t : TheCoreThread) × (slice_get w.ran.ran.ran.core_threads n ≡ Some t)
    s = let a = few in let b = long.0 in at_within w.ran.ran.ran.core_threads n (omega (arith, a, b))

    o : (t : TheFinishedCore) × (slice_get w.ran.ran.ran.outcomes n ≡ Some t)
    o = let a = few in let b = long.1 in at_within w.ran.ran.ran.outcomes n (omega (arith, a, b))

    core : Reported (cores_in w) n s.0 o.0
    core = reported (joined_in w).jobs limit w.ran.ran.ran.core_threads w.ran.ran.ran.outcomes w.ran.ran.ran.ran n s.0 o.0 s.1 o.1

    its : OwnLog (joined_in w).jobs s.0 o.0 (log_of (events_at n (joined_in w).jobs (begun w) moments ys h))
    its = own_logs n s.0 o.0 s.1 o.1

    handled : handled_of o.0.run e ≡ handled_at e its.log
    handled =
        let progress = (ran.begins n core.core core.core_is).progresses e own in
        let (place, place_is, there) = has_place _ core.core.begin.run.progresses progress.progress progress.progress_is in
        let at_first : handled_of core.core.begin.run e ≡ [] =
        none_handled _ core.core.begin.run.progresses progress.progress progress.progress_is progress.none_handled in
        let now_there : progress_place s.0.run.progresses e ≡ Some place =
        ap (λ (t : TheRun TheSide). progress_place t.progresses e) (sym core.began) ∙ place_is in
        progresses_tell shared_ways (joined_in w).jobs s.0.run o.0.run its.log e (is_some_by _ place now_there) its.goes
        ∙ ap (λ (l : List Call). l ++ handled_at e its.log) (sym (ap (λ (t : TheRun TheSide). handled_of t e) core.began) ∙ at_first)
