-- An interleaving is a run of the machine, moment by moment.
use Rattle.std.proofs.Common.{◌≡◌, refl, sym, subst, ℕ, false, List, [], ◌∷◌, ◌++◌, Option, Some}
use Rattle.fl_core.specs.declared.core_job.CoreJob.{CoreJob}
use Rattle.std.specs.Prelude.{Result, Ok, Err}
use Rattle.fl_base.specs.declared.fragment.Frag.{Frag}
use Rattle.fl_base.specs.declared.identity.EndId.{EndId}
use Rattle.fl_base.specs.declared.identity.LinkId.{LinkId}
use Rattle.fl_base.specs.declared.identity.Circuit.{Circuit}
use Rattle.fl_base.specs.Given.{given}
use Rattle.fl_hop.specs.declared.forward.ForwardOutcome.{ForwardOutcome}
use Rattle.fl_core.specs.declared.fault.LinkReceiveFault.{LinkReceiveFault}
use Rattle.fl_core.specs.declared.answer.LinkFront.{LinkFront}
use Rattle.fl_core.specs.declared.answer.LinkFront.TheVariants as front
use Rattle.fl_core.specs.declared.answer.MonitorAnswer.{MonitorAnswer}
use Rattle.fl_core.specs.Faults.{link_number}
use Rattle.fl_core_run.specs.Steps.{lacks_to_hear}
use Rattle.fl_core_run.specs.LogEntries.{LogEntry, looked, passed, arrived, heard, said, told, opened, called, ruled, wrote, acked, turned}
use Rattle.fl_model.specs.Events.{Event, forward, Answer, nothing, done, refused}
use Rattle.fl_model.specs.Runs.{Exchange, reached}
use Rattle.fl_model.specs.State.{State}
use Rattle.fl_model.specs.Step.{step}
use Rattle.fl_world_refines.specs.Linking.{moved_answer}
use Rattle.fl_world_refines.specs.Laws.{StepsAgree}
use Rattle.fl_cores_joined.specs.Joined.{JoinedCore, AreWhole}
use Rattle.fl_cores_joined.specs.Steps.{does, forwards, HappensAt, IsWholeEvent, Follows, exchange, asked, neighbour_on, asks}
use Rattle.fl_cores_joined.specs.Steps.{arrival_answer, heard_answer, follow_answer, forward_asks}
use Rattle.fl_cores_joined.specs.Laws.{TheyShow, MachineDoes}
use Rattle.fl_cores_joined.specs.Runs.{asked_in, events_of, MachineRuns, AsksRightlyAt, IsNumberedAt, RunsJoin}
use Rattle.fl_cores_joined.proofs.Writing.{writes_are}
use Rattle.fl_cores_joined.proofs.Turning.{turns_are}
use Rattle.fl_cores_joined.proofs.Calling.{calls_are, rules_are}
use Rattle.fl_cores_joined.proofs.Telling.{acks_are}
use Rattle.fl_cores_joined.proofs.Linking.{says_so, tells_so}
use Rattle.fl_cores_joined.proofs.Looking.{looks_so}
use Rattle.fl_cores_joined.proofs.Arriving.{arrives_there}
use Rattle.fl_cores_joined.proofs.Passing.{passes_there}
use Rattle.fl_cores_joined.proofs.Hearing.{hears_there}
use Rattle.fl_cores_joined.proofs.Opening.{opens_there}
use Rattle.fl_cores_joined.proofs.Earlier.{whole_before, whole_behind}

one_more : (event : Event) (answer : Answer) (s : State) (ms ys : List JoinedCore) (zs : List Exchange) → MachineDoes event answer s ms
    → (TheyShow ms (step s event).state → MachineRuns zs (step s event).state ys) → MachineRuns (exchange event answer ∷ zs) s ys
one_more event answer s ms ys zs k rest =
    let more = rest k.shows in
    record {
      answers = λ i. exchange event (k.answers i) ∷ more.answers i;
      shows = more.shows;
    }

-- from where these lead the machine the others go on; so all of them do
abbrev GoesOn : State → List JoinedCore → List JoinedCore → List Exchange → List Exchange → Type 0
GoesOn s ms ys zs first =
    (TheyShow ms (reached s (events_of first)) → MachineRuns zs (reached s (events_of first)) ys) → MachineRuns (first ++ zs) s ys

module _ (law : StepsAgree) (jobs : List CoreJob) where
  -- one event, and then the others
  by_event : (n : ℕ) (log_entry : LogEntry) (xs ms ys : List JoinedCore) (s : State) (zs : List Exchange) → IsWholeEvent log_entry
      → (h : HappensAt jobs n log_entry xs ms) → AsksRightlyAt xs h.before.run s log_entry → IsNumberedAt xs h.before.run s log_entry
      → TheyShow xs s → AreWhole xs → AreWhole ms
      → (TheyShow ms (reached s (events_of (asks n h.before.run log_entry))) → MachineRuns zs (reached s (events_of (asks n h.before.run log_entry))) ys)
      → MachineRuns (asks n h.before.run log_entry ++ zs) s ys
  by_event n (called name c answer) xs ms ys s zs some h right next show whole still rest =
      one_more _ _ s ms ys zs (calls_are law n name c answer some jobs xs ms s show whole still h) rest
  by_event n (ruled name msg answer r) xs ms ys s zs some h right next show whole still rest =
      one_more _ _ s ms ys zs (rules_are law n name msg answer r jobs xs ms s show whole still h) rest
  by_event n (wrote name out answer) xs ms ys s zs some h right next show whole still rest =
      one_more _ _ s ms ys zs (writes_are law n name out answer jobs xs ms s show whole still h) rest
  by_event n (acked name side answer) xs ms ys s zs some h right next show whole still rest =
      one_more _ _ s ms ys zs (acks_are law n name side answer jobs xs ms s show whole still h) rest
  by_event n (turned d name from answer) xs ms ys s zs some h right next show whole still rest =
      one_more _ _ s ms ys zs (turns_are law n d name from answer jobs xs ms s show whole still h) rest
  by_event n (looked i l (Ok front.Nothing)) xs ms ys s zs some h right next show whole still rest =
      one_more _ _ s ms ys zs (looks_so law n i l jobs xs ms s show whole still (Ok front.Nothing) nothing refl h) rest
  by_event n (looked i l (Ok front.Acknowledged)) xs ms ys s zs some h right next show whole still rest =
      one_more _ _ s ms ys zs (looks_so law n i l jobs xs ms s show whole still (Ok front.Acknowledged) done refl h) rest
  by_event n (looked i l (Err fault)) xs ms ys s zs some h right next show whole still rest =
      one_more _ _ s ms ys zs (looks_so law n i l jobs xs ms s show whole still (Err fault) (refused (link_number fault)) refl h) rest
  by_event n (looked i l (Ok (front.Message frag))) xs ms ys s zs some h right next show whole still rest = absurd some
  by_event n (looked i l (Ok (front.Onward frag to c))) xs ms ys s zs some h right next show whole still rest = absurd some
  by_event n (looked i l (Ok (front.Arrival frag e))) xs ms ys s zs some h right next show whole still rest = absurd some
  by_event n (said i l answer) xs ms ys s zs some h right next show whole still rest =
      one_more _ _ s ms ys zs (says_so law n i l jobs xs ms s show whole still answer h) rest
  by_event n (told i l answer) xs ms ys s zs some h right next show whole still rest =
      one_more _ _ s ms ys zs (tells_so law n i l jobs xs ms s show whole still answer h) rest
  by_event n (passed i to frag c outcome) xs ms ys s zs some h right next show whole still rest = absurd some
  by_event n (arrived i l frag e answer) xs ms ys s zs some h right next show whole still rest = absurd some
  by_event n (heard i l frag answer) xs ms ys s zs some h right next show whole still rest = absurd some
  by_event n (opened name request answer) xs ms ys s zs some h right next show whole still rest =
      one_more _ _ s ms ys zs (opens_there law n name request jobs xs ms s show whole still answer some h right next) rest

  -- a look with what follows it, and then the others
  by_follow : (n i : ℕ) (l : LinkId) (found : Result LinkFront LinkReceiveFault) (look follows : LogEntry) (a : Answer)
      (xs mid ms ys : List JoinedCore) (s : State) (zs : List Exchange) → look ≡ looked i l found → follow_answer follows ≡ Some a
      → ((t : HappensAt jobs n (looked i l found) xs mid) → MachineDoes (forward n (neighbour_on t.before.run.core l)) a s ms)
      → (h : HappensAt jobs n look xs mid)
      → (TheyShow ms (reached s (events_of (forward_asks n h.before.run look follows)))
      → MachineRuns zs (reached s (events_of (forward_asks n h.before.run look follows))) ys)
      → MachineRuns (forward_asks n h.before.run look follows ++ zs) s ys
  by_follow n i l found look follows a xs mid ms ys s zs same is it h rest =
      subst (λ (x : LogEntry). (t : HappensAt jobs n x xs mid) → GoesOn s ms ys zs (forward_asks n t.before.run x follows))
      (sym same)
      (λ t. subst (λ (o : Option Answer). GoesOn s ms ys zs (given o [] (λ z. asked (forward n (neighbour_on t.before.run.core l)) z))) (sym is)
      (one_more _ _ s ms ys zs (it t))) h rest

-- what an arrival follows, and what a passing on does
pub arrival_of : (look : LogEntry) (i : ℕ) (l : LinkId) (frag : Frag) (e : EndId) (answer : Result ForwardOutcome LinkReceiveFault)
    → Follows look (arrived i l frag e answer) → look ≡ looked i l (Ok (front.Arrival frag e))
arrival_of (looked side m (Ok (front.Arrival f d))) i l frag e answer (sides, links, frags, names) =
    λ j. looked (sym sides j) (sym links j) (Ok (front.Arrival (sym frags j) (sym names j)))
arrival_of look i l frag e answer h = absurd h

pub onward_of : (look : LogEntry) (i to : ℕ) (frag : Frag) (c : Circuit) (outcome : ForwardOutcome) → Follows look (passed i to frag c outcome)
    → (l : LinkId) × (look ≡ looked i l (Ok (front.Onward frag to c)))
onward_of (looked side l (Ok (front.Onward f m d))) i to frag c outcome (sides, onto, frags, circuits) =
    (l, λ j. looked (sym sides j) l (Ok (front.Onward (sym frags j) (sym onto j) (sym circuits j))))
onward_of look i to frag c outcome h = absurd h

pub message_of : (look : LogEntry) (i : ℕ) (l : LinkId) (frag : Frag) (answer : Result MonitorAnswer LinkReceiveFault) → Follows look (heard i l frag answer)
    → (look ≡ looked i l (Ok (front.Message frag))) × (lacks_to_hear answer ≡ false)
message_of (looked side m (Ok (front.Message f))) i l frag answer (sides, links, frags, some) =
    ((λ j. looked (sym sides j) (sym links j) (Ok (front.Message (sym frags j)))), some)
message_of look i l frag answer h = absurd h

-- nothing else follows a look
abbrev pub CanFollow : LogEntry → Type 0
CanFollow (passed i to frag c outcome) = Unit {0}
CanFollow (arrived i l frag e answer) = Unit {0}
CanFollow (heard i l frag answer) = Unit {0}
CanFollow log_entry = ⊥

pub can_follow : (look follows : LogEntry) → Follows look follows → CanFollow follows
can_follow look (passed i to frag c outcome) h = tt
can_follow look (arrived i l frag e answer) h = tt
can_follow look (heard i l frag answer) h = tt
can_follow (looked side l (Ok (front.Message frag))) follows h = absurd h
can_follow (looked side l (Ok (front.Onward frag to c))) follows h = absurd h
can_follow (looked side l (Ok (front.Arrival frag e))) follows h = absurd h
can_follow look follows h = absurd h

pub runs_join : StepsAgree → RunsJoin
runs_join law jobs xs ys [] s show h still right off = record { answers = refl; shows = subst (λ (l : List JoinedCore). TheyShow l s) (sym h) show }
runs_join law jobs xs ys (does n log_entry ∷ moments) s show h still right off =
    let later = whole_behind jobs h.0 ys moments h.2 still in
    by_event law jobs n log_entry xs h.0 ys s (asked_in jobs h.0 moments ys h.2) h.1.0 h.1.1 right.0 off.0 show
    (whole_before jobs (does n log_entry) xs h.0 h.1 later) later
    (λ shown. runs_join law jobs h.0 ys moments (reached s (events_of (asks n h.1.1.before.run log_entry))) shown h.2 still right.1 off.1)
runs_join law jobs xs ys (forwards n look (arrived i l frag e answer) ∷ moments) s show h still right off =
    let later = whole_behind jobs h.0 ys moments h.2 still in
    let whole = whole_before jobs (forwards n look (arrived i l frag e answer)) xs h.0 h.1 later in
    by_follow law jobs n i l (Ok (front.Arrival frag e)) look (arrived i l frag e answer) (arrival_answer answer) xs h.1.1.0 h.0 ys s
    (asked_in jobs h.0 moments ys h.2) (arrival_of look i l frag e answer h.1.0) refl
    (λ t. arrives_there law n i l frag e answer jobs xs h.1.1.0 h.0 s show whole later t h.1.1.2)
    h.1.1.1 (λ shown. runs_join law jobs h.0 ys moments _ shown h.2 still right off)
runs_join law jobs xs ys (forwards n look (passed i to frag c outcome) ∷ moments) s show h still right off =
    let later = whole_behind jobs h.0 ys moments h.2 still in
    let whole = whole_before jobs (forwards n look (passed i to frag c outcome)) xs h.0 h.1 later in
    let (l, is) = onward_of look i to frag c outcome h.1.0 in
    by_follow law jobs n i l (Ok (front.Onward frag to c)) look (passed i to frag c outcome) (moved_answer outcome) xs h.1.1.0 h.0 ys s
    (asked_in jobs h.0 moments ys h.2) is refl
    (λ t. passes_there law n i l frag to c jobs xs h.1.1.0 h.0 s show whole t outcome h.1.1.2)
    h.1.1.1 (λ shown. runs_join law jobs h.0 ys moments _ shown h.2 still right off)
runs_join law jobs xs ys (forwards n look (heard i l frag answer) ∷ moments) s show h still right off =
    let later = whole_behind jobs h.0 ys moments h.2 still in
    let whole = whole_before jobs (forwards n look (heard i l frag answer)) xs h.0 h.1 later in
    let (is, some) = message_of look i l frag answer h.1.0 in
    by_follow law jobs n i l (Ok (front.Message frag)) look (heard i l frag answer) (heard_answer answer) xs h.1.1.0 h.0 ys s
    (asked_in jobs h.0 moments ys h.2) is refl
    (λ t. hears_there law n i l frag answer jobs xs h.1.1.0 h.0 s show whole later some t h.1.1.2)
    h.1.1.1 (λ shown. runs_join law jobs h.0 ys moments _ shown h.2 still right off)
runs_join law jobs xs ys (forwards n look follows ∷ moments) s show h still right off = absurd (can_follow look follows h.1.0)
