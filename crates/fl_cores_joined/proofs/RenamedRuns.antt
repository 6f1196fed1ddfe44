-- An interleaving, under other numbers of bindings, is a run of the machine, moment by moment.
use Rattle.std.proofs.Common.{◌≡◌, ◌∙◌, ◌∷◌, ◌++◌, [], ℕ, refl, subst, Bool, List, Option, Some, ap, false, length, slice_get, sym}
use Rattle.fl_base.specs.Given.{given}
use Rattle.fl_base.specs.declared.fragment.Frag.{Frag}
use Rattle.fl_base.specs.declared.identity.Circuit.{Circuit}
use Rattle.fl_base.specs.declared.identity.EndId.{EndId}
use Rattle.fl_base.specs.declared.identity.LinkId.{LinkId}
use Rattle.fl_core.specs.Faults.{link_number}
use Rattle.fl_core.specs.declared.answer.LinkFront.{LinkFront}
use Rattle.fl_core.specs.declared.answer.MonitorAnswer.{MonitorAnswer}
use Rattle.fl_core.specs.declared.core_job.CoreJob.{CoreJob}
use Rattle.fl_core.specs.declared.fault.LinkReceiveFault.{LinkReceiveFault}
use Rattle.fl_core_run.specs.Steps.{lacks_to_hear}
use Rattle.fl_cores_joined.specs.Joined.{AreWhole, JoinedCore}
use Rattle.fl_cores_joined.specs.Rings.{FacingSide}
use Rattle.fl_cores_joined.specs.Steps.{Interleaves, Moment}
use Rattle.fl_endpoint.specs.Laws.{OnAnotherCircuit}
use Rattle.fl_hop.specs.declared.forward.ForwardOutcome.{ForwardOutcome}
use Rattle.fl_model.specs.Runs.{Exchange, reached, run}
use Rattle.fl_model.specs.State.{State}
use Rattle.fl_world_refines.specs.Laws.{StepsAgree}
use Rattle.std.specs.Prelude.{Err, Ok, Result}
use Rattle.fl_hop.specs.declared.entry.HopTarget.TheVariants.{End}
use Rattle.fl_hop.specs.declared.forward.ForwardOutcome.TheVariants as outcome
use Rattle.fl_core.specs.declared.answer.LinkFront.TheVariants as front
use Rattle.fl_core_run.specs.LogEntries.{LogEntry, looked, passed, arrived, heard, said, told, opened, called, ruled, wrote, acked, turned}
use Rattle.fl_model.specs.Events.{Event, forward, Answer, nothing, done, refused}
use Rattle.fl_model.specs.Step.{step}
use Rattle.fl_world_refines.specs.Linking.{moved_answer}
use Rattle.fl_cores_joined.specs.Steps.{does, forwards, HappensAt, IsWholeEvent, exchange, asked, neighbour_on, asks, arrival_answer, heard_answer, follow_answer, forward_asks}
use Rattle.fl_cores_joined.specs.Laws.{TheyShow, and_made, MachineDoes}
use Rattle.fl_cores_joined.specs.Runs.{asked_in, events_of, AsksRightlyAt, AllAskRightly}
use Rattle.fl_cores_joined.specs.Renamed.{Renaming, end_under, heard_under, JoinedUnder, AreUnder}
use Rattle.fl_cores_joined.specs.RenamedRuns.{answer_under, exchange_under, all_under, CountAt, CountFrom, and_counted, AreWiredFor, RunsJoinUnder}
use Rattle.fl_cores_joined.proofs.Arriving.{arrives_there}
use Rattle.fl_cores_joined.proofs.Passing.{passes_there}
use Rattle.fl_cores_joined.proofs.Hearing.{hears_there}
use Rattle.fl_cores_joined.proofs.Earlier.{whole_before, whole_behind}
use Rattle.fl_cores_joined.proofs.Runs.{arrival_of, onward_of, message_of, can_follow}
use Rattle.fl_cores_joined.proofs.RenamedSteps.{same_circuit}
use Rattle.fl_cores_joined.proofs.RenamedAnswers.{moved_same, arrival_same, heard_there, lacks_there}
use Rattle.fl_cores_joined.proofs.RenamedRun.{looked_message, looked_onward, looked_arrival, arrived_so, heard_so, passed_so}
use Rattle.fl_cores_joined.proofs.RenamedInPlace.{link_lent, leads_there, goes_on_there}
use Rattle.fl_cores_joined.proofs.RenamedWired.{wired_on, whole_there}
use Rattle.fl_cores_joined.proofs.RenamedEach.{Comes, beside2, under2, link_at_side, link_onward, happened, same_neighbour, said_comes, told_comes, looked_comes, wrote_comes, acked_comes, turned_comes, called_comes, ruled_comes, opened_comes}

module _ (law : StepsAgree) (r : Renaming) (links : ℕ → Bool) (jobs : List CoreJob) (n i : ℕ) (l : LinkId) (xs mid ms xs2 : List JoinedCore) (s : State)
    (show : TheyShow xs2 s) (a : AreUnder r links xs xs2) (wired : AreWiredFor links xs) (whole : AreWhole xs) (still : AreWhole ms) where
  -- ---- a look, with what follows it

  -- what is asked of the machine by both, of the neighbour as it was
  both_come : (what : Result LinkFront LinkReceiveFault) (h : HappensAt jobs n (looked i l what) xs mid) (answer there : Answer) (before : JoinedCore)
      (cores : List JoinedCore) → JoinedUnder r links h.before before → AreUnder r links ms cores → answer_under r answer ≡ there
      → MachineDoes (forward n (neighbour_on before.run.core l)) there s cores
      → Comes r links (forward n (neighbour_on h.before.run.core l)) (answer_under r answer) s ms
  both_come what h answer there before cores u under same machine = record {
    cores = cores;
    under = under;
    does =
        subst (λ (c : ℕ). MachineDoes (forward n c) (answer_under r answer) s cores)
        (same_neighbour r links jobs n xs mid xs2 a wired (looked i l what) h h.before before l u)
        (subst (λ (z : Answer). MachineDoes (forward n (neighbour_on before.run.core l)) z s cores) (sym same) machine);
  }

  arrival_comes : (frag : Frag) (e : EndId) (answer : Result ForwardOutcome LinkReceiveFault)
      (h : HappensAt jobs n (looked i l (Ok (front.Arrival frag e))) xs mid)
      → HappensAt jobs n (arrived i l frag e answer) mid ms
      → Comes r links (forward n (neighbour_on h.before.run.core l)) (answer_under r (arrival_answer answer)) s ms
  arrival_comes frag e answer h g =
      let look = looked i l (Ok (front.Arrival frag e)) in
      let next = arrived i l frag e answer in
      let u = under2 r links jobs n xs mid xs2 a wired look h in
      let one = happened r links jobs n xs mid xs2 a wired look h jobs (looked i l (Ok (front.Arrival frag (end_under r e))))
      (looked_arrival r links h.before.sides h.beside (beside2 r links jobs n xs mid xs2 a wired look h) h.happens.0 u i
      (link_at_side r links jobs n xs mid xs2 a wired look h i l h.in_place) l frag e h.happens.1)
      (link_lent r links h.before.sides h.beside (beside2 r links jobs n xs mid xs2 a wired look h) u l ∙ h.in_place) tt in
      let wired_mid = wired_on links jobs n look xs mid h wired in
      let v = under2 r links jobs n mid ms one.after one.under wired_mid next g in
      let two = happened r links jobs n mid ms one.after one.under wired_mid next g jobs (arrived i l frag (end_under r e) answer)
      (arrived_so r links g.before.sides g.beside (beside2 r links jobs n mid ms one.after one.under wired_mid next g) g.happens.0 v i
      (link_at_side r links jobs n mid ms one.after one.under wired_mid next g i l g.in_place.link_side) l frag e answer g.in_place.number g.happens.1)
      (leads_there r links g.before.sides g.beside (beside2 r links jobs n mid ms one.after one.under wired_mid next g) v i l frag (End e) g.in_place) tt in
      let machine = arrives_there law n i l frag (end_under r e) answer jobs xs2 one.after two.after s show (whole_there r links xs xs2 a whole)
      (whole_there r links ms two.after two.under still) one.happens two.happens in
      both_come (Ok (front.Arrival frag e)) h (arrival_answer answer) (arrival_answer answer) one.happens.before two.after one.before two.under
      (arrival_same r answer) machine

  onward_comes : (frag : Frag) (to : ℕ) (c : Circuit) (o : ForwardOutcome) (h : HappensAt jobs n (looked i l (Ok (front.Onward frag to c))) xs mid)
      → HappensAt jobs n (passed i to frag c o) mid ms
      → Comes r links (forward n (neighbour_on h.before.run.core l)) (answer_under r (moved_answer o)) s ms
  onward_comes frag to c o h g =
      let look = looked i l (Ok (front.Onward frag to c)) in
      let next = passed i to frag c o in
      let u = under2 r links jobs n xs mid xs2 a wired look h in
      let one = happened r links jobs n xs mid xs2 a wired look h jobs look
      (looked_onward r links h.before.sides h.beside (beside2 r links jobs n xs mid xs2 a wired look h) h.happens.0 u i
      (link_at_side r links jobs n xs mid xs2 a wired look h i l h.in_place) l frag to c h.happens.1)
      (link_lent r links h.before.sides h.beside (beside2 r links jobs n xs mid xs2 a wired look h) u l ∙ h.in_place) tt in
      let wired_mid = wired_on links jobs n look xs mid h wired in
      let v = under2 r links jobs n mid ms one.after one.under wired_mid next g in
      let (onto, onto_is) = onto_side o g in
      let two = happened r links jobs n mid ms one.after one.under wired_mid next g jobs next
      (passed_so r links g.before.sides g.beside (beside2 r links jobs n mid ms one.after one.under wired_mid next g) g.happens.0 v i to frag c o
      (link_at_side r links jobs n mid ms one.after one.under wired_mid next g i g.in_place.link g.in_place.leads.link_side)
      (link_onward r links jobs n mid ms one.after one.under wired_mid next g to g.in_place.onward.0 onto onto_is g.in_place.side)
      g.in_place.leads.number g.in_place.leads.other.2 g.in_place.leads.other.3 g.happens.1)
      (goes_on_there r links g.before.sides g.beside (beside2 r links jobs n mid ms one.after one.under wired_mid next g) v i to frag c g.in_place) tt in
      let machine = passes_there law n i l frag to c jobs xs2 one.after two.after s show (whole_there r links xs xs2 a whole) one.happens o two.happens in
      both_come (Ok (front.Onward frag to c)) h (moved_answer o) (moved_answer o) one.happens.before two.after one.before two.under (moved_same r o) machine
    where
      onto_side : (x : ForwardOutcome) (y : HappensAt jobs n (passed i to frag c x) mid ms) → (p : FacingSide) × (slice_get y.beside.rings to ≡ Some p)
      onto_side outcome.Moved y = (y.happens.1.1.before, y.happens.1.1.before_is)
      onto_side outcome.Full y = (y.happens.1.before, y.happens.1.before_is)
      onto_side outcome.Spent y = (y.happens.1.before, y.happens.1.before_is)

  message_comes : (frag : Frag) (answer : Result MonitorAnswer LinkReceiveFault) → lacks_to_hear answer ≡ false
      → (h : HappensAt jobs n (looked i l (Ok (front.Message frag))) xs mid) → HappensAt jobs n (heard i l frag answer) mid ms
      → Comes r links (forward n (neighbour_on h.before.run.core l)) (answer_under r (heard_answer answer)) s ms
  message_comes frag answer some h g =
      let look = looked i l (Ok (front.Message frag)) in
      let next = heard i l frag answer in
      let u = under2 r links jobs n xs mid xs2 a wired look h in
      let (f, renamed, found) = looked_message r links h.before.sides h.beside (beside2 r links jobs n xs mid xs2 a wired look h) h.happens.0 u i
      (link_at_side r links jobs n xs mid xs2 a wired look h i l h.in_place) l frag h.happens.1 in
      let one = happened r links jobs n xs mid xs2 a wired look h jobs (looked i l (Ok (front.Message f))) found
      (link_lent r links h.before.sides h.beside (beside2 r links jobs n xs mid xs2 a wired look h) u l ∙ h.in_place) tt in
      let wired_mid = wired_on links jobs n look xs mid h wired in
      let v = under2 r links jobs n mid ms one.after one.under wired_mid next g in
      let two = happened r links jobs n mid ms one.after one.under wired_mid next g jobs (heard i l f (heard_under r answer))
      (heard_so r links g.before.sides g.beside (beside2 r links jobs n mid ms one.after one.under wired_mid next g) g.happens.0 v i
      (link_at_side r links jobs n mid ms one.after one.under wired_mid next g i l g.in_place.0) l frag f answer renamed g.happens.3.core.slots g.happens.1) (
        link_lent r links g.before.sides g.beside (beside2 r links jobs n mid ms one.after one.under wired_mid next g) v l ∙ g.in_place.0,
        same_circuit r frag f renamed ∙ g.in_place.1,
      ) tt in
      let machine = hears_there law n i l f (heard_under r answer) jobs xs2 one.after two.after s show (whole_there r links xs xs2 a whole)
      (whole_there r links ms two.after two.under still) (lacks_there r answer ∙ some) one.happens two.happens in
      both_come (Ok (front.Message frag)) h (heard_answer answer) (heard_answer (heard_under r answer)) one.happens.before two.after one.before two.under
      (heard_there r answer) machine

-- ---- one moment, and then the others

record RunsTo (r : Renaming) (links : ℕ → Bool) (exchanges : List Exchange) (s : State) (ys : List JoinedCore) : Type 0 where
  cores : List JoinedCore
  under : AreUnder r links ys cores
  answers : run s (events_of exchanges) ≡ exchanges
  shows : TheyShow cores (reached s (events_of exchanges))

abbrev Rest : Renaming → (ℕ → Bool) → List Exchange → State → ℕ → List JoinedCore → List JoinedCore → Type 0
Rest r links zs s count ms ys =
    (cores : List JoinedCore) → AreUnder r links ms cores → TheyShow cores s → length s.bindings ≡ count → RunsTo r links zs s ys

one_more : (r : Renaming) (links : ℕ → Bool) (event : Event) (answer : Answer) (s : State) (ms ys : List JoinedCore) (zs : List Exchange)
    → Comes r links event answer s ms → Rest r links zs (step s event).state (and_made event answer (length s.bindings)) ms ys
    → RunsTo r links (exchange event answer ∷ zs) s ys
one_more r links event answer s ms ys zs c rest =
    let more = rest c.cores c.under c.does.shows c.does.count in
    record {
      cores = more.cores;
      under = more.under;
      answers = λ i. exchange event (c.does.answers i) ∷ more.answers i;
      shows = more.shows;
    }

-- from where these lead the machine the others go on; so all of them do
abbrev GoesOn : Renaming → (ℕ → Bool) → State → List JoinedCore → List JoinedCore → List Exchange → List Exchange → Type 0
GoesOn r links s ms ys zs first =
    Rest r links zs (reached s (events_of first)) (length s.bindings) ms ys → RunsTo r links (first ++ zs) s ys

module _ (law : StepsAgree) (on : OnAnotherCircuit) (r : Renaming) (links : ℕ → Bool) (jobs : List CoreJob) where
  by_event : (n : ℕ) (log_entry : LogEntry) (xs ms ys xs2 : List JoinedCore) (s any : State) (zs : List Exchange) → IsWholeEvent log_entry
      → (h : HappensAt jobs n log_entry xs ms) → AsksRightlyAt xs h.before.run any log_entry → CountAt r (length s.bindings) log_entry
      → TheyShow xs2 s → AreUnder r links xs xs2 → AreWiredFor links xs → AreWhole xs → AreWhole ms
      → Rest r links zs (reached s (events_of (all_under r (asks n h.before.run log_entry)))) (and_counted (length s.bindings) log_entry) ms ys
      → RunsTo r links (all_under r (asks n h.before.run log_entry) ++ zs) s ys
  by_event n (called name c answer) xs ms ys xs2 s any zs some h right next show a wired whole still rest =
      one_more r links _ _ s ms ys zs (called_comes law on r links jobs n xs ms xs2 s show a wired whole still name c answer some h) rest
  by_event n (ruled name msg answer x) xs ms ys xs2 s any zs some h right next show a wired whole still rest =
      one_more r links _ _ s ms ys zs (ruled_comes law on r links jobs n xs ms xs2 s show a wired whole still name msg answer x h) rest
  by_event n (wrote name out answer) xs ms ys xs2 s any zs some h right next show a wired whole still rest =
      one_more r links _ _ s ms ys zs (wrote_comes law on r links jobs n xs ms xs2 s show a wired whole still name out answer h) rest
  by_event n (acked name side answer) xs ms ys xs2 s any zs some h right next show a wired whole still rest =
      one_more r links _ _ s ms ys zs (acked_comes law on r links jobs n xs ms xs2 s show a wired whole still name side answer h) rest
  by_event n (turned d name from answer) xs ms ys xs2 s any zs some h right next show a wired whole still rest =
      one_more r links _ _ s ms ys zs (turned_comes law on r links jobs n xs ms xs2 s show a wired whole still d name from answer h) rest
  by_event n (looked i l (Ok front.Nothing)) xs ms ys xs2 s any zs some h right next show a wired whole still rest =
      one_more r links _ _ s ms ys zs (looked_comes law on r links jobs n xs ms xs2 s show a wired whole still i l
      (Ok front.Nothing) nothing tt refl refl h) rest
  by_event n (looked i l (Ok front.Acknowledged)) xs ms ys xs2 s any zs some h right next show a wired whole still rest =
      one_more r links _ _ s ms ys zs (looked_comes law on r links jobs n xs ms xs2 s show a wired whole still i l
      (Ok front.Acknowledged) done tt refl refl h) rest
  by_event n (looked i l (Err fault)) xs ms ys xs2 s any zs some h right next show a wired whole still rest =
      one_more r links _ _ s ms ys zs
      (looked_comes law on r links jobs n xs ms xs2 s show a wired whole still i l (Err fault) (refused (link_number fault)) tt refl refl h) rest
  by_event n (looked i l (Ok (front.Message frag))) xs ms ys xs2 s any zs some h right next show a wired whole still rest = absurd some
  by_event n (looked i l (Ok (front.Onward frag to c))) xs ms ys xs2 s any zs some h right next show a wired whole still rest = absurd some
  by_event n (looked i l (Ok (front.Arrival frag e))) xs ms ys xs2 s any zs some h right next show a wired whole still rest = absurd some
  by_event n (said i l answer) xs ms ys xs2 s any zs some h right next show a wired whole still rest =
      one_more r links _ _ s ms ys zs (said_comes law on r links jobs n xs ms xs2 s show a wired whole still i l answer h) rest
  by_event n (told i l answer) xs ms ys xs2 s any zs some h right next show a wired whole still rest =
      one_more r links _ _ s ms ys zs (told_comes law on r links jobs n xs ms xs2 s show a wired whole still i l answer h) rest
  by_event n (passed i to frag c o) xs ms ys xs2 s any zs some h right next show a wired whole still rest = absurd some
  by_event n (arrived i l frag e answer) xs ms ys xs2 s any zs some h right next show a wired whole still rest = absurd some
  by_event n (heard i l frag answer) xs ms ys xs2 s any zs some h right next show a wired whole still rest = absurd some
  by_event n (opened name request (Ok e)) xs ms ys xs2 s any zs some h right next show a wired whole still rest =
      one_more r links _ _ s ms ys zs (opened_comes law on r links jobs n xs ms xs2 s show a wired whole still name request (Ok e) some h right next) rest
  by_event n (opened name request (Err fault)) xs ms ys xs2 s any zs some h right next show a wired whole still rest =
      one_more r links _ _ s ms ys zs (opened_comes law on r links jobs n xs ms xs2 s show a wired whole still name request (Err fault) some h right next) rest

  -- a look with what follows it
  by_follow : (n i : ℕ) (l : LinkId) (found : Result LinkFront LinkReceiveFault) (look next : LogEntry) (answer : Answer)
      (xs mid ms ys : List JoinedCore) (s : State) (zs : List Exchange) → look ≡ looked i l found → follow_answer next ≡ Some answer
      → ((t : HappensAt jobs n (looked i l found) xs mid) → Comes r links (forward n (neighbour_on t.before.run.core l)) (answer_under r answer) s ms)
      → (h : HappensAt jobs n look xs mid)
      → Rest r links zs (reached s (events_of (all_under r (forward_asks n h.before.run look next)))) (length s.bindings) ms ys
      → RunsTo r links (all_under r (forward_asks n h.before.run look next) ++ zs) s ys
  by_follow n i l found look next answer xs mid ms ys s zs same is it h rest =
      subst (λ (x : LogEntry). (t : HappensAt jobs n x xs mid) → GoesOn r links s ms ys zs (all_under r (forward_asks n t.before.run x next)))
      (sym same)
      (λ t. subst (λ (o : Option Answer). GoesOn r links s ms ys zs (all_under r
      (given o [] (λ z. asked (forward n (neighbour_on t.before.run.core l)) z)))) (sym is)
      (one_more r links _ _ s ms ys zs (it t))) h rest

both_lists : (r : Renaming) (xs ys : List Exchange) → all_under r (xs ++ ys) ≡ all_under r xs ++ all_under r ys
both_lists r [] ys = refl
both_lists r (x ∷ xs) ys = ap (λ (zs : List Exchange). exchange_under r x ∷ zs) (both_lists r xs ys)

module _ (law : StepsAgree) (on : OnAnotherCircuit) (r : Renaming) (links : ℕ → Bool) where
  first_then : (xs ys : List Exchange) (s : State) (cores : List JoinedCore) → RunsTo r links (all_under r xs ++ all_under r ys) s cores
      → RunsTo r links (all_under r (xs ++ ys)) s cores
  first_then xs ys s cores h = subst (λ (zs : List Exchange). RunsTo r links zs s cores) (sym (both_lists r xs ys)) h

  goes : (jobs : List CoreJob) (xs ys xs2 : List JoinedCore) (moments : List Moment) (s any : State) → TheyShow xs2 s → AreUnder r links xs xs2
      → AreWiredFor links xs → (h : Interleaves jobs xs moments ys) → AreWhole ys → AllAskRightly jobs any xs moments ys h
      → CountFrom r (length s.bindings) moments → RunsTo r links (all_under r (asked_in jobs xs moments ys h)) s ys
  goes jobs xs ys xs2 [] s any show a wired h still right numbers =
      record { cores = xs2; under = subst (λ (l : List JoinedCore). AreUnder r links l xs2) (sym h) a; answers = refl; shows = show }
  goes jobs xs ys xs2 (does n log_entry ∷ moments) s any show a wired h still right numbers =
      let later = whole_behind jobs h.0 ys moments h.2 still in
      first_then (asks n h.1.1.before.run log_entry) (asked_in jobs h.0 moments ys h.2) s ys
      (by_event law on r links jobs n log_entry xs h.0 ys xs2 s any (all_under r (asked_in jobs h.0 moments ys h.2)) h.1.0 h.1.1 right.0 numbers.0 show a wired
      (whole_before jobs (does n log_entry) xs h.0 h.1 later) later
      (λ cores under shown count. goes jobs h.0 ys cores moments (reached s (events_of (all_under r (asks n h.1.1.before.run log_entry)))) _ shown under
      (wired_on links jobs n log_entry xs h.0 h.1.1 wired) h.2 still right.1 (subst (λ (k : ℕ). CountFrom r k moments) (sym count) numbers.1)))
  goes jobs xs ys xs2 (forwards n look (arrived i l frag e answer) ∷ moments) s any show a wired h still right numbers =
      let later = whole_behind jobs h.0 ys moments h.2 still in
      let whole = whole_before jobs (forwards n look (arrived i l frag e answer)) xs h.0 h.1 later in
      first_then (forward_asks n h.1.1.1.before.run look (arrived i l frag e answer)) (asked_in jobs h.0 moments ys h.2) s ys
      (by_follow law on r links jobs n i l (Ok (front.Arrival frag e)) look (arrived i l frag e answer) (arrival_answer answer) xs h.1.1.0 h.0 ys s
      (all_under r (asked_in jobs h.0 moments ys h.2)) (arrival_of look i l frag e answer h.1.0) refl
      (λ t. arrival_comes law r links jobs n i l xs h.1.1.0 h.0 xs2 s show a wired whole later frag e answer t h.1.1.2)
      h.1.1.1 (λ cores under shown count. goes jobs h.0 ys cores moments _ _ shown under
      (wired_on links jobs n (arrived i l frag e answer) h.1.1.0 h.0 h.1.1.2 (wired_on links jobs n look xs h.1.1.0 h.1.1.1 wired)) h.2 still right
      (subst (λ (k : ℕ). CountFrom r k moments) (sym count) numbers)))
  goes jobs xs ys xs2 (forwards n look (passed i to frag c o) ∷ moments) s any show a wired h still right numbers =
      let later = whole_behind jobs h.0 ys moments h.2 still in
      let whole = whole_before jobs (forwards n look (passed i to frag c o)) xs h.0 h.1 later in
      let (l, is) = onward_of look i to frag c o h.1.0 in
      first_then (forward_asks n h.1.1.1.before.run look (passed i to frag c o)) (asked_in jobs h.0 moments ys h.2) s ys
      (by_follow law on r links jobs n i l (Ok (front.Onward frag to c)) look (passed i to frag c o) (moved_answer o) xs h.1.1.0 h.0 ys s
      (all_under r (asked_in jobs h.0 moments ys h.2)) is refl
      (λ t. onward_comes law r links jobs n i l xs h.1.1.0 h.0 xs2 s show a wired whole later frag to c o t h.1.1.2)
      h.1.1.1 (λ cores under shown count. goes jobs h.0 ys cores moments _ _ shown under
      (wired_on links jobs n (passed i to frag c o) h.1.1.0 h.0 h.1.1.2 (wired_on links jobs n look xs h.1.1.0 h.1.1.1 wired)) h.2 still right
      (subst (λ (k : ℕ). CountFrom r k moments) (sym count) numbers)))
  goes jobs xs ys xs2 (forwards n look (heard i l frag answer) ∷ moments) s any show a wired h still right numbers =
      let later = whole_behind jobs h.0 ys moments h.2 still in
      let whole = whole_before jobs (forwards n look (heard i l frag answer)) xs h.0 h.1 later in
      let (is, some) = message_of look i l frag answer h.1.0 in
      first_then (forward_asks n h.1.1.1.before.run look (heard i l frag answer)) (asked_in jobs h.0 moments ys h.2) s ys
      (by_follow law on r links jobs n i l (Ok (front.Message frag)) look (heard i l frag answer) (heard_answer answer) xs h.1.1.0 h.0 ys s
      (all_under r (asked_in jobs h.0 moments ys h.2)) is refl
      (λ t. message_comes law r links jobs n i l xs h.1.1.0 h.0 xs2 s show a wired whole later frag answer some t h.1.1.2)
      h.1.1.1 (λ cores under shown count. goes jobs h.0 ys cores moments _ _ shown under
      (wired_on links jobs n (heard i l frag answer) h.1.1.0 h.0 h.1.1.2 (wired_on links jobs n look xs h.1.1.0 h.1.1.1 wired)) h.2 still right
      (subst (λ (k : ℕ). CountFrom r k moments) (sym count) numbers)))
  goes jobs xs ys xs2 (forwards n look next ∷ moments) s any show a wired h still right numbers = absurd (can_follow look next h.1.0)

pub runs_join_under : StepsAgree → OnAnotherCircuit → RunsJoinUnder
runs_join_under law on r links jobs xs ys others moments s any show a wired h still right numbers =
    let it = goes law on r links jobs xs ys others moments s any show a wired h still right numbers in
    record { cores = it.cores; under = it.under; runs = record { answers = it.answers; shows = it.shows } }
