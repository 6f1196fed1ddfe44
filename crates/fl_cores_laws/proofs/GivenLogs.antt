-- Which openings a core gave numbers for, over a log.
use Rattle.std.proofs.Common.{◌≡◌, inl, inr, sym, ap, ◌∙◌, refl, subst, ℕ, ◌<◌, nat_lt, not, is_some, List, [], ◌∷◌, ◌++◌, length, slice_set, Option, Some, Ok}
use Rattle.std.proofs.lemmas.Bool.{ltb-true}
use Rattle.fl_base.specs.declared.fragment.Frag.{Frag}
use Rattle.fl_base.specs.declared.identity.EndId.{EndId}
use Rattle.fl_endpoint.specs.Laws.{OnAnotherCircuit}
use Rattle.fl_hop.specs.Joined.{Sound}
use Rattle.fl_hop.specs.Table.{TheCircuits}
use Rattle.fl_monitor.specs.declared.opening.Opening.{Opening}
use Rattle.fl_monitor.specs.declared.message.MonitorMessage.{MonitorMessage}
use Rattle.fl_monitor.specs.Monitors.{TheMonitor, can_say}
use Rattle.fl_nameserv.specs.Registrations.{TheRegistration}
use Rattle.fl_core.specs.View.{TheCore, place_of, place_in, slot_of, client_of}
use Rattle.fl_core.specs.Sound.{IsCore}
use Rattle.fl_core.specs.Hearing.{known_for}
use Rattle.fl_core.specs.Making.{Asked, Begins}
use Rattle.fl_core.proofs.Named.{put_here}
use Rattle.fl_core.specs.declared.core_job.CoreJob.{CoreJob}
use Rattle.fl_core.specs.declared.core_job.OpenRequest.{OpenRequest}
use Rattle.fl_core_run.specs.Run.{SideRelations, TheRun}
use Rattle.fl_core_run.specs.LogEntries.{LogEntry, opened, Does, IsSound}
use Rattle.fl_core_run_laws.specs.Led.{IsLed}
use Rattle.fl_core_run_laws.specs.Logs.{InPlace, Goes}
use Rattle.fl_core_run_laws.proofs.Aside.{core_aside}
use Rattle.fl_core_run_laws.proofs.Carrying.{five, not_there}
use Rattle.fl_core_run_laws.proofs.Laning.{event_steps}
use Rattle.fl_core_run_laws.proofs.Leads.{does_led}
use Rattle.fl_core_run_laws.proofs.Stepping.{log_steps, end_stays}
use Rattle.fl_cores_laws.specs.Named.{Has}
use Rattle.fl_cores_laws.specs.Asked.{IsRequested}
use Rattle.fl_cores_laws.proofs.AskedProgress.{JobAt, job_there, job_before, event_jobs, offers_stay}
use Rattle.fl_cores_laws.proofs.GivenHears.{Makes, SettledAt, settled_on}
use Rattle.fl_cores_laws.proofs.Logged.{IsPassedOn, does_pass, then_said, then_heard, said_joins, heard_joins}
use Rattle.fl_cores_laws.proofs.ReasonedHears.{KnowsPlaces}
use Rattle.fl_cores_laws.proofs.Named.{has_split, has_first}
use Rattle.fl_cores_laws.proofs.WholeOpened.{sound_first}

-- the client's end is there once a circuit was asked for
made_there : (a : Asked) (k k2 : TheCore) (e : ℕ) → IsCore k → a.opening.binding < 1024 → Begins a k e k2 → place_of k2 (client_of a.opening.binding) ≡ Some e
made_there a k k2 e core few h =
    let name : EndId = client_of a.opening.binding in
    let are : k2.places ≡ slice_set k.places (slot_of name) (Some e) = ap (λ (y : TheCore). y.places) h.rest in
    ap (λ (xs : List (Option ℕ)). place_in xs name) are ∙ put_here k.places name (Some e) core.slots few

module _ {S : Type 0} (w : SideRelations S) (on : OnAnotherCircuit) (names : List TheRegistration) (jobs : List CoreJob) (NoPlace Requested : Opening → Type 0) (requested : (o : Opening) → Requested o → IsRequested jobs o)
    (W : ℕ → Opening → Type 0) (of_own : (l : ℕ) (o : Opening) → W l o → Requested o) (t0 : TheCircuits) where
  -- a job of an end's progress requests so where it asks for a circuit
  makes : (s m : TheRun S) → IsCore s.core → (own : (name : EndId) (request : OpenRequest) → JobAt jobs s name request → W request.link.0 request.opening) → (name : EndId) (request : OpenRequest) (e : ℕ)
      → InPlace jobs s (opened name request (Ok e)) → Does w (opened name request (Ok e)) s m → Makes W s.core m.core request.link request.opening
  makes s m core own name request e by h =
      let tests = five (nat_lt request.dispatcher (length s.core.board.dispatchers)) (nat_lt request.interface (length s.offers.programs)) (nat_lt request.opening.binding 1024)
      (not (is_some (place_of s.core (client_of request.opening.binding)))) (can_say s.core.monitor.outboxes request.link.0) by.1 in
      record {
        requested = own name request (job_there jobs s name request by.0);
        absent = not_there (place_of s.core (client_of request.opening.binding)) tests.1;
        place = e;
        place_is = made_there _ s.core m.core e core (ltb-true request.opening.binding 1024 tests.0) h.event.asks;
      }

  abbrev At : TheCore → (ℕ → List Frag) → (ℕ → List Frag) → TheMonitor → Type 0
  At k said heard m = SettledAt names NoPlace Requested W t0 k said heard m

  still : (k : TheCore) → IsPassedOn (KnowsPlaces names NoPlace) (Makes W k k) (At k) (At k)
  still k = settled_on names jobs NoPlace Requested requested W of_own t0 k k (λ name e at. at)

  pub log_settled : (log : List LogEntry) (s t : TheRun S) (h : Goes w jobs s log t) (said_so heard_so : ℕ → List Frag)
      → ((u : TheRun S) (rest : List LogEntry) → Goes w jobs u rest t → IsSound u.core → u.offers ≡ s.offers → (msg : MonitorMessage) → KnowsPlaces names NoPlace (known_for u.offers u.core msg) msg)
      → ((name : EndId) (request : OpenRequest) → JobAt jobs s name request → W request.link.0 request.opening) → IsLed s.core → Sound t.core.monitor.circuits → At s.core said_so heard_so s.core.monitor
      → At t.core (then_said said_so (log_steps w jobs log s t h)) (then_heard heard_so (log_steps w jobs log s t h)) t.core.monitor
  log_settled [] s t h said_so heard_so knows own led sound n =
      (still t.core).before said_so (then_said said_so []) heard_so (then_heard heard_so []) t.core.monitor
      (λ l f has. elim (has_split f (said_so l) [] has) [ inl a ↦ a | inr b ↦ absurd b ])
      (λ l f has. has_first f (heard_so l) [] has) (subst (λ (x : TheRun S). At x.core said_so heard_so x.core.monitor) (sym h) n)
  log_settled (log_entry ∷ log) s t h said_so heard_so knows own led sound n =
      let m = h.1.0 in
      let u = h.0 in
      let aside : u.core ≡ m.core = core_aside m u log_entry h.1.2 in
      let first = event_steps w jobs log_entry s m h.2 h.1.1 in
      let rest = log_steps w jobs log u t h.3 in
      let sound_u = sound_first w jobs log u t h.3 sound in
      let sound_m : Sound m.core.monitor.circuits = subst (λ (k : TheCore). Sound k.monitor.circuits) aside sound_u in
      let stays = λ (name e : ℕ) (at : place_of s.core (client_of name) ≡ Some e).
      ap (λ (k : TheCore). place_of k (client_of name)) (sym aside) ∙ end_stays w jobs log_entry s u (client_of name) e h.1 h.2 at in
      let one = does_pass (At s.core) (At m.core) jobs (settled_on names jobs NoPlace Requested requested W of_own t0 s.core m.core stays) w on said_so heard_so s m h.1.3.core h.1.3.table sound_m led
      (knows s (log_entry ∷ log) h h.1.3 refl) (makes s m h.1.3.core own) n log_entry h.2 h.1.4 h.1.1 in
      let now = subst (λ (k : TheCore). At k (then_said said_so first) (then_heard heard_so first) k.monitor) (sym aside) one in
      let led_u : IsLed u.core = subst IsLed (sym aside) (does_led w jobs s m h.1.3.core h.1.3.table led log_entry h.2 h.1.1) in
      let knowing = λ (v : TheRun S) (later_on : List LogEntry) (g : Goes w jobs v later_on t) (well : IsSound v.core) (same : v.offers ≡ u.offers) (msg : MonitorMessage).
      knows v later_on g well (same ∙ offers_stay w log_entry s m u h.1.1 h.1.2) msg in
      let all = log_settled log u t h.3 (then_said said_so first) (then_heard heard_so first) knowing
      (λ name request a. own name request (job_before jobs s u name request (event_jobs w log_entry s m u h.1.1 h.1.2) a)) led_u sound now in
      (still t.core).before (then_said (then_said said_so first) rest) (then_said said_so (first ++ rest)) (then_heard (then_heard heard_so first) rest)
      (then_heard heard_so (first ++ rest)) t.core.monitor (λ l f has. subst (Has f) (said_joins said_so first rest l) has)
      (λ l f has. subst (Has f) (sym (heard_joins heard_so first rest l)) has) all
