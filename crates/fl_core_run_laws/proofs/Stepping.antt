-- The steps over a core's links of a log; and what stays of a core.
use Rattle.std.proofs.Common.{◌≡◌, refl, sym, ap, ◌∙◌, subst, ℕ, List, [], ◌∷◌, ◌++◌, Some}
use Rattle.fl_base.specs.declared.identity.EndId.{EndId}
use Rattle.fl_hop.specs.Stretch.{TableStep}
use Rattle.fl_hop.proofs.Lists.{at_within}
use Rattle.fl_core.proofs.HasWiredEnd.{placed_below}
use Rattle.fl_core.specs.View.{TheCore, place_of}
use Rattle.fl_core.specs.declared.core_job.CoreJob.{CoreJob}
use Rattle.fl_core_run.specs.Run.{SideRelations, TheRun}
use Rattle.fl_core_run.specs.LogEntries.{LogEntry, Does, Notes, Happens}
use Rattle.fl_core_run_laws.specs.Logs.{InPlace, Goes}
use Rattle.fl_core_run_laws.proofs.Seating.{sits_first}
use Rattle.fl_core_run_laws.proofs.Carrying.{IsHere, does_go}
use Rattle.fl_core_run_laws.proofs.Laning.{event_steps}
use Rattle.fl_core_run_laws.proofs.Growing.{Grows, does_grow}
use Rattle.fl_core_run_laws.proofs.Aside.{core_aside}

module _ {S : Type 0} (w : SideRelations S) (jobs : List CoreJob) where
  -- after one event, with what is noted of it
  pub grows : (log_entry : LogEntry) (s m t : TheRun S) → Does w log_entry s m → Notes log_entry m t → Grows s.core t.core
  grows log_entry s m t does notes = subst (λ (k : TheCore). Grows s.core k) (sym (core_aside m t log_entry notes)) (does_grow w log_entry s m does)

  abbrev pub log_steps : (log : List LogEntry) (s t : TheRun S) → Goes w jobs s log t → List TableStep
  log_steps [] s t h = []
  log_steps (log_entry ∷ log) s t h = event_steps w jobs log_entry s h.1.0 h.2 h.1.1 ++ log_steps log h.0 t h.3

  -- an end that is there stays there
  pub end_stays : (log_entry : LogEntry) (s t : TheRun S) (name : EndId) (e : ℕ) → (h : Happens w log_entry s t) → InPlace jobs s log_entry → place_of s.core name ≡ Some e → place_of t.core name ≡ Some e
  end_stays log_entry s t name e h by at =
      let below = placed_below s.core name e h.3.core at in
      let seat = at_within s.core.board.seats e below in
      let here : IsHere name e seat.0.end s.core = record {
        has = record { seat = seat.0; seat_is = seat.1; end_is = refl };
        sits = sits_first s.core name e h.3.core at;
      } in
      let went = does_go w jobs name e log_entry s h.0 seat.0.end here by h.4 h.1 in
      ap (λ (k : TheCore). place_of k name) (core_aside h.0 t log_entry h.2) ∙ went.sits.here
