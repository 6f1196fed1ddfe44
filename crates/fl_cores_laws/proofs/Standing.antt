-- An end of an end's work that wasn't there as the run began is loose in the end, or stands bound.
use Rattle.std.proofs.Common.{◌≡◌, ◌⊎◌, inl, inr, refl, sym, ap, ◌∙◌, subst, ℕ, List, [], ◌∷◌, slice_get, Option, Some, None}
use Rattle.fl_base.specs.declared.identity.EndId.{EndId}
use Rattle.fl_base.specs.declared.identity.LinkId.{LinkId}
use Rattle.fl_base.specs.declared.identity.Circuit.{Circuit as Number}
use Rattle.fl_core.proofs.BoardPlaces.{one_stands}
use Rattle.fl_core.specs.BoardView.{TheEndAtChannel}
use Rattle.fl_core.specs.declared.wiring.WiredEnd.{WiredEnd}
use Rattle.fl_core.specs.declared.wiring.EndWiring.TheVariants.{Circuit}
use Rattle.fl_core.specs.View.{TheCore, place_of}
use Rattle.fl_core.specs.declared.core_job.CoreJob.{CoreJob}
use Rattle.fl_core_run.specs.Run.{SideRelations, TheRun}
use Rattle.fl_core_run.specs.LogEntries.{LogEntry}
use Rattle.fl_core_run_laws.specs.Logs.{Goes}
use Rattle.fl_core_run_laws.specs.Flows.{LogsFlow}
use Rattle.fl_core_run_laws.proofs.Aside.{core_aside}
use Rattle.fl_core_run_laws.proofs.CircuitsMade.{MadeOn, does_make, places_to, wired_ends_to}
use Rattle.fl_core_run_laws.proofs.Newcomers.{Absent}
use Rattle.fl_cores_jobs.specs.EndWork.{TheEndWork}
use Rattle.fl_cores_laws.specs.Cores.{OneCore, shared_ways}
use Rattle.fl_cores_laws.specs.Ends.{HasProgress}
use Rattle.fl_cores_laws.specs.Circuits.{Leading, StandsBound}
use Rattle.fl_cores_laws.specs.Rules.{RulesAreSet}
use Rattle.fl_cores_laws.specs.Stands.{IsPlanned, point_at, PlannedEndsStand}
use Rattle.fl_cores_laws.specs.Unbound.{IsLoose}

same_number : (n m : ℕ) → Some n ≡ Some m → n ≡ m
same_number n m is = cc

-- ---- its wired end

-- the end of this name stands at this place, on a circuit
pub record OnCircuit (k : TheCore) (e : ℕ) : Type 0 where
  pub wired_end : WiredEnd
  pub wired_end_is : slice_get k.wired_ends e ≡ Some wired_end
  pub link : LinkId
  pub queue : ℕ
  pub wiring_is : wired_end.wiring ≡ Circuit link queue

module _ {S : Type 0} (w : SideRelations S) (jobs : List CoreJob) (name : EndId) where
  made_there : (log : List LogEntry) (s t : TheRun S) → Goes w jobs s log t → MadeOn name s.core → (e : ℕ) → place_of t.core name ≡ Some e → OnCircuit t.core e
  made_there log s t h b e at =
      let place = same_number b.place e (sym (places_to w jobs name log s t b.place h b.place_is) ∙ at) in
      record {
        wired_end = b.wired_end;
        wired_end_is = subst (λ (i : ℕ). slice_get t.core.wired_ends i ≡ Some b.wired_end) place (wired_ends_to w jobs name log s t b.place b.wired_end h b.wired_end_is);
        link = b.link;
        queue = b.queue;
        wiring_is = b.wiring_is;
      }

  pub on_circuit : (log : List LogEntry) (s t : TheRun S) → Goes w jobs s log t → Absent name s.core → (e : ℕ) → place_of t.core name ≡ Some e → OnCircuit t.core e
  on_circuit [] s t h absent e at = absurd (let no : Some e ≡ None = sym at ∙ ap (λ (x : TheRun S). place_of x.core name) h ∙ absent in cc)
  on_circuit (log_entry ∷ log) s t h absent e at =
      by (does_make w jobs name log_entry s h.1.0 h.1.3.core absent h.2 h.1.1) (λ still. on_circuit log h.0 t h.3 still e at) where
        same : h.0.core ≡ h.1.0.core
        same = core_aside h.1.0 h.0 log_entry h.1.2

        by : Absent name h.1.0.core ⊎ MadeOn name h.1.0.core → (Absent name h.0.core → OnCircuit t.core e) → OnCircuit t.core e
        by (inl still) onward = onward (ap (λ (k : TheCore). place_of k name) same ∙ still)
        by (inr b) onward = made_there log h.0 t h.3 (subst (MadeOn name) (sym same) b) e at

-- ---- law

module _ (flow : LogsFlow shared_ways) (rules : RulesAreSet) (jobs : List CoreJob) (d : TheEndWork) (c : OneCore) (e : EndId) (v : Leading jobs c) (h : HasProgress d c.start e)
    (x : IsPlanned jobs d c e) where
  abbrev Stand : Type 0
  Stand = IsLoose c.finish e ⊎ ((l : LinkId) × (n : Number) × StandsBound jobs d e (point_at c l n))

  loose_none : place_of c.finish.core e ≡ None → IsLoose c.finish e
  loose_none none place seat at there = absurd (let clash : None ≡ Some place = sym none ∙ at in cc)

  module _ (place : ℕ) (at : place_of c.finish.core e ≡ Some place) (seat : TheEndAtChannel) (there : slice_get c.finish.core.board.seats place ≡ Some seat) where
    loose_there : seat.end.circuit ≡ None → IsLoose c.finish e
    loose_there none place2 seat2 at2 there2 =
        let places = same_number place place2 (sym at ∙ at2) in
        let seats = one_stands c.finish.core.board.seats place2 seat seat2 (subst (λ (i : ℕ). slice_get c.finish.core.board.seats i ≡ Some seat) places there) there2 in
        ap (λ (y : TheEndAtChannel). y.end.circuit) (sym seats) ∙ none

    stands_there : (n : ℕ) → seat.end.circuit ≡ Some n → Stand
    stands_there n bound =
        let on = on_circuit shared_ways jobs e c.log c.start c.finish v.went.goes x.absent place at in
        inr (
          on.link,
          record { 0 = n },
          record {
            absent = x.absent;
            place = place;
            place_is = at;
            wired_end = on.wired_end;
            wired_end_is = on.wired_end_is;
            arrivals = on.queue;
            wiring_is = on.wiring_is;
            seat = seat;
            seat_is = there;
            circuit = bound;
            rules = rules jobs d c e seat v.went h (record {
              absent = x.absent;
              place = place;
              place_is = at;
              seat_is = there;
              lead = x.lead;
              set = x.set;
              fit = x.fit place seat at there;
            });
            lead = x.lead;
            none = x.none;
          },
        )

    by_circuit : (o : Option ℕ) → seat.end.circuit ≡ o → Stand
    by_circuit None none = inl (loose_there none)
    by_circuit (Some n) bound = stands_there n bound

  by_place : (o : Option ℕ) → place_of c.finish.core e ≡ o → Stand
  by_place None none = inl (loose_none none)
  by_place (Some place) at =
      let made = (flow jobs c.start c.finish c.log v.went.core v.went.apart v.went.goes).made e place x.absent at in
      by_circuit place at made.carries.after made.carries.after_is made.carries.after.end.circuit refl

pub planned_stand : LogsFlow shared_ways → RulesAreSet → PlannedEndsStand
planned_stand flow rules jobs d c e v h x = by_place flow rules jobs d c e v h x (place_of c.finish.core e) refl
