-- An end of a circuit over a log: its arrival queue, and what it put on its link.
use Rattle.std.proofs.Common.{◌≡◌, refl, sym, ap, ◌∙◌, subst, ℕ, if◌then◌else◌, List, [], ◌∷◌, ◌++◌, map, slice_get, Some, Bool, true, false}
use Rattle.std.proofs.lemmas.List.{append_assoc, map-append}
use Rattle.fl_base.specs.declared.fragment.Frag.{Frag}
use Rattle.fl_base.specs.declared.identity.EndId.{EndId}
use Rattle.fl_base.specs.declared.identity.LinkId.{LinkId}
use Rattle.fl_base.specs.Control.{bare, with_circuit}
use Rattle.fl_link.proofs.Carried.{bare-bare}
use Rattle.fl_link.specs.Queue.{QueuePuts, QueueTakes}
use Rattle.fl_hop.specs.declared.entry.HopTarget.TheVariants.{Link, End}
use Rattle.fl_hop.specs.OfCircuit.{as_carried}
use Rattle.fl_hop.specs.Stretch.{TableStep, CircuitEvent as HopEvent, passed as hop_passed, wrote as hop_wrote, said as hop_said, heard as hop_heard, same_end, come_to, come_by, written_by, written_in}
use Rattle.fl_core.specs.View.{TheCore, place_of}
use Rattle.fl_core.specs.declared.wiring.WiredEnd.{WiredEnd}
use Rattle.fl_core.specs.declared.wiring.EndWiring.TheVariants.{Circuit}
use Rattle.fl_core.specs.declared.core_job.CoreJob.{CoreJob}
use Rattle.fl_core_run.specs.Run.{SideRelations, TheRun}
use Rattle.fl_core_run.specs.LogEntries.{LogEntry}
use Rattle.fl_core_run_laws.specs.Logs.{Goes}
use Rattle.fl_core_run_laws.proofs.Aside.{core_aside}
use Rattle.fl_core_run_laws.proofs.Bearing.{BearsAt, bears_same, bears_on}
use Rattle.fl_core_run_laws.proofs.Carrying.{acted_put, acted_took, of_end, log_put, log_took}
use Rattle.fl_core_run_laws.proofs.CircuitEnds.{ArrivalsBear, arrival_put, arrival_took, arrivals_bear, arrivals_put, arrivals_took, links_written}
use Rattle.fl_core_run_laws.proofs.Laning.{event_steps}
use Rattle.fl_core_run_laws.proofs.Stepping.{grows, log_steps, end_stays}

-- ---- lists of steps

pub come_joins : (name : EndId) (xs ys : List TableStep) → come_to name (xs ++ ys) ≡ come_to name xs ++ come_to name ys
come_joins name [] ys = refl
come_joins name (x ∷ xs) ys = ap (λ (fs : List Frag). come_by name x.circuit_event ++ fs) (come_joins name xs ys) ∙ sym (append_assoc (come_by name x.circuit_event) (come_to name xs) (come_to name ys))

pub written_joins : (name : EndId) (xs ys : List TableStep) → written_by name (xs ++ ys) ≡ written_by name xs ++ written_by name ys
written_joins name [] ys = refl
written_joins name (x ∷ xs) ys =
    ap (λ (fs : List Frag). written_in name x.circuit_event ++ fs) (written_joins name xs ys) ∙ sym (append_assoc (written_in name x.circuit_event) (written_by name xs) (written_by name ys))

-- what comes to an end tells no epochs and no counts
bare_if : (b : Bool) (f : Frag) → map bare (if b then as_carried f ∷ [] else []) ≡ (if b then as_carried f ∷ [] else [])
bare_if true f = ap (λ (g : Frag). g ∷ []) (bare-bare (with_circuit 0 f))
bare_if false f = refl

bare_by : (name : EndId) (log_entry : HopEvent) → map bare (come_by name log_entry) ≡ come_by name log_entry
bare_by name (hop_passed l f (End e)) = bare_if (same_end e name) f
bare_by name (hop_passed l f (Link m c)) = refl
bare_by name (hop_wrote e l f) = refl
bare_by name (hop_said l f) = refl
bare_by name (hop_heard l f) = refl

pub come_bare : (name : EndId) (steps : List TableStep) → map bare (come_to name steps) ≡ come_to name steps
come_bare name [] = refl
come_bare name (x ∷ xs) =
    map-append bare (come_by name x.circuit_event) (come_to name xs) ∙ ap (λ (fs : List Frag). fs ++ map bare (come_to name xs)) (bare_by name x.circuit_event) ∙ ap (λ (fs : List Frag). come_by name x.circuit_event ++ fs) (come_bare name xs)

-- ---- a log

module _ {S : Type 0} (w : SideRelations S) (jobs : List CoreJob) where
  pub circuit_goes : (log : List LogEntry) (s t : TheRun S) (h : Goes w jobs s log t) → (name : EndId) (e a : ℕ) (l : LinkId) (p : WiredEnd) → place_of s.core name ≡ Some e → slice_get s.core.wired_ends e ≡ Some p
      → p.wiring ≡ Circuit l a
      → BearsAt QueuePuts QueueTakes s.core.arrivals t.core.arrivals a (come_to name (log_steps w jobs log s t h)) (log_took w jobs name log s t h)
      × (written_by name (log_steps w jobs log s t h) ≡ map as_carried (log_put w jobs name log s t h))
  circuit_goes [] s t h name e a l p at there wiring = (bears_same QueuePuts QueueTakes s.core.arrivals t.core.arrivals a (ap (λ (x : TheRun S). x.core.arrivals) h), refl)
  circuit_goes (log_entry ∷ log) s t h name e a l p at there wiring =
      let grown = grows w jobs log_entry s h.1.0 h.0 h.1.1 h.1.2 in
      let more = circuit_goes log h.0 t h.3 name e a l p (end_stays w jobs log_entry s h.0 name e h.1 h.2 at) (grown.wired_ends.0 e p there) wiring in
      let steps = event_steps w jobs log_entry s h.1.0 h.2 h.1.1 in
      let rest = log_steps w jobs log h.0 t h.3 in
      let one : ArrivalsBear s.core h.0.core a (arrival_put w log_entry s h.1.0 h.1.1 a) (arrival_took w log_entry s h.1.0 h.1.1 a) =
      subst (λ (k : TheCore). ArrivalsBear s.core k a (arrival_put w log_entry s h.1.0 h.1.1 a) (arrival_took w log_entry s h.1.0 h.1.1 a)) (sym (core_aside h.1.0 h.0 log_entry h.1.2)) (arrivals_bear w log_entry s h.1.0 h.1.1 a) in
      let all = bears_on QueuePuts QueueTakes s.core.arrivals h.0.core.arrivals t.core.arrivals a (arrival_put w log_entry s h.1.0 h.1.1 a) (arrival_took w log_entry s h.1.0 h.1.1 a)
      (come_to name rest) (log_took w jobs name log h.0 t h.3) one more.0 in
      let put : arrival_put w log_entry s h.1.0 h.1.1 a ++ come_to name rest ≡ come_to name (steps ++ rest) =
      ap (λ (xs : List Frag). xs ++ come_to name rest) (arrivals_put w jobs s h.1.0 h.1.3.core name e a l p at there wiring log_entry h.2 h.1.1) ∙ sym (come_joins name steps rest) in
      let took : arrival_took w log_entry s h.1.0 h.1.1 a ++ log_took w jobs name log h.0 t h.3 ≡ of_end name log_entry (acted_took w log_entry s h.1.0 h.1.1) ++ log_took w jobs name log h.0 t h.3 =
      ap (λ (xs : List Frag). xs ++ log_took w jobs name log h.0 t h.3) (arrivals_took w jobs s h.1.0 h.1.3.core name e a l p at there wiring log_entry h.2 h.1.1) in (
        subst (λ (xs : List Frag). BearsAt QueuePuts QueueTakes s.core.arrivals t.core.arrivals a xs (of_end name log_entry (acted_took w log_entry s h.1.0 h.1.1) ++ log_took w jobs name log h.0 t h.3)) put
            (subst (λ (xs : List Frag). BearsAt QueuePuts QueueTakes s.core.arrivals t.core.arrivals a (arrival_put w log_entry s h.1.0 h.1.1 a ++ come_to name rest) xs) took all),
        written_joins name steps rest
            ∙ ap (λ (xs : List Frag). xs ++ written_by name rest) (links_written w jobs s h.1.0 h.1.3.core name e a l p at there wiring log_entry h.2 h.1.1)
            ∙ ap (λ (xs : List Frag). map as_carried (of_end name log_entry (acted_put w log_entry s h.1.0 h.1.1)) ++ xs) more.1
            ∙ sym (map-append as_carried (of_end name log_entry (acted_put w log_entry s h.1.0 h.1.1)) (log_put w jobs name log h.0 t h.3)),
      )
