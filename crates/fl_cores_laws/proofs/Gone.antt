-- A client's end that isn't there, whose job is to open its binding over a link that is used up, never comes.
use Rattle.std.proofs.Common.{◌≡◌, ◌⊎◌, inl, inr, sym, ap, subst, ℕ, ◌≤◌, List, [], ◌∷◌, None, Ok, arith}
use Rattle.fl_base.specs.declared.identity.EndId.{EndId}
use Rattle.fl_base.specs.declared.identity.Side.TheVariants.{Client, Server}
use Rattle.fl_compile.specs.declared.program.Program.{Program}
use Rattle.fl_hop.specs.OfCircuit.{of_circuit}
use Rattle.fl_hop.specs.Stretch.{taken_from}
use Rattle.fl_hop.proofs.Counting.{next_is, next_few}
use Rattle.fl_core.specs.View.{TheCore, place_of, client_of, server_of}
use Rattle.fl_core.specs.declared.core_job.CoreJob.{CoreJob}
use Rattle.fl_core.specs.declared.core_job.OpenRequest.{OpenRequest}
use Rattle.fl_core_run.specs.Run.{SideRelations, TheRun}
use Rattle.fl_core_run.specs.LogEntries.{LogEntry, opened, Does}
use Rattle.fl_core_run_laws.specs.Led.{IsLed}
use Rattle.fl_core_run_laws.specs.Logs.{Goes}
use Rattle.fl_core_run_laws.proofs.Aside.{core_aside}
use Rattle.fl_core_run_laws.proofs.Leads.{does_led, does_later}
use Rattle.fl_core_run_laws.proofs.Stepping.{log_steps}
use Rattle.fl_cores_laws.specs.Asked.{HasLogEntry, IsServedBy, IsOpenedBy}
use Rattle.fl_cores_laws.specs.Reasons.{IsUsedUp, IsOnlyRequest}
use Rattle.fl_cores_laws.proofs.AskedLaid.{does_laid}
use Rattle.fl_cores_laws.proofs.AskedMade.{log_comes}
use Rattle.fl_cores_laws.proofs.ReasonsOwn.{used_later}

module _ {S : Type 0} (w : SideRelations S) (jobs : List CoreJob) where
  -- no circuit is asked for on a link that is used up
  opens_none : (s m : TheRun S) (o : EndId) (request : OpenRequest) (e : ℕ) → IsUsedUp s.core.monitor.circuits request.link.0 → Does w (opened o request (Ok e)) s m → ⊥
  opens_none s m o request e used h =
      let t = s.core.monitor.circuits in
      let few = next_few t.core t.links request.link.0 h.event.asks.circuit.0 (next_is t.core t.links request.link.0 h.event.asks.circuit.0 h.event.asks.opens.2) used.state used.state_is in
      let all : 1023 ≤ used.state.opened = used.all in
      omega (arith, few, all)

  never_opens : (log : List LogEntry) (s t : TheRun S) (h : Goes w jobs s log t) → IsLed s.core → (o : EndId) (request : OpenRequest) (e : ℕ) → IsUsedUp s.core.monitor.circuits request.link.0
      → HasLogEntry (opened o request (Ok e)) log → ⊥
  never_opens [] s t h led o request e used has = has
  never_opens (log_entry ∷ log) s t h led o request e used (inl same) = opens_none s h.1.0 o request e used (subst (λ (d : LogEntry). Does w d s h.1.0) same h.1.1)
  never_opens (log_entry ∷ log) s t h led o request e used (inr later) =
      let m = h.1.0 in
      let u = h.0 in
      let aside : u.core ≡ m.core = core_aside m u log_entry h.1.2 in
      let on = (does_later w jobs s m h.1.3.core h.1.3.table led log_entry h.2 h.1.1).later in
      let used_m = used_later s.core.monitor.circuits m.core.monitor.circuits (does_laid w log_entry s m h.1.1) on request.link.0 used in
      let used_u = subst (λ (k : TheCore). IsUsedUp k.monitor.circuits request.link.0) (sym aside) used_m in
      let led_u : IsLed u.core = subst IsLed (sym aside) (does_led w jobs s m h.1.3.core h.1.3.table led log_entry h.2 h.1.1) in
      never_opens log u t h.3 led_u o request e used_u later

  one_side : (a b : ℕ) → client_of a ≡ server_of b → ⊥
  one_side a b same = (let sides : Client ≡ Server = ap (λ (e : EndId). e.side) same in cc)

  pub gone : (log : List LogEntry) (s t : TheRun S) (h : Goes w jobs s log t) → IsLed s.core → (request : OpenRequest) → place_of s.core (client_of request.opening.binding) ≡ None
      → IsUsedUp s.core.monitor.circuits request.link.0 → IsOnlyRequest jobs request → place_of t.core (client_of request.opening.binding) ≡ None
  gone log s t h led request absent used alone = elim (log_comes w jobs (client_of request.opening.binding) log s t h absent) [
    | inl none ↦ none
    | inr made ↦ absurd (by made.0 made.1 made.2)
  ] where
    by : (program : Program) (d : ℕ)
        → IsServedBy s (λ l. of_circuit 0 (taken_from l (log_steps w jobs log s t h))) (client_of request.opening.binding) program d
        ⊎ IsOpenedBy jobs s log (client_of request.opening.binding) program d → ⊥
    by program d (inl x) = one_side request.opening.binding x.opening.binding x.name_is
    by program d (inr x) =
        let same : x.request ≡ request = alone x.place x.request x.job_is (ap (λ (e : EndId). e.binding) (sym x.name_is)) in
        never_opens log s t h led x.opener x.request x.at (subst (λ (y : OpenRequest). IsUsedUp s.core.monitor.circuits y.link.0) (sym same) used) x.done
