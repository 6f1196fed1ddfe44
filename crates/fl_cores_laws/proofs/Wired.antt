-- Links of cores that were set up together: each on which a number was given in a run has another core on its other side, as both tables say.
use Rattle.std.proofs.Common.{◌≡◌, inl, inr, refl, sym, ap, ◌∙◌, subst, ℕ, List, [], ◌∷◌, slice_get, Option, Some, None}
use Rattle.std.specs.Option.{option_map}
use Rattle.fl_base.specs.declared.identity.LinkId.{LinkId}
use Rattle.fl_hop.specs.declared.links.LinkState.{LinkState}
use Rattle.fl_core.specs.View.{TheCore, side_of_link}
use Rattle.fl_core.specs.declared.core_job.CoreJob.{CoreJob}
use Rattle.fl_core_run.specs.Run.{SideRelations, TheRun}
use Rattle.fl_core_run.specs.LogEntries.{LogEntry}
use Rattle.fl_core_run_laws.specs.Logs.{Goes}
use Rattle.fl_core_run_laws.proofs.Aside.{core_aside}
use Rattle.fl_cores_laws.specs.Cores.{OneCore, shared_ways}
use Rattle.fl_cores_laws.specs.Circuits.{Leading, AreOneLink}
use Rattle.fl_cores_laws.specs.Meeting.{WiredArePaired}
use Rattle.fl_cores_laws.proofs.AskedLaid.{Laid, laid_same, laid_then, does_laid}
use Rattle.fl_cores_laws.proofs.AskedRoutes.{side_there}

-- ---- a link that is there in the end was there at the start

log_laid : {S : Type 0} (w : SideRelations S) (jobs : List CoreJob) (log : List LogEntry) (s t : TheRun S) → Goes w jobs s log t → Laid s.core.monitor.circuits t.core.monitor.circuits
log_laid w jobs [] s t h = laid_same s.core.monitor.circuits t.core.monitor.circuits (ap (λ (x : TheRun _). x.core.monitor.circuits) h)
log_laid w jobs (log_entry ∷ log) s t h =
    laid_then s.core.monitor.circuits h.0.core.monitor.circuits t.core.monitor.circuits
    (subst (λ (k : TheCore). Laid s.core.monitor.circuits k.monitor.circuits) (sym (core_aside h.1.0 h.0 log_entry h.1.2)) (does_laid w log_entry s h.1.0 h.1.1))
    (log_laid w jobs log h.0 t h.3)

state_by : (a b : Option LinkState) (state : LinkState) → a ≡ Some state → option_map (λ (x : LinkState). x.neighbour) a ≡ option_map (λ (x : LinkState). x.neighbour) b → (x : LinkState) × (b ≡ Some x)
state_by a None state is same =
    absurd (let clash : Some state.neighbour ≡ None = sym (ap (option_map (λ (x : LinkState). x.neighbour)) is) ∙ same in cc)
state_by a (Some x) state is same = (x, refl)

pub link_side_there : (jobs : List CoreJob) (c : OneCore) → Leading jobs c → (l : ℕ) (state : LinkState) → slice_get c.finish.core.monitor.circuits.links l ≡ Some state
    → (side : ℕ) × (side_of_link c.start.core.link_sides l ≡ Some side)
link_side_there jobs c v l state at =
    let laid = log_laid shared_ways jobs c.log c.start c.finish v.went.goes in
    let (before, was) = state_by (slice_get c.finish.core.monitor.circuits.links l) (slice_get c.start.core.monitor.circuits.links l) state at (laid.links l) in
    side_there c.start.core v.went.core l before was

-- ---- a link from its other side

pub turned : (c d : OneCore) (l m : LinkId) → AreOneLink c l d m → AreOneLink d m c l
turned c d l m x = record {
  near = x.far;
  near_is = x.far_is;
  far = x.near;
  far_is = x.near_is;
  ring = elim x.ring [ inl one ↦ inr one | inr two ↦ inl two ];
}

-- ---- law

pub are_paired : WiredArePaired
are_paired jobs cores wired = record {
  leading = wired.leading;
  unused = wired.unused;
  paired = λ n number d m is there.
      (let (side, link_side) = link_side_there jobs d (wired.leading n d is) m.0 there.link there.there in
      let x = wired.links n side d m is link_side in
      record { across = x.across; back = x.back });
}
