-- Over a log entries go by refusals alone.
use Rattle.std.proofs.Common.{◌≡◌, inl, inr, refl, sym, ap, ◌∙◌, subst, ℕ, false, List, slice_get, Some, None}
use Rattle.fl_base.specs.declared.fragment.Frag.{Frag}
use Rattle.fl_base.specs.declared.identity.LinkId.{LinkId}
use Rattle.fl_base.specs.declared.identity.Circuit.{Circuit}
use Rattle.fl_hop.specs.declared.entry.HopTarget.TheVariants.{Link, End}
use Rattle.fl_hop.specs.Joined.{Sound}
use Rattle.fl_hop.specs.Later.{Later}
use Rattle.fl_hop.specs.Numbers.{OpenedHere, next_own, after_opening}
use Rattle.fl_hop.specs.Openings.{opened as opened_table}
use Rattle.fl_hop.specs.Table.{TheCircuits, hop_at, leading}
use Rattle.fl_hop.proofs.Counting.{next_is}
use Rattle.fl_hop.proofs.Entries.{opened_leads}
use Rattle.fl_monitor.specs.declared.message.MonitorMessage.TheVariants.{OpenCircuit}
use Rattle.fl_monitor.specs.declared.opening.Opening.{Opening}
use Rattle.fl_monitor.specs.Monitors.{TheMonitor, IsQueuedMessage, asks}
use Rattle.fl_core.specs.View.{client_of}
use Rattle.fl_core.specs.declared.core_job.CoreJob.{CoreJob}
use Rattle.fl_cores_laws.specs.Named.{Has, AreRefused}
use Rattle.fl_cores_laws.proofs.Logged.{IsKept}
use Rattle.fl_cores_laws.proofs.Refused.{opened_before, newest_next, none_before, no_asked, refused_rests, quiet, gone_as_before, hears_refused}

wider : (said said2 heard heard2 : ℕ → List Frag) (m : TheMonitor) → ((l : ℕ) (f : Frag) → Has f (said2 l) → Has f (said l)) → ((l : ℕ) (f : Frag) → Has f (heard l) → Has f (heard2 l))
    → AreRefused said heard m → AreRefused said2 heard2 m
wider said said2 heard heard2 m fewer more n = record {
  refused = λ l f c reason has says_it. n.refused l f c reason (elim has [ inl a ↦ inl (fewer l f a) | inr b ↦ inr b ]) says_it;
  gone = λ l i here none.
      (let a = n.gone l i here none in record { frag = a.frag; has = more l a.frag a.has; circuit = a.circuit; number = a.number; reason = a.reason; says = a.says });
}

-- a circuit is asked for
asks_refused : (said heard : ℕ → List Frag) (m m2 : TheMonitor) → Sound m.circuits → Sound m2.circuits → Later m.circuits m2.circuits → AreRefused said heard m → (l : LinkId) (c : Circuit)
    (o : Opening) → next_own m.circuits l.0 ≡ Some c.0 → m2.circuits ≡ opened_table m.circuits l c o.binding → IsQueuedMessage (record { link = l; message = asks c o }) m.outboxes m2.outboxes
    → AreRefused said heard m2
asks_refused said heard m m2 sound sound2 later named l c o next is put =
    let t : TheCircuits = m.circuits in
    let leads = opened_leads t l c o.binding sound next in
    record {
      refused = quiet said heard heard m m2 sound sound2 later named (λ k f g. g) l (OpenCircuit c o.binding o.service o.path) (λ d r same. no_asked c d o.binding r o.service o.path same) put;
      gone = gone_as_before said heard heard m m2 sound sound2 later named (λ k f g. g)
          (λ k n here none. elim (opened_before t.core t.links l.0 k n (slice_get t.links l.0) refl (subst (λ (v : TheCircuits). OpenedHere v k n) is here)) [
            | inl old ↦ old
            | inr new ↦
                (let number_is = newest_next t.core t.links l.0 k n c.0 (next_is t.core t.links l.0 c.0 next) new in
                let there = ap (λ (i : ℕ). hop_at (opened_table t l c o.binding) i n) new.link_is ∙ ap (hop_at (opened_table t l c o.binding) l.0) number_is ∙ leads.there in
                let clash : leading o.binding leads.answered (End (client_of o.binding)) ≡ None = sym there ∙ sym (ap (λ (v : TheCircuits). hop_at v k n) is) ∙ none in absurd (cc))
          ])
          (λ k n none. none_before (after_opening t l.0) o.binding false (End (client_of o.binding)) (Link l c) k n (sym (ap (λ (v : TheCircuits). hop_at v k n) is) ∙ none));
    }

pub refusals_kept : (jobs : List CoreJob) → IsKept AreRefused jobs
refusals_kept jobs = record {
  wider = wider;
  rests = λ said heard said2 m m2 sound2 later same from n. refused_rests said heard said2 heard m m2 later n (λ l f h. h) from same;
  hears = λ said heard heard2 m m2 sound sound2 later n more l kn frag msg h has says_it comes is put.
      hears_refused said heard heard2 m m2 sound sound2 later n more l kn frag msg h has says_it comes is put;
  asks = λ said heard m m2 sound sound2 later n l c o requested next is put. asks_refused said heard m m2 sound sound2 later n l c o next is put;
}
