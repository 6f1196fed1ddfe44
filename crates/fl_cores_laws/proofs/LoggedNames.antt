-- Over a log a core's numbers stay named by their bindings.
use Rattle.std.proofs.Common.{◌≡◌, inl, inr, refl, sym, subst, ℕ, false, List, slice_get, Some}
use Rattle.fl_base.specs.declared.fragment.Frag.{Frag}
use Rattle.fl_base.specs.declared.identity.LinkId.{LinkId}
use Rattle.fl_base.specs.declared.identity.Circuit.{Circuit}
use Rattle.fl_hop.specs.declared.entry.HopTarget.TheVariants.{Link, End}
use Rattle.fl_hop.specs.Joined.{Sound}
use Rattle.fl_hop.specs.Later.{Later}
use Rattle.fl_hop.specs.Numbers.{OpenedThere, next_own, after_opening}
use Rattle.fl_hop.specs.Openings.{opened as opened_table}
use Rattle.fl_hop.specs.Table.{TheCircuits}
use Rattle.fl_hop.proofs.Counting.{next_is, never_next}
use Rattle.fl_monitor.specs.declared.message.MonitorMessage.TheVariants.{OpenCircuit}
use Rattle.fl_monitor.specs.declared.opening.Opening.{Opening}
use Rattle.fl_monitor.specs.Monitors.{TheMonitor, IsQueuedMessage, asks}
use Rattle.fl_core.specs.View.{client_of}
use Rattle.fl_core.specs.declared.core_job.CoreJob.{CoreJob}
use Rattle.fl_cores_laws.specs.Named.{Has, IsGivenFor, AreNamed}
use Rattle.fl_cores_laws.proofs.Bound.{entry_binding, given_there}
use Rattle.fl_cores_laws.proofs.Counted.{taken_still, opened_new}
use Rattle.fl_cores_laws.proofs.Logged.{IsKept}
use Rattle.fl_cores_laws.proofs.Named.{named_rests, asked_then, told_still, opening_parts, hears_named}

wider : (said said2 heard heard2 : ℕ → List Frag) (m : TheMonitor) → ((l : ℕ) (f : Frag) → Has f (said2 l) → Has f (said l)) → ((l : ℕ) (f : Frag) → Has f (heard l) → Has f (heard2 l))
    → AreNamed said heard m → AreNamed said2 heard2 m
wider said said2 heard heard2 m fewer more n = record {
  asked = λ l f c binding has asks. n.asked l f c binding (elim has [ inl a ↦ inl (fewer l f a) | inr b ↦ inr b ]) asks;
  told = λ l i hop there at. (let a = n.told l i hop there at in record { frag = a.frag; has = more l a.frag a.has; circuit = a.circuit; number = a.number; asks = a.asks });
}

-- a circuit is asked for
asks_named : (said heard : ℕ → List Frag) (m m2 : TheMonitor) → Sound m.circuits → Sound m2.circuits → Later m.circuits m2.circuits → AreNamed said heard m → (l : LinkId) (c : Circuit) (o : Opening)
    → next_own m.circuits l.0 ≡ Some c.0 → m2.circuits ≡ opened_table m.circuits l c o.binding → IsQueuedMessage (record { link = l; message = asks c o }) m.outboxes m2.outboxes → AreNamed said heard m2
asks_named said heard m m2 sound sound2 later named l c o next is put =
    let t : TheCircuits = m.circuits in
    let u : TheCircuits = opened_table t l c o.binding in
    let given_now : IsGivenFor u l.0 c.0 o.binding = record {
      given = opened_new t.core t.links l.0 c.0 (next_is t.core t.links l.0 c.0 next);
      entry = λ hop at. elim (entry_binding (after_opening t l.0) o.binding false (End (client_of o.binding)) (Link l c) l.0 c.0 hop at) [
        | inl own ↦ own
        | inr stood ↦ absurd (never_next t.core t.links sound.apart l.0 c.0 (next_is t.core t.links l.0 c.0 next) (given_there t l.0 c.0 hop sound stood))
      ];
    } in
    record {
      asked = asked_then said heard said heard m m2 sound2 later named (λ k f g. g) l (OpenCircuit c o.binding o.service o.path) put (λ k f g. g)
          (λ d b x p same. (let (one, two) = opening_parts c d o.binding b o.service x o.path p same in
          subst (λ (i : Circuit). IsGivenFor m2.circuits l.0 i.0 b) one (subst (λ (i : ℕ). IsGivenFor m2.circuits l.0 c.0 i) two
          (subst (λ (v : TheCircuits). IsGivenFor v l.0 c.0 o.binding) (sym is) given_now))));
      told = λ k n hop there at.
          told_still said heard said heard m m2 sound2 later named (λ i f g. g) k n hop there
          (inr (taken_still t.core t.links l.0 k n (slice_get t.links l.0) refl (subst (λ (v : TheCircuits). OpenedThere v k n) is there))) at;
    }

pub names_kept : (jobs : List CoreJob) → IsKept AreNamed jobs
names_kept jobs = record {
  wider = wider;
  rests = λ said heard said2 m m2 sound2 later same from n.
      named_rests said heard said2 heard m m2 sound2 later n (λ l f h. h) from (λ l i there. subst (λ (t : TheCircuits). OpenedThere t l i) same there);
  hears = λ said heard heard2 m m2 sound sound2 later n more l kn frag msg h has says_it comes is put.
      hears_named said heard heard2 m m2 sound sound2 later n more l kn frag msg h has says_it comes is put;
  asks = λ said heard m m2 sound sound2 later n l c o requested next is put. asks_named said heard m m2 sound sound2 later n l c o next is put;
}
