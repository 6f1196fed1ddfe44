-- Over a log what a core says is open is so, and it hears of each of its openings that is answered.
use Rattle.std.proofs.Common.{◌≡◌, inl, inr, sym, subst, ℕ, List}
use Rattle.fl_base.specs.declared.fragment.Frag.{Frag}
use Rattle.fl_hop.specs.Table.{TheCircuits}
use Rattle.fl_monitor.specs.Monitors.{TheMonitor}
use Rattle.fl_core.specs.declared.core_job.CoreJob.{CoreJob}
use Rattle.fl_cores_laws.specs.Named.{Has}
use Rattle.fl_cores_laws.specs.Answered.{IsOpen, AreAnswered}
use Rattle.fl_cores_laws.proofs.Answered.{answers_rest, hears_answered, asks_answered}
use Rattle.fl_cores_laws.proofs.Logged.{IsKept}

wider : (said said2 heard heard2 : ℕ → List Frag) (m : TheMonitor) → ((l : ℕ) (f : Frag) → Has f (said2 l) → Has f (said l)) → ((l : ℕ) (f : Frag) → Has f (heard l) → Has f (heard2 l))
    → AreAnswered said heard m → AreAnswered said2 heard2 m
wider said said2 heard heard2 m fewer more n = record {
  opened = λ l f c has says_it. n.opened l f c (elim has [ inl a ↦ inl (fewer l f a) | inr b ↦ inr b ]) says_it;
  answered = λ l i here yes_there.
      (let a = n.answered l i here yes_there in record { frag = a.frag; has = more l a.frag a.has; circuit = a.circuit; number = a.number; says = a.says });
}

open_same : (t u : TheCircuits) → u ≡ t → (l n : ℕ) → IsOpen t l n → IsOpen u l n
open_same t u same l n x = subst (λ (v : TheCircuits). IsOpen v l n) (sym same) x

pub answers_kept : (jobs : List CoreJob) → IsKept AreAnswered jobs
answers_kept jobs = record {
  wider = wider;
  rests = λ said heard said2 m m2 sound2 later same from n. answers_rest said heard said2 heard m m2 n (λ l f h. h) (open_same m.circuits m2.circuits same) from same;
  hears = λ said heard heard2 m m2 sound sound2 later n more l kn frag msg h has says_it comes is put.
      hears_answered said heard heard2 m m2 sound sound2 n more l kn frag msg h has says_it comes is put;
  asks = λ said heard m m2 sound sound2 later n l c o requested next is put. asks_answered said heard heard m m2 sound sound2 n (λ k f g. g) l c o.binding o.service o.path next is put;
}
