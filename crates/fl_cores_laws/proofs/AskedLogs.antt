-- Over a log what a core asks for stays asked for, or heard.
use Rattle.std.proofs.Common.{◌≡◌, inl, inr, sym, ap, ◌∙◌, subst, ℕ, List}
use Rattle.fl_base.specs.declared.fragment.Frag.{Frag}
use Rattle.fl_base.specs.declared.identity.CoreId.{CoreId}
use Rattle.fl_base.specs.declared.identity.Circuit.{Circuit}
use Rattle.fl_hop.specs.Table.{TheCircuits}
use Rattle.fl_monitor.specs.declared.opening.Opening.{Opening}
use Rattle.fl_monitor.specs.Monitors.{TheMonitor, asks}
use Rattle.fl_core.specs.declared.core_job.CoreJob.{CoreJob}
use Rattle.fl_cores_laws.specs.Named.{Has}
use Rattle.fl_cores_laws.specs.Asked.{IsRequested, AreAsked}
use Rattle.fl_cores_laws.proofs.Asked.{came_more, asked_rests, one_more, hears_asked}
use Rattle.fl_cores_laws.proofs.AskedLaid.{Laid, laid_same, laid_then, laid_along, table_laid, opened_laid}
use Rattle.fl_cores_laws.proofs.Logged.{IsKept}

-- with the core and the neighbours of this table
abbrev pub AreAskedFrom : List CoreJob → TheCircuits → (ℕ → List Frag) → (ℕ → List Frag) → TheMonitor → Type 0
AreAskedFrom jobs t0 said heard m = Laid t0 m.circuits × AreAsked jobs t0 said heard m

-- no words ask for two openings
asks_one : (c d : Circuit) (a b : Opening) → asks c a ≡ asks d b → a ≡ b
asks_one c d a b same =
    let bindings : a.binding ≡ b.binding = cc in
    let services : a.service ≡ b.service = cc in
    let paths : a.path ≡ b.path = cc in
    ap (λ (n : ℕ). let o : Opening = record { binding = n; service = a.service; path = a.path } in o) bindings
    ∙ ap (λ x. let o : Opening = record { binding = b.binding; service = x; path = a.path } in o) services
    ∙ ap (λ (p : List CoreId). let o : Opening = record { binding = b.binding; service = b.service; path = p } in o) paths

module _ (jobs : List CoreJob) (t0 : TheCircuits) where
  wider : (said said2 heard heard2 : ℕ → List Frag) (m : TheMonitor) → ((l : ℕ) (f : Frag) → Has f (said2 l) → Has f (said l)) → ((l : ℕ) (f : Frag) → Has f (heard l) → Has f (heard2 l))
      → AreAsked jobs t0 said heard m → AreAsked jobs t0 said2 heard2 m
  wider said said2 heard heard2 m fewer more n l f o has a = elim (n l f o (elim has [ inl x ↦ inl (fewer l f x) | inr b ↦ inr b ]) a) [
    | inl requested ↦ inl requested
    | inr came ↦ inr (came_more t0 heard heard2 more o came)
  ]

  pub asks_kept : IsKept (AreAskedFrom jobs t0) jobs
  asks_kept = record {
    wider = λ said said2 heard heard2 m fewer more n. (n.0, wider said said2 heard heard2 m fewer more n.1);
    rests = λ said heard said2 m m2 sound2 later same from n.
        (laid_then t0 m.circuits m2.circuits n.0 (laid_same m.circuits m2.circuits same), asked_rests jobs t0 said heard heard m m2 n.1 (λ l f h. h) said2 from);
    hears = λ said heard heard2 m m2 sound sound2 later n more l kn frag msg h has says_it comes is put. (
      laid_then t0 m.circuits m2.circuits n.0 (subst (Laid m.circuits) (sym is) (table_laid m.circuits l msg h)),
      hears_asked jobs t0 said heard heard2 m m2 n.1 more kn l frag msg h has says_it comes (λ path. laid_along t0 m.circuits n.0 l.0 path) put,
    );
    asks = λ said heard m m2 sound sound2 later n l c o requested next is put. (
      laid_then t0 m.circuits m2.circuits n.0 (subst (Laid m.circuits) (sym is) (opened_laid m.circuits l c o.binding)),
      one_more jobs t0 said heard heard m m2 n.1 (λ k f h. h) l (asks c o) put (λ d p same. inl (subst (IsRequested jobs) (asks_one c d o p same) requested)),
    );
  }
