-- Bindings whose opening was refused: nothing came of them. Laws.
use Rattle.std.specs.Prelude.{ℕ, ◌≡◌, ◌≤◌, List, [], slice_get, Some, None}
use Rattle.fl_base.specs.declared.identity.EndId.{EndId}
use Rattle.fl_core.specs.View.{client_of}
use Rattle.fl_cores_file.specs.Jobs.{Job}
use Rattle.fl_cores_file.specs.Report.{TheReport, at_end, refusal_of, Honest}
use Rattle.fl_cores_jobs.specs.declared.end_work.BindingCores.{BindingCores}
use Rattle.fl_cores_jobs.specs.State.{TheJoinedJobs}
use Rattle.fl_cores_laws.specs.EndedCores.{OneCore}
use Rattle.fl_cores_laws.specs.EndedBegins.{Ran}
use Rattle.fl_cores_laws.specs.Complete.{Knows}
use Rattle.fl_cores_laws.specs.Few.{AreEnds, handled_at_all}

-- a binding that is named as refused is one that a job opens; its client's end handled nothing, and made no call
pub record WasRefused (j : TheJoinedJobs) (r : TheReport) (binding : ℕ) : Type 0 where
  pub bound : BindingCores
  pub bound_is : slice_get j.bindings binding ≡ Some bound
  pub job : ℕ
  pub opened : bound.opened ≡ Some job
  pub handled : at_end r.handled (client_of binding) ≡ []
  pub made : at_end r.made (client_of binding) ≡ []

abbrev pub RefusedAreOpened : Type 0
RefusedAreOpened = (asked : List Job) (j : TheJoinedJobs) (limit : ℕ) (cores : List OneCore) (r : TheReport) → Ran asked j limit cores r
    → (binding fault : ℕ) → refusal_of r binding ≡ Some fault → WasRefused j r binding

-- of an end of a binding that no job opens no refusal is known
abbrev pub SetUpIsNotRefused : Type 0
SetUpIsNotRefused = (asked : List Job) (j : TheJoinedJobs) (limit : ℕ) (cores : List OneCore) (r : TheReport) → Ran asked j limit cores r
    → (n : ℕ) (c : OneCore) (e : EndId) (b : BindingCores) → slice_get cores n ≡ Some c → slice_get j.bindings e.binding ≡ Some b → b.opened ≡ None
    → Knows c e → ⊥

-- so in an honest report nothing was handled at an end where the core knew of a refusal
abbrev pub RefusedAreSilent : Type 0
RefusedAreSilent = (asked : List Job) (j : TheJoinedJobs) (limit : ℕ) (cores : List OneCore) (r : TheReport) → Ran asked j limit cores r
    → Honest asked r → (n : ℕ) (c : OneCore) (e : EndId) → slice_get cores n ≡ Some c → Knows c e → at_end r.handled e ≡ []

-- and no dispatcher handled more calls than its core took turns
abbrev pub HonestHandleFew : Type 0
HonestHandleFew = (asked : List Job) (j : TheJoinedJobs) (limit : ℕ) (cores : List OneCore) (r : TheReport) → Ran asked j limit cores r
    → Honest asked r → (n d : ℕ) (c : OneCore) (ends : List EndId) → slice_get cores n ≡ Some c → AreEnds j n c d ends
    → handled_at_all r.handled ends ≤ c.part.turns
