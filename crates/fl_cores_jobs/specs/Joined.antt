-- Jobs joined to the ends at which they are done: what is known of bindings, and of the jobs that open them.
use Rattle.std.specs.Prelude.{ℕ, ◌≡◌, ◌*◌, ◌≤◌, ◌<◌, List, length, slice_get, Some, Option, None}
use Rattle.fl_base.specs.declared.identity.Side.{Side}
use Rattle.fl_base.specs.declared.identity.Side.TheVariants.{Client, Server}
use Rattle.fl_base.specs.declared.identity.EndId.{EndId}
use Rattle.fl_base.specs.Given.{given}
use Rattle.fl_cores_jobs.specs.declared.end_work.BindingCores.{BindingCores}
use Rattle.fl_cores_jobs.specs.declared.end_work.EndWork.{EndWork}

-- the core of the end of a side
abbrev pub core_of : Side → BindingCores → ℕ
core_of Client b = b.client
core_of Server b = b.server

-- that of an end
abbrev pub core_at : List BindingCores → EndId → Option ℕ
core_at bindings e = given (slice_get bindings e.binding) None λ b. Some (core_of e.side b)

-- bindings of a run of so many cores, of which jobs open some: of each such job the core that does it
pub record AreBindings (cores : ℕ) (bindings : List BindingCores) (owners : List ℕ) : Type 0 where
  pub few : length bindings ≤ 1024
  pub fewer : length owners ≤ length bindings
  pub client : (b : ℕ) (x : BindingCores) → slice_get bindings b ≡ Some x → x.client < cores
  pub server : (b : ℕ) (x : BindingCores) → slice_get bindings b ≡ Some x → x.server < cores
  -- the client's core opens it
  pub opened : (b job : ℕ) (x : BindingCores) → slice_get bindings b ≡ Some x → x.opened ≡ Some job → slice_get owners job ≡ Some x.client
  -- each job opens one binding
  pub apart : (b c job : ℕ) (x y : BindingCores) → slice_get bindings b ≡ Some x → slice_get bindings c ≡ Some y
      → x.opened ≡ Some job → y.opened ≡ Some job → b ≡ c

-- there is an end's work for each end
abbrev pub HasEndWork : List BindingCores → List EndWork → Type 0
HasEndWork bindings end_works = length end_works ≡ 2 * length bindings
