-- Which bindings have routes over a link whose numbers are used up. Public promises rest on this file.
use Rattle.std.specs.Prelude.{ℕ, ◌≡◌, ◌≢◌, ◌<◌, List, Some}
use Rattle.fl_hop.specs.Table.{most_openings}
use Rattle.fl_model.specs.Monitors.{Core, link_to}
use Rattle.fl_model.specs.State.{core_of}
use Rattle.fl_cores_file.specs.Jobs.{Job}
use Rattle.fl_cores_file.specs.Report.{TheReport, refusal_of}
use Rattle.fl_world.specs.Booting.{TheConfig}
use Rattle.fl_cores.specs.Promised.{Reports}
use Rattle.fl_cores.specs.Reasons.{Step, IsUsedUp, IsSpent}
use Rattle.fl_cores.specs.Wanted.{behind, IsAsked}

-- a job opens binding n, and asks for a route that leads from this core to that one
pub record IsRoutedOver (c : TheConfig) (jobs : List Job) (core next n : ℕ) : Type 0 where
  pub asked : IsAsked c jobs n
  pub step : Step asked.request.route
  pub core_is : step.core ≡ core
  pub next_is : step.next ≡ next

-- so it is of 1,023 bindings, each another
pub record AreLedOver (c : TheConfig) (jobs : List Job) (core next : ℕ) : Type 0 where
  pub bindings : ℕ → ℕ
  pub over : (i : ℕ) → i < most_openings → IsRoutedOver c jobs core next (bindings i)
  pub apart : (i k : ℕ) → i < most_openings → k < most_openings → bindings i ≡ bindings k → i ≡ k

-- binding n's route leads over a link on which its core gave all its numbers, and so do those of 1,023 other bindings
pub record IsOutnumbered {c : TheConfig} {jobs : List Job} {limit : ℕ} {r : TheReport} (w : Reports c jobs limit r) (n : ℕ) : Type 0 where
  pub spent : IsSpent w n
  pub many : AreLedOver c jobs spent.step.core spent.step.next
  pub others : (i : ℕ) → i < most_openings → many.bindings i ≢ n

-- ---- laws

-- where a core gave all its numbers on its link to the next one
abbrev pub SpentLinksAreLedOver : Type 0
SpentLinksAreLedOver = (c : TheConfig) (jobs : List Job) (limit : ℕ) (r : TheReport) (w : Reports c jobs limit r) (n next link : ℕ) (core : Core)
    → core_of (behind c) n ≡ Some core → link_to next core ≡ Some link → IsUsedUp w n link → AreLedOver c jobs n next

-- where a binding is named as refused for want of a number
abbrev pub RefusedAreOutnumbered : Type 0
RefusedAreOutnumbered = (c : TheConfig) (jobs : List Job) (limit : ℕ) (r : TheReport) (w : Reports c jobs limit r) (n : ℕ)
    → refusal_of r n ≡ Some 74 → IsOutnumbered w n
