-- Reply rules that are set before the cores run, at the ends that are there.
use Rattle.std.specs.Prelude.{ℕ, ◌≡◌, List, [], ◌∷◌, slice_get, slice_set, Option, Some, None, Ok}
use Rattle.fl_base.specs.declared.identity.EndId.{EndId}
use Rattle.fl_endpoint.specs.Events.{SetsRule}
use Rattle.fl_core.specs.BoardEvents.{ChangesEnd}
use Rattle.fl_core.specs.View.{TheCore, place_of}
use Rattle.fl_core.specs.Ends.{OnBoard}
use Rattle.fl_world_refines.specs.declared.binding.Binding.{Binding}
use Rattle.fl_world_refines.specs.View.{core_in}
use Rattle.fl_cores_file.specs.Jobs.{Job, replies}

-- the end of a name is at the core, and has the rule from now on
pub record RulesCore (e : EndId) (msg answer : ℕ) (k k2 : TheCore) : Type 0 where
  pub place : ℕ
  pub place_is : place_of k e ≡ Some place
  pub sets : OnBoard k (λ b c. ChangesEnd b place (λ s t. SetsRule s msg answer (Ok tt) t) c) k2

-- of all cores the one at this place has changed so
pub record RulesAt (n : ℕ) (e : EndId) (msg answer : ℕ) (cores cores2 : List TheCore) : Type 0 where
  pub core : TheCore
  pub core_is : slice_get cores n ≡ Some core
  pub after : TheCore
  pub rules : RulesCore e msg answer core after
  pub rest : cores2 ≡ slice_set cores n after

-- an end of a binding that is set up has the rule at once; any other end gets it when it is made
abbrev pub RuleNow : Option Binding → EndId → ℕ → ℕ → List TheCore → List TheCore → Type 0
RuleNow None e msg answer cores cores2 = cores2 ≡ cores
RuleNow (Some x) e msg answer cores cores2 = RulesAt (core_in e.side x) e msg answer cores cores2

-- what a job sets at once
abbrev pub RuleOf : List Binding → Job → List TheCore → List TheCore → Type 0
RuleOf bindings (replies e msg answer) cores cores2 = RuleNow (slice_get bindings e.binding) e msg answer cores cores2
RuleOf bindings job cores cores2 = cores2 ≡ cores

-- and jobs, one after another
abbrev pub RulesOf : List Binding → List Job → List TheCore → List TheCore → Type 0
RulesOf bindings [] cores cores2 = cores2 ≡ cores
RulesOf bindings (job ∷ jobs) cores cores2 = (m : List TheCore) × RuleOf bindings job cores m × RulesOf bindings jobs m cores2
