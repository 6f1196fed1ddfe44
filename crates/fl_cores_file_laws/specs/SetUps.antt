-- That a cores file is refused as the machine refuses its set-up. Law. Public promises rest on this file.
use Rattle.std.specs.Prelude.{ℕ, ◌≡◌, ◌≢◌, ◌⊎◌, ◌≤◌, not, Bool, true, false, List, [], ◌∷◌, length}
use Rattle.std.specs.List.{list_all}
use Rattle.fl_base.specs.Numbered.{most_bindings}
use Rattle.fl_model.specs.Events.{Event, add_interface, set_cores, add_link, add_dispatcher, export, bind}
use Rattle.fl_model.specs.Events.{by_queues, by_ring, Answer, done, refused}
use Rattle.fl_model.specs.Runs.{answers_to, reached}
use Rattle.fl_model.specs.State.{State}
use Rattle.fl_model.specs.Step.{step}
use Rattle.fl_model.specs.Worlds.{start_with}
use Rattle.fl_cores_file.specs.CoresFile.{CoresFile, is_file, Reads}
use Rattle.fl_cores_file.specs.Draft.{Draft, nothing_yet, takes}
use Rattle.fl_cores_file.specs.Verdicts.{LineVerdict, stops, goes_on}

-- ---- lines

-- a line sets something up before the cores run: an interface, a link, a dispatcher, a service, or a binding
-- by queues or by a ring; the number of cores is a matter of its own
abbrev pub sets_up : Event → Bool
sets_up (add_interface i plan) = true
sets_up (add_link a b size) = true
sets_up (add_dispatcher core) = true
sets_up (export name d i) = true
sets_up (bind client i name (by_queues slots)) = true
sets_up (bind client i name (by_ring slots)) = true
sets_up event = false

-- these lines, the last of them first, were accepted one after another, and came to this draft
abbrev pub ComeTo : List Event → Draft → Type 0
ComeTo [] d = d ≡ nothing_yet
ComeTo (v ∷ before) d = (c : Draft) × ComeTo before c × (takes v c ≡ goes_on d)

-- ---- the machine

-- the machine behind them: with as many cores, and what they set up
abbrev pub behind : Draft → State
behind d = reached (start_with d.cores) d.setup

abbrev pub is_refusal : Answer → Bool
is_refusal (refused fault) = true
is_refusal answer = false

-- with so many cores it refuses none of these events
abbrev pub Passes : ℕ → List Event → Type 0
Passes cores events = list_all (λ a. not (is_refusal a)) (answers_to (start_with cores) events) ≡ true

-- ---- a line, and the machine's event

-- the answer that stands for what comes of a line
abbrev pub answer_for : LineVerdict Draft → Answer
answer_for (stops fault) = refused fault
answer_for (goes_on d) = done

abbrev pub is_binding : Event → Bool
is_binding (bind client i name kind) = true
is_binding event = false

-- a binding is refused since there are 1,024 already (E94); jobs open some of these, and the machine doesn't
-- have them yet. The machine doesn't refuse the binding for its names (E92)
pub record IsOneTooMany (v : Event) (d : Draft) : Type 0 where
  pub binding : is_binding v ≡ true
  pub too_many : most_bindings ≤ length d.bindings
  pub refused_as : takes v d ≡ stops 94
  pub named : (step (behind d) v).answer ≢ refused 92

-- of a draft that lines came to: the machine refused nothing of what they set up; it answers each line that
-- sets something up, behind these, by just the number for which the line is refused, or by `done` where it
-- isn't; and so it does a number of cores, where that isn't settled
pub record IsTheMachines (d : Draft) : Type 0 where
  pub passes : Passes d.cores d.setup
  pub answered : (v : Event) → sets_up v ≡ true
      → ((step (behind d) v).answer ≡ answer_for (takes v d)) ⊎ IsOneTooMany v d
  pub cores : (n : ℕ) → d.settled ≡ false
      → (step (behind d) (set_cores n)).answer ≡ answer_for (takes (set_cores n) d)

abbrev pub SetUpsAreTheMachines : Type 0
SetUpsAreTheMachines = (lines : List Event) (d : Draft) → ComeTo lines d → IsTheMachines d

-- ---- a file

-- so the machine refuses nothing of the set-up of a text that is a cores file
abbrev pub FilesPass : Type 0
FilesPass = (text : List ℕ) (file : CoresFile) → Reads text (is_file file) → Passes file.cores file.setup
