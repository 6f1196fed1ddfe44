-- What a call of the checker answers.
use Rattle.std.specs.Prelude.{◌≡◌, Option, Some, None, Result, Ok, Err}
use Rattle.fl_interface.specs.declared.interface.Interface.{Interface}
use Rattle.fl_check.specs.declared.fault.CheckFault.{CheckFault}
use Rattle.fl_check.specs.declared.fault.CheckFault.TheVariants.{Broken, Memory}
use Rattle.fl_interface.specs.Interface.{interface_of}
use Rattle.fl_check.specs.Checks.{CheckOutcome, checked, check_fault, Checks}
use Rattle.fl_parse.specs.Tree.{TheTree}
use Rattle.fl_check.specs.Faults.{rule_number}

-- the outcome of a call, out of memory aside
abbrev pub outcome_of : Result Interface CheckFault → Option CheckOutcome
outcome_of (Ok i) = Some (checked (interface_of i))
outcome_of (Err e) = elim e as (λ _. Option CheckOutcome) [ Broken r at ↦ Some (check_fault (rule_number r) at) | Memory ↦ None ]

-- each tree has an outcome
abbrev pub SomeOutcome : Type 0
SomeOutcome = (tree : TheTree) → (outcome : CheckOutcome) × Checks tree outcome

-- and one at most
abbrev pub OneOutcome : Type 0
OneOutcome = (tree : TheTree) (a b : CheckOutcome) → Checks tree a → Checks tree b → a ≡ b
