-- Programs as contracts see them.
use Rattle.std.specs.Prelude.{◌≡◌, ℕ, Option, slice_get, Some}
use Rattle.std.specs.Option.{option_map}
use Rattle.fl_interface.specs.Interface.{TheInterface, interface_of}
use Rattle.fl_value_data.specs.declared.value.PlanNo.{PlanNo}
use Rattle.fl_stub.specs.declared.op.Column.{Column}
use Rattle.fl_stub.specs.Code.{TheCode}
use Rattle.fl_stub.specs.Frames.{block_of}
use Rattle.fl_stub_steps.specs.declared.step.PreparedCode.{PreparedCode}
use Rattle.fl_stub_steps.specs.Steps.{steps_in, Means}
use Rattle.fl_compile.specs.declared.program.Program.{Program}
use Rattle.fl_compile.specs.Codes.{compiled_code}

-- an interface compiled under a plan: what else a program has is told by these two
pub record TheProgram : Type 0 where
  pub interface : TheInterface
  pub plan : PlanNo

abbrev pub program_of : Program → TheProgram
program_of p = record { interface = interface_of p.compiled.value.plans.interface; plan = p.plan }

-- the code of a program's message for a column; none where there is no such message
abbrev pub code_in : Column → TheProgram → ℕ → Option TheCode
code_in column p msg = option_map (compiled_code column p.plan) (slice_get p.interface.messages msg)

-- there is such code, and this is prepared code that means the same
abbrev pub Prepares : Option TheCode → PreparedCode → Type 0
Prepares code prepared = (c : TheCode) × (code ≡ Some c) × Means (steps_in prepared) (block_of c.ops)
