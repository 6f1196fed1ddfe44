-- Prepared code as contracts see it: larger steps, and what each makes of a packed tape.
use Rattle.std.specs.Prelude.{◌≡◌, ℕ, ◌*◌, List, [], ◌∷◌, ◌++◌, map}
use Rattle.fl_stub.specs.Structure.{Block}
use Rattle.fl_stub_steps.specs.declared.step.StubStep.{StubStep}
use Rattle.fl_stub_steps.specs.declared.step.PreparedCode.{PreparedCode}
use Rattle.fl_stub_steps.specs.declared.step.StubStep.TheOpen.{StubStep-F, Span, Align, Each, Counted, Times}
use Rattle.fl_stub_steps.specs.declared.step.StubStep.TheFolds.{fold-StubStep}
use Rattle.fl_stub_steps.specs.Spreading.{Spread, Spreader, copied, padded, aligned, repeated}
use Rattle.fl_stub_steps.specs.Spreading.{length_at, block_spread, spread_first}

mutual
  pub data TheStep : Type 0 where
    -- so many bytes of the tape, and then so many zeros
    span : ℕ → ℕ → TheStep
    -- zeros up to a multiple of 8
    align : TheStep
    -- a length, and so many bytes of the tape as often as it says
    each : ℕ → TheStep
    -- a length, and steps as often as it says
    counted : TheSteps → TheStep
    -- steps so often
    times : ℕ → TheSteps → TheStep

  -- steps, the last first
  pub data TheSteps : Type 0 where
    no_step : TheSteps
    after : TheStep → TheSteps → TheSteps

abbrev pub steps_from : List TheStep → TheSteps
steps_from [] = no_step
steps_from (s ∷ earlier) = after s (steps_from earlier)

abbrev pub step_step : StubStep-F TheStep → TheStep
step_step (Span bytes zeros) = span bytes zeros
step_step Align = align
step_step (Each bytes) = each bytes
step_step (Counted steps) = counted (steps_from steps.items)
step_step (Times turns steps) = times turns (steps_from steps.items)

abbrev pub step_of : StubStep → TheStep
step_of = fold-StubStep TheStep step_step

abbrev pub steps_of : List StubStep → TheSteps
steps_of steps = steps_from (map step_of steps)

abbrev mutual
  pub step_done : TheStep → Spreader
  step_done (span bytes zeros) x = padded zeros (copied bytes x)
  step_done align x = aligned x
  step_done (each bytes) x = copied (length_at x.left * bytes) (copied 8 x)
  step_done (counted steps) x = repeated (steps_done steps) (length_at x.left) (copied 8 x)
  step_done (times turns steps) x = repeated (steps_done steps) turns x

  pub steps_done : TheSteps → Spreader
  steps_done no_step x = x
  steps_done (after s earlier) x = step_done s (steps_done earlier x)

-- those of prepared code
abbrev pub steps_in : PreparedCode → TheSteps
steps_in p = steps_of p.steps.items

-- what the code's steps make of a packed tape
abbrev pub done : List StubStep → Spreader
done steps x = steps_done (steps_of steps) x

-- steps that mean what a block means
abbrev pub Means : TheSteps → Block → Type 0
Means steps b = (x : Spread) → steps_done steps x ≡ block_spread b x

-- the bytes that are given, and then those that are left
abbrev pub all_of : Spread → List ℕ
all_of x = x.given ++ x.left

-- of a whole tape nothing but its own bytes is given
abbrev pub IsPlain : TheSteps → Type 0
IsPlain steps = (packed : List ℕ) → all_of (steps_done steps (spread_first packed)) ≡ packed
