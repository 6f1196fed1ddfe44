-- What steps take from a payload, the other way: what they copied is copied back to the packed tape, zeros are passed. Behind a
-- payload stand zeros as in its last fragment, so that a multiple of 8 bytes is left wherever a multiple of 8 was taken.
use Rattle.std.specs.Prelude.{◌≡◌, ℕ, ◌+◌, ◌*◌, ◌%◌, true, List, ◌++◌, drop, length}
use Rattle.fl_stub.specs.declared.op.Column.{Column}
use Rattle.fl_stub.specs.Structure.{Block, block_fits}
use Rattle.fl_stub.specs.Meaning.{Turns}
use Rattle.fl_stub_steps.specs.declared.step.StubStep.{StubStep}
use Rattle.fl_stub_steps.specs.Spreading.{packed_for, Spreader, spread_of, spread_first, copied, repeated, length_at}
use Rattle.fl_stub_steps.specs.Steps.{TheStep, span, align, each, counted, times, TheSteps, no_step, after, steps_of, Means}

-- so many bytes are passed; of a spread the packed tape is given, and what is left is of the payload
abbrev pub passed : ℕ → Spreader
passed count x = record { given = x.given; left = drop count x.left }

-- those up to a multiple of 8
abbrev pub passed_to_8 : Spreader
passed_to_8 x = passed (length x.left % 8) x

abbrev mutual
  pub step_taken : TheStep → Spreader
  step_taken (span bytes zeros) x = passed zeros (copied bytes x)
  step_taken align x = passed_to_8 x
  step_taken (each bytes) x = copied (length_at x.left * bytes) (copied 8 x)
  step_taken (counted steps) x = repeated (steps_taken steps) (length_at x.left) (copied 8 x)
  step_taken (times turns steps) x = repeated (steps_taken steps) turns x

  pub steps_taken : TheSteps → Spreader
  steps_taken no_step x = x
  steps_taken (after s earlier) x = step_taken s (steps_taken earlier x)

-- what the code's steps take from a payload
abbrev pub taken : List StubStep → Spreader
taken steps x = steps_taken (steps_of steps) x

-- steps that mean what code means take a tape's packed form back from the bytes that the code turns the tape into
abbrev pub TakesBack : Type 0
TakesBack = (column : Column) (b : Block) (steps : TheSteps) (tape bytes more : List ℕ) → block_fits column b ≡ true → Means steps b → Turns b tape bytes
    → (length bytes + length more) % 8 ≡ 0 → steps_taken steps (spread_first (bytes ++ more)) ≡ spread_of (packed_for b tape) more
