-- A step of the world by what its event came to, which is read where it lies.
use Rattle.std.proofs.Common.{◌≡◌, sym, ◌∙◌, Result, Ok, Err, IfOk, true, false}
use Rattle.std.specs.Prelude.{OnErr}
use Rattle.std.specs.declared.alloc.AllocError.{AllocError}
use Rattle.fl_model.specs.Events.{Event, Answer}
use Rattle.fl_model.specs.State.{State}
use Rattle.fl_model.specs.declared.answer.Answer.{Answer as RustAnswer}
use Rattle.fl_model.specs.Views.{answer_of}
use Rattle.fl_world_refines.specs.View.{TheWorld}
use Rattle.fl_world_refines.specs.ShowsState.{Shows}
use Rattle.fl_world_refines.specs.Laws.{StepsAgree}
use Rattle.fl_world_refines.specs.Step.{Does, settled, settled_by, Steps}
use Rattle.fl_model.specs.Steps as machine
use Rattle.fl_world.specs.Stepping.{StepsAlike, is_interface}
use Rattle.fl_world.proofs.Runs.{of_interface, by_answer, steps_as, shows_still}

-- ---- whether the number of cores stands then

pub stays_by : (event : Event) (w : TheWorld) (r : Result RustAnswer AllocError) → is_interface event ≡ true
    → IfOk r (λ a. w ≡ settled event (answer_of a) w)
stays_by event w (Ok a) h = sym (of_interface event (answer_of a) w h)
stays_by event w (Err e) h = tt

pub settles_by : (event : Event) (w w2 : TheWorld) (r : Result RustAnswer AllocError) → is_interface event ≡ false
    → IfOk r (λ a. w2 ≡ settled_by (answer_of a) w) → IfOk r (λ a. w2 ≡ settled event (answer_of a) w)
settles_by event w w2 (Ok a) h closed = closed ∙ sym (by_answer event (answer_of a) w h)
settles_by event w w2 (Err e) h closed = tt

-- ---- a step

-- `meaning` tells the machine's answer of the code's
pub steps_by : {A : Type 0} (meaning : A → Answer) (event : Event) (w made w2 : TheWorld) (r : Result A AllocError)
    → IfOk r (λ a. Does event w (meaning a) made) → IfOk r (λ a. w2 ≡ settled event (meaning a) made)
    → IfOk r (λ a. Steps event w (meaning a) w2)
steps_by meaning event w made w2 (Ok a) does rest = record { made = made; does = does; rest = rest }
steps_by meaning event w made w2 (Err e) does rest = tt

pub agrees_by : {A : Type 0} (meaning : A → Answer) (event : Event) (w w2 : TheWorld) (r : Result A AllocError) → StepsAgree
    → IfOk r (λ a. Steps event w (meaning a) w2) → IfOk r (λ a. StepsAlike event w (meaning a) w2)
agrees_by meaning event w w2 (Ok a) agree steps = λ s shown. agree event w w2 s (meaning a) shown steps
agrees_by meaning event w w2 (Err e) agree steps = tt

pub kept_by : {A : Type 0} (w made w2 : TheWorld) (r : Result A AllocError) → OnErr r (made ≡ w) → OnErr r (w2 ≡ made) → OnErr r (w2 ≡ w)
kept_by w made w2 (Ok a) same kept = tt
kept_by w made w2 (Err e) same kept = kept ∙ same

-- ---- the machine that a script runs on

pub machine_steps : {A : Type 0} (meaning : A → Answer) (event : Event) (w made w2 : TheWorld) (r : Result A AllocError) → StepsAgree
    → IfOk r (λ a. Does event w (meaning a) made) → IfOk r (λ a. w2 ≡ settled event (meaning a) made)
    → IfOk r (λ a. machine.Steps Shows w w2 event (meaning a))
machine_steps meaning event w made w2 r agree does rest =
    steps_as meaning event w w2 r (agrees_by meaning event w w2 r agree (steps_by meaning event w made w2 r does rest))

pub machine_kept : {A : Type 0} (w made w2 : TheWorld) (r : Result A AllocError) → OnErr r (made ≡ w) → OnErr r (w2 ≡ made)
    → OnErr r ((s : State) → Shows w s → Shows w2 s)
machine_kept w made w2 r same kept = shows_still r w w2 (kept_by w made w2 r same kept)
