-- One core by itself, by the machine: what its turns come to, as functions of the machine's state and of what is to be done at each end. Nothing of the
-- code is in it but how jobs and names are written.
use Rattle.std.specs.Prelude.{ℕ, zero, suc, ◌+◌, ◌==◌, ◌&&◌, not, Bool, true, false, if◌then◌else◌, List, [], ◌∷◌, ◌++◌, length, slice_get, Option}
use Rattle.std.specs.Prelude.{Some, None, is_some}
use Rattle.fl_base.specs.declared.identity.EndId.{EndId}
use Rattle.fl_base.specs.Given.{given}
use Rattle.fl_value_data.specs.Value.{TheCall, call_of}
use Rattle.fl_model.specs.Given.{changed_at}
use Rattle.fl_model.specs.Events.{DispatcherId, Event, call, write, turn, reply, Answer, accepted, handle}
use Rattle.fl_model.specs.Ends.{is_bound, is_busy}
use Rattle.fl_model.specs.Waits.{due, end_due}
use Rattle.fl_model.specs.State.{State, dispatcher_of, binding_of, interface_of, end_in, end_of}
use Rattle.fl_model.specs.Step.{step}
use Rattle.fl_core.specs.View.{slot_of}
use Rattle.fl_core.specs.declared.core_job.CoreJob.{CoreJob}
use Rattle.fl_core.specs.declared.core_job.CoreJob.TheVariants as job

-- ---- the machine, and what is to be done

-- what is to be done at an end, and what came of it
pub record MachineProgress : Type 0 where
  -- its jobs, in order, by their places among all jobs, and how many of them are done
  pub jobs : List ℕ
  pub done : ℕ
  -- how many calls are to be handled at the end, and those that were
  pub due : ℕ
  pub handled : List TheCall
  -- the number with which the opening of its binding was refused: of one core nothing opens, and this stays
  pub refused : ℕ

pub record MachineRun : Type 0 where
  pub state : State
  -- by end: that of side s of binding b stands at 2 b + s
  pub progresses : List MachineProgress

abbrev pub progress_at : MachineRun → EndId → Option MachineProgress
progress_at a e = slice_get a.progresses (slot_of e)

-- the end's progress of an end has changed so
abbrev pub at_progress : EndId → (MachineProgress → MachineProgress) → MachineRun → MachineRun
at_progress e change a = record a { progresses = changed_at (slot_of e) change a.progresses }

-- one job more is done
abbrev pub advanced : MachineProgress → MachineProgress
advanced d = record d { done = d.done + 1 }

-- one call more was handled
abbrev pub with_handled : TheCall → MachineProgress → MachineProgress
with_handled c d = record d { handled = d.handled ++ c ∷ [] }

-- the job that is next at an end, if one is left
abbrev pub next_job : List CoreJob → MachineRun → EndId → Option CoreJob
next_job jobs a e =
    given (progress_at a e) None λ d.
    given (slice_get d.jobs d.done) None λ place.
    slice_get jobs place

-- the machine alone has done this
abbrev pub goes : Event → MachineRun → MachineRun
goes event a = record a { state = (step a.state event).state }

-- ---- for an end: its next job, and a write

-- the end has its seat
abbrev pub is_there : State → EndId → Bool
is_there s e = given (end_of s e) false λ x. is_some x.seat

-- a call that was accepted is done; one that was refused waits
abbrev pub call_noted : EndId → Answer → MachineRun → MachineRun
call_noted e accepted a = at_progress e advanced a
call_noted e answer a = a

abbrev pub calls : EndId → TheCall → MachineRun → MachineRun
calls e c a = call_noted e (step a.state (call e c)).answer (goes (call e c) a)

-- a rule is no more a job once it was tried
abbrev pub rules : EndId → ℕ → ℕ → MachineRun → MachineRun
rules e msg answer a = at_progress e advanced (goes (reply e msg answer) a)

-- by the job; one core has no link over which a circuit could be asked for
abbrev pub tries : EndId → Option CoreJob → MachineRun → MachineRun
tries e None a = a
tries e (Some (job.Open request)) a = a
tries e (Some (job.Call f c)) a = calls e (call_of c) a
tries e (Some (job.Reply f msg answer)) a = rules e msg.0 answer.0 a

-- its next job, where the machine accepts that, and then one write
abbrev pub serves : List CoreJob → EndId → MachineRun → MachineRun
serves jobs e a = if is_there a.state e then goes (write e) (tries e (next_job jobs a e) a) else a

-- ---- for a dispatcher: a turn

-- the core's dispatcher at this place
abbrev pub here : ℕ → DispatcherId
here d = record { core = 0; place = d }

abbrev pub due_at : State → ℕ → Option EndId
due_at s d = given (dispatcher_of s (here d)) None λ x. end_due x (due x)

-- the end is still to be opened, or a reply rule is still to be set there: it takes nothing before that
abbrev pub is_before_calls : Option CoreJob → Bool
is_before_calls None = false
is_before_calls (Some (job.Open request)) = true
is_before_calls (Some (job.Reply e msg answer)) = true
is_before_calls (Some (job.Call e c)) = false

abbrev pub turn_noted : Answer → MachineRun → MachineRun
turn_noted (handle e c) a = at_progress e (with_handled c) a
turn_noted answer a = a

abbrev pub turns_at : ℕ → MachineRun → MachineRun
turns_at d a = turn_noted (step a.state (turn (here d))).answer (goes (turn (here d)) a)

abbrev pub takes_turn : List CoreJob → ℕ → MachineRun → MachineRun
takes_turn jobs d a =
    given (due_at a.state d) a λ e.
    if is_before_calls (next_job jobs a e) then a else turns_at d a

-- ---- turns of the core

-- what its turns go over: ends and dispatchers; and all jobs
pub record MachineTask : Type 0 where
  pub ends : List EndId
  pub dispatchers : ℕ
  pub jobs : List CoreJob

-- so many steps, the one of number 0 first
abbrev pub swept : {A : Type 0} → (ℕ → A → A) → ℕ → A → A
swept f zero a = a
swept f (suc n) a = f n (swept f n a)

-- for the end at place n, if there is one
abbrev pub serves_at : MachineTask → ℕ → MachineRun → MachineRun
serves_at p n a = given (slice_get p.ends n) a λ e. serves p.jobs e a

-- one turn: each end in order, and then each dispatcher
abbrev pub one_turn : MachineTask → MachineRun → MachineRun
one_turn p a = swept (takes_turn p.jobs) p.dispatchers (swept (serves_at p) (length p.ends) a)

-- so many turns
abbrev pub turned : MachineTask → ℕ → MachineRun → MachineRun
turned p n a = swept (λ k. one_turn p) n a

-- ---- when nothing is left to do

-- an end that is bound, and has written all that it accepted
abbrev pub is_still : State → EndId → Bool
is_still s e =
    given (binding_of s e) true λ b.
    given (interface_of s b) true λ i.
    is_bound (end_in e.side b) && not (is_busy i (end_in e.side b).out)

-- all its jobs are done, and as many calls are handled as are to be
abbrev pub is_clear : Option MachineProgress → Bool
is_clear None = true
is_clear (Some d) = (d.done == length d.jobs) && (length d.handled == d.due)

abbrev pub is_done_at : MachineRun → EndId → Bool
is_done_at a e = is_clear (progress_at a e) && (if is_there a.state e then is_still a.state e else true)

-- at the first so many ends
abbrev pub are_done : MachineRun → List EndId → ℕ → Bool
are_done a ends zero = true
are_done a ends (suc n) = are_done a ends n && given (slice_get ends n) true (is_done_at a)

abbrev pub is_finished : MachineTask → MachineRun → Bool
is_finished p a = are_done a p.ends (length p.ends)

-- ---- a run

-- the first number of turns, from n on and at most so many more, at which nothing is left to do; or the last of these
abbrev pub first_finished : MachineTask → MachineRun → ℕ → ℕ → ℕ
first_finished p a n zero = n
first_finished p a n (suc more) = if is_finished p (turned p n a) then n else first_finished p a (suc n) more

-- how many turns are counted, with this limit
abbrev pub counted : MachineTask → ℕ → MachineRun → ℕ
counted p limit a = first_finished p a 0 limit

-- the core as it is then
abbrev pub ran : MachineTask → ℕ → MachineRun → MachineRun
ran p limit a = turned p (counted p limit a) a
