-- One core by itself where all that is to be done is calls, by the machine: what its turns come to is a function of the machine's state, and of the calls
-- that are handed in at each end. Nothing of the code is in it. Law: so are turns by jobs, where each job is a call.
use Rattle.std.specs.Prelude.{ℕ, zero, suc, ◌≡◌, ◌+◌, ◌==◌, ◌&&◌, Bool, true, false, if◌then◌else◌, List, [], ◌∷◌, ◌++◌, map, length, slice_get, Option}
use Rattle.std.specs.Prelude.{Some, None}
use Rattle.fl_base.specs.declared.identity.EndId.{EndId}
use Rattle.fl_base.specs.Given.{given}
use Rattle.fl_value_data.specs.Value.{TheCall}
use Rattle.fl_value_data.specs.declared.value.Call.{Call}
use Rattle.fl_core.specs.View.{slot_of}
use Rattle.fl_model.specs.Given.{changed_at}
use Rattle.fl_model.specs.Events.{Event, call, write, turn, Answer, accepted, handle}
use Rattle.fl_model.specs.Sound.{Sound}
use Rattle.fl_model.specs.State.{State}
use Rattle.fl_model.specs.Step.{step}
use Rattle.fl_core.specs.declared.core_job.CoreJob.{CoreJob}
use Rattle.fl_core.specs.declared.core_job.CoreJob.TheVariants as job
use Rattle.fl_core.specs.Jobs.{calls_of_jobs}
use Rattle.fl_core_refines.specs.AloneTurns.{MachineProgress, MachineRun, here, is_there, is_still, swept, MachineTask}
use Rattle.fl_core_refines.specs.AloneTurns.{turned as turned_by_jobs, counted as counted_by_jobs}
use Rattle.fl_core_refines.specs.AloneTurns.{is_finished as is_finished_by_jobs}

-- ---- the machine, and the calls of its ends

pub record CallProgress : Type 0 where
  -- the calls that are handed in at an end, and how many of them it made
  pub calls : List TheCall
  pub made : ℕ
  -- how many calls it is to handle, and those that it handled
  pub due : ℕ
  pub handled : List TheCall

pub record CallRun : Type 0 where
  pub state : State
  -- by end: that of side s of binding b stands at 2 b + s
  pub posts : List CallProgress

abbrev pub post_at : CallRun → EndId → Option CallProgress
post_at a e = slice_get a.posts (slot_of e)

-- the post of an end has changed so
abbrev pub at_post : EndId → (CallProgress → CallProgress) → CallRun → CallRun
at_post e change a = record a { posts = changed_at (slot_of e) change a.posts }

-- the call that an end makes next, if one is left
abbrev pub next_call : CallRun → EndId → Option TheCall
next_call a e = given (post_at a e) None λ p. slice_get p.calls p.made

-- ---- an event of the machine, and what its answer changes at a post

abbrev pub does : Event → CallRun → CallRun
does event a = record a { state = (step a.state event).state }

abbrev pub one_made : CallProgress → CallProgress
one_made p = record p { made = p.made + 1 }

abbrev pub one_handled : TheCall → CallProgress → CallProgress
one_handled c p = record p { handled = p.handled ++ c ∷ [] }

-- a call that was accepted is made; one that was refused waits
abbrev pub with_made : EndId → Answer → CallRun → CallRun
with_made e accepted a = at_post e one_made a
with_made e answer a = a

abbrev pub with_handled : Answer → CallRun → CallRun
with_handled (handle e c) a = at_post e (one_handled c) a
with_handled answer a = a

-- an end makes its next call, if the machine accepts it, and writes one fragment
abbrev pub calls : EndId → TheCall → CallRun → CallRun
calls e c a = with_made e (step a.state (call e c)).answer (does (call e c) a)

abbrev pub serves : EndId → CallRun → CallRun
serves e a = does (write e) (given (next_call a e) a λ c. calls e c a)

-- a dispatcher has a turn
abbrev pub has_turn : ℕ → CallRun → CallRun
has_turn d a = with_handled (step a.state (turn (here d))).answer (does (turn (here d)) a)

-- ---- turns of the core

-- its ends, and how many dispatchers it has
pub record CallTask : Type 0 where
  pub ends : List EndId
  pub dispatchers : ℕ

abbrev pub serves_at : CallTask → ℕ → CallRun → CallRun
serves_at p n a = given (slice_get p.ends n) a λ e. serves e a

-- one turn: each end in order, and then each dispatcher
abbrev pub one_turn : CallTask → CallRun → CallRun
one_turn p a = swept has_turn p.dispatchers (swept (serves_at p) (length p.ends) a)

-- so many turns
abbrev pub turned : CallTask → ℕ → CallRun → CallRun
turned p n a = swept (λ k. one_turn p) n a

-- ---- when nothing is left to do

-- the end made all its calls, and handled as many as it is to handle
abbrev pub is_clear : Option CallProgress → Bool
is_clear None = true
is_clear (Some p) = (p.made == length p.calls) && (length p.handled == p.due)

-- where it has its seat, it has written all that it accepted
abbrev pub is_done_at : CallRun → EndId → Bool
is_done_at a e = is_clear (post_at a e) && (if is_there a.state e then is_still a.state e else true)

-- so it is of the first so many ends
abbrev pub are_done : CallRun → List EndId → ℕ → Bool
are_done a ends zero = true
are_done a ends (suc n) = are_done a ends n && given (slice_get ends n) true (is_done_at a)

abbrev pub is_finished : CallTask → CallRun → Bool
is_finished p a = are_done a p.ends (length p.ends)

-- ---- a run

-- the first number of turns, from n on and at most so many more, after which nothing is left to do; or the last of these
abbrev pub first_finished : CallTask → CallRun → ℕ → ℕ → ℕ
first_finished p a n zero = n
first_finished p a n (suc more) = if is_finished p (turned p n a) then n else first_finished p a (suc n) more

-- how many turns there are, with this limit
abbrev pub counted : CallTask → ℕ → CallRun → ℕ
counted p limit a = first_finished p a 0 limit

-- ---- by jobs

-- each of the jobs at these places is a call
abbrev pub AreCalls : List CoreJob → List ℕ → Type 0
AreCalls jobs [] = Unit {0}
AreCalls jobs (place ∷ places) = ((e : EndId) × (c : Call) × (slice_get jobs place ≡ Some (job.Call e c))) × AreCalls jobs places

abbrev pub EachCalls : List CoreJob → List MachineProgress → Type 0
EachCalls jobs progresses = (n : ℕ) (d : MachineProgress) → slice_get progresses n ≡ Some d → AreCalls jobs d.jobs

abbrev pub post_of : List CoreJob → MachineProgress → CallProgress
post_of jobs d = record { calls = calls_of_jobs jobs d.jobs; made = d.done; due = d.due; handled = d.handled }

abbrev pub solo_of : List CoreJob → MachineRun → CallRun
solo_of jobs a = record { state = a.state; posts = map (post_of jobs) a.progresses }

abbrev pub span_of : MachineTask → CallTask
span_of p = record { ends = p.ends; dispatchers = p.dispatchers }

-- where each job is a call: so many turns by jobs are so many by these calls; as many are counted; and nothing is left to do by the one as by the other
pub record GoesByCalls (p : MachineTask) (a : MachineRun) : Type 0 where
  pub turns : (n : ℕ) → solo_of p.jobs (turned_by_jobs p n a) ≡ turned (span_of p) n (solo_of p.jobs a)
  pub left : (n : ℕ) → is_finished_by_jobs p (turned_by_jobs p n a) ≡ is_finished (span_of p) (turned (span_of p) n (solo_of p.jobs a))
  pub number : (limit : ℕ) → counted_by_jobs p limit a ≡ counted (span_of p) limit (solo_of p.jobs a)

abbrev pub JobsGoByCalls : Type 0
JobsGoByCalls = (p : MachineTask) (a : MachineRun) → Sound a.state → a.state.may_set_cores ≡ false → EachCalls p.jobs a.progresses → GoesByCalls p a
