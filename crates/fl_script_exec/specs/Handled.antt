-- What the handlers of a script ran, of the calls that were accepted.
use Rattle.std.specs.Prelude.{◌≡◌, ℕ, List}
use Rattle.fl_base.specs.declared.identity.EndId.{EndId}
use Rattle.fl_base.specs.Ends.{peer}
use Rattle.fl_base.specs.Prefix.{IsPrefix}
use Rattle.fl_model.specs.Events.{Event}
use Rattle.fl_model.specs.State.{start}
use Rattle.fl_model.specs.Runs.{Exchange, run, reached, calls_handled}
use Rattle.fl_model.specs.Laws.{accepted_by, AcceptedIsMerged}
use Rattle.fl_script_exec.specs.Transcript.{Effect, Begins, asked_in}

-- what was asked is a run of the machine from its start. In it the calls handled at each end are a prefix of those that were
-- accepted at the other, in order, with equal arguments; and these are the calls that were answered `accepted`, and
-- replies by rule, merged in order.
pub record HandlersRunAPrefix (asked : List Exchange) : Type 0 where
  pub events : List Event
  pub run_is : asked ≡ run start events
  pub handled : (e : EndId) → IsPrefix (calls_handled e asked) (accepted_by (reached start events) (peer e))
  pub accepted : (e : EndId) → AcceptedIsMerged events e

-- so it is in each script, however far it is run
abbrev pub ScriptsHandlePrefixes : Type 0
ScriptsHandlePrefixes = (bytes : List ℕ) (done : List Effect) → Begins bytes done → HandlersRunAPrefix (asked_in done)
