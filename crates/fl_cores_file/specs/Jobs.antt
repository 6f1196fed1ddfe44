-- The jobs of a cores file: what its cores are to do at their ends.
use Rattle.std.specs.Prelude.{ℕ, ◌==◌, ◌&&◌, Bool, false, if◌then◌else◌, List, [], ◌∷◌, Option, Some, None}
use Rattle.std.specs.List.{flat_map, list_any}
use Rattle.fl_base.specs.declared.identity.EndId.{EndId}
use Rattle.fl_base.specs.Ends.{peer}
use Rattle.fl_base.specs.Given.{given}
use Rattle.fl_value_data.specs.Value.{TheCall}
use Rattle.fl_model.specs.Events.{DispatcherId}
use Rattle.fl_model.specs.Runs.{same_end}

-- a circuit that is to be opened: the client's dispatcher, the interface, the service's name, and the cores of the route
pub record TheCircuitRequest : Type 0 where
  pub client : DispatcherId
  pub interface : ℕ
  pub service : List ℕ
  pub route : List ℕ

pub data Job : Type 0 where
  -- a binding over a circuit is opened
  opens : TheCircuitRequest → Job
  -- a reply rule: where the end handles the first message, it makes the call of the second
  replies : EndId → ℕ → ℕ → Job
  -- an end makes a call
  calls : EndId → TheCall → Job

-- ---- what is handed in

-- the calls that jobs make at an end, in order
abbrev pub calls_in : EndId → Job → List TheCall
calls_in e (calls f c) = if same_end e f then c ∷ [] else []
calls_in e job = []

abbrev pub own_calls : List Job → EndId → List TheCall
own_calls jobs e = flat_map (calls_in e) jobs

-- the reply that a job sets for a message at an end
abbrev pub rule_in : EndId → ℕ → Job → Option ℕ
rule_in e msg (replies f m answer) = if same_end e f && (m == msg) then Some answer else None
rule_in e msg job = None

-- the rule for a message at an end: the last that was set
abbrev pub rule_for : List Job → EndId → ℕ → Option ℕ
rule_for [] e msg = None
rule_for (job ∷ jobs) e msg = given (rule_for jobs e msg) (rule_in e msg job) λ later. Some later

abbrev pub is_rule_at : EndId → Job → Bool
is_rule_at e (replies f m answer) = same_end e f
is_rule_at e job = false

abbrev pub has_rules : List Job → EndId → Bool
has_rules jobs e = list_any (is_rule_at e) jobs

-- the reply by rule to a call, with the same arguments, where there is a rule for its message
abbrev pub reply_to : List Job → EndId → TheCall → List TheCall
reply_to jobs e c = given (rule_for jobs e c.msg) [] λ answer. record { msg = answer; args = c.args } ∷ []

-- what is handed in for an end: the calls of its jobs or, for an end with rules, the replies by rule to the calls that are
-- handed in at the other end
abbrev pub handed_in : List Job → EndId → List TheCall
handed_in jobs e = if has_rules jobs e then flat_map (reply_to jobs e) (own_calls jobs (peer e)) else own_calls jobs e
