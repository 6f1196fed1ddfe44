-- What a core carries: through its queues, and at its ends. Laws.
use Rattle.std.specs.Prelude.{ℕ, ◌≡◌, ◌⊎◌, Bool, false, if◌then◌else◌, List, [], ◌∷◌, ◌++◌, map, drop}
use Rattle.std.specs.Prelude.{slice_get, slice_set, Option, Some, None, Result, Ok, Err}
use Rattle.std.specs.List.{flat_map}
use Rattle.fl_base.specs.declared.fragment.Frag.{Frag}
use Rattle.fl_base.specs.declared.identity.EndId.{EndId}
use Rattle.fl_base.specs.declared.identity.MsgNo.{MsgNo}
use Rattle.fl_base.specs.Given.{given}
use Rattle.fl_value_data.specs.Value.{TheCall, call_of}
use Rattle.fl_wire.specs.Reading.{AllFit}
use Rattle.fl_compile.specs.Programs.{program_of}
use Rattle.fl_link.specs.Looks.{Look}
use Rattle.fl_link.specs.Laws.{QueueConserves}
use Rattle.fl_link.specs.Queue.{TheQueue}
use Rattle.fl_endpoint.specs.declared.fault.EndFault.{EndFault}
use Rattle.fl_endpoint.specs.View.{TheEnd, TheOutgoing, interface_in, has_rules, reply_to}
use Rattle.fl_endpoint.specs.Accounts.{followed, replies_by, stream, stream_from}
use Rattle.fl_core.specs.declared.turn_answer.TurnAnswer.{TurnAnswer}
use Rattle.fl_core.specs.declared.turn_answer.TurnAnswer.TheVariants.{Handle}
use Rattle.fl_hop.specs.Stretch.{same_end}
use Rattle.fl_core.specs.declared.core_job.CoreJob.{CoreJob}
use Rattle.fl_core_run.specs.Run.{SideRelations, TheRun}
use Rattle.fl_core_run.specs.LogEntries.{LogEntry, called, ruled, turned}
use Rattle.fl_core.specs.Jobs.{HasNoRule, RulesLead}
use Rattle.fl_core_run_laws.specs.Logs.{Goes, handled_in, handled_at}
use Rattle.fl_core_run_laws.specs.Made.{made_by, made_at, progress_of}

-- ---- queues

-- each of these queues stands at its place afterwards: what stood in it, and then what was put, is what was taken and then what stands in it
abbrev pub QueuesCarry : List TheQueue → List TheQueue → Type 0
QueuesCarry ps qs =
    (n : ℕ) (p : TheQueue) → slice_get ps n ≡ Some p → (q : TheQueue) × (slice_get qs n ≡ Some q) × ((looks : List Look) × QueueConserves p looks q)

-- so do the local queues, and the arrival queues of the ends of circuits
abbrev pub LogsCarryQueues : {S : Type 0} → SideRelations S → Type 0
LogsCarryQueues {S} w = (jobs : List CoreJob) (s t : TheRun S) (log : List LogEntry) → Goes w jobs s log t
    → QueuesCarry s.queues t.queues × QueuesCarry s.core.arrivals t.core.arrivals

-- ---- an end

-- all fragments that are to be put, in order
abbrev pub left_to_put : TheOutgoing → List Frag
left_to_put o = o.unwritten ++ flat_map (λ (frags : List Frag). frags) o.waiting

-- what happened at an end, each in order
pub record Traffic : Type 0 where
  -- the calls that it came to send, and those that it handled
  pub sent : List TheCall
  pub handled : List TheCall
  -- the fragments that it put, and those that it took
  pub put : List Frag
  pub took : List Frag

-- by that an end went from x to y
pub record EndGoes (d : Traffic) (x y : TheEnd) : Type 0 where
  -- what it put is what was left to put, and then what it came to send, up to what is left to put
  pub sends : left_to_put x.outgoing ++ stream_from y d.sent ≡ d.put ++ left_to_put y.outgoing
  -- what it took goes on with what it had, and reads as what it handled, and a rest
  pub gives : x.parts ++ d.took ≡ stream (program_of y.program) 0 d.handled ++ y.parts
  pub program : y.program ≡ x.program
  -- all these calls fit its interface
  pub sent_fit : AllFit (interface_in y) d.sent
  pub handled_fit : AllFit (interface_in y) d.handled
  -- it was bound once at most, and sent nothing before
  pub circuit : (c : ℕ) → x.circuit ≡ Some c → y.circuit ≡ Some c
  pub unbound : y.circuit ≡ None → d.sent ≡ []

-- ---- reply rules

-- the rules of the end of a name after one event, and after a log
abbrev pub rules_by : MsgNo → MsgNo → Result (Unit {0}) EndFault → List (Option ℕ) → List (Option ℕ)
rules_by msg reply (Ok done) rules = slice_set rules msg.0 (Some reply.0)
rules_by msg reply (Err fault) rules = rules

abbrev pub rules_in : EndId → List (Option ℕ) → LogEntry → List (Option ℕ)
rules_in name rules (ruled e msg reply answer) = if same_end e name then rules_by msg reply answer rules else rules
rules_in name rules log_entry = rules

abbrev pub rules_at : EndId → List (Option ℕ) → List LogEntry → List (Option ℕ)
rules_at name rules [] = rules
rules_at name rules (log_entry ∷ log) = rules_at name (rules_in name rules log_entry) log

-- an event sets a rule at the end of a name
abbrev pub sets_rule : EndId → LogEntry → Bool
sets_rule name (ruled e msg reply answer) = same_end e name
sets_rule name log_entry = false

-- none of a log does
abbrev pub SetsNone : EndId → List LogEntry → Type 0
SetsNone name [] = Unit {0}
SetsNone name (log_entry ∷ log) = (sets_rule name log_entry ≡ false) × SetsNone name log

-- none does after the end handled its first call
abbrev pub RulesFirst : EndId → List LogEntry → Type 0
RulesFirst name [] = Unit {0}
RulesFirst name (log_entry ∷ log) = ((handled_in name log_entry ≡ []) ⊎ SetsNone name log) × RulesFirst name log

-- ---- what an end sent and handled

-- the reply by rule to the call that was handled, if there is one
abbrev pub reply_in : List (Option ℕ) → TurnAnswer → List TheCall
reply_in rules (Handle call) = followed (reply_to rules (call_of call)) []
reply_in rules answer = []

-- the calls that the end of a name came to send by one event, and in a log: those that it made, and the replies by its rules of then
abbrev pub sent_in : EndId → List (Option ℕ) → LogEntry → List TheCall
sent_in name rules (called e c answer) = if same_end e name then made_by c answer else []
sent_in name rules (turned d e from answer) = if same_end e name then reply_in rules answer else []
sent_in name rules log_entry = []

abbrev pub sent_at : EndId → List (Option ℕ) → List LogEntry → List TheCall
sent_at name rules [] = []
sent_at name rules (log_entry ∷ log) = sent_in name rules log_entry ++ sent_at name (rules_in name rules log_entry) log

-- those that it handled, with their arguments as values
abbrev pub calls_handled : EndId → List LogEntry → List TheCall
calls_handled name log = map call_of (handled_at name log)

-- an end with these rules, so far as a log tells what happened there
abbrev pub traffic : EndId → List (Option ℕ) → List LogEntry → List Frag → List Frag → Traffic
traffic name rules log put took = record { sent = sent_at name rules log; handled = calls_handled name log; put = put; took = took }

-- ---- laws

-- what is sent are the calls that were made, where the end has no rules and gets none
abbrev pub SentAreMade : Type 0
SentAreMade = (name : EndId) (rules : List (Option ℕ)) (log : List LogEntry) → has_rules rules ≡ false → SetsNone name log
    → sent_at name rules log ≡ made_at name log

-- and the replies by its rules to the calls that it handled, where it made none and got its rules before
abbrev pub SentAreReplies : Type 0
SentAreReplies = (name : EndId) (rules : List (Option ℕ)) (log : List LogEntry) → made_at name log ≡ [] → RulesFirst name log
    → sent_at name rules log ≡ replies_by (rules_at name rules log) (calls_handled name log)

-- the jobs that are left of those of an end
abbrev pub jobs_left : {S : Type 0} → TheRun S → EndId → List ℕ
jobs_left s name = given (progress_of s name) [] λ progress. drop progress.done progress.jobs

-- where the rules of an end are its first jobs, they are set before it handles a call; where it has none to set none is set
abbrev pub RulesComeFirst : {S : Type 0} → SideRelations S → Type 0
RulesComeFirst {S} w = (jobs : List CoreJob) (s t : TheRun S) (log : List LogEntry) (name : EndId) → Goes w jobs s log t
    → (RulesLead jobs (jobs_left s name) → RulesFirst name log) × (HasNoRule jobs (jobs_left s name) → SetsNone name log)
