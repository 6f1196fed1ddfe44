-- An end of a binding, as contracts see it.
use Rattle.std.specs.Prelude.{ℕ, ◌==◌, ◌&&◌, Bool, true, false, List, [], ◌∷◌, ◌++◌, length, replicate, slice_get, slice_set, Option, Some, None}
use Rattle.std.specs.List.{list_any}
use Rattle.std.specs.Option.{option_map}
use Rattle.fl_base.specs.declared.fragment.Frag.{Frag}
use Rattle.fl_value_data.specs.Value.{TheCall}
use Rattle.fl_wire.specs.Payload.{frags_on}
use Rattle.fl_interface.specs.Interface.{TheInterface}
use Rattle.fl_value_data.specs.declared.value.PlanNo.{PlanNo}
use Rattle.fl_compile.specs.declared.program.Program.{Program}
use Rattle.fl_compile.specs.Programs.{program_of}

-- the calls that an end is to send, as fragments
pub record TheOutgoing : Type 0 where
  -- the fragments of the call in transmission that are to be written; none where the end isn't busy
  pub unwritten : List Frag
  -- how many fragments that call has in all; 0 where the end isn't busy
  pub count : ℕ
  -- the fragments of each reply that waits, the first to be accepted first
  pub waiting : List (List Frag)

-- each part is a function of what the end stores; no history is kept
pub record TheEnd : Type 0 where
  -- the interface and the plan of its binding
  pub program : Program
  -- the circuit that its fragments carry, 0 off links; none where it isn't bound yet
  pub circuit : Option ℕ
  -- for each message, the message of the reply to it, where there is a rule
  pub rules : List (Option ℕ)
  -- what it is to send
  pub outgoing : TheOutgoing
  -- the fragments taken since the last whole call: these stand at a place of `Reassemblies`, and an end by itself shows none
  pub parts : List Frag
  -- it was given a fragment that can't follow those before it
  pub failed : Bool

-- the end, with these fragments taken since the last whole call
abbrev pub with_parts : TheEnd → List Frag → TheEnd
with_parts s parts = record s { parts = parts }

abbrev pub interface_in : TheEnd → TheInterface
interface_in s = (program_of s.program).interface

abbrev pub plan_in : TheEnd → PlanNo
plan_in s = (program_of s.program).plan

-- nothing is to be sent
abbrev pub nothing_to_send : TheOutgoing
nothing_to_send = record { unwritten = []; count = 0; waiting = [] }

-- no reply rule for any message
abbrev pub no_rules : Program → List (Option ℕ)
no_rules program = replicate (length (program_of program).interface.messages) None

-- an end that nothing happened to
abbrev pub fresh : Program → Option ℕ → TheEnd
fresh program circuit = record {
  program = program;
  circuit = circuit;
  rules = no_rules program;
  outgoing = nothing_to_send;
  parts = [];
  failed = false;
}

-- ---- circuits

-- a circuit's number; 0 where there is none
abbrev pub number_or_0 : Option ℕ → ℕ
number_or_0 None = 0
number_or_0 (Some circuit) = circuit

-- the fragments of a call as the end puts them
abbrev pub frags_from : TheEnd → TheCall → List Frag
frags_from s c = frags_on (number_or_0 s.circuit) (plan_in s) (interface_in s) c

-- ---- reply rules

abbrev pub is_rule : Option ℕ → Bool
is_rule None = false
is_rule (Some reply) = true

abbrev pub has_rules : List (Option ℕ) → Bool
has_rules rules = list_any is_rule rules

-- what stands there, if something does
abbrev pub rule_in : Option (Option ℕ) → Option ℕ
rule_in None = None
rule_in (Some rule) = rule

-- the message of the reply to a message
abbrev pub rule_at : List (Option ℕ) → ℕ → Option ℕ
rule_at rules msg = rule_in (slice_get rules msg)

-- the reply to a call: the rule's message with the same arguments
abbrev pub reply_to : List (Option ℕ) → TheCall → Option TheCall
reply_to rules c = option_map (λ reply. record { msg = reply; args = c.args }) (rule_at rules c.msg)

-- an end with a rule, at which 16 replies wait: it takes no fragment
abbrev pub holds_back : TheEnd → Bool
holds_back s = has_rules s.rules && (length s.outgoing.waiting == 16)

-- ---- answers of an end about itself

abbrev pub is_circuit : Option ℕ → Bool
is_circuit None = false
is_circuit (Some circuit) = true

abbrev pub are_some : List Frag → Bool
are_some [] = false
are_some (f ∷ rest) = true

-- a call is in transmission
abbrev pub is_busy : TheOutgoing → Bool
is_busy o = are_some o.unwritten

-- ---- what events make of an end

-- bound to a circuit; an end that is bound stays as it is
abbrev pub bound_by : Option ℕ → ℕ → TheEnd → TheEnd
bound_by None circuit s = record s { circuit = Some circuit }
bound_by (Some before) circuit s = s

abbrev pub bound : TheEnd → ℕ → TheEnd
bound s circuit = bound_by s.circuit circuit s

-- a call in transmission, all of whose fragments are to be written
abbrev pub begun : List Frag → List (List Frag) → TheOutgoing
begun frags waiting = record { unwritten = frags; count = length frags; waiting = waiting }

-- one call more: in transmission where nothing is, and else waiting behind the others
abbrev pub queued_behind : List Frag → TheOutgoing → List Frag → TheOutgoing
queued_behind [] o frags = begun frags o.waiting
queued_behind (f ∷ rest) o frags = record { unwritten = o.unwritten; count = o.count; waiting = o.waiting ++ frags ∷ [] }

abbrev pub queued : TheOutgoing → List Frag → TheOutgoing
queued o frags = queued_behind o.unwritten o frags

-- the same, where there is one more
abbrev pub queued_if : TheOutgoing → Option (List Frag) → TheOutgoing
queued_if o None = o
queued_if o (Some frags) = queued o frags

-- the first of those that waited in transmission, if any waited
abbrev pub goes_on : List (List Frag) → TheOutgoing
goes_on [] = nothing_to_send
goes_on (frags ∷ more) = begun frags more

-- one fragment more written, where these are the others of its call
abbrev pub wrote : List Frag → TheOutgoing → TheOutgoing
wrote [] o = goes_on o.waiting
wrote (f ∷ rest) o = record { unwritten = f ∷ rest; count = o.count; waiting = o.waiting }

-- the end with a call in transmission; a reply waits where another is
abbrev pub with_call : TheEnd → TheCall → TheEnd
with_call s c = record s { outgoing = queued s.outgoing (frags_from s c) }

-- with one fragment more written, where these are the others of its call
abbrev pub with_written : TheEnd → List Frag → TheEnd
with_written s rest = record s { outgoing = wrote rest s.outgoing }

-- with one fragment more taken of a call that isn't whole
abbrev pub with_part : TheEnd → Frag → TheEnd
with_part s f = record s { parts = s.parts ++ f ∷ [] }

-- with a call handled, and the reply to it by rule, if there is one, in transmission or waiting
abbrev pub with_handled : TheEnd → TheCall → TheEnd
with_handled s c = record s { parts = []; outgoing = queued_if s.outgoing (option_map (frags_from s) (reply_to s.rules c)) }

-- failed for good
abbrev pub with_failed : TheEnd → TheEnd
with_failed s = record s { failed = true }

-- with a rule for a message, in place of an earlier one
abbrev pub with_rule : TheEnd → ℕ → ℕ → TheEnd
with_rule s msg reply = record s { rules = slice_set s.rules msg (Some reply) }

-- with the rules of another end, in place of its own
abbrev pub with_rules_of : TheEnd → TheEnd → TheEnd
with_rules_of s t = record s { rules = t.rules }
