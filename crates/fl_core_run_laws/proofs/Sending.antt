-- What an end comes to send: the calls that it made, or the replies by its rules.
use Rattle.std.proofs.Common.{◌≡◌, ◌⊎◌, inl, inr, refl, sym, ap, ◌∙◌, ℕ, zero, suc, if◌then◌else◌, List, [], ◌∷◌, ◌++◌, map, slice_get}
use Rattle.std.proofs.Common.{Option, Some, None, Bool, true, false}
use Rattle.std.specs.List.{list_any}
use Rattle.std.specs.Option.{option_map}
use Rattle.std.proofs.lemmas.List.{map-append}
use Rattle.fl_base.specs.declared.identity.EndId.{EndId}
use Rattle.fl_value_data.specs.Value.{TheCall, call_of}
use Rattle.fl_value_data.specs.declared.value.Call.{Call}
use Rattle.fl_hop.specs.Stretch.{same_end}
use Rattle.fl_core.specs.declared.turn_answer.TurnAnswer.{TurnAnswer}
use Rattle.fl_core.specs.declared.turn_answer.TurnAnswer.TheVariants as turn
use Rattle.fl_endpoint.specs.View.{is_rule, has_rules, rule_in, reply_to}
use Rattle.fl_endpoint.specs.Accounts.{followed, replies_by}
use Rattle.fl_core_run.specs.LogEntries.{LogEntry, looked, passed, arrived, heard, said, told, opened, called, ruled, wrote, acked, turned}
use Rattle.fl_core_run_laws.specs.Logs.{call_in, handled_in, handled_at}
use Rattle.fl_core_run_laws.specs.Made.{made_in, made_at}
use Rattle.fl_core_run_laws.specs.Carried.{rules_by, rules_in, rules_at, sets_rule, SetsNone, RulesFirst, reply_in, sent_in, sent_at, calls_handled}

-- ---- no rules

no_rule : (rules : List (Option ℕ)) (n : ℕ) → list_any is_rule rules ≡ false → rule_in (slice_get rules n) ≡ None
no_rule [] n h = refl
no_rule (None ∷ rules) zero h = refl
no_rule (None ∷ rules) (suc n) h = no_rule rules n h
no_rule (Some reply ∷ rules) n h = absurd (cc)

no_reply : (rules : List (Option ℕ)) (answer : TurnAnswer) → has_rules rules ≡ false → reply_in rules answer ≡ []
no_reply rules (turn.Handle call) h =
    let c : TheCall = call_of call in
    ap (λ (o : Option ℕ). followed (option_map (λ (reply : ℕ). let r : TheCall = record { msg = reply; args = c.args } in r) o) []) (no_rule rules c.msg h)
no_reply rules turn.Part h = refl
no_reply rules turn.Ready h = refl
no_reply rules turn.Quiet h = refl
no_reply rules turn.Full h = refl
no_reply rules turn.Nothing h = refl
no_reply rules (turn.Refused fault) h = refl

none_by : (b : Bool) (calls : List TheCall) → calls ≡ [] → (if b then calls else []) ≡ []
none_by true calls h = h
none_by false calls h = refl

made_alone : (name : EndId) (rules : List (Option ℕ)) (log_entry : LogEntry) → has_rules rules ≡ false → sent_in name rules log_entry ≡ made_in name log_entry
made_alone name rules (turned d e from answer) h = none_by (same_end e name) (reply_in rules answer) (no_reply rules answer h)
made_alone name rules (called e c answer) h = refl
made_alone name rules (looked n l answer) h = refl
made_alone name rules (passed n k frag c outcome) h = refl
made_alone name rules (arrived n l frag e answer) h = refl
made_alone name rules (heard n l frag answer) h = refl
made_alone name rules (said n l answer) h = refl
made_alone name rules (told n l answer) h = refl
made_alone name rules (opened e request answer) h = refl
made_alone name rules (ruled e msg reply answer) h = refl
made_alone name rules (wrote e out answer) h = refl
made_alone name rules (acked e n answer) h = refl

-- an event that sets no rule leaves them
no_rules_by : (b : Bool) (rules more : List (Option ℕ)) → b ≡ false → (if b then more else rules) ≡ rules
no_rules_by true rules more h = absurd (cc)
no_rules_by false rules more h = refl

leaves_rules : (name : EndId) (rules : List (Option ℕ)) (log_entry : LogEntry) → sets_rule name log_entry ≡ false → rules_in name rules log_entry ≡ rules
leaves_rules name rules (ruled e msg reply answer) h = no_rules_by (same_end e name) rules (rules_by msg reply answer rules) h
leaves_rules name rules (turned d e from answer) h = refl
leaves_rules name rules (called e c answer) h = refl
leaves_rules name rules (looked n l answer) h = refl
leaves_rules name rules (passed n k frag c outcome) h = refl
leaves_rules name rules (arrived n l frag e answer) h = refl
leaves_rules name rules (heard n l frag answer) h = refl
leaves_rules name rules (said n l answer) h = refl
leaves_rules name rules (told n l answer) h = refl
leaves_rules name rules (opened e request answer) h = refl
leaves_rules name rules (wrote e out answer) h = refl
leaves_rules name rules (acked e n answer) h = refl

all_leave : (name : EndId) (rules : List (Option ℕ)) (log : List LogEntry) → SetsNone name log → rules_at name rules log ≡ rules
all_leave name rules [] h = refl
all_leave name rules (log_entry ∷ log) h =
    ap (λ (rs : List (Option ℕ)). rules_at name rs log) (leaves_rules name rules log_entry h.0) ∙ all_leave name rules log h.1

pub sent_made : (name : EndId) (rules : List (Option ℕ)) (log : List LogEntry) → has_rules rules ≡ false → SetsNone name log → sent_at name rules log ≡ made_at name log
sent_made name rules [] h none = refl
sent_made name rules (log_entry ∷ log) h none =
    ap (λ (rs : List (Option ℕ)). sent_in name rules log_entry ++ sent_at name rs log) (leaves_rules name rules log_entry none.0)
    ∙ ap (λ (cs : List TheCall). cs ++ sent_at name rules log) (made_alone name rules log_entry h) ∙ ap (λ (cs : List TheCall). made_in name log_entry ++ cs) (sent_made name rules log h none.1)

-- ---- no calls made

both_none : (xs ys : List TheCall) → xs ++ ys ≡ [] → (xs ≡ []) × (ys ≡ [])
both_none [] ys h = (refl, h)
both_none (x ∷ xs) ys h = absurd (cc)

followed_more : (o : Option TheCall) (xs ys : List TheCall) → followed o (xs ++ ys) ≡ followed o xs ++ ys
followed_more None xs ys = refl
followed_more (Some c) xs ys = refl

replies_more : (rules : List (Option ℕ)) (xs ys : List TheCall) → replies_by rules (xs ++ ys) ≡ replies_by rules xs ++ replies_by rules ys
replies_more rules [] ys = refl
replies_more rules (x ∷ xs) ys =
    ap (λ (cs : List TheCall). followed (reply_to rules x) cs) (replies_more rules xs ys) ∙ followed_more (reply_to rules x) (replies_by rules xs) (replies_by rules ys)

reply_by : (rules : List (Option ℕ)) (answer : TurnAnswer) → reply_in rules answer ≡ replies_by rules (map call_of (call_in answer))
reply_by rules (turn.Handle call) = refl
reply_by rules turn.Part = refl
reply_by rules turn.Ready = refl
reply_by rules turn.Quiet = refl
reply_by rules turn.Full = refl
reply_by rules turn.Nothing = refl
reply_by rules (turn.Refused fault) = refl

turned_by : (b : Bool) (rules : List (Option ℕ)) (answer : TurnAnswer) → (if b then reply_in rules answer else []) ≡ replies_by rules (map call_of (if b then call_in answer else []))
turned_by true rules answer = reply_by rules answer
turned_by false rules answer = refl

replied : (name : EndId) (rules : List (Option ℕ)) (log_entry : LogEntry) → made_in name log_entry ≡ [] → sent_in name rules log_entry ≡ replies_by rules (map call_of (handled_in name log_entry))
replied name rules (turned d e from answer) none = turned_by (same_end e name) rules answer
replied name rules (called e c answer) none = none
replied name rules (looked n l answer) none = refl
replied name rules (passed n k frag c outcome) none = refl
replied name rules (arrived n l frag e answer) none = refl
replied name rules (heard n l frag answer) none = refl
replied name rules (said n l answer) none = refl
replied name rules (told n l answer) none = refl
replied name rules (opened e request answer) none = refl
replied name rules (ruled e msg reply answer) none = refl
replied name rules (wrote e out answer) none = refl
replied name rules (acked e n answer) none = refl

-- an event that handles a call sets no rule
handles_none : (rules : List (Option ℕ)) (name : EndId) (log_entry : LogEntry) → made_in name log_entry ≡ []
    → sent_in name rules log_entry ≡ replies_by (rules_in name rules log_entry) (map call_of (handled_in name log_entry))
handles_none rules name (ruled e msg reply answer) none = refl
handles_none rules name (turned d e from answer) none = replied name rules (turned d e from answer) none
handles_none rules name (called e c answer) none = none
handles_none rules name (looked n l answer) none = refl
handles_none rules name (passed n k frag c outcome) none = refl
handles_none rules name (arrived n l frag e answer) none = refl
handles_none rules name (heard n l frag answer) none = refl
handles_none rules name (said n l answer) none = refl
handles_none rules name (told n l answer) none = refl
handles_none rules name (opened e request answer) none = refl
handles_none rules name (wrote e out answer) none = refl
handles_none rules name (acked e n answer) none = refl

-- by its rules of the end
first_by : (name : EndId) (rules : List (Option ℕ)) (log_entry : LogEntry) (log : List LogEntry) → made_in name log_entry ≡ [] → (handled_in name log_entry ≡ []) ⊎ SetsNone name log
    → sent_in name rules log_entry ≡ replies_by (rules_at name rules (log_entry ∷ log)) (map call_of (handled_in name log_entry))
first_by name rules log_entry log none (inl quiet) =
    replied name rules log_entry none ∙ ap (λ (cs : List Call). replies_by rules (map call_of cs)) quiet
    ∙ sym (ap (λ (cs : List Call). replies_by (rules_at name rules (log_entry ∷ log)) (map call_of cs)) quiet)
first_by name rules log_entry log none (inr last) =
    handles_none rules name log_entry none ∙ ap (λ (rs : List (Option ℕ)). replies_by rs (map call_of (handled_in name log_entry))) (sym (all_leave name (rules_in name rules log_entry) log last))

pub sent_replies : (name : EndId) (rules : List (Option ℕ)) (log : List LogEntry) → made_at name log ≡ [] → RulesFirst name log
    → sent_at name rules log ≡ replies_by (rules_at name rules log) (calls_handled name log)
sent_replies name rules [] none first = refl
sent_replies name rules (log_entry ∷ log) none first =
    let parts = both_none (made_in name log_entry) (made_at name log) none in
    ap (λ (cs : List TheCall). cs ++ sent_at name (rules_in name rules log_entry) log) (first_by name rules log_entry log parts.0 first.0)
    ∙ ap (λ (cs : List TheCall). replies_by (rules_at name rules (log_entry ∷ log)) (map call_of (handled_in name log_entry)) ++ cs) (sent_replies name (rules_in name rules log_entry) log parts.1 first.1)
    ∙ sym (replies_more (rules_at name rules (log_entry ∷ log)) (map call_of (handled_in name log_entry)) (calls_handled name log))
    ∙ ap (replies_by (rules_at name rules (log_entry ∷ log))) (sym (map-append call_of (handled_in name log_entry) (handled_at name log)))
