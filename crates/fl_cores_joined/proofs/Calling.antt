-- A call and a reply rule of an end of one of the cores are the machine's.
use Rattle.std.proofs.Common.{◌≡◌, refl, sym, ap, subst, ℕ, false}
use Rattle.std.specs.Prelude.{Result, Ok, Err}
use Rattle.fl_base.specs.declared.identity.EndId.{EndId}
use Rattle.fl_base.specs.declared.identity.MsgNo.{MsgNo}
use Rattle.fl_value_data.specs.Value.{TheCall}
use Rattle.fl_endpoint.specs.declared.fault.EndFault.{EndFault}
use Rattle.fl_endpoint.specs.declared.fault.EndFault.TheVariants.{Memory, Spent, Busy, UnknownMessage, Misfit, NotBound, Failed, Wire}
use Rattle.fl_endpoint.specs.Events.{Calls, SetsRule}
use Rattle.fl_core.specs.BoardEvents.{ChangesEnd}
use Rattle.fl_core.specs.Ends.{OnBoard}
use Rattle.fl_core.specs.Numbers.{renumbered}
use Rattle.fl_core_run.specs.LogEntries.{called, ruled}
use Rattle.fl_core_run.specs.Steps.{lacks_to_call}
use Rattle.fl_model.specs.Events.{call, reply}
use Rattle.fl_world_refines.specs.View.{WhereEnd}
use Rattle.fl_world_refines.specs.Sending.{IsCalled, CallsAt, MakesCall}
use Rattle.fl_world_refines.specs.Taking.{IsRuled, reply_rule, RulesAt, SetsReply}
use Rattle.fl_world_refines.specs.Laws.{StepsAgree}
use Rattle.fl_cores_joined.specs.Joined.{in_world}
use Rattle.fl_cores_joined.specs.Steps.{call_answer, rule_answer}
use Rattle.fl_cores_joined.specs.Laws.{IsTheMachines}
use Rattle.fl_cores_joined.proofs.Stepping.{begun, ended_whole, there_is, finish, located, call_noted}
use Rattle.fl_cores_joined.proofs.Over.{core_over}

-- ---- a call

is_called : (r : Result (Unit {0}) EndFault) → lacks_to_call r ≡ false → IsCalled r (call_answer r)
is_called (Ok unit) h = refl
is_called (Err Memory) h = absurd (cc)
is_called (Err Spent) h = refl
is_called (Err Busy) h = refl
is_called (Err UnknownMessage) h = refl
is_called (Err Misfit) h = refl
is_called (Err NotBound) h = refl
is_called (Err Failed) h = refl
is_called (Err (Wire f)) h = refl

pub calls_are : StepsAgree → (n : ℕ) (name : EndId) (c : TheCall) (answer : Result (Unit {0}) EndFault) → lacks_to_call answer ≡ false
    → IsTheMachines (called name c answer) n (call name c) (call_answer answer)
calls_are law n name c answer some jobs xs ys s show whole still h =
    let (m, (e, found, on), notes, sound, acts, known) = h.happens in
    let same = call_noted name answer m h.after notes in
    let x = begun jobs n (called name c answer) xs ys h in
    let it = core_over show.world jobs n (called name c answer) xs ys h show.joined whole m
    (ended_whole jobs n (called name c answer) xs ys h m same still)
    (λ k k2. OnBoard k (λ b b2. ChangesEnd b e (λ y z. Calls y c answer z) b2) k2)
    (λ k k2. (r : Result (Unit {0}) EndFault) × OnBoard k (λ b d. ChangesEnd b e (λ y z. Calls y c r z) d) k2 × IsCalled r (call_answer answer))
    (λ event. (answer, record { event = event.event; rest = ap (renumbered x.sides x.queues) event.rest }, is_called answer some))
    on in
    let core_is = there_is jobs n (called name c answer) xs ys h show.world show.joined in
    let does : MakesCall name c show.world (call_answer answer) it.world =
    subst (λ (location : WhereEnd). CallsAt location name c show.world (call_answer answer) it.world)
    (sym (located show.world s name n e (in_world x) show.shows core_is found)) it.over in
    finish jobs n (called name c answer) xs ys h law (call name c) (call_answer answer) s show.world it.world m show.shows same it.they_make it.bindings
    does

-- ---- a reply rule

is_ruled : (r : Result (Unit {0}) EndFault) → IsRuled r (rule_answer r)
is_ruled (Ok unit) = refl
is_ruled (Err fault) = refl

pub rules_are : StepsAgree → (n : ℕ) (name : EndId) (msg answer : MsgNo) (r : Result (Unit {0}) EndFault)
    → IsTheMachines (ruled name msg answer r) n (reply name msg.0 answer.0) (rule_answer r)
rules_are law n name msg answer r jobs xs ys s show whole still h =
    let (m, (e, found, on), notes, sound, acts, known) = h.happens in
    let x = begun jobs n (ruled name msg answer r) xs ys h in
    let it = core_over show.world jobs n (ruled name msg answer r) xs ys h show.joined whole m
    (ended_whole jobs n (ruled name msg answer r) xs ys h m notes.rest still)
    (λ k k2. OnBoard k (λ b b2. ChangesEnd b e (λ y z. SetsRule y msg.0 answer.0 r z) b2) k2)
    (λ k k2. (r2 : Result (Unit {0}) EndFault) × OnBoard k (λ b d. ChangesEnd b e (λ y z. SetsRule y msg.0 answer.0 r2 z) d) k2 × IsRuled r2 (rule_answer r))
    (λ event. (r, record { event = event.event; rest = ap (renumbered x.sides x.queues) event.rest }, is_ruled r))
    on in
    let core_is = there_is jobs n (ruled name msg answer r) xs ys h show.world show.joined in
    let does : SetsReply name msg.0 answer.0 show.world (rule_answer r) it.world =
    subst (λ (location : WhereEnd). RulesAt location (reply_rule name msg.0 answer.0) show.world (rule_answer r) it.world)
    (sym (located show.world s name n e (in_world x) show.shows core_is found)) it.over in
    finish jobs n (ruled name msg answer r) xs ys h law (reply name msg.0 answer.0) (rule_answer r) s show.world it.world m show.shows notes.rest it.they_make it.bindings
    does
