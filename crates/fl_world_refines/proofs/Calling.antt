-- A call that an end of a world is asked to make, and a reply rule that it is asked to set, come to what they come to in the machine.
use Rattle.std.proofs.Common.{◌≡◌, refl, sym, ◌∙◌, ap, ℕ, ◌&&◌, not, if◌then◌else◌, [], ◌∷◌, Some, None, Result, Ok, Err, inl, inr}
use Rattle.fl_base.specs.declared.identity.EndId.{EndId}
use Rattle.fl_base.specs.Ends.{other}
use Rattle.fl_base.specs.Given.{given}
use Rattle.fl_value_data.specs.Value.{TheCall}
use Rattle.fl_endpoint.specs.declared.fault.EndFault.{EndFault}
use Rattle.fl_endpoint.specs.declared.fault.EndFault.TheVariants.{Spent, Busy, UnknownMessage, Misfit, NotBound, Failed, Wire, Memory}
use Rattle.fl_endpoint.specs.Faults.{fault_number}
use Rattle.fl_endpoint.specs.Events.{Calls, SetsRule}
use Rattle.fl_endpoint.specs.View.{TheEnd}
use Rattle.fl_model.specs.Events.{Answer, accepted, done, refused}
use Rattle.fl_model.specs.Calls.{Planned}
use Rattle.fl_model.specs.Ends.{accepts, with_rule}
use Rattle.fl_model.specs.State.{Binding, State, StepOutcome, answers, binding_of, interface_of, end_in, change_out, change_end}
use Rattle.fl_model.specs.Sending.{calls, makes_call}
use Rattle.fl_model.specs.Taking.{sets_rule, has_message, arguments_of}
use Rattle.fl_interface.specs.SameTypes.{same_arguments}
use Rattle.fl_world_refines.specs.Ends.{EndShows, machine_end}
use Rattle.fl_world_refines.specs.EndLaws.{with_out, CallAgrees, RuleAgrees, are_messages, have_same_arguments}
use Rattle.fl_world_refines.proofs.EndCalling.{call_agrees}
use Rattle.fl_world_refines.proofs.Rules.{rule_agrees}
use Rattle.fl_world_refines.proofs.Tests.{unless_is, past_not}
use Rattle.fl_world_refines.specs.View.{TheWorld, WhereEnd, nowhere, unmade, made, location_of}
use Rattle.fl_world_refines.specs.ShowsState.{ShowsState, Shows}
use Rattle.fl_world_refines.specs.Sending.{IsCalled, CallsAt}
use Rattle.fl_world_refines.specs.Taking.{IsRuled, reply_rule, RulesAt}
use Rattle.fl_world_refines.specs.Laws.{Agrees, CallsAgree, RepliesAgree}
use Rattle.fl_world_refines.proofs.FramesBase.{end_of_binding}
use Rattle.fl_world_refines.proofs.FramesWhole.{prefix_same}
use Rattle.fl_world_refines.proofs.FramesFind.{find_none, find_unmade, find_made, none_some}
use Rattle.fl_world_refines.proofs.Holding.{agrees_by, in_world, refuses, Held, held_made, held_unmade, same_frame, others_parts, Becomes, becomes_made, becomes_unmade, keeps_one}

-- ---- a call

called_at : (e : EndId) (c : TheCall) (s : State) (b : Binding) (i : Planned) → binding_of s e ≡ Some b → interface_of s b ≡ Some i
    → calls e c s ≡ makes_call e c i (end_in e.side b) s
called_at e c s b i q r =
    ap (λ o. given o (answers s (refused 92)) (λ (x : Binding). given (interface_of s x) (answers s (refused 92)) (λ j. makes_call e c j (end_in e.side x) s))) q
    ∙ ap (λ o. given o (answers s (refused 92)) (λ j. makes_call e c j (end_in e.side b) s)) r

not_called : (e : EndId) (c : TheCall) (s : State) → binding_of s e ≡ None → calls e c s ≡ answers s (refused 92)
not_called e c s q =
    ap (λ o. given o (answers s (refused 92)) (λ (x : Binding). given (interface_of s x) (answers s (refused 92)) (λ j. makes_call e c j (end_in e.side x) s))) q

call_refused : (w : TheWorld) (s : State) (e : EndId) (c : TheCall) (h : Held w s e) (t : TheEnd) (a : Answer) (n : ℕ) → ShowsState w s
    → (((z : State) → makes_call e c h.interface (end_in e.side h.binding) z ≡ answers z (refused n))
    × EndShows h.interface (end_in e.side h.binding) (end_in (other e.side) h.binding).out t) → a ≡ refused n
    → Agrees (makes_call e c h.interface (end_in e.side h.binding) s) a (h.with_other t)
call_refused w s e c h t a n p g is =
    agrees_by (makes_call e c h.interface (end_in e.side h.binding) s) (answers s (refused n)) a (h.with_other t) (g.0 s)
    (record { answer = sym is; showing = same_frame w s e h t p g.1 })

call_held : (w : TheWorld) (s : State) (e : EndId) (c : TheCall) (h : Held w s e) (t : TheEnd) (a : Answer) (r : Result (Unit {0}) EndFault) → Shows w s
    → Calls h.end c r t → CallAgrees e c (machine_end h.interface e.side h.binding) r t → IsCalled r a
    → Agrees (makes_call e c h.interface (end_in e.side h.binding) s) a (h.with_other t)
call_held w s e c h t a (Ok unit) shown event g is =
    let x = end_in e.side h.binding in
    agrees_by (makes_call e c h.interface x s) (answers (change_out e (accepts c) s) accepted) a (h.with_other t) (g.0 s)
    (record {
      answer = sym is;
      showing = h.frame (with_out (accepts c)) t (record {
        seat = refl;
        queue = refl;
        accepted = (c ∷ [], refl);
        parts = (others_parts s e h.binding h.interface shown.sound h.binding_is h.interface_is).accepting c;
        silent = λ q. none_some h.end.circuit (h.shows.circuit ∙ q) event.1.0;
      }) g.1;
    })
call_held w s e c h t a (Err Memory) shown event g is = absurd is
call_held w s e c h t a (Err Spent) shown event g is = call_refused w s e c h t a (fault_number Spent) shown.showing g is
call_held w s e c h t a (Err Busy) shown event g is = call_refused w s e c h t a (fault_number Busy) shown.showing g is
call_held w s e c h t a (Err UnknownMessage) shown event g is = call_refused w s e c h t a (fault_number UnknownMessage) shown.showing g is
call_held w s e c h t a (Err Misfit) shown event g is = call_refused w s e c h t a (fault_number Misfit) shown.showing g is
call_held w s e c h t a (Err NotBound) shown event g is = call_refused w s e c h t a (fault_number NotBound) shown.showing g is
call_held w s e c h t a (Err Failed) shown event g is = call_refused w s e c h t a (fault_number Failed) shown.showing g is
call_held w s e c h t a (Err (Wire f)) shown event g is = call_refused w s e c h t a (fault_number (Wire f)) shown.showing g is

call_becomes : (w v : TheWorld) (s : State) (e : EndId) (c : TheCall) (h : Held w s e) (a : Answer) (r : Result (Unit {0}) EndFault) → Shows w s
    → Becomes w s e h (λ x t. Calls x c r t) v → IsCalled r a → Agrees (calls e c s) a v
call_becomes w v s e c h a r shown u is =
    let x = end_in e.side h.binding in
    let counted = shown.sound.counted e h.binding h.interface h.binding_is h.interface_is in
    let g = call_agrees e c (machine_end h.interface e.side h.binding) h.end u.end r h.shows counted u.event in
    agrees_by (calls e c s) (makes_call e c h.interface x s) a v (called_at e c s h.binding h.interface h.binding_is h.interface_is)
    (in_world (makes_call e c h.interface x s) a v (h.with_other u.end) u.world (call_held w s e c h u.end a r shown u.event g is))

pub calls_agree : CallsAgree
calls_agree e c w v s a shown event = by (location_of w e) refl event
  where
    by : (location : WhereEnd) → location_of w e ≡ location → CallsAt location e c w a v → Agrees (calls e c s) a v
    by nowhere q u =
        agrees_by (calls e c s) (answers s (refused 92)) a v (not_called e c s (find_none w s e shown.showing q)) (refuses w v s a 92 shown.showing u)
    by unmade q (inl u) =
        let h = find_unmade w s e shown q in
        let m = becomes_unmade {R = Result (Unit {0}) EndFault} (λ r x t. Calls x c r t) (λ r. IsCalled r a) w v s e h shown.showing u in
        call_becomes w v s e c (held_unmade w s e h shown.showing) a m.0 shown m.2 m.1
    by unmade q (inr u) = keeps_one w s e (find_unmade w s e shown q) u.0
    by (made n place) q u =
        let h = find_made w s e n place shown q in
        let m = becomes_made {R = Result (Unit {0}) EndFault} (λ r x t. Calls x c r t) (λ r. IsCalled r a) w v s e n place h shown.showing u in
        call_becomes w v s e c (held_made w s e n place h shown.showing) a m.0 shown m.2 m.1

-- ---- a reply rule

-- what it comes to once the end's interface is known
abbrev sets_on : EndId → ℕ → ℕ → Planned → State → StepOutcome
sets_on e msg answer i s =
    if not (has_message msg i && has_message answer i) then answers s (refused 41)
    else if not (same_arguments (arguments_of msg i) (arguments_of answer i)) then answers s (refused 42)
    else answers (change_end e (with_rule msg answer) s) done

set_at : (e : EndId) (msg answer : ℕ) (s : State) (b : Binding) (i : Planned) → binding_of s e ≡ Some b → interface_of s b ≡ Some i
    → sets_rule e msg answer s ≡ sets_on e msg answer i s
set_at e msg answer s b i q r =
    ap (λ o. given o (answers s (refused 92)) (λ (x : Binding). given (interface_of s x) (answers s (refused 92)) (λ j. sets_on e msg answer j s))) q
    ∙ ap (λ o. given o (answers s (refused 92)) (λ j. sets_on e msg answer j s)) r

not_set : (e : EndId) (msg answer : ℕ) (s : State) → binding_of s e ≡ None → sets_rule e msg answer s ≡ answers s (refused 92)
not_set e msg answer s q =
    ap (λ o. given o (answers s (refused 92)) (λ (x : Binding). given (interface_of s x) (answers s (refused 92)) (λ j. sets_on e msg answer j s))) q

rule_held : (w : TheWorld) (s : State) (e : EndId) (msg answer : ℕ) (h : Held w s e) (t : TheEnd) (a : Answer) (r : Result (Unit {0}) EndFault) → Shows w s
    → RuleAgrees msg answer (machine_end h.interface e.side h.binding) r t → IsRuled r a
    → Agrees (sets_on e msg answer h.interface s) a (h.with_other t)
rule_held w s e msg answer h t a (Ok unit) shown g is =
    let x = end_in e.side h.binding in
    agrees_by (sets_on e msg answer h.interface s) (answers (change_end e (with_rule msg answer) s) done) a (h.with_other t)
    (past_not (are_messages h.interface msg answer) _ _ g.0 ∙ past_not (have_same_arguments h.interface msg answer) _ _ g.1)
    (record {
      answer = sym is;
      showing = h.frame (with_rule msg answer) t (record {
        seat = refl;
        queue = refl;
        accepted = prefix_same x.out.accepted;
        parts = refl;
        silent = λ q. shown.showing.bindings.silent e x (end_of_binding s e h.binding h.binding_is) q;
      }) g.2;
    })
rule_held w s e msg answer h t a (Err UnknownMessage) shown g is =
    agrees_by (sets_on e msg answer h.interface s) (answers s (refused 41)) a (h.with_other t)
    (unless_is (are_messages h.interface msg answer) _ _ g.0)
    (record { answer = sym is; showing = same_frame w s e h t shown.showing g.1 })
rule_held w s e msg answer h t a (Err Misfit) shown g is =
    agrees_by (sets_on e msg answer h.interface s) (answers s (refused 42)) a (h.with_other t)
    (past_not (are_messages h.interface msg answer) _ _ g.0 ∙ unless_is (have_same_arguments h.interface msg answer) _ _ g.1)
    (record { answer = sym is; showing = same_frame w s e h t shown.showing g.2 })
rule_held w s e msg answer h t a (Err Memory) shown g is = absurd g
rule_held w s e msg answer h t a (Err Spent) shown g is = absurd g
rule_held w s e msg answer h t a (Err Busy) shown g is = absurd g
rule_held w s e msg answer h t a (Err NotBound) shown g is = absurd g
rule_held w s e msg answer h t a (Err Failed) shown g is = absurd g
rule_held w s e msg answer h t a (Err (Wire f)) shown g is = absurd g

rule_becomes : (w v : TheWorld) (s : State) (e : EndId) (msg answer : ℕ) (h : Held w s e) (a : Answer) (r : Result (Unit {0}) EndFault) → Shows w s
    → Becomes w s e h (λ x t. SetsRule x msg answer r t) v → IsRuled r a → Agrees (sets_rule e msg answer s) a v
rule_becomes w v s e msg answer h a r shown u is =
    let g = rule_agrees msg answer (machine_end h.interface e.side h.binding) h.end u.end r h.shows u.event in
    agrees_by (sets_rule e msg answer s) (sets_on e msg answer h.interface s) a v (set_at e msg answer s h.binding h.interface h.binding_is h.interface_is)
    (in_world (sets_on e msg answer h.interface s) a v (h.with_other u.end) u.world (rule_held w s e msg answer h u.end a r shown g is))

pub replies_agree : RepliesAgree
replies_agree e msg answer w v s a shown event = by (location_of w e) refl event
  where
    by : (location : WhereEnd) → location_of w e ≡ location → RulesAt location (reply_rule e msg answer) w a v → Agrees (sets_rule e msg answer s) a v
    by nowhere q u =
        agrees_by (sets_rule e msg answer s) (answers s (refused 92)) a v (not_set e msg answer s (find_none w s e shown.showing q))
        (refuses w v s a 92 shown.showing u)
    by unmade q (inl u) =
        let h = find_unmade w s e shown q in
        let m = becomes_unmade {R = Result (Unit {0}) EndFault} (λ r x t. SetsRule x msg answer r t) (λ r. IsRuled r a) w v s e h shown.showing u in
        rule_becomes w v s e msg answer (held_unmade w s e h shown.showing) a m.0 shown m.2 m.1
    by unmade q (inr u) = keeps_one w s e (find_unmade w s e shown q) u.0
    by (made n place) q u =
        let h = find_made w s e n place shown q in
        let m = becomes_made {R = Result (Unit {0}) EndFault} (λ r x t. SetsRule x msg answer r t) (λ r. IsRuled r a) w v s e n place h shown.showing u in
        rule_becomes w v s e msg answer (held_made w s e n place h shown.showing) a m.0 shown m.2 m.1
