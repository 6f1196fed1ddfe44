-- Ends by their fields: what a change of the calls that are to be sent makes of them.
use Rattle.std.proofs.Common.{◌≡◌, ℕ, ◌+◌, ◌<◌, ◌≤◌, true, false, List, [], ◌∷◌, ◌++◌, map, length, Option, Some, None, refl, sym, ap, subst, ◌∙◌, arith, rules}
use Rattle.std.specs.Prelude.{Result, OnOk, IsSome, IfSome, slice_get, slice_set}
use Rattle.std.specs.Global.{Vec}
use Rattle.std.specs.Option.{is_some, option_map}
use Rattle.std.proofs.lemmas.Result.{on_ok_weaker}
use Rattle.std.proofs.lemmas.List.{length-map, map-append}
use Rattle.fl_base.specs.declared.fragment.Frag.{Frag}
use Rattle.fl_interface.specs.Interface.{TheMessage, TheInterface}
use Rattle.fl_value_data.specs.Value.{TheCall}
use Rattle.fl_value_data.specs.Tape.{types_of}
use Rattle.fl_wire.specs.Payload.{frags_on}
use Rattle.fl_compile.specs.Programs.{TheProgram}
use Rattle.fl_endpoint.specs.View.{TheEnd, TheOutgoing, interface_in, number_or_0, queued, queued_if, wrote, reply_to, rule_at, holds_back, with_call, with_written, with_handled}
use Rattle.fl_endpoint.specs.Accounts.{IsRule, Sound}
use Rattle.fl_endpoint.specs.Rules.{rules_of}
use Rattle.fl_endpoint.specs.declared.outgoing.QueuedCall.{QueuedCall}
use Rattle.fl_endpoint.specs.declared.outgoing.SendingCall.{SendingCall}
use Rattle.fl_endpoint.specs.declared.outgoing.Outgoing.{Outgoing}
use Rattle.fl_endpoint.specs.declared.rules.ReplyRules.{ReplyRules}
use Rattle.fl_endpoint.specs.declared.end.End.TheInside.{Inside}
use Rattle.fl_endpoint.specs.Stored.{queued_frags, sending_frags, count_in, outgoing_of, IsOwn, IsQueued, AreQueued, Queues, QueuesReply, IsInTransmission, IsOutgoing}
use Rattle.fl_endpoint.specs.Inside.{circuit_of, program_in, end_of, IsEnd}
use Rattle.fl_endpoint.proofs.Sounds.{Fits, has_room, idle_end, sound_call, sound_exchanged}

-- ---- the calls that are to be sent

pub still_now : (o : Option SendingCall) (payload : Option (Vec ℕ)) (xs ys : List QueuedCall) → true ≡ is_some o → IsInTransmission o payload xs → IsInTransmission o payload ys
still_now None payload xs ys e h = absurd cc
still_now (Some s) payload xs ys e h = h

pub queued_more : (p : TheProgram) (xs : List QueuedCall) (x : QueuedCall) → AreQueued p xs → IsQueued p x → AreQueued p (xs ++ x ∷ [])
queued_more p [] x h q = (q, tt)
queued_more p (y ∷ ys) x h q = (h.0, queued_more p ys x h.1 q)

pub length_more : {A : Type 0} (xs : List A) (x : A) → length (xs ++ x ∷ []) ≡ length xs + 1
length_more [] x = refl
length_more (y ∷ ys) x = let h = length_more ys x in omega (arith, h)

-- with a reply, where there is one
pub accepted_one : (p : TheProgram) (circuit : ℕ) (o after : TheOutgoing) (reply : Option QueuedCall) (call : QueuedCall) → reply ≡ Some call
    → after ≡ queued o (queued_frags p circuit call) → after ≡ queued_if o (option_map (queued_frags p circuit) reply)
accepted_one p circuit o after None call e h = absurd cc
accepted_one p circuit o after (Some x) call e h = let same : call ≡ x = cc in h ∙ ap (λ (y : QueuedCall). queued o (queued_frags p circuit y)) same

pub accepted_on_ok : {E : Type 0} (r : Result (Unit {0}) E) (p : TheProgram) (circuit : ℕ) (o after : TheOutgoing) (reply : Option QueuedCall) (call : QueuedCall) → reply ≡ Some call
    → OnOk r (after ≡ queued o (queued_frags p circuit call)) → OnOk r (after ≡ queued_if o (option_map (queued_frags p circuit) reply))
accepted_on_ok r p circuit o after reply call e h = on_ok_weaker r (accepted_one p circuit o after reply call e) h

pub accepted_none : (p : TheProgram) (circuit : ℕ) (o : TheOutgoing) (reply : Option QueuedCall) → reply ≡ None → o ≡ queued_if o (option_map (queued_frags p circuit) reply)
accepted_none p circuit o None e = refl
accepted_none p circuit o (Some x) e = absurd cc

-- one that waits more, or none more
pub waits_more : (p : TheProgram) (before after : Outgoing) (call : QueuedCall) → true ≡ is_some before.sending → IsOutgoing p before → IsQueued p call
    → length before.waiting.items < 16 → after.sending ≡ before.sending → after.payload ≡ before.payload → after.waiting.items ≡ before.waiting.items ++ call ∷ [] → IsOutgoing p after
waits_more p before after call busy is q few sending payload items =
    let long = ap length items ∙ length_more before.waiting.items call in
    record {
      now = subst (λ (o : Option SendingCall). IsInTransmission o after.payload after.waiting.items) (sym sending)
          (subst (λ (x : Option (Vec ℕ)). IsInTransmission before.sending x after.waiting.items) (sym payload)
          (still_now before.sending before.payload before.waiting.items after.waiting.items busy is.now));
      waiting = subst (λ (xs : List QueuedCall). AreQueued p xs) (sym items) (queued_more p before.waiting.items call is.waiting q);
      few = omega (arith, long, few);
    }

pub waits_as : (p : TheProgram) (before after : Outgoing) → IsOutgoing p before → after.sending ≡ before.sending → after.payload ≡ before.payload
    → after.waiting.items ≡ before.waiting.items → IsOutgoing p after
waits_as p before after is sending payload items = record {
  now = subst (λ (o : Option SendingCall). IsInTransmission o after.payload after.waiting.items) (sym sending)
      (subst (λ (x : Option (Vec ℕ)). IsInTransmission before.sending x after.waiting.items) (sym payload)
      (subst (λ (xs : List QueuedCall). IsInTransmission before.sending before.payload xs) (sym items) is.now));
  waiting = subst (λ (xs : List QueuedCall). AreQueued p xs) (sym items) is.waiting;
  few = subst (λ (xs : List QueuedCall). length xs ≤ 16) (sym items) is.few;
}

pub no_sending : (o : Option SendingCall) → false ≡ is_some o → o ≡ None
no_sending None e = refl
no_sending (Some s) e = absurd cc

-- behind the call in transmission
pub queued_waits : (p : TheProgram) (circuit : ℕ) (before : Outgoing) (items : List QueuedCall) (call : QueuedCall) → true ≡ is_some before.sending → items ≡ before.waiting.items ++ call ∷ []
    → ◌≡◌ {A = TheOutgoing} (record { unwritten = sending_frags before.sending before.payload; count = count_in before.sending; waiting = map (queued_frags p circuit) items })
    (queued (outgoing_of p circuit before) (queued_frags p circuit call))
queued_waits p circuit before items call busy e = by before.sending busy
  where
    by : (o : Option SendingCall) → true ≡ is_some o
        → ◌≡◌ {A = TheOutgoing} (record { unwritten = sending_frags o before.payload; count = count_in o; waiting = map (queued_frags p circuit) items })
        (queued (record { unwritten = sending_frags o before.payload; count = count_in o; waiting = map (queued_frags p circuit) before.waiting.items }) (queued_frags p circuit call))
    by None busy = absurd cc
    by (Some s) busy = ap (λ (xs : List (List Frag)). record { unwritten = sending_frags (Some s) before.payload; count = s.count; waiting = xs })
        (ap (map (queued_frags p circuit)) e ∙ map-append (queued_frags p circuit) before.waiting.items (call ∷ []))

-- ---- ends

pub number_is : (o : Option ℕ) (circuit : ℕ) → o ≡ Some circuit → number_or_0 o ≡ circuit
number_is o circuit e = ap number_or_0 e

-- an end with other calls to be sent
abbrev pub end_with : Inside → Outgoing → Inside
end_with e out = record { alloc = e.alloc; program = e.program; rules = e.rules; circuit = e.circuit; outgoing = out; failed = e.failed }

pub end_with_outgoing : (e : Inside) (out : Outgoing) (circuit : ℕ) (o : TheOutgoing) → circuit_of e.circuit ≡ Some circuit → outgoing_of (program_in e) circuit out ≡ o
    → end_of (end_with e out) ≡ record (end_of e) { outgoing = o }
end_with_outgoing e out circuit o bound is =
    ap (λ (x : TheOutgoing). record (end_of e) { outgoing = x })
    (ap (λ (n : ℕ). outgoing_of (program_in e) n out) (number_is (circuit_of e.circuit) circuit bound) ∙ is)

pub queued_end : (e : Inside) (out : Outgoing) (call : QueuedCall) (c : TheCall) (circuit : ℕ) → circuit_of e.circuit ≡ Some circuit → Queues (program_in e) c call
    → outgoing_of (program_in e) circuit out ≡ queued (outgoing_of (program_in e) circuit e.outgoing) (queued_frags (program_in e) circuit call)
    → end_of (end_with e out) ≡ with_call (end_of e) c
queued_end e out call c circuit bound queues is =
    let n : number_or_0 (circuit_of e.circuit) ≡ circuit = number_is (circuit_of e.circuit) circuit bound in
    end_with_outgoing e out circuit (queued (outgoing_of (program_in e) circuit e.outgoing) (frags_on circuit (program_in e).plan (program_in e).interface c)) bound
    (is ∙ ap (queued (outgoing_of (program_in e) circuit e.outgoing)) (queues.frags circuit))
    ∙ ap (λ (k : ℕ). record (end_of e) { outgoing = queued (outgoing_of (program_in e) k e.outgoing) (frags_on k (program_in e).plan (program_in e).interface c) }) (sym n)

pub written_end : (e : Inside) (out : Outgoing) (rest : List Frag) (circuit : ℕ) → circuit_of e.circuit ≡ Some circuit
    → outgoing_of (program_in e) circuit out ≡ wrote rest (outgoing_of (program_in e) circuit e.outgoing)
    → end_of (end_with e out) ≡ with_written (end_of e) rest
written_end e out rest circuit bound is =
    end_with_outgoing e out circuit (wrote rest (outgoing_of (program_in e) circuit e.outgoing)) bound is
    ∙ ap (λ (k : ℕ). record (end_of e) { outgoing = wrote rest (outgoing_of (program_in e) k e.outgoing) }) (sym (number_is (circuit_of e.circuit) circuit bound))

-- what is to be sent is as it was, and so is the end
pub kept_end : (e : Inside) (out : Outgoing) (circuit : ℕ) → circuit_of e.circuit ≡ Some circuit
    → outgoing_of (program_in e) circuit out ≡ outgoing_of (program_in e) circuit e.outgoing
    → end_of (end_with e out) ≡ end_of e
kept_end e out circuit bound is =
    end_with_outgoing e out circuit (outgoing_of (program_in e) circuit e.outgoing) bound is
    ∙ ap (λ (k : ℕ). record (end_of e) { outgoing = outgoing_of (program_in e) k e.outgoing }) (sym (number_is (circuit_of e.circuit) circuit bound))

pub kept_is_end : (e : Inside) (out : Outgoing) → IsOutgoing (program_in e) out → end_of (end_with e out) ≡ end_of e → Sound (end_of e) → IsEnd (end_with e out)
kept_is_end e out outgoing view sound = record {
  outgoing = outgoing;
  sound = subst (λ (s : TheEnd). Sound s) (sym view) sound;
}

-- a bound end that was idle, with a fitting call in transmission
pub called_is_end : (e : Inside) (out : Outgoing) (call : QueuedCall) (s : TheEnd) (c : TheCall) (circuit : ℕ) → end_of e ≡ s → Sound (end_of e)
    → s.circuit ≡ Some circuit → s.outgoing.unwritten ≡ [] → Fits s c → Queues (program_in e) c call → IsOutgoing (program_in e) out
    → outgoing_of (program_in e) circuit out ≡ queued (outgoing_of (program_in e) circuit e.outgoing) (queued_frags (program_in e) circuit call)
    → IsEnd (end_with e out)
called_is_end e out call s c circuit view old bound_as idle_as fits_as queues outgoing is =
    let bound : (end_of e).circuit ≡ Some circuit = subst (λ (t : TheEnd). t.circuit ≡ Some circuit) (sym view) bound_as in
    let idle : (end_of e).outgoing.unwritten ≡ [] = subst (λ (t : TheEnd). t.outgoing.unwritten ≡ []) (sym view) idle_as in
    let fits : Fits (end_of e) c = subst (λ (t : TheEnd). Fits t c) (sym view) fits_as in
    let nothing = idle_end (end_of e) old idle in
    let none : length (end_of e).outgoing.waiting ≡ 0 = ap (λ (o : TheOutgoing). length o.waiting) nothing in
    let some : IsSome (end_of e).circuit = subst (λ (o : Option ℕ). IsSome o) (sym bound) (search rules) in
    let sound = sound_call (end_of e) c old some fits (omega (arith, none)) in
    record {
      outgoing = outgoing;
      sound = subst (λ (t : TheEnd). Sound t) (sym (queued_end e out call c circuit bound queues is)) sound;
    }

-- ---- calls handled

-- the reply is queued where there is one
pub accepted_as : (p : TheProgram) (circuit : ℕ) (o : TheOutgoing) (c : Option TheCall) (reply : Option QueuedCall) → QueuesReply p c reply
    → queued_if o (option_map (queued_frags p circuit) reply) ≡ queued_if o (option_map (frags_on circuit p.plan p.interface) c)
accepted_as p circuit o None None q = refl
accepted_as p circuit o (Some c) (Some reply) q = ap (queued o) (q.frags circuit)
accepted_as p circuit o None (Some reply) q = absurd q
accepted_as p circuit o (Some c) None q = absurd q

pub handled_end : (e : Inside) (out : Outgoing) (c : TheCall) (reply : Option QueuedCall) (circuit : ℕ) → circuit_of e.circuit ≡ Some circuit
    → QueuesReply (program_in e) (reply_to (rules_of e.rules.replies.items) c) reply
    → outgoing_of (program_in e) circuit out ≡ queued_if (outgoing_of (program_in e) circuit e.outgoing) (option_map (queued_frags (program_in e) circuit) reply)
    → end_of (end_with e out) ≡ with_handled (end_of e) c
handled_end e out c reply circuit bound queues is =
    let p = program_in e in
    let n : number_or_0 (circuit_of e.circuit) ≡ circuit = number_is (circuit_of e.circuit) circuit bound in
    let due = reply_to (rules_of e.rules.replies.items) c in
    let out_is : outgoing_of p (number_or_0 (circuit_of e.circuit)) out ≡ queued_if (outgoing_of p (number_or_0 (circuit_of e.circuit)) e.outgoing) (option_map (frags_on (number_or_0 (circuit_of e.circuit)) p.plan p.interface) due)
    = subst (λ (k : ℕ). outgoing_of p k out ≡ queued_if (outgoing_of p k e.outgoing) (option_map (frags_on k p.plan p.interface) due)) (sym n)
    (is ∙ accepted_as p circuit (outgoing_of p circuit e.outgoing) due reply queues) in
    ap (λ (o : TheOutgoing). record (end_of e) { outgoing = o }) out_is

pub handled_is_end : (e : Inside) (out : Outgoing) (c : TheCall) → IsOutgoing (program_in e) out
    → end_of (end_with e out) ≡ with_handled (end_of e) c → Sound (with_handled (end_of e) c) → IsEnd (end_with e out)
handled_is_end e out c outgoing view sound = record {
  outgoing = outgoing;
  sound = subst (λ (s : TheEnd). Sound s) (sym view) sound;
}

-- ---- whether a call is in transmission

pub busy_sending : (o : Option SendingCall) (payload : Option (Vec ℕ)) (f : Frag) (rest : List Frag) → sending_frags o payload ≡ f ∷ rest → IsSome o
busy_sending None payload f rest e = absurd cc
busy_sending (Some s) payload f rest e = refl

-- none where nothing is to be written
pub none_sending : (o : Option SendingCall) (payload : Option (Vec ℕ)) → sending_frags o payload ≡ [] → o ≡ None
none_sending None payload e = refl
none_sending (Some s) payload e = absurd cc

-- the next fragment, if there is one, is carried unchanged
pub next_own : (o : Option SendingCall) (payload : Option (Vec ℕ)) (xs : List QueuedCall) → IsInTransmission o payload xs → IfSome (slice_get (sending_frags o payload) 0) IsOwn
next_own None payload xs is = search rules
next_own (Some s) payload xs is = is.own.0

-- there is room for the reply to a call
pub room_for : (p : TheProgram) (circuit : ℕ) (e : Inside) (c : TheCall) (reply : Option QueuedCall) → QueuesReply p (reply_to (rules_of e.rules.replies.items) c) reply
    → holds_back (end_of e) ≡ false → Sound (end_of e) → IfSome reply (λ (call : QueuedCall). length e.outgoing.waiting.items < 16)
room_for p circuit e c None q held sound = search rules
room_for p circuit e c (Some call) q held sound = room_by (rule_at (rules_of e.rules.replies.items) c.msg) refl q
  where
    room_by : (rule : Option ℕ) → rule_at (rules_of e.rules.replies.items) c.msg ≡ rule
        → QueuesReply p (option_map (λ (reply : ℕ). record { msg = reply; args = c.args }) rule) (Some call) → length e.outgoing.waiting.items < 16
    room_by None is q = absurd q
    room_by (Some reply) is q =
        let long = length-map e.outgoing.waiting.items (queued_frags (program_in e) (number_or_0 (circuit_of e.circuit))) in
        let less = has_room (end_of e) reply c.msg is held sound.sends.few in
        omega (arith, long, less)

-- ---- reply rules

abbrev pub with_rules : Inside → ReplyRules → Inside
with_rules e rules = record { alloc = e.alloc; program = e.program; rules = rules; circuit = e.circuit; outgoing = e.outgoing; failed = e.failed }

-- an end with one rule more
pub ruled_view : (e : Inside) (after : ReplyRules) (msg reply : ℕ) → rules_of after.replies.items ≡ slice_set (rules_of e.rules.replies.items) msg (Some reply)
    → end_of (with_rules e after) ≡ record (end_of e) { rules = slice_set (end_of e).rules msg (Some reply) }
ruled_view e after msg reply is = ap (λ (x : List (Option ℕ)). record (end_of e) { rules = x }) is

pub ruled_is_end : (e : Inside) (after : ReplyRules) (msg reply : ℕ) → IsEnd e → rules_of after.replies.items ≡ slice_set (rules_of e.rules.replies.items) msg (Some reply)
    → Sound (record (end_of e) { rules = slice_set (end_of e).rules msg (Some reply) }) → IsEnd (with_rules e after)
ruled_is_end e after msg reply old is sound = record {
  outgoing = old.outgoing;
  sound = subst (λ (s : TheEnd). Sound s) (sym (ruled_view e after msg reply is)) sound;
}

-- an end with the rules of another of the same interface
pub exchanged_is_end : (e f : Inside) → IsEnd e → interface_in (end_of e) ≡ interface_in (end_of f) → Sound (end_of f) → IsEnd (with_rules e f.rules)
exchanged_is_end e f old same other = record {
  outgoing = old.outgoing;
  sound = sound_exchanged (end_of e) (end_of f) same old.sound other;
}

-- two messages that are found, with the same arguments' types
pub rule_found : (i : TheInterface) (msg reply : ℕ) (from to : TheMessage) → Some from ≡ slice_get i.messages msg → Some to ≡ slice_get i.messages reply → from.args ≡ to.args
    → IsRule i msg reply
rule_found i msg reply from to a b same = record {
  from = subst (λ (o : Option TheMessage). IsSome o) a refl;
  to = subst (λ (o : Option TheMessage). IsSome o) b refl;
  types = ap types_of (sym a) ∙ same ∙ ap types_of b;
}
