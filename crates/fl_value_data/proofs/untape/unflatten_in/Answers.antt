use Rattle.std.proofs.Common.{List, ℕ, Some, length, map, sym, subst, ap, ◌∙◌, eqb}
use Rattle.std.proofs.lemmas.Bool.{false≢true, eqb-true}
use Rattle.std.proofs.lemmas.List.{length-map}
use Rattle.fl_interface.specs.declared.interface.ArgType.{ArgType}
use Rattle.fl_interface.specs.Interface.{TheArgType, arg_type_of, message_of, interface_of}
use Rattle.fl_value_data.specs.Value.{TheCall, datum_of}
use Rattle.fl_value_data.specs.Plan.{arranged, never_falls}
use Rattle.fl_value_data.specs.Taken.{ArgumentAt, InTurn}
use Rattle.fl_value_data.proofs.Ranked.{seconds_arranged}
use Rattle.fl_value_data.proofs.Untaped.{as_many, all_types, call_found, call_only, call_none, call_past, is_empty, message_at}
use Rattle.fl_value_data.proofs.untape.unflatten_in.Goals as goal

pub returns-in_default-2-clause-none : goal.returns-in_default-2-clause-none
returns-in_default-2-clause-none c =
    let i = interface_of c.args.interface.now in
    let m = message_of c.in-Some.message.now in
    let here = message_at c.args.interface.now.messages.items c.deref.result.now c.args.msg.0 c.from.result c.in-Some.message.now c.from.ensures c.deref.ensures.value c.in-Some.ensures.lookup.0 c.in-Some.ensures.lookup.1 in
    let none = rw (c.in_default-2.is, c.deref-3.ensures.value) at c.in_ok-arranged.ensures.none in
    call_none c.args.plan i m c.args.msg.0 c.args.tape.now here none

pub returns-in_default-2-clause-only : goal.returns-in_default-2-clause-only
returns-in_default-2-clause-only c = λ other h.
    let i = interface_of c.args.interface.now in
    let m = message_of c.in-Some.message.now in
    let here = message_at c.args.interface.now.messages.items c.deref.result.now c.args.msg.0 c.from.result c.in-Some.message.now c.from.ensures c.deref.ensures.value c.in-Some.ensures.lookup.0 c.in-Some.ensures.lookup.1 in
    let none = rw (c.in_default-2.is, c.deref-3.ensures.value) at c.in_ok-arranged.ensures.none in
    absurd (call_none c.args.plan i m c.args.msg.0 c.args.tape.now here none other h)

pub returns-then-not-is_empty-clause-none : goal.returns-then-not-is_empty-clause-none
returns-then-not-is_empty-clause-none c =
    let i = interface_of c.args.interface.now in
    let m = message_of c.in-Some.message.now in
    let here = message_at c.args.interface.now.messages.items c.deref.result.now c.args.msg.0 c.from.result c.in-Some.message.now c.from.ensures c.deref.ensures.value c.in-Some.ensures.lookup.0 c.in-Some.ensures.lookup.1 in
    let one = rw (c.in-Some-2.is, c.deref-3.ensures.value) at c.in_ok-arranged.ensures.found in
    call_past c.args.plan i m c.args.msg.0 c.args.tape.now (map datum_of c.in-Some-2.arranged.items) c.in-Some-2.rest.now here one
    (λ e. false≢true (c.if-not-is_empty.ensures ∙ ap (λ (l : List ℕ). eqb (length l) 0) e))

pub returns-then-not-is_empty-clause-only : goal.returns-then-not-is_empty-clause-only
returns-then-not-is_empty-clause-only c = λ other h.
    let i = interface_of c.args.interface.now in
    let m = message_of c.in-Some.message.now in
    let here = message_at c.args.interface.now.messages.items c.deref.result.now c.args.msg.0 c.from.result c.in-Some.message.now c.from.ensures c.deref.ensures.value c.in-Some.ensures.lookup.0 c.in-Some.ensures.lookup.1 in
    let one = rw (c.in-Some-2.is, c.deref-3.ensures.value) at c.in_ok-arranged.ensures.found in
    absurd (call_past c.args.plan i m c.args.msg.0 c.args.tape.now (map datum_of c.in-Some-2.arranged.items) c.in-Some-2.rest.now here one
    (λ e. false≢true (c.if-not-is_empty.ensures ∙ ap (λ (l : List ℕ). eqb (length l) 0) e)) other h)

pub declared_order-requires : goal.declared_order-requires
declared_order-requires c =
    let types = map arg_type_of c.in-Some.message.now.args.items in
    let one = rw (c.in-Some-2.is, c.deref-3.ensures.value) at c.in_ok-arranged.ensures.found in
    let values = as_many (arranged (λ (t : TheArgType). t) c.args.plan types) c.args.tape.now (map datum_of c.in-Some-2.arranged.items) c.in-Some-2.rest.now one.stands in
    record {
      kept = c.never_falls-kept.ensures.same ∙ ap (λ (ts : List ArgType). never_falls c.args.plan (map arg_type_of ts)) (c.deref-2.ensures.value ∙ sym c.deref-4.ensures.value);
      as_many = sym (length-map c.in-Some-2.arranged.items datum_of) ∙ values ∙ all_types c.args.plan types ∙ length-map c.in-Some.message.now.args.items arg_type_of
          ∙ sym (ap length c.deref-4.ensures.value);
    }

pub returns-clause-some : goal.returns-clause-some
returns-clause-some c =
    let i = interface_of c.args.interface.now in
    let m = message_of c.in-Some.message.now in
    let types = map arg_type_of c.in-Some.message.now.args.items in
    let read = map datum_of c.in-Some-2.arranged.items in
    let here = message_at c.args.interface.now.messages.items c.deref.result.now c.args.msg.0 c.from.result c.in-Some.message.now c.from.ensures c.deref.ensures.value c.in-Some.ensures.lookup.0 c.in-Some.ensures.lookup.1 in
    let one = rw (c.in-Some-2.is, c.deref-3.ensures.value) at c.in_ok-arranged.ensures.found in
    let end = is_empty c.in-Some-2.rest.now (eqb-true (length c.in-Some-2.rest.now) 0 (sym c.if-not-is_empty.ensures)) in
    let stands = subst (λ (l : List ℕ). InTurn ArgumentAt (arranged (λ (t : TheArgType). t) c.args.plan types) c.args.tape.now read l) end one.stands in
    let many = length-map c.in_ok-args.args.items datum_of ∙ c.in_ok-args.ensures.many ∙ ap length c.deref-4.ensures.value ∙ sym (length-map c.in-Some.message.now.args.items arg_type_of) in
    let back = sym (seconds_arranged c.args.plan types (map datum_of c.in_ok-args.args.items) many) ∙ (rw c.deref-4.ensures.value at c.in_ok-args.ensures.back) in
    call_found c.args.plan i m c.args.msg.0 c.args.tape.now read (map datum_of c.in_ok-args.args.items) here stands many back

pub returns-clause-only : goal.returns-clause-only
returns-clause-only c = λ other h.
    let i = interface_of c.args.interface.now in
    let m = message_of c.in-Some.message.now in
    let read = map datum_of c.in-Some-2.arranged.items in
    let here = message_at c.args.interface.now.messages.items c.deref.result.now c.args.msg.0 c.from.result c.in-Some.message.now c.from.ensures c.deref.ensures.value c.in-Some.ensures.lookup.0 c.in-Some.ensures.lookup.1 in
    let one = rw (c.in-Some-2.is, c.deref-3.ensures.value) at c.in_ok-arranged.ensures.found in
    let many = length-map c.in_ok-args.args.items datum_of ∙ c.in_ok-args.ensures.many ∙ ap length c.deref-4.ensures.value ∙ sym (length-map c.in-Some.message.now.args.items arg_type_of) in
    let types = map arg_type_of c.in-Some.message.now.args.items in
    let back = sym (seconds_arranged c.args.plan types (map datum_of c.in_ok-args.args.items) many) ∙ (rw c.deref-4.ensures.value at c.in_ok-args.ensures.back) in
    ap (λ (v : TheCall). Some v) (call_only c.args.plan i m c.args.msg.0 c.args.tape.now read (map datum_of c.in_ok-args.args.items) c.in-Some-2.rest.now here one many back other h)
