use Rattle.std.proofs.Common.{◌≡◌, List, map, ap, sym, ◌∙◌, nat_eq, length, arith}
use Rattle.std.proofs.lemmas.List.{length-map}
use Rattle.fl_interface.specs.Interface.{TheType, structure, fields_from}
use Rattle.fl_parse.specs.Tree.{field_of}
use Rattle.fl_check.proofs.FirstFaults.{err_of, tells_after, tells_here, none_after, none_past, sound_at_end, fault_at_end}
use Rattle.fl_parse.specs.Tree.{name_of}
use Rattle.fl_check.specs.Views.{before_of}
use Rattle.fl_check.specs.declared.fault.CheckFault.TheVariants.{Memory}
use Rattle.fl_check.proofs.Looks.{err_after, call_after, some_fields, struct_after}
use Rattle.fl_check.proofs.Added.{type_added}
use Rattle.fl_check.proofs.declared.Declared.declare_struct.Goals as goal

pub returns-in_err-check_new_type-clause-fault : goal.returns-in_err-check_new_type-clause-fault
returns-in_err-check_new_type-clause-fault c =
    let e = c.in_err-check_new_type.field-0.0 in
    let l = length-map c.args.fields.now field_of in
    let q : c.is_empty.result ≡ nat_eq (length (map field_of c.args.fields.now)) 0 = c.is_empty.ensures ∙ ap (λ n. nat_eq n 0) (sym l) in
    let t = rw q at c.in_err-check_new_type.ensures.fault in
    err_of c.from_residual-in_err-check_new_type.result e _ c.from_residual-in_err-check_new_type.ensures.1
    (tells_after e _ _ c.in_ok-laid.ensures.sound (tells_here e _ _ t))

pub returns-clause-sound : goal.returns-clause-sound
returns-clause-sound c =
    let l = length-map c.args.fields.now field_of in
    let q : c.is_empty.result ≡ nat_eq (length (map field_of c.args.fields.now)) 0 = c.is_empty.ensures ∙ ap (λ n. nat_eq n 0) (sym l) in
    let t = rw q at c.in_ok-check_new_type.ensures.sound in
    let k = c.in_ok-measured.ensures.stands ∙ ap (λ (l : List TheType). structure (fields_from l)) c.in_ok-laid.ensures.stands in
    sound_at_end c.add_type.result _ _ (none_after _ _ c.in_ok-laid.ensures.sound ∙ none_past _ _ t) (rw k at c.add_type.ensures.sound)

pub returns-clause-fault : goal.returns-clause-fault
returns-clause-fault c =
    let l = length-map c.args.fields.now field_of in
    let q : c.is_empty.result ≡ nat_eq (length (map field_of c.args.fields.now)) 0 = c.is_empty.ensures ∙ ap (λ n. nat_eq n 0) (sym l) in
    let t = rw q at c.in_ok-check_new_type.ensures.sound in
    let k = c.in_ok-measured.ensures.stands ∙ ap (λ (l : List TheType). structure (fields_from l)) c.in_ok-laid.ensures.stands in
    fault_at_end c.add_type.result _ _ (none_after _ _ c.in_ok-laid.ensures.sound ∙ none_past _ _ t) (rw k at c.add_type.ensures.fault)

pub returns-in_err-laid-clause-memory : goal.returns-in_err-laid-clause-memory
returns-in_err-laid-clause-memory c =
    let l = length-map c.args.fields.now field_of in
    err_after c.from_residual.result c.in_err-laid.field-0.0 _ c.from_residual.ensures.1
    (some_fields (before_of c.args.self.now) (map field_of c.args.fields.now) (name_of c.args.name.now) c.in_err-laid.field-0.0
    (omega (arith, l, c.in_err-laid.ensures.some)) c.in_err-laid.ensures.memory)

pub returns-in_err-check_new_type-clause-memory : goal.returns-in_err-check_new_type-clause-memory
returns-in_err-check_new_type-clause-memory c =
    let e = c.in_err-check_new_type.field-0.0 in
    let l = length-map c.args.fields.now field_of in
    let q : c.is_empty.result ≡ nat_eq (length (map field_of c.args.fields.now)) 0 = c.is_empty.ensures ∙ ap (λ n. nat_eq n 0) (sym l) in
    let t = rw q at c.in_err-check_new_type.ensures.memory in
    err_after c.from_residual-in_err-check_new_type.result e _ c.from_residual-in_err-check_new_type.ensures.1
    (struct_after (before_of c.args.self.now) (map field_of c.args.fields.now) (name_of c.args.name.now) e c.in_ok-laid.ensures.sound t)

pub returns-in_err-measured-clause-memory : goal.returns-in_err-measured-clause-memory
returns-in_err-measured-clause-memory c =
    let l = length-map c.args.fields.now field_of in
    let q : c.is_empty.result ≡ nat_eq (length (map field_of c.args.fields.now)) 0 = c.is_empty.ensures ∙ ap (λ n. nat_eq n 0) (sym l) in
    let t = rw q at c.in_ok-check_new_type.ensures.sound in
    call_after c.from_residual-in_err-measured.result _
    (struct_after (before_of c.args.self.now) (map field_of c.args.fields.now) (name_of c.args.name.now) Memory c.in_ok-laid.ensures.sound t)

pub returns-clause-memory : goal.returns-clause-memory
returns-clause-memory c =
    let l = length-map c.args.fields.now field_of in
    let q : c.is_empty.result ≡ nat_eq (length (map field_of c.args.fields.now)) 0 = c.is_empty.ensures ∙ ap (λ n. nat_eq n 0) (sym l) in
    let t = rw q at c.in_ok-check_new_type.ensures.sound in
    call_after c.add_type.result _
    (struct_after (before_of c.args.self.now) (map field_of c.args.fields.now) (name_of c.args.name.now) Memory c.in_ok-laid.ensures.sound t)

pub returns-clause-after : goal.returns-clause-after
returns-clause-after c =
    let k = c.in_ok-measured.ensures.stands ∙ ap (λ (l : List TheType). structure (fields_from l)) c.in_ok-laid.ensures.stands in
    type_added c.add_type.result (before_of c.args.self.now) (before_of c.add_type.new.self) _ _ _ c.add_type.ensures.types c.add_type.ensures.messages k
