use Rattle.std.proofs.Common.{◌≡◌, map, ap, ◌∙◌, sym, nat_eq, length, arith}
use Rattle.std.proofs.lemmas.List.{length-map}
use Rattle.fl_interface.specs.Interface.{type_of, enumeration}
use Rattle.fl_parse.specs.Tree.{name_of}
use Rattle.fl_check.proofs.FirstFaults.{err_of, tells_after, tells_here, none_after, none_past, sound_at_end, fault_at_end}
use Rattle.fl_check.specs.Views.{before_of}
use Rattle.fl_check.specs.declared.fault.CheckFault.TheVariants.{Memory}
use Rattle.fl_check.proofs.Looks.{err_after, call_after, enum_after, some_members}
use Rattle.fl_check.proofs.Added.{type_added}
use Rattle.fl_check.proofs.declared.Declared.declare_enumeration.Goals as goal

pub returns-in_err-check_new_type-clause-fault : goal.returns-in_err-check_new_type-clause-fault
returns-in_err-check_new_type-clause-fault c =
    let e = c.in_err-check_new_type.field-0.0 in
    let l = length-map c.args.names.now name_of in
    let q : c.is_empty.result ≡ nat_eq (length (map name_of c.args.names.now)) 0 = c.is_empty.ensures ∙ ap (λ n. nat_eq n 0) (sym l) in
    let t = rw q at c.in_err-check_new_type.ensures.fault in
    err_of c.from_residual-in_err-check_new_type.result e _ c.from_residual-in_err-check_new_type.ensures.1
    (tells_after e _ _ c.in_ok-check_members.ensures.sound (tells_here e _ _ t))

pub returns-clause-sound : goal.returns-clause-sound
returns-clause-sound c =
    let l = length-map c.args.names.now name_of in
    let q : c.is_empty.result ≡ nat_eq (length (map name_of c.args.names.now)) 0 = c.is_empty.ensures ∙ ap (λ n. nat_eq n 0) (sym l) in
    let t = rw q at c.in_ok-check_new_type.ensures.sound in
    let k : type_of c.of_enum.result.fixed ≡ enumeration (length (map name_of c.args.names.now)) = c.of_enum.ensures.stands ∙ ap enumeration (c.in-Ok.ensures.1 ∙ sym l) in
    sound_at_end c.add_type.result _ _ (none_after _ _ c.in_ok-check_members.ensures.sound ∙ none_past _ _ t) (rw k at c.add_type.ensures.sound)

pub returns-clause-fault : goal.returns-clause-fault
returns-clause-fault c =
    let l = length-map c.args.names.now name_of in
    let q : c.is_empty.result ≡ nat_eq (length (map name_of c.args.names.now)) 0 = c.is_empty.ensures ∙ ap (λ n. nat_eq n 0) (sym l) in
    let t = rw q at c.in_ok-check_new_type.ensures.sound in
    let k : type_of c.of_enum.result.fixed ≡ enumeration (length (map name_of c.args.names.now)) = c.of_enum.ensures.stands ∙ ap enumeration (c.in-Ok.ensures.1 ∙ sym l) in
    fault_at_end c.add_type.result _ _ (none_after _ _ c.in_ok-check_members.ensures.sound ∙ none_past _ _ t) (rw k at c.add_type.ensures.fault)

pub returns-in_err-check_members-clause-memory : goal.returns-in_err-check_members-clause-memory
returns-in_err-check_members-clause-memory c =
    let l = length-map c.args.names.now name_of in
    err_after c.from_residual.result c.in_err-check_members.field-0.0 _ c.from_residual.ensures.1
    (some_members (before_of c.args.self.now) (map name_of c.args.names.now) (name_of c.args.name.now) c.in_err-check_members.field-0.0
    (omega (arith, l, c.in_err-check_members.ensures.some)))

pub returns-in_err-check_new_type-clause-memory : goal.returns-in_err-check_new_type-clause-memory
returns-in_err-check_new_type-clause-memory c =
    let e = c.in_err-check_new_type.field-0.0 in
    let l = length-map c.args.names.now name_of in
    let q : c.is_empty.result ≡ nat_eq (length (map name_of c.args.names.now)) 0 = c.is_empty.ensures ∙ ap (λ n. nat_eq n 0) (sym l) in
    let t = rw q at c.in_err-check_new_type.ensures.memory in
    err_after c.from_residual-in_err-check_new_type.result e _ c.from_residual-in_err-check_new_type.ensures.1
    (enum_after (before_of c.args.self.now) (map name_of c.args.names.now) (name_of c.args.name.now) e t)

pub returns-clause-memory : goal.returns-clause-memory
returns-clause-memory c =
    let l = length-map c.args.names.now name_of in
    let q : c.is_empty.result ≡ nat_eq (length (map name_of c.args.names.now)) 0 = c.is_empty.ensures ∙ ap (λ n. nat_eq n 0) (sym l) in
    let t = rw q at c.in_ok-check_new_type.ensures.sound in
    call_after c.add_type.result _ (enum_after (before_of c.args.self.now) (map name_of c.args.names.now) (name_of c.args.name.now) Memory t)

pub returns-in_default-clause-memory : goal.returns-in_default-clause-memory
returns-in_default-clause-memory c =
    let l = length-map c.args.names.now name_of in
    let q : c.is_empty.result ≡ nat_eq (length (map name_of c.args.names.now)) 0 = c.is_empty.ensures ∙ ap (λ n. nat_eq n 0) (sym l) in
    let t = rw q at c.in_ok-check_new_type.ensures.sound in
    enum_after (before_of c.args.self.now) (map name_of c.args.names.now) (name_of c.args.name.now) Memory t

pub returns-clause-after : goal.returns-clause-after
returns-clause-after c =
    let l = length-map c.args.names.now name_of in
    type_added c.add_type.result (before_of c.args.self.now) (before_of c.add_type.new.self) _ _ _ c.add_type.ensures.types c.add_type.ensures.messages (c.of_enum.ensures.stands ∙ ap enumeration (c.in-Ok.ensures.1 ∙ sym l))
