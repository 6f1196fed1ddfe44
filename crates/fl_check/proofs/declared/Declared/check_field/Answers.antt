use Rattle.std.proofs.Common.{◌∷◌, [], ◌∙◌, ap, length, length-append}
use Rattle.fl_check.specs.Places.{fixed_type_place, listed_place, count_places}
use Rattle.fl_check.specs.Views.{before_of, list_of}
use Rattle.fl_parse.specs.Tree.{field_of}
use Rattle.fl_check.proofs.FirstFaults.{tells_past, tells_here, none_past, err_of, sound_at_end, fault_at_end, ok_by}
use Rattle.fl_check.proofs.Looks.{err_after, call_after}
use Rattle.fl_check.proofs.declared.Declared.check_field.Goals as goal

pub returns-in_err-add_listed_name-clause-fault : goal.returns-in_err-add_listed_name-clause-fault
returns-in_err-add_listed_name-clause-fault c =
    let f = field_of c.args.field.now in
    let one = fixed_type_place (before_of c.args.self.now) f.type_name in
    let two = listed_place (list_of c.args.names.now) c.len-counted_before.result f.name in
    let here = tells_here c.in_err-add_listed_name.field-0.0 two (count_places f.count) c.in_err-add_listed_name.ensures.fault in
    let t = tells_past c.in_err-add_listed_name.field-0.0 one (two ∷ count_places f.count) c.in_ok-measured.ensures.sound here in
    err_of c.from_residual-in_err-add_listed_name.result c.in_err-add_listed_name.field-0.0 _ c.from_residual-in_err-add_listed_name.ensures.1 (rw (← c.len-counted_before.ensures.exact) t)

pub returns-clause-sound : goal.returns-clause-sound
returns-clause-sound c =
    let f = field_of c.args.field.now in
    let one = fixed_type_place (before_of c.args.self.now) f.type_name in
    let two = listed_place (list_of c.args.names.now) c.len-counted_before.result f.name in
    let p = none_past one (two ∷ count_places f.count) c.in_ok-measured.ensures.sound in
    let q = none_past two (count_places f.count) c.in_ok-add_listed_name.ensures.sound in
    sound_at_end c.apply_count.result _ _ (rw (← c.len-counted_before.ensures.exact) (p ∙ q)) c.apply_count.ensures.sound

pub returns-in_err-measured-clause-fault : goal.returns-in_err-measured-clause-fault
returns-in_err-measured-clause-fault c =
    let e = c.in_err-measured.field-0.0 in
    err_of c.from_residual.result e _ c.from_residual.ensures.1 (tells_here e _ _ c.in_err-measured.ensures.fault)

pub returns-clause-fault : goal.returns-clause-fault
returns-clause-fault c =
    let f = field_of c.args.field.now in
    let one = fixed_type_place (before_of c.args.self.now) f.type_name in
    let two = listed_place (list_of c.args.names.now) c.len-counted_before.result f.name in
    let p = none_past one (two ∷ count_places f.count) c.in_ok-measured.ensures.sound in
    let q = none_past two (count_places f.count) c.in_ok-add_listed_name.ensures.sound in
    fault_at_end c.apply_count.result _ _ (rw (← c.len-counted_before.ensures.exact) (p ∙ q)) c.apply_count.ensures.fault

pub returns-in_err-measured-clause-memory : goal.returns-in_err-measured-clause-memory
returns-in_err-measured-clause-memory c =
    err_after c.from_residual.result c.in_err-measured.field-0.0 _ c.from_residual.ensures.1 c.in_err-measured.ensures.memory

pub returns-in_err-add_listed_name-clause-memory : goal.returns-in_err-add_listed_name-clause-memory
returns-in_err-add_listed_name-clause-memory c = call_after c.from_residual-in_err-add_listed_name.result _ c.in_ok-measured.ensures.sound

pub returns-clause-memory : goal.returns-clause-memory
returns-clause-memory c = call_after c.apply_count.result _ c.in_ok-measured.ensures.sound

pub returns-clause-names : goal.returns-clause-names
returns-clause-names c = ok_by c.apply_count.result _ c.in_ok-add_listed_name.ensures.names

pub returns-clause-len : goal.returns-clause-len
returns-clause-len c =
    let name = c.args.field.now.name.text.now in
    ok_by c.apply_count.result _ (ap length c.in_ok-add_listed_name.ensures.names ∙ length-append (list_of c.args.names.now) (name ∷ []))

pub returns-clause-few : goal.returns-clause-few
returns-clause-few c = ok_by c.apply_count.result _ (rw c.len-counted_before.ensures.exact at c.in_ok-add_listed_name.ensures.few)

pub returns-clause-stands : goal.returns-clause-stands
returns-clause-stands c = rw c.in_ok-measured.ensures.stands at c.apply_count.ensures.stands
