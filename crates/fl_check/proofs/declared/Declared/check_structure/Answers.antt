use Rattle.std.proofs.Common.{refl, arith}
use Rattle.fl_check.specs.Views.{before_of, list_of}
use Rattle.fl_check.specs.Known.{field_type}
use Rattle.fl_parse.specs.Tree.{field_of}
use Rattle.fl_check.proofs.FirstFaults.{err_of}
use Rattle.fl_check.proofs.Walks.{made_push, made_all, walk_on, walk_fault, walk_end}
use Rattle.fl_check.proofs.Lists.{fields_left, field_here, after_field, fields_walk}
use Rattle.fl_check.proofs.Looks.{err_after, field_looked, field_looked_on}
use Rattle.fl_check.proofs.declared.Declared.check_structure.Goals as goal

pub returns-in_err-add_field-clause-fault : goal.returns-in_err-add_field-clause-fault
returns-in_err-add_field-clause-fault c =
    let b = before_of c.args.self.now in
    err_of c.from_residual.result c.in_err-add_field.field-0.0 _ c.from_residual.ensures.1
    (walk_fault (fields_left b) (field_here b) after_field (fields_walk b) _ c.in_err-add_field.field-0.0 (list_of c.loop-field.names) c.args.fields.now c.loop-field.field-index c.field-item.result _ (omega arith) c.field-item.is c.loop-field.invariant.places c.in_err-add_field.ensures.fault)

pub loop-field-preserved : goal.loop-field-preserved
loop-field-preserved c =
    let b = before_of c.args.self.now in
    record {
      places = walk_on (fields_left b) (field_here b) after_field (fields_walk b) _ (list_of c.loop-field.names) _ c.args.fields.now c.loop-field.field-index c.field-item.result _ (omega arith) c.field-item.is c.loop-field.invariant.places c.in_ok-add_field.ensures.sound c.in_ok-add_field.ensures.names;
      types = made_push field_of (field_type b) c.args.fields.now c.loop-field.field-index c.field-item.result _ _ _ _ (omega arith) c.field-item.is c.loop-field.invariant.types c.in_ok-add_field.ensures.more refl;
      same = c.in_ok-add_field.ensures.same;
      few = c.in_ok-add_field.ensures.few;
      looked = field_looked_on b (list_of c.loop-field.names) _ c.args.fields.now c.loop-field.field-index c.field-item.result _ (omega arith) c.field-item.is c.loop-field.invariant.looked c.in_ok-add_field.ensures.sound;
    }

pub returns-clause-sound : goal.returns-clause-sound
returns-clause-sound c =
    let b = before_of c.args.self.now in
    walk_end (fields_left b) (field_here b) after_field (fields_walk b) _ (list_of c.loop-field.names) c.args.fields.now c.loop-field.field-index (omega arith) c.loop-field.invariant.places

pub loop-field-init : goal.loop-field-init
loop-field-init c = record {
  places = rw c.new-names.ensures.none refl;
  types = c.new-laid.ensures.none;
  same = rw (c.new-names.ensures.none, c.new-laid.ensures.len) refl;
  few = omega (arith, c.new-laid.ensures.len);
  looked = (λ _. c.new-names.ensures.none, λ h. absurd (omega (arith, h)));
}

pub returns-clause-stands : goal.returns-clause-stands
returns-clause-stands c = made_all field_of (field_type (before_of c.args.self.now)) c.args.fields.now c.loop-field.field-index _ (omega arith) c.loop-field.invariant.types

pub returns-in_err-add_field-clause-memory : goal.returns-in_err-add_field-clause-memory
returns-in_err-add_field-clause-memory c =
    let b = before_of c.args.self.now in
    err_after c.from_residual.result c.in_err-add_field.field-0.0 _ c.from_residual.ensures.1
    (field_looked b (list_of c.loop-field.names) c.in_err-add_field.field-0.0 c.args.fields.now c.loop-field.field-index c.field-item.result _ (omega arith) c.field-item.is c.loop-field.invariant.looked c.in_err-add_field.ensures.memory)
