use Rattle.std.proofs.Common.{◌≡◌, map, rules}
use Rattle.std.specs.Arc.{arc_value}
use Rattle.std.proofs.lemmas.Bool.{false≢true}
use Rattle.std.proofs.lemmas.Slice.Zip.{zip_turn}
use Rattle.fl_interface.specs.Interface.{TheType, type_step, type_of, fields_from, structure}
use Rattle.fl_interface.specs.declared.interface.FixedType.TheViews.{the_lemmas}
use Rattle.fl_interface.specs.declared.interface.FixedType.TheFolds.{fold-roll-FixedType, fold_out-FixedType}
use Rattle.fl_interface.proofs.Sames.{same_there, fields_from_injective}
use Rattle.fl_interface.proofs.same.+same.Goals as goal

pub same_type-returns-in-Structure-other : goal.same_type-returns-in-Structure-other
same_type-returns-in-Structure-other t c =
    let one : type_of c.args.one.now ≡ structure (fields_from (map type_of (arc_value c.in-Structure.a).items)) = search (rules, the_lemmas, fold-roll-FixedType TheType type_step, fold_out-FixedType TheType type_step) in
    let other : type_of c.args.other.now ≡ structure (fields_from (map type_of (arc_value c.in-Structure-other.b).items)) = search (rules, the_lemmas, fold-roll-FixedType TheType type_step, fold_out-FixedType TheType type_step) in
    let h = fields_from_injective (map type_of (arc_value c.in-Structure.a).items) (map type_of (arc_value c.in-Structure-other.b).items) in
    record {
      exact = (λ e. let s = c.same_types.ensures.exact.0 e in cc, λ e. c.same_types.ensures.exact.1 (let r = h (cc) in cc));
    }

pub same_types-returns-then-not-same_type : goal.same_types-returns-then-not-same_type
same_types-returns-then-not-same_type t c =
    let z = zip_turn c.args.ones.now c.args.others.now c.loop-one.yielded c.into_iter-one-iterator.result c.loop-one.one-iterator c.next.new.self _ (cc) (cc) c.loop-one.yielded_by _ c.in-Some.is c.next.ensures.steps in
    record { exact = (λ e. absurd (false≢true e), λ e. c.if-not-same_type.ensures.exact.1 (same_there type_of c.args.ones.now c.args.others.now _ c.in-Some.one.now c.in-Some.other.now z.0 z.1 z.2 z.3 e)) }

pub same_type-returns-in-Enumeration-other-4 : goal.same_type-returns-in-Enumeration-other-4
same_type-returns-in-Enumeration-other-4 t c = search (rules, the_lemmas, fold-roll-FixedType TheType type_step, fold_out-FixedType TheType type_step)

pub same_type-returns-in-Enumeration-other-3 : goal.same_type-returns-in-Enumeration-other-3
same_type-returns-in-Enumeration-other-3 t c = search (rules, the_lemmas, fold-roll-FixedType TheType type_step, fold_out-FixedType TheType type_step)

pub same_type-returns-in-Enumeration-other-2 : goal.same_type-returns-in-Enumeration-other-2
same_type-returns-in-Enumeration-other-2 t c = search (rules, the_lemmas, fold-roll-FixedType TheType type_step, fold_out-FixedType TheType type_step)

pub same_type-returns-in-Scalar-other-2 : goal.same_type-returns-in-Scalar-other-2
same_type-returns-in-Scalar-other-2 t c = search (rules, the_lemmas, fold-roll-FixedType TheType type_step, fold_out-FixedType TheType type_step)

pub same_type-returns-in-Scalar-other-2-2 : goal.same_type-returns-in-Scalar-other-2-2
same_type-returns-in-Scalar-other-2-2 t c = search (rules, the_lemmas, fold-roll-FixedType TheType type_step, fold_out-FixedType TheType type_step)

pub same_type-returns-in-Scalar-other-2-3 : goal.same_type-returns-in-Scalar-other-2-3
same_type-returns-in-Scalar-other-2-3 t c = search (rules, the_lemmas, fold-roll-FixedType TheType type_step, fold_out-FixedType TheType type_step)

pub same_type-returns-in-Scalar-other-3 : goal.same_type-returns-in-Scalar-other-3
same_type-returns-in-Scalar-other-3 t c = search (rules, the_lemmas, fold-roll-FixedType TheType type_step, fold_out-FixedType TheType type_step)

pub same_type-returns-in-Scalar-other-3-2 : goal.same_type-returns-in-Scalar-other-3-2
same_type-returns-in-Scalar-other-3-2 t c = search (rules, the_lemmas, fold-roll-FixedType TheType type_step, fold_out-FixedType TheType type_step)

pub same_type-returns-in-Scalar-other-3-3 : goal.same_type-returns-in-Scalar-other-3-3
same_type-returns-in-Scalar-other-3-3 t c = search (rules, the_lemmas, fold-roll-FixedType TheType type_step, fold_out-FixedType TheType type_step)

pub same_type-returns-in-Scalar-other-4 : goal.same_type-returns-in-Scalar-other-4
same_type-returns-in-Scalar-other-4 t c = search (rules, the_lemmas, fold-roll-FixedType TheType type_step, fold_out-FixedType TheType type_step)

pub same_type-returns-in-Scalar-other-4-2 : goal.same_type-returns-in-Scalar-other-4-2
same_type-returns-in-Scalar-other-4-2 t c = search (rules, the_lemmas, fold-roll-FixedType TheType type_step, fold_out-FixedType TheType type_step)

pub same_type-returns-in-Scalar-other-4-3 : goal.same_type-returns-in-Scalar-other-4-3
same_type-returns-in-Scalar-other-4-3 t c = search (rules, the_lemmas, fold-roll-FixedType TheType type_step, fold_out-FixedType TheType type_step)
