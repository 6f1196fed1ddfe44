use Rattle.std.proofs.Common.{◌≡◌, map, rules}
use Rattle.fl_interface.specs.Interface.{TheType, type_step, type_of, structure, fields_from}
use Rattle.fl_interface.specs.declared.interface.FixedType.TheViews.{the_lemmas, Structure}
use Rattle.fl_interface.specs.declared.interface.FixedType.TheFolds.{fold_out-FixedType}
use Rattle.fl_check.proofs.Layouts.{end_whole, size_is, align_is, depth_is, arrays_is}
use Rattle.fl_check.proofs.measured.StructFields.into_struct.Goals as goal

made : (c : goal.In_ok-fields) → type_of (Structure c.in_ok-fields.fields) ≡ structure (fields_from (map type_of c.args.self.types.items))
made c = search (rules, the_lemmas, fold_out-FixedType TheType type_step)

pub invariant_of-result-clause-sized : goal.invariant_of-result-clause-sized
invariant_of-result-clause-sized c =
    size_is (type_of (Structure c.in_ok-fields.fields)) (map type_of c.args.self.types.items) c.args.self.end c.args.self.align _ (made c) (end_whole (map type_of c.args.self.types.items) _ c.args.self.ended) c.args.self.aligned (cc)

pub invariant_of-result-clause-aligned : goal.invariant_of-result-clause-aligned
invariant_of-result-clause-aligned c =
    align_is (type_of (Structure c.in_ok-fields.fields)) (map type_of c.args.self.types.items) _ (made c) c.args.self.aligned

pub invariant_of-result-clause-nested : goal.invariant_of-result-clause-nested
invariant_of-result-clause-nested c =
    depth_is (type_of (Structure c.in_ok-fields.fields)) (map type_of c.args.self.types.items) _ (made c) c.args.self.nested

pub invariant_of-result-clause-arrayed : goal.invariant_of-result-clause-arrayed
invariant_of-result-clause-arrayed c =
    arrays_is (type_of (Structure c.in_ok-fields.fields)) (map type_of c.args.self.types.items) _ (made c) c.args.self.arrayed
