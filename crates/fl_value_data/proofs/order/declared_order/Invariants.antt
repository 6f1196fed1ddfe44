use Rattle.std.proofs.Common.{◌≡◌, ◌+◌, ◌++◌, List, length, map, drop}
use Rattle.fl_interface.specs.Interface.{arg_type_of}
use Rattle.fl_value_data.specs.declared.value.PlanNo.TheVariants.{Two}
use Rattle.fl_value_data.specs.Value.{Datum, datum_of}
use Rattle.fl_value_data.proofs.Ranked.{rearranged}
use Rattle.fl_value_data.proofs.order.declared_order.Given as goal

abbrev pub invariant-loop-index : goal.invariant-loop-index
invariant-loop-index l = record {
  many : length l.left.items + l.index ≡ length l.arguments;
  few : length l.values.items ≡ l.index;
  back : (more : List Datum) → length more + l.index ≡ length l.arguments → rearranged Two (map arg_type_of (drop l.index l.arguments)) more ≡ map datum_of l.left.items
      → rearranged Two (map arg_type_of l.arguments) (map datum_of l.values.items ++ more) ≡ map datum_of l.fn.laid_out.items;
}
