use Rattle.std.proofs.Common.{◌≡◌, rules, subst}
use Rattle.fl_interface.specs.declared.interface.FixedType.TheViews.{the_lemmas}
use Rattle.fl_interface.specs.declared.interface.FixedType.TheFolds.{fold-roll-FixedType, fold_out-FixedType}
use Rattle.fl_interface.specs.Interface.{TheType, TheArgType, arg_type_of, type_step, scalar, fixed}
use Rattle.fl_value_data.specs.Value.{datum_of}
use Rattle.fl_value_unpack.specs.Reading.{PackedArgumentAt, OnlyOne}
use Rattle.fl_value_unpack.proofs.Onlys.{fixed_only}
use Rattle.fl_value_unpack.proofs.argument.read_next.Goals as goal

pub returns-in-Fixed-Scalar : goal.returns-in-Fixed-Scalar
returns-in-Fixed-Scalar c =
    let tape = c.args.tape.now in
    let kind = c.in-Fixed-Scalar.kind in
    let read = c.read_scalar-number in
    let is : fixed (scalar kind) ≡ arg_type_of c.args.argument.now = search (rules, the_lemmas, fold-roll-FixedType TheType type_step, fold_out-FixedType TheType type_step) in
    record {
      only = subst (λ (t : TheArgType). OnlyOne (PackedArgumentAt t tape) (datum_of read.result.0) read.result.1.now) is
          (fixed_only (scalar kind) tape (datum_of read.result.0) read.result.1.now read.ensures.only);
    }
